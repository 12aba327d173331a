use Rattle.std.proofs.Common.{◌∙◌, ◌+◌, ◌<◌, ℕ, length, arith, subst}
use Rattle.std.proofs.lemmas.List.{get_or_read}
use Rattle.var_order.specs.Heap.{place_of, HaveSwapped}
use Rattle.var_order.proofs.Members.{members_joined, already_in, resized}
use Rattle.var_order.proofs.heap.Heap.put_back.Goals as goal

pub returns-then-place-self-clause-members : goal.returns-then-place-self-clause-members
returns-then-place-self-clause-members c =
    let old = c.args.self.now in
    let placed = c.requires.placed in
    let read = get_or_read old.places.items c.args.var c.index.result.now (omega (arith, placed.places)) c.index.ensures 0 in
    already_in (length c.args.activities.now) old c.args.var placed c.requires.within (let inside : place_of old c.args.var < old.size = omega (arith, read) in inside)

pub rise-requires-clause-placed : goal.rise-requires-clause-placed
rise-requires-clause-placed c =
    let old = c.args.self.now in
    let placed = c.requires.placed in
    let read = get_or_read old.places.items c.args.var c.index.result.now (omega (arith, placed.places)) c.index.ensures 0 in
    let inside = placed.place_within c.args.var c.requires.within in
    resized (length c.args.activities.now) c.swap.new.self (c.swap.new.self.size + 1) (c.swap.ensures.placed (length c.args.activities.now) placed) (omega (arith, c.swap.ensures.swapped.size, read, inside))

-- the variable is in
pub returns-clause-members : goal.returns-clause-members
returns-clause-members c =
    let old = c.args.self.now in
    let placed = c.requires.placed in
    let read = get_or_read old.places.items c.args.var c.index.result.now (omega (arith, placed.places)) c.index.ensures 0 in
    c.rise.ensures.members
    ∙ members_joined (length c.args.activities.now) old c.swap.new.self c.args.var placed (c.swap.ensures.placed (length c.args.activities.now) placed)
    (subst (λ (place : ℕ). HaveSwapped old c.swap.new.self place old.size) read c.swap.ensures.swapped) c.requires.within (omega (arith, read))
