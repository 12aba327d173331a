use Rattle.std.proofs.Common.{◌≡◌, ◌<◌, false, length, replicate, get_or, take, ap, sym, ◌∙◌, arith}
use Rattle.std.proofs.lemmas.List.{length-map}
use Rattle.lit_base.specs.Held.{is_among}
use Rattle.clause_pool.proofs.Flagging.{flagged_none, found_at, flags_for, flagged_over, flagged_at}
use Rattle.clause_pool.proofs.Following.{blank}
use Rattle.clause_pool.proofs.packing.flag.Goals as goal
use Rattle.clause_pool.proofs.packing.flag.Goals.{in-Some, in_default}

-- at first no slot is flagged
pub loop-name-init : goal.loop-name-init
loop-name-init c = c.clear.ensures ∙ (ap (λ n. replicate n false) c.requires.size ∙ flagged_none c.args.slots.now)

-- there is a flag for each slot
pub bounds-flags-place : goal.bounds-flags-place
bounds-flags-place c =
    let named = found_at c.args.slots.now (get_or c.args.names.now c.loop-name.name-index blank.name) c.in-Some.place blank (sym c.find.ensures ∙ c.in-Some.is) in
    let size : length (flags_for c.args.names.now c.loop-name.name-index c.args.slots.now) ≡ length c.args.slots.now = length-map c.args.slots.now (λ s. is_among (take c.loop-name.name-index c.args.names.now) s.name) in
    omega (arith, named.0, ap length c.loop-name.invariant, size)

-- the slot of one name more is flagged
pub loop-name-preserved : goal.loop-name-preserved
loop-name-preserved c =
    let slots = c.args.slots.now in
    let names = c.args.names.now in
    let k = c.loop-name.name-index in
    let inside : k < length names = omega arith in
    elim c.match-find.branch [
      | in-Some w ↦ w.flags-is ∙ flagged_at slots names k blank.name c.loop-name.flags w.in-Some.place inside c.loop-name.invariant c.requires.apart (sym c.find.ensures ∙ w.in-Some.is)
      | in_default w ↦ w.flags-is ∙ flagged_over slots names k blank.name c.loop-name.flags inside c.loop-name.invariant (sym c.find.ensures ∙ w.in_default.is)
    ]
