use Rattle.std.proofs.Common.{◌≡◌, ◌+◌, false, [], ◌∷◌, length, vec_len, vec_capacity, ap, ◌∙◌, arith, rules}
use Rattle.std.proofs.lemmas.Grind.{common_steps}
use Rattle.first_uip.specs.Marks.{is_flagged, this_level, one_if}
use Rattle.first_uip.specs.Places.{before}
use Rattle.first_uip.proofs.Placed.{before-distinct}
use Rattle.first_uip.proofs.Flagged.{is_flagged-set}
use Rattle.first_uip.proofs.Listed.{room_left, listed_more}
use Rattle.first_uip.proofs.Counted.{counted_more}
use Rattle.first_uip.proofs.marks.Marks.mark.Goals as goal

-- there is room for a variable that isn't listed
pub push_reserved-requires : goal.push_reserved-requires
push_reserved-requires c =
    let m = c.args.self.now in
    let unset : is_flagged m.flags.items c.args.var ≡ false = grind (arith, common_steps) in
    room_left m c.args.var (search rules) c.requires.within unset c.requires.counted.listed

-- the variable wasn't marked, and is now
pub returns-clause-counted : goal.returns-clause-counted
returns-clause-counted c =
    let m = c.args.self.now in
    let after = c.count.new.self in
    let unset : is_flagged m.flags.items c.args.var ≡ false = grind (arith, common_steps) in
    let inside : vec_len m.flags ≡ length m.flags.items = search rules in
    let listed =
    listed_more m after c.args.var (omega (arith, inside, c.requires.within)) unset (ap (λ flags. flags.items) c.count.ensures.flags)
    (ap (λ marked. marked.items) c.count.ensures.marked ∙ c.push_reserved.ensures.items) (ap vec_len c.count.ensures.flags) (ap vec_len c.count.ensures.marked ∙ c.push_reserved.ensures.len)
    (ap vec_capacity c.count.ensures.marked ∙ c.push_reserved.ensures.capacity) c.requires.counted.listed in
    counted_more c.args.level c.args.var (before c.args.place c.args.trail.now.entries) m after
    (before-distinct c.args.trail.now.entries c.args.place c.requires.trail.distinct)
    (λ v. ap (λ now. is_flagged now.items v) c.count.ensures.flags ∙ is_flagged-set m.flags.items c.args.var v (omega (arith, inside, c.requires.within))) unset
    (c.count.ensures.left ∙ ap (λ found. m.left + one_if (this_level c.args.level) found) c.level_before.ensures)
    listed c.requires.counted

-- it is listed last
pub returns-clause-kept : goal.returns-clause-kept
returns-clause-kept c = record { more = c.args.var ∷ []; is = ap (λ marked. marked.items) c.count.ensures.marked ∙ c.push_reserved.ensures.items }
