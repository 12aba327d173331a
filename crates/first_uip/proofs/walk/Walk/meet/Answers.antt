use Rattle.std.proofs.Common.{◌+◌, refl, ap, ◌∙◌, sym, subst}
use Rattle.lit_base.specs.Named.{lits_at}
use Rattle.lit_base.specs.Held.{clauses_of}
use Rattle.first_uip.specs.Marks.{is_flagged, AreFlagsOf, IsCounted}
use Rattle.first_uip.specs.Places.{before}
use Rattle.first_uip.specs.Walked.{Traces}
use Rattle.first_uip.specs.declared.marks.Marks.{Marks}
use Rattle.lit_base.specs.Analysis.{touch, settle}
use Rattle.first_uip.proofs.Gathered.{gathered_same}
use Rattle.first_uip.proofs.Stepped.{step_marked, settle_flags}
use Rattle.first_uip.proofs.walk.Walk.meet.Goals as goal

-- the entry is taken out of the count
pub mark_reason-requires-clause-counted : goal.mark_reason-requires-clause-counted
mark_reason-requires-clause-counted c =
    let older = before c.args.place c.args.trail.now.entries in
    subst (IsCounted c.args.level older) (sym c.gather.ensures.marks)
    (c.meet.ensures.counted older (subst (λ rest. IsCounted c.args.level rest c.args.self.now.marks) c.requires.next c.requires.counted))

-- it is touched, and then resolved or stays
pub returns-clause-traces : goal.returns-clause-traces
returns-clause-traces c = λ t stands.
    let look = lits_at (clauses_of c.args.pool.now.held) in
    let level = c.args.level in
    let e = c.args.entry.now in
    let older = before c.args.place c.args.trail.now.entries in
    let resolved = c.is_resolved-resolved.result in
    let met = c.meet.new.self in
    let counted = c.meet.ensures.counted older (subst (λ rest. IsCounted level rest c.args.self.now.marks) c.requires.next c.requires.counted) in
    let are : AreFlagsOf t.marked met.flags.items = subst (λ flags. AreFlagsOf t.marked flags.items) (sym c.meet.ensures.flags) stands.flagged in
    let still_set = ap (λ flags. is_flagged flags.items e.lit.variable) c.meet.ensures.flags ∙ c.requires.marked in
    let step = step_marked look level met.left (before (c.args.place + 1) c.args.trail.now.entries) older e met.flags.items resolved t c.requires.next are still_set counted.of_level
    c.is_resolved-resolved.ensures in
    let same : AreFlagsOf t.marked c.gather.new.self.marks.flags.items = subst (λ (m : Marks). AreFlagsOf t.marked m.flags.items) (sym c.gather.ensures.marks) are in
    let begun = gathered_same level c.args.self.now (record c.args.self.now { marks = met }) t (record { lits = refl; hints = refl; back = refl; touched = refl }) stands.gathered in
    subst (Traces level _) (sym step)
    (record {
      flagged = settle_flags look e resolved t c.gather.new.self.marks.flags.items c.mark_reason.new.self.flags.items same c.mark_reason.ensures.flags;
      gathered = gathered_same level c.gather.new.self _ (settle look resolved e (touch e t)) (record { lits = refl; hints = refl; back = refl; touched = refl }) (c.gather.ensures.gathered look t begun);
    })
