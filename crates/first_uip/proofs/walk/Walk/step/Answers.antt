use Rattle.std.proofs.Common.{◌≡◌, ℕ, ◌+◌, Bool, List, false, sym, subst}
use Rattle.std.specs.Prelude.{vec_len}
use Rattle.lit_base.specs.Named.{lits_at}
use Rattle.lit_base.specs.Held.{clauses_of}
use Rattle.lit_base.specs.declared.trail.Entry.{Entry}
use Rattle.first_uip.specs.Marks.{is_flagged, IsCounted}
use Rattle.first_uip.specs.Places.{before}
use Rattle.first_uip.specs.Reasons.{IsReasonBelow}
use Rattle.first_uip.specs.Walked.{Traces}
use Rattle.first_uip.proofs.Placed.{held_at, before_next}
use Rattle.first_uip.proofs.Counted.{flag_at, counted_passed}
use Rattle.first_uip.proofs.Stepped.{step_unmarked}
use Rattle.first_uip.proofs.walk.Walk.step.Goals as goal

-- what the test of the flag says of the entry
unset : (flags : List Bool) (e : Entry) (v : ℕ) (answer : Bool) → v ≡ e.lit.variable → answer ≡ is_flagged flags v → answer ≡ false → is_flagged flags e.lit.variable ≡ false
unset flags e v answer same tested known = flag_at flags e v answer false same tested known

pub meet-requires-clause-next : goal.meet-requires-clause-next
meet-requires-clause-next c = before_next c.args.trail.now.entries c.args.place c.entry-entry.result c.entry-entry.ensures.value

-- its reason is held, over variables that have flags
pub meet-requires-clause-reason : goal.meet-requires-clause-reason
meet-requires-clause-reason c =
    let look = lits_at (clauses_of c.args.pool.now.held) in
    let room = vec_len c.args.self.now.marks.flags in
    held_at (λ (e : Entry). IsReasonBelow room look e.reason) c.args.trail.now.entries c.args.place c.entry-entry.result c.requires.reasons c.entry-entry.ensures.value

-- the entry isn't marked
pub returns-else-is_marked-clause-counted : goal.returns-else-is_marked-clause-counted
returns-else-is_marked-clause-counted c =
    let e = c.entry-entry.result in
    let m = c.args.self.now.marks in
    let entries = c.args.trail.now.entries in
    counted_passed c.args.level e (before c.args.place entries) m (unset m.flags.items e c.var.result c.is_marked.result c.var.ensures.value c.is_marked.ensures c.if-is_marked.false)
    (subst (λ rest. IsCounted c.args.level rest m) (before_next entries c.args.place e c.entry-entry.ensures.value) c.requires.counted)

pub returns-else-is_marked-clause-traces : goal.returns-else-is_marked-clause-traces
returns-else-is_marked-clause-traces c = λ t stands.
    let e = c.entry-entry.result in
    let flags = c.args.self.now.marks.flags.items in
    let entries = c.args.trail.now.entries in
    subst (Traces c.args.level c.args.self.now)
    (sym (step_unmarked (lits_at (clauses_of c.args.pool.now.held)) c.args.level (before (c.args.place + 1) entries) (before c.args.place entries) e flags t
    (before_next entries c.args.place e c.entry-entry.ensures.value) stands.flagged
    (unset flags e c.var.result c.is_marked.result c.var.ensures.value c.is_marked.ensures c.if-is_marked.false)))
    stands
