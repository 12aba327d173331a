use Rattle.std.proofs.Common.{◌≡◌, ◌==◌, ◌||◌, ap, ◌∙◌, sym, map}
use Rattle.std.proofs.lemmas.List.Folds.{list_any-append}
use Rattle.lit_base.specs.Named.{lits_at}
use Rattle.lit_base.specs.Held.{clauses_of}
use Rattle.lit_base.specs.Analysis.{is_marked, variables_of}
use Rattle.first_uip.specs.Reasons.{reason_variables, resolved_variables}
use Rattle.first_uip.proofs.marks.Marks.mark_reason.Goals as goal

-- the variables of the clause that is the reason
pub returns-in-Some-clause-flags : goal.returns-in-Some-clause-flags
returns-in-Some-clause-flags c = λ v.
    let look = lits_at (clauses_of c.args.pool.now.held) in
    let marked = c.args.self.now.marked.items in
    let listed = c.requires.counted.listed.flags in
    let lits = c.lits_of.result.now in
    let own : resolved_variables look c.args.resolved c.args.entry.now.reason ≡ map (λ l. l.variable) lits =
    ap (λ b. resolved_variables look b c.args.entry.now.reason) c.if-not-resolved.false ∙ (ap (reason_variables look) c.in-Some.is ∙ ap variables_of c.lits_of.ensures) in
    c.mark_all.ensures.marks marked listed v
    ∙ (list_any-append (λ m. m == v) (map (λ l. l.variable) lits) marked
    ∙ (ap (λ vs. is_marked vs v || is_marked marked v) (sym own) ∙ ap (λ b. is_marked (resolved_variables look c.args.resolved c.args.entry.now.reason) v || b) (sym (listed v))))
