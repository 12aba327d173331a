use Rattle.std.proofs.Common.{◌∙◌, sym, ap, Some}
use Rattle.lrat_check.specs.Clauses.{lits_in, lits_at}
use Rattle.lrat_check.proofs.clauses.Clauses.lits.Goals as goal

pub returns-in-Some : goal.returns-in-Some
unfolding lits_at
returns-in-Some c =
    ap (lits_in c.args.self.now.literals.items) (sym c.get.ensures ∙ c.in-Some.is)
    ∙ (ap (λ literals. lits_in literals (Some c.in-Some.span)) (sym c.deref.ensures.value) ∙ c.part.ensures)

pub returns-in-None : goal.returns-in-None
unfolding lits_at
returns-in-None c = ap (lits_in c.args.self.now.literals.items) (sym c.get.ensures ∙ c.in-None.is)
