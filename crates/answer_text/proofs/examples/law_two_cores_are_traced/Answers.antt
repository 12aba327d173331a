use Rattle.std.proofs.Common.{◌≡◌, ◌++◌, Some, None, [], ◌∷◌, true, false, refl, ap, ◌∙◌}
use Rattle.std.specs.Fmt.{digits}
use Rattle.std.specs.Prelude.{codes}
use Rattle.crew.specs.declared.outcome.Verdict.TheVariants.{Unsat}
use Rattle.crew.specs.declared.outcome.Outcome.{Outcome}
use Rattle.crew.specs.Laws.{traced, briefly}
use Rattle.answer_text.specs.Answer.{answer_text}
use Rattle.answer_text.proofs.examples.law_two_cores_are_traced.Goals as goal

-- the outcome of the run
abbrev refuted_in_two_eras : Outcome
refuted_in_two_eras = record {
  verdict = Unsat;
  eras = 2;
  winner = Some 0;
  model = None;
  lemmas = 3;
  trace = traced 1 0 1 1 1 1 ∷ traced 1 1 1 1 1 1 ∷ traced 2 0 1 2 0 0 ∷ traced 2 1 1 2 0 0 ∷ [];
}

-- its answer, with the numbers written out
whole_text : answer_text refuted_in_two_eras briefly true ≡
    codes "c core 0 phase 0 unit 100 weight 1 halve 256 noise 0 share 8\n"
    ++ codes "c core 1 phase 1 unit 100 weight 1 halve 256 noise 0 share 8\n"
    ++ codes "c era 1 0 1 1 1 1\n" ++ codes "c era 1 1 1 1 1 1\n" ++ codes "c era 2 0 1 2 0 0\n" ++ codes "c era 2 1 1 2 0 0\n"
    ++ codes "c winner 0\n" ++ codes "s UNSATISFIABLE\n"
unfolding digits
whole_text = refl

pub returns-clause-whole : goal.returns-clause-whole
returns-clause-whole c = ap (λ (o : Outcome). answer_text o briefly true) c.law_two_cores_share_lemmas.ensures.outcome ∙ whole_text

pub returns-clause-plain : goal.returns-clause-plain
returns-clause-plain c = ap (λ (o : Outcome). answer_text o briefly false) c.law_two_cores_share_lemmas.ensures.outcome

pub returns-clause-columns : goal.returns-clause-columns
unfolding digits
returns-clause-columns c = refl
