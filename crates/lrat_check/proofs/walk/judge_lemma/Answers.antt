use Rattle.std.proofs.Common.{◌∙◌, sym, map}
use Rattle.lrat_check.specs.Clauses.{lits_at}
use Rattle.lrat_check.proofs.Walks.{judged_tautology, judged_walk}
use Rattle.lrat_check.proofs.walk.judge_lemma.Goals as goal

-- the lemma is a tautology
pub returns-then-has_true : goal.returns-then-has_true
returns-then-has_true c =
    sym (judged_tautology c.make_false.new.known c.args.lemma.now (map (lits_at c.args.clauses.now) c.args.hints.now) c.in_ok-make_false.ensures (sym c.has_true.ensures ∙ c.if-has_true.true))

-- it is judged by its hints
pub returns : goal.returns
returns c =
    c.in_ok-judged.ensures
    ∙ sym (judged_walk c.make_false.new.known c.args.lemma.now (map (lits_at c.args.clauses.now) c.args.hints.now) c.in_ok-make_false.ensures (sym c.has_true.ensures ∙ c.if-has_true.false))
