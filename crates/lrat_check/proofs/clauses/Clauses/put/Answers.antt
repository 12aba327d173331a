use Rattle.std.proofs.Common.{◌==◌, ◌∙◌, sym, ap, subst, length}
use Rattle.std.proofs.lemmas.Result.{on_ok_weaker}
use Rattle.lrat_check.specs.Table.{span_at}
use Rattle.lrat_check.specs.Clauses.{lits_in, lits_at, IsPart, AreWithin}
use Rattle.lrat_check.proofs.Arenas.{lits_put, within_put}
use Rattle.lrat_check.proofs.clauses.Clauses.put.Goals as goal

pub returns-clause-put : goal.returns-clause-put
unfolding lits_at AreWithin
returns-clause-put c within =
    on_ok_weaker c.put.result
    (λ spans n.
    ap (λ literals. lits_in literals (span_at c.put.new.self n)) c.in_ok-span.ensures.literals
    ∙ lits_put c.args.self.now.literals.items c.args.lits.now c.in_ok-span.span (c.args.id == n) (span_at c.args.self.now.table n) (span_at c.put.new.self n)
    c.in_ok-span.ensures.from c.in_ok-span.ensures.to (within n) (spans n))
    c.put.ensures

pub returns-clause-within : goal.returns-clause-within
unfolding AreWithin
returns-clause-within c within =
    on_ok_weaker c.put.result
    (λ spans n.
    subst (λ literals. IsPart (length literals) (span_at c.put.new.self n)) (sym c.in_ok-span.ensures.literals)
    (within_put c.args.self.now.literals.items c.args.lits.now c.in_ok-span.span (c.args.id == n) (span_at c.args.self.now.table n) (span_at c.put.new.self n)
    c.in_ok-span.ensures.from c.in_ok-span.ensures.to (within n) (spans n)))
    c.put.ensures
