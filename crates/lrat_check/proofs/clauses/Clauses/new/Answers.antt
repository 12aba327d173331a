use Rattle.std.proofs.Common.{sym, ap, subst, length}
use Rattle.lrat_check.specs.Clauses.{lits_in, lits_at, IsPart, AreWithin}
use Rattle.lrat_check.proofs.clauses.Clauses.new.Goals as goal

pub returns-clause-none : goal.returns-clause-none
unfolding lits_at
returns-clause-none c n = ap (lits_in c.new.result.items) (c.new-2.ensures n)

pub returns-clause-within : goal.returns-clause-within
unfolding AreWithin
returns-clause-within c n = subst (IsPart (length c.new.result.items)) (sym (c.new-2.ensures n)) tt
