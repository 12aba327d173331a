use Rattle.std.proofs.Common.{◌==◌, length}
use Rattle.lrat_check.specs.Table.{span_at}
use Rattle.lrat_check.specs.Clauses.{lits_at, AreWithin}
use Rattle.lrat_check.proofs.Arenas.{lits_removed, within_removed}
use Rattle.lrat_check.proofs.clauses.Clauses.remove.Goals as goal

pub returns-clause-removed : goal.returns-clause-removed
unfolding lits_at
returns-clause-removed c n =
    lits_removed c.args.self.now.literals.items (c.args.id == n) (span_at c.args.self.now.table n) (span_at c.remove.new.self n) (c.remove.ensures n)

pub returns-clause-within : goal.returns-clause-within
unfolding AreWithin
returns-clause-within c within n =
    within_removed (length c.args.self.now.literals.items) (c.args.id == n) (span_at c.args.self.now.table n) (span_at c.remove.new.self n) (within n) (c.remove.ensures n)
