use Rattle.std.proofs.Common.{ℕ, nat_cmp}
use Rattle.std.specs.BTreeMap.{get}
use Rattle.lrat_check.specs.Table.{part_of, part_at, first_of, span_at}
use Rattle.lrat_check.specs.Clauses.{lits_at, AreWithin}
use Rattle.lrat_check.proofs.Moves.{IsKept, all_kept}
use Rattle.lrat_check.proofs.clauses.Clauses.pack.Goals as goal

-- each part is kept
kept : (c : goal.After-self-1) → AreWithin c.args.self.now → (n : ℕ) →
    IsKept c.args.self.now.literals.items c.pack_leaps.new.packed.items
    (first_of (part_at c.args.self.now.table.spans.items n) (part_of (get nat_cmp c.args.self.now.table.leaps n)))
    (first_of (part_at c.pack_spans.new.spans.items n) (part_of (get nat_cmp c.pack_leaps.new.leaps n)))
unfolding AreWithin span_at
kept c within n =
    let table = c.args.self.now.table in
    all_kept c.args.self.now.literals.items c.deref.result.now c.deref-2.result.now c.pack_spans.new.packed.items c.pack_leaps.new.packed.items
    (part_at table.spans.items n) (part_at c.pack_spans.new.spans.items n) (part_of (get nat_cmp table.leaps n)) (part_of (get nat_cmp c.pack_leaps.new.leaps n))
    c.deref.ensures.value c.deref-2.ensures.value c.in_ok-pack_leaps.ensures.grown (within n) (c.in_ok-pack_spans.ensures n) (c.in_ok-pack_leaps.ensures.moved n)

pub returns-clause-same : goal.returns-clause-same
unfolding lits_at span_at
returns-clause-same c within n = (kept c within n).0

pub returns-clause-within : goal.returns-clause-within
unfolding AreWithin span_at
returns-clause-within c within n = (kept c within n).1
