use Rattle.std.proofs.Common.{◌≡◌, ◌+◌, drop}
use Rattle.lit_base.specs.Judgement.{Live, deleted}
use Rattle.lrat_check.specs.Checking.{Holds}
use Rattle.lrat_check.proofs.checker.Checker.delete.Given as goal

-- the deletion of the ids that are left decides
abbrev pub invariant-loop-index : goal.invariant-loop-index
invariant-loop-index l =
    (live : Live) → Holds l.fn.self live → (left : Live) × (deleted l.line 1 l.ids live ≡ deleted l.line (l.index + 1) (drop l.index l.ids) left) × Holds l.self left
