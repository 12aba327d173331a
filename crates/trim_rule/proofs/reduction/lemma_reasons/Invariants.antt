use Rattle.std.proofs.Common.{◌≡◌, ◌++◌, drop}
use Rattle.trim_rule.specs.Reduction.{lemma_reasons}
use Rattle.trim_rule.proofs.reduction.lemma_reasons.Given as goal

-- the names so far and those of the entries to come are all
abbrev pub invariant-loop-entry : goal.invariant-loop-entry
invariant-loop-entry l = l.names.items ++ lemma_reasons (drop l.entry-index l.entries) ≡ lemma_reasons l.entries
