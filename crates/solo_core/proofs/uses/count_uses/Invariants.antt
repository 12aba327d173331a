use Rattle.std.proofs.Common.{◌≡◌, take}
use Rattle.lit_base.specs.Held.{with_uses}
use Rattle.solo_core.proofs.uses.count_uses.Given as goal

-- the hints so far are counted
abbrev pub invariant-loop-hint : goal.invariant-loop-hint
invariant-loop-hint l = record { held : l.pool.held ≡ with_uses (take l.hint-index l.hints) l.fn.pool.held; added : l.pool.added ≡ l.fn.pool.added }
