use Rattle.std.proofs.Common.{subst, sym}
use Rattle.lit_base.specs.Held.{clauses_of}
use Rattle.lit_base.specs.Quiet.{AreQuietBelow}
use Rattle.solo_core.specs.State.{SearchState}
use Rattle.solo_core.proofs.search.Search.pace.Goals as goal

-- at no lower level a clause was left unit or falsified
pub jump_to_root-requires-clause-quiet : goal.jump_to_root-requires-clause-quiet
jump_to_root-requires-clause-quiet c = subst (λ (s : SearchState). AreQuietBelow s.state.trail (clauses_of s.state.clauses)) (sym c.self.view_is) c.requires.sound.1.holds.quiet
