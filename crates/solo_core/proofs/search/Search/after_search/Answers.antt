use Rattle.std.proofs.Common.{◌≡◌, ◌∙◌, sym}
use Rattle.solo_core.specs.declared.turn.TurnEnd.TheVariants.{Decided, Learnt, Refuted}
use Rattle.solo_core.proofs.search.Search.after_search.Goals as goal

-- neither a decision nor a lemma refutes
pub jump_to_root-requires-clause-quiet : goal.jump_to_root-requires-clause-quiet
jump_to_root-requires-clause-quiet c = c.requires.quiet (λ refutes. let clash : Decided ≡ Refuted = sym c.in-Decided.is ∙ refutes in cc)

pub jump_to_root-requires-in-Learnt-clause-quiet : goal.jump_to_root-requires-in-Learnt-clause-quiet
jump_to_root-requires-in-Learnt-clause-quiet c = c.requires.quiet (λ refutes. let clash : Learnt ≡ Refuted = sym c.in-Learnt.is ∙ refutes in cc)
