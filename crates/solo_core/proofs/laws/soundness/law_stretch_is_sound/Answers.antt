use Rattle.solo_core.proofs.StretchSound.{stretch_derived, stretch_named, stretch_distinct, stretch_within, stretch_empty, stretch_sound, stretch_model}
use Rattle.solo_core.proofs.laws.soundness.law_stretch_is_sound.Goals as goal

pub returns : goal.returns
returns c = record { derived = stretch_derived; named = stretch_named; distinct = stretch_distinct; within = stretch_within; empty_at_unsat = stretch_empty; kept = stretch_sound; model_at_sat = stretch_model }
