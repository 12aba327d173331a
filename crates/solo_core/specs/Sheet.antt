-- What a core leaves of a period: its mail to the others, and its sheet for the log and the answer.
use Rattle.std.specs.Prelude.{Bool, List, Option, Some, None, option_map}
use Rattle.lit_base.specs.Trail.{model_of}
use Rattle.lit_base.specs.Held.{volume_of}
use Rattle.solo_core.specs.State.{CoreFrame, CoreState}
use Rattle.solo_core.specs.Posts.{posts_of}
use Rattle.solo_core.specs.Stretch.{Stretched}
use Rattle.solo_core.specs.declared.sheet.End.{End}
use Rattle.solo_core.specs.declared.sheet.End.TheVariants.{Quota, Sat, Unsat, Spent}
use Rattle.solo_core.specs.declared.sheet.Mail.{Mail}
use Rattle.solo_core.specs.declared.sheet.Sheet.{Sheet}

-- the mail of a stretch
abbrev pub mail_of : CoreFrame → Stretched → Mail
mail_of frame s = record {
  core = frame.core;
  period = s.state.period;
  end = s.ended;
  conflicts = s.state.period_conflicts;
  volume = volume_of s.state.clauses;
  posted = posts_of frame.share s.state.lemmas;
}

-- the trail is the model of a stretch that ended with one
abbrev pub model_at : CoreFrame → CoreState → End → Option (List Bool)
model_at frame state Sat = Some (model_of frame.variables state.trail)
model_at frame state Unsat = None
model_at frame state Quota = None
model_at frame state Spent = None

-- the sheet of a stretch: its mail, the lemmas of the period, and the model where it found one
abbrev pub sheet_of : CoreFrame → Stretched → Sheet
sheet_of frame s = record { mail = mail_of frame s; lemmas = s.state.lemmas; model = model_at frame s.state s.ended }

-- the mail of a state after its stretch, if that was made, which ended so
abbrev pub mail_after : CoreFrame → CoreState → Option End → Option Mail
mail_after frame state ended = option_map (λ end. mail_of frame (record { state = state; ended = end })) ended

-- the sheet of a state whose stretch ended so, if it was made
abbrev pub sheet_at : CoreFrame → CoreState → Option End → Option Sheet
sheet_at frame state ended = option_map (λ end. sheet_of frame (record { state = state; ended = end })) ended
