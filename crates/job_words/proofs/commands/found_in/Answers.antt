use Rattle.std.proofs.Common.{◌∙◌, ap, sym, cond, map, string_bytes, Some, None}
use Rattle.clap.specs.Words.{app_of, is_simple, matches_of, built, Kinds}
use Rattle.clap.specs.Faults.{is_free_app}
use Rattle.clap.specs.Walk.{is_empty}
use Rattle.clap.proofs.WalkLemmas.{both}
use Rattle.job_words.specs.Commands.{rows_of_words}
use Rattle.job_words.proofs.commands.found_in.Goals as goal

-- words that are taken have no fault, and their rows
pub returns-in-Ok : goal.returns-in-Ok
unfolding rows_of_words
returns-in-Ok c =
    let app = app_of c.args.command in
    let simple = (both (is_simple app) (is_free_app (built app)) c.requires).0 in
    let rows = (c.in-Ok.ensures.matches simple).0 in
    let none = c.in-Ok.ensures.kinds c.requires in
    ap (λ (kinds : Kinds). cond (is_empty kinds) (Some (matches_of app (map string_bytes c.args.words.now))) None) none ∙ ap Some (sym rows)
