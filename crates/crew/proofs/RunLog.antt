-- The log of a run: its lines are numbered on from the originals and follow at their places, and at Unsat the last one ends it.
use Rattle.std.proofs.Common.{◌≡◌, ℕ, ◌+◌, List, [], ◌∷◌, ◌++◌, length, append_assoc, map, refl, ap, sym, ◌∙◌, subst}
use Rattle.std.specs.Prelude.{Bool, Option, Some, IsOk, IsTrue, flat_map, option_map, slice_get}
use Rattle.std.specs.List.{AllByRecursion}
use Rattle.lit_base.specs.Cnf.{Cnf, IsFormula}
use Rattle.lit_base.specs.Truth.{is_clause_true, Satisfies}
use Rattle.lit_base.specs.Trail.{model_of}
use Rattle.lit_base.specs.Rounds.{NamedClause, originals}
use Rattle.lit_base.specs.Judgement.{judge, Checks, HasNoModel}
use Rattle.lit_base.specs.Text.{log_line_text, lines_text}
use Rattle.lit_base.specs.declared.name.Name.{Name}
use Rattle.solo_core.specs.State.{lemma_clauses}
use Rattle.solo_core.specs.First.{AreInRange}
use Rattle.solo_core.specs.Log.{lines_of, AreNumbered}
use Rattle.solo_core.specs.Soundness.{AreTrueIn, EndsEmpty, HasLiterals}
use Rattle.solo_core.specs.declared.lemma.Lemma.{Lemma}
use Rattle.solo_core.specs.declared.sheet.End.TheVariants as end
use Rattle.solo_core.specs.declared.sheet.Mail.{Mail}
use Rattle.solo_core.specs.declared.sheet.Sheet.{Sheet}
use Rattle.solo_core.specs.declared.sheet.Settings.{Settings}
use Rattle.solo_core.proofs.DerivedTrue.{derived_true, named_true, last_untrue}
use Rattle.solo_core.proofs.LogChecks.{log_in_order, log_checks}
use Rattle.solo_core.proofs.StretchSound.{stretch_derived, stretch_empty, stretch_satisfies}
use Rattle.log_merge.specs.Numbering.{number_of}
use Rattle.log_merge.proofs.FollowOn.{numbers_originals, log_numbered}
use Rattle.crew.specs.declared.outcome.Verdict.TheVariants.{Unsat}
use Rattle.crew.specs.Era.{Member, stretched, mails_of, sheets_of, winning_core}
use Rattle.crew.specs.Run.{mails_at, last_era, last_ends}
use Rattle.crew.specs.Log.{standing_parts, parts_before, parts_at, joined, all_joined, log_of, numbering_of_run, log_lines, log_text}
use Rattle.crew.specs.Outcome.{winning_sheet, verdict_of, verdict_at, outcome_of}
use Rattle.crew.proofs.Members.{HaveFrames}
use Rattle.crew.proofs.Mails.{IsMemberSound}
use Rattle.crew.proofs.EraLog.{IsLog, all_joined-push}
use Rattle.crew.proofs.RunSound.{IsRunSound, known_at, run_sound, log_at, literals-append}
use Rattle.crew.proofs.LastEra.{has_last}
use Rattle.crew.proofs.Winners.{HasWon, winning_mail, winner_part, at_split, ended_at}
use Rattle.crew.proofs.RunOutcome.{last_members, by_winner, at_unsat}

-- == the lines ==

pub last_sound : (cnf : Cnf) (settings : Settings) → IsFormula cnf → AreInRange settings → IsRunSound cnf settings (last_era cnf settings)
last_sound cnf settings is are = run_sound cnf settings (last_era cnf settings) is are (has_last cnf settings are)

pub run_log : (cnf : Cnf) (settings : Settings) → IsFormula cnf → AreInRange settings → IsLog cnf settings (parts_at cnf settings (last_era cnf settings))
run_log cnf settings is are = log_at cnf settings (last_era cnf settings) (winning_core (mails_at cnf settings (last_era cnf settings))) (last_sound cnf settings is are)

-- the lines are numbered on from the originals
pub run_numbered : (cnf : Cnf) (settings : Settings) → IsFormula cnf → AreInRange settings → AreNumbered (number_of (numbering_of_run cnf settings)) (length cnf.clauses + 1) (log_of cnf settings)
run_numbered cnf settings is are = log_numbered (numbering_of_run cnf settings) (log_of cnf settings) (run_log cnf settings is are).names

-- each follows at its place
pub run_in_order : (cnf : Cnf) (settings : Settings) → IsFormula cnf → AreInRange settings → IsOk (judge cnf (log_lines cnf settings))
run_in_order cnf settings is are =
    log_in_order cnf (number_of (numbering_of_run cnf settings)) (log_of cnf settings) (numbers_originals (numbering_of_run cnf settings))
    (run_numbered cnf settings is are) (run_log cnf settings is are).derived

-- the lines of numbered lemmas as text
lines_are : (number : Name → ℕ) (line id : ℕ) (lemmas : List Lemma) → AreNumbered number id lemmas
    → flat_map (λ lemma. log_line_text (number lemma.name) lemma.lits (map number lemma.hints)) lemmas ≡ lines_text (lines_of number line id lemmas)
lines_are number line id [] numbered = refl
lines_are number line id (lemma ∷ later) numbered =
    ap (λ n. log_line_text n lemma.lits (map number lemma.hints)
    ++ flat_map (λ other. log_line_text (number other.name) other.lits (map number other.hints)) later) numbered.0
    ∙ ap (λ rest. log_line_text id lemma.lits (map number lemma.hints) ++ rest) (lines_are number (line + 1) (id + 1) later numbered.1)

-- the text of the log is that of its lines
pub run_text : (cnf : Cnf) (settings : Settings) → IsFormula cnf → AreInRange settings → log_text cnf settings ≡ lines_text (log_lines cnf settings)
run_text cnf settings is are =
    lines_are (number_of (numbering_of_run cnf settings)) 1 (length cnf.clauses + 1) (log_of cnf settings) (run_numbered cnf settings is are)

-- == Unsat ==

-- behind lemmas that aren't empty the last one still is
ends_behind : (lemmas more : List Lemma) → AllByRecursion HasLiterals lemmas → EndsEmpty more → EndsEmpty (lemmas ++ more)
ends_behind lemmas more some ends = record {
  earlier = lemmas ++ ends.earlier;
  last = ends.last;
  split = ap (λ ls. lemmas ++ ls) ends.split ∙ sym (append_assoc lemmas ends.earlier (ends.last ∷ []));
  empty = ends.empty;
  none_before = literals-append lemmas ends.earlier some ends.none_before;
}

-- where the winner derived the empty lemma, the log ends with it
pub unsat_ends_empty : (cnf : Cnf) (settings : Settings) → IsFormula cnf → AreInRange settings → (outcome_of cnf settings).verdict ≡ Unsat → EndsEmpty (log_of cnf settings)
unsat_ends_empty cnf settings is are verdict =
    subst (λ lemmas. EndsEmpty lemmas) (sym (all_joined-push (parts_before cnf settings (last_era cnf settings)) (standing_parts (winning_core (mails_of members)) (sheets_of members))))
    (ends_behind (all_joined (parts_before cnf settings (last_era cnf settings))) (joined (standing_parts (winning_core (mails_of members)) (sheets_of members))) run.none_empty
    (subst (λ (winner : Option Mail). EndsEmpty (joined (standing_parts (option_map (λ (mail : Mail). mail.core) winner) (sheets_of members)))) (sym (winning_mail members)) last_part))
  where
    members : List Member
    members = last_members cnf settings

    known : List NamedClause
    known = known_at cnf settings (last_era cnf settings)

    run : IsRunSound cnf settings (last_era cnf settings)
    run = last_sound cnf settings is are

    won_ends : (sheet : Sheet) → HasWon members sheet → verdict_at sheet.mail.end ≡ Unsat → EndsEmpty (joined (standing_parts (Some sheet.mail.core) (sheets_of members)))
    won_ends sheet won v =
        let frames = subst (λ ms. HaveFrames cnf settings 0 ms) won.split run.counted.frames in
        let sound = at_split (IsMemberSound cnf known) won.front won.m won.back (subst (λ ms. AllByRecursion (IsMemberSound cnf known) ms) won.split run.era.each) in
        let ended = at_unsat (stretched won.m).ended (ap (λ (s : Sheet). verdict_at s.mail.end) (sym won.left) ∙ v) in
        subst (λ (s : Sheet). EndsEmpty (joined (standing_parts (Some s.mail.core) (sheets_of members)))) (sym won.left)
        (subst (λ ms. EndsEmpty (joined (standing_parts (Some won.m.frame.core) (sheets_of ms)))) (sym won.split)
        (subst (λ lemmas. EndsEmpty lemmas) (sym (winner_part cnf settings won.front won.m won.back frames))
        (stretch_empty known won.m.frame won.m.quota won.m.state sound.sound ended)))

    last_part : EndsEmpty (joined (standing_parts (option_map (λ (mail : Mail). mail.core) (option_map (λ (s : Sheet). s.mail) (winning_sheet (sheets_of members)))) (sheets_of members)))
    last_part =
        by_winner (λ o. verdict_of o ≡ Unsat → EndsEmpty (joined (standing_parts (option_map (λ (mail : Mail). mail.core) (option_map (λ (s : Sheet). s.mail) o)) (sheets_of members)))) members (λ none v. cc) won_ends verdict

pub unsat_checks : (cnf : Cnf) (settings : Settings) → IsFormula cnf → AreInRange settings → (outcome_of cnf settings).verdict ≡ Unsat → Checks cnf (log_lines cnf settings)
unsat_checks cnf settings is are verdict =
    log_checks cnf (number_of (numbering_of_run cnf settings)) (log_of cnf settings) (numbers_originals (numbering_of_run cnf settings))
    (run_numbered cnf settings is are) (run_log cnf settings is are).derived (unsat_ends_empty cnf settings is are verdict)

pub unsat_no_model : (cnf : Cnf) (settings : Settings) → IsFormula cnf → AreInRange settings → (outcome_of cnf settings).verdict ≡ Unsat → HasNoModel cnf
unsat_no_model cnf settings is are verdict model satisfied =
    let ends = unsat_ends_empty cnf settings is are verdict in
    last_untrue model (log_of cnf settings) ends.earlier ends.last ends.split ends.empty
    (derived_true model (originals cnf) (log_of cnf settings) (named_true model 0 cnf.clauses satisfied) (run_log cnf settings is are).derived)

-- == the ends of the last era ==

true_append : (model : List Bool) (clauses : List NamedClause) (lemmas : List Lemma) → AreTrueIn model clauses → AllByRecursion (λ lemma. IsTrue (is_clause_true model lemma.lits)) lemmas →
    AreTrueIn model (clauses ++ lemma_clauses lemmas)
true_append model [] [] first second = tt
true_append model [] (lemma ∷ later) first second = (second.0, true_append model [] later tt second.1)
true_append model (c ∷ clauses) lemmas first second = (first.0, true_append model clauses lemmas first.1 second)

-- a model of the formula makes all true that is known at an era, so no core refutes there
no_refutation : (cnf : Cnf) (settings : Settings) (past : ℕ) (model : List Bool) (m : Member) → IsRunSound cnf settings past → Satisfies model cnf →
    IsMemberSound cnf (known_at cnf settings past) m → (stretched m).ended ≡ end.Unsat → ⊥
no_refutation cnf settings past model m run satisfied sound ended =
    let known = known_at cnf settings past in
    let before = derived_true model (originals cnf) (all_joined (parts_before cnf settings past)) (named_true model 0 cnf.clauses satisfied) run.log.derived in
    let all = true_append model (originals cnf) (all_joined (parts_before cnf settings past)) (named_true model 0 cnf.clauses satisfied) before in
    let ends = stretch_empty known m.frame m.quota m.state sound.sound ended in
    last_untrue model (stretched m).state.lemmas ends.earlier ends.last ends.split ends.empty
    (derived_true model known (stretched m).state.lemmas all (stretch_derived known m.frame m.quota m.state sound.sound))

pub ends_agree : (cnf : Cnf) (settings : Settings) (i j : ℕ) → IsFormula cnf → AreInRange settings →
    slice_get (last_ends cnf settings) i ≡ Some end.Sat → slice_get (last_ends cnf settings) j ≡ Some end.Unsat → ⊥
ends_agree cnf settings i j is are sat unsat =
    let members = last_members cnf settings in
    let known = known_at cnf settings (last_era cnf settings) in
    let run = last_sound cnf settings is are in
    ended_at (IsMemberSound cnf known) ⊥ members i end.Sat run.era.each sat
    (λ m sound at_sat. ended_at (IsMemberSound cnf known) ⊥ members j end.Unsat run.era.each unsat
    (λ other other_sound at_unsat. no_refutation cnf settings (last_era cnf settings) (model_of m.frame.variables (stretched m).state.trail) other run
    (stretch_satisfies cnf known m.frame m.quota m.state sound.sound sound.holds at_sat) other_sound at_unsat))
