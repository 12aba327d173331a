-- Which proofs check, by the judgement of their fronts.
use Rattle.std.proofs.Common.{◌≡◌, Bool, true, false, cond, ◌||◌, List, [], ◌∷◌, ◌++◌, refl, ap, sym, ◌∙◌}
use Rattle.std.specs.Prelude.{fold, is_ok, IsOk, Result, Ok, Err}
use Rattle.std.proofs.lemmas.Bool.{and_from, and_right, or_left, or_right}
use Rattle.std.proofs.lemmas.List.Folds.{list_any-append}
use Rattle.std.proofs.lemmas.Grind.{fold-append}
use Rattle.lit_base.specs.Cnf.{Cnf}
use Rattle.lit_base.specs.declared.proof.Line.{Line}
use Rattle.lit_base.specs.declared.proof.ProofFault.{ProofFault}
use Rattle.lit_base.specs.Judgement.{Live, first_live, judged_line, judge, adds_empty, add_empty, up_to_empty, checks, Checks}
use Rattle.lit_base.proofs.ProofEnds.{up_to_empty-append}
use Rattle.lrat_check.specs.declared.checker.Checker.{Checker}
use Rattle.lrat_check.specs.declared.checker.Step.{Step}
use Rattle.lrat_check.specs.declared.checker.Step.TheVariants.{More, Empty}
use Rattle.lrat_check.specs.declared.fault.CheckFault.{CheckFault}
use Rattle.lrat_check.specs.Checking.{step_of, HasJudged}

-- the first fault stays
fault_stays : (lines : List Line) (found : ProofFault) → fold judged_line (Err found) lines ≡ Err found
fault_stays [] found = refl
fault_stays (line ∷ later) found = fault_stays later found

-- one more line
pub judge_more : (cnf : Cnf) (lines : List Line) (line : Line) → judge cnf (lines ++ line ∷ []) ≡ judged_line (judge cnf lines) line
judge_more cnf lines line = fold-append judged_line (Ok (first_live cnf)) lines (line ∷ [])

sound_start : (r : Result Live ProofFault) (later : List Line) → is_ok (fold judged_line r later) ≡ true → is_ok r ≡ true
sound_start (Ok live) later sound = refl
sound_start (Err found) later sound = let fault = fault_stays later found in cc

-- where no line has a fault, none up to the first empty lemma has
sound_front : (lines : List Line) (r : Result Live ProofFault) → is_ok (fold judged_line r lines) ≡ true → is_ok (fold judged_line r (up_to_empty lines)) ≡ true
sound_front [] r sound = sound
sound_front (line ∷ later) r sound = by_line (adds_empty line.step) (sound_front later (judged_line r line) sound)
  where
    by_line : (b : Bool) → is_ok (fold judged_line (judged_line r line) (up_to_empty later)) ≡ true → is_ok (fold judged_line (judged_line r line) (cond b [] (up_to_empty later))) ≡ true
    by_line true rest = sound_start (judged_line r line) later sound
    by_line false rest = rest

-- lines without a fault, one of which adds the empty lemma, are a proof that checks
pub sound_checks : (cnf : Cnf) (lines : List Line) (live : Live) → judge cnf lines ≡ Ok live → add_empty lines ≡ true → Checks cnf lines
sound_checks cnf lines live sound empty =
    and_from (add_empty lines) (is_ok (judge cnf (up_to_empty lines))) empty (sound_front lines (Ok (first_live cnf)) (ap is_ok sound))

-- where the first fault stands no later than the first empty lemma, the proof doesn't check
pub fault_refuses : (cnf : Cnf) (lines rest : List Line) (line : Line) (fault : ProofFault) → add_empty lines ≡ false → judge cnf (lines ++ line ∷ []) ≡ Err fault →
    checks cnf (lines ++ line ∷ rest) ≡ false
fault_refuses cnf lines rest line fault none faulty =
    and_right (add_empty (lines ++ line ∷ rest)) (is_ok (judge cnf (up_to_empty (lines ++ line ∷ rest))))
    (ap is_ok (judged_front (cond (adds_empty line.step) [] (up_to_empty rest)) (up_to_empty-append lines (line ∷ rest) none)))
  where
    judged_front : (more : List Line) → up_to_empty (lines ++ line ∷ rest) ≡ lines ++ line ∷ more → judge cnf (up_to_empty (lines ++ line ∷ rest)) ≡ Err fault
    judged_front more is =
        ap (judge cnf) is
        ∙ (fold-append judged_line (Ok (first_live cnf)) lines (line ∷ more)
        ∙ (ap (λ r. fold judged_line r more) (sym (judge_more cnf lines line) ∙ faulty) ∙ fault_stays more fault))

-- what a checker has judged has no fault
pub judged_sound : (cnf : Cnf) (checker : Checker) (lines : List Line) → HasJudged cnf checker lines → IsOk (judge cnf lines)
unfolding HasJudged
judged_sound cnf checker lines judged = ap is_ok judged.1

-- what is answered at the empty lemma
pub empty_added : (lines : List Line) (line : Line) (step : Step) → step ≡ step_of line.step → (let r : Result Step CheckFault = Ok step in r) ≡ Ok Empty → add_empty (lines ++ line ∷ []) ≡ true
empty_added lines line step is empty =
    list_any-append (λ l. adds_empty l.step) lines (line ∷ [])
    ∙ or_right (add_empty lines) (adds_empty line.step || false) (or_left (adds_empty line.step) false (by_step (adds_empty line.step) (sym is)))
  where
    by_step : (b : Bool) → cond b Empty More ≡ step → b ≡ true
    by_step true same = refl
    by_step false same = cc
