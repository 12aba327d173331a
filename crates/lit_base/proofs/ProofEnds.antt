-- The line that adds the empty lemma decides whether a proof checks.
use Rattle.std.proofs.Common.{◌≡◌, Bool, true, false, cond, ◌&&◌, ◌||◌, List, [], ◌∷◌, ◌++◌, refl, ap, ◌∙◌}
use Rattle.std.specs.Prelude.{is_ok}
use Rattle.std.proofs.lemmas.Bool.{or_parts, or_right, or_left}
use Rattle.std.proofs.lemmas.List.Folds.{list_any-append}
use Rattle.std.proofs.lemmas.Grind.{fold-append}
use Rattle.lit_base.specs.Cnf.{Cnf}
use Rattle.lit_base.specs.declared.proof.Line.{Line}
use Rattle.lit_base.specs.Judgement.{judged_line, judge, adds_empty, add_empty, up_to_empty, checks}

-- a front without an empty lemma is kept whole
pub up_to_empty-append : (lines more : List Line) → add_empty lines ≡ false → up_to_empty (lines ++ more) ≡ lines ++ up_to_empty more
up_to_empty-append [] more none = refl
up_to_empty-append (line ∷ later) more none =
    let parts = or_parts (adds_empty line.step) (add_empty later) none in
    ap (λ b. line ∷ cond b [] (up_to_empty (later ++ more))) parts.0 ∙ ap (λ t. line ∷ t) (up_to_empty-append later more parts.1)

up_to_empty-one : (line : Line) (b : Bool) → (line ∷ cond b [] []) ≡ line ∷ []
up_to_empty-one line true = refl
up_to_empty-one line false = refl

-- where no earlier line adds the empty lemma, the proof checks exactly where the line that does has no fault, nor has an earlier one
pub checks-at_empty : (cnf : Cnf) (lines : List Line) (line : Line) → add_empty lines ≡ false → adds_empty line.step ≡ true →
    checks cnf (lines ++ line ∷ []) ≡ is_ok (judged_line (judge cnf lines) line)
checks-at_empty cnf lines line none empty =
    ap (λ b. b && is_ok (judge cnf (up_to_empty (lines ++ line ∷ []))))
    (list_any-append (λ l. adds_empty l.step) lines (line ∷ []) ∙ or_right (add_empty lines) (adds_empty line.step || false) (or_left (adds_empty line.step) false empty))
    ∙ (ap (λ all. is_ok (judge cnf all)) (up_to_empty-append lines (line ∷ []) none ∙ ap (λ t. lines ++ t) (up_to_empty-one line (adds_empty line.step)))
    ∙ ap is_ok (fold-append judged_line _ lines (line ∷ [])))

-- one more line that doesn't add the empty lemma: the proof doesn't check yet
pub checks-none_empty : (cnf : Cnf) (lines : List Line) → add_empty lines ≡ false → checks cnf lines ≡ false
checks-none_empty cnf lines none = ap (λ b. b && is_ok (judge cnf (up_to_empty lines))) none
