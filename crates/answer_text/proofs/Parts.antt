-- A text of parts.
use Rattle.std.proofs.Common.{◌≡◌, ℕ, List, ◌++◌, ap, ◌∙◌, append_assoc}

-- parts that were added one after the other
pub three_parts : (first second third one two three : List ℕ) → one ≡ first → two ≡ one ++ second → three ≡ two ++ third → three ≡ first ++ (second ++ third)
three_parts first second third one two three begun more last = last ∙ (ap (λ t. t ++ third) (more ∙ ap (λ t. t ++ second) begun) ∙ append_assoc first second third)

-- a line of two marks, each with a word behind it, and an end
pub line_of_two : (before mark word other more ending one two three : List ℕ) → one ≡ before ++ (mark ++ word) → two ≡ one ++ (other ++ more) → three ≡ two ++ ending →
    three ≡ before ++ (mark ++ (word ++ (other ++ (more ++ ending))))
line_of_two before mark word other more ending one two three begun went ended =
    three_parts (before ++ (mark ++ word)) (other ++ more) ending one two three begun went ended
    ∙ (append_assoc before (mark ++ word) ((other ++ more) ++ ending)
    ∙ ap (λ t. before ++ t) (append_assoc mark word ((other ++ more) ++ ending) ∙ ap (λ t. mark ++ (word ++ t)) (append_assoc other more ending)))
