-- The lines that the solver writes: `v` lines (the answer format of the SAT competitions) and lines of a log (LRAT text).
use Rattle.std.specs.Prelude.{ℕ, ◌+◌, ◌/◌, Bool, List, [], ◌∷◌, ◌++◌, length, decimal, codes, flat_map}
use Rattle.std.specs.Simd.{first_chunks}
use Rattle.lit_base.specs.Literal.{Literal, literal_text}
use Rattle.lit_base.specs.declared.proof.Line.{Line}
use Rattle.lit_base.specs.declared.proof.LineStep.{LineStep}
use Rattle.lit_base.specs.declared.proof.LineStep.TheVariants.{Add, Delete}

-- the words of the `v` lines: each variable from this one on, negated where it is false, and the 0 that ends them
abbrev pub value_words : ℕ → List Bool → List (List ℕ)
value_words v [] = codes "0" ∷ []
value_words v (value ∷ others) = literal_text (record { variable = v; positive = value }) ∷ value_words (v + 1) others

-- words, each with a blank before it
abbrev pub spaced : List (List ℕ) → List ℕ
spaced words = flat_map (λ word. 32 ∷ word) words

-- one line: `v`, its words and the end of the line
abbrev pub value_line : List (List ℕ) → List ℕ
value_line words = codes "v" ++ spaced words ++ codes "\n"

-- how many `v` lines a model of n variables takes: sixteen words to a line, and a last line perhaps shorter
abbrev pub value_lines : ℕ → ℕ
value_lines n = n / 16 + 1

-- the `v` lines of a model
abbrev pub values_text : List Bool → List ℕ
values_text model = flat_map value_line (first_chunks 16 (value_lines (length model)) (value_words 1 model))

-- a line of the log: the lemma's number, its literals, 0, the numbers of its hints, 0
abbrev pub log_line_text : ℕ → List Literal → List ℕ → List ℕ
log_line_text number lits hints =
    decimal number ++ flat_map (λ l. 32 ∷ literal_text l) lits ++ codes " 0" ++ flat_map (λ h. 32 ∷ decimal h) hints ++ codes " 0\n"

-- a line of a proof as text: an addition as the log has it, or the deletion's number, `d`, the numbers that it takes, 0
abbrev pub step_text : LineStep → List ℕ
step_text (Add id lits hints) = log_line_text id lits hints
step_text (Delete id ids) = decimal id ++ codes " d" ++ flat_map (λ n. 32 ∷ decimal n) ids ++ codes " 0\n"

-- the text of a proof: its lines, one after the other
abbrev pub lines_text : List Line → List ℕ
lines_text lines = flat_map (λ line. step_text line.step) lines
