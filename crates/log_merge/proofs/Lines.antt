-- Lemmas on the parts of a line.
use Rattle.std.proofs.Common.{◌≡◌, ℕ, List, ◌∷◌, ◌++◌, sym, ap, ◌∙◌}
use Rattle.std.specs.Prelude.{decimal, codes}
use Rattle.std.proofs.lemmas.List.Folds.{flat_map-map}
use Rattle.lit_base.specs.Literal.{Literal}
use Rattle.lit_base.specs.declared.name.Name.{Name}
use Rattle.solo_core.specs.declared.lemma.Lemma.{Lemma}
use Rattle.log_merge.specs.Numbering.{Numbering, number_of}
use Rattle.log_merge.specs.Part.{literals_text, hints_text, line_text}

-- a line is its number, its literals, a 0, its hints, and the 0 that ends it
pub line_parts : (n : Numbering) (lemma : Lemma) (number : ℕ) (lits : List Literal) (hints : List Name) →
    number ≡ number_of n lemma.name → lits ≡ lemma.lits → hints ≡ lemma.hints →
    decimal number ++ literals_text lits ++ codes " 0" ++ hints_text n hints ++ codes " 0\n" ≡ line_text n lemma
line_parts n lemma number lits hints is_number are_lits are_hints =
    ap (λ k. decimal k ++ literals_text lits ++ codes " 0" ++ hints_text n hints ++ codes " 0\n") is_number
    ∙ ap (λ ls. decimal (number_of n lemma.name) ++ literals_text ls ++ codes " 0" ++ hints_text n hints ++ codes " 0\n") are_lits
    ∙ ap (λ hs. decimal (number_of n lemma.name) ++ literals_text lemma.lits ++ codes " 0" ++ hints_text n hs ++ codes " 0\n") are_hints
    ∙ ap (λ text. decimal (number_of n lemma.name) ++ literals_text lemma.lits ++ codes " 0" ++ text ++ codes " 0\n") (sym (flat_map-map (λ h. 32 ∷ decimal h) (number_of n) lemma.hints))
