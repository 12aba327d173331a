-- Values of digits, up to a cap.
use Rattle.std.proofs.Common.{◌≡◌, ℕ, ◌+◌, ◌-◌, ◌*◌, ◌<◌, min, List, [], ◌∷◌, length, get_or, drop, sym, ap, ◌∙◌, arith}
use Rattle.std.proofs.lemmas.List.{drop_more}
use Rattle.lit_base.specs.Numeral.{value_from}

-- once a value is above the cap, the digits behind it don't matter
pub capped_from : (n : ℕ) (ds : List ℕ) → min (value_from (min n 100000000) ds) 100000000 ≡ min (value_from n ds) 100000000
capped_from n [] = omega arith
capped_from n (d ∷ ds) =
    let low = min n 100000000 * 10 + (d - 48) in
    let high = n * 10 + (d - 48) in
    let same : min low 100000000 ≡ min high 100000000 = omega arith in
    sym (capped_from low ds) ∙ ap (λ v. min (value_from v ds) 100000000) same ∙ capped_from high ds

-- one digit more, where the value so far is capped
pub capped_more : (digits : List ℕ) (value i : ℕ) → i < length digits → min (value_from value (drop i digits)) 100000000 ≡ min (value_from 0 digits) 100000000
    → min (value_from (min (value * 10 + (get_or digits i 0 - 48)) 100000000) (drop (i + 1) digits)) 100000000 ≡ min (value_from 0 digits) 100000000
capped_more digits value i lt same =
    capped_from (value * 10 + (get_or digits i 0 - 48)) (drop (i + 1) digits)
    ∙ sym (ap (λ ds. min (value_from value ds) 100000000) (drop_more digits i 0 lt)) ∙ same
