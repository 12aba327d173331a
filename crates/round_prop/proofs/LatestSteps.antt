-- The literal that became false last, as the literals of a clause are looked at in turn.
use Rattle.std.proofs.Common.{◌≡◌, ◌⊎◌, ℕ, ◌+◌, ◌<◌, Bool, true, false, ◌&&◌, ◌||◌, List, length, get_or, take, refl, inl, inr, ap, sym, ◌∙◌, subst, arith}
use Rattle.std.specs.Prelude.{nat_lt, nat_le}
use Rattle.std.specs.List.{list_all}
use Rattle.std.proofs.lemmas.List.Folds.{list_all_more, list_any_at}
use Rattle.lit_base.specs.Literal.{Literal, same}
use Rattle.lit_base.specs.Quiet.{IsOneOf}
use Rattle.lit_base.specs.declared.trail.Entry.{Entry}
use Rattle.lit_base.proofs.Known.{all_when, same_itself}
use Rattle.round_prop.specs.Linked.{place_in}

-- it is the latest of the first so many
pub record IsLatestOf (trail : List Entry) (lits : List Literal) (other last : Literal) (i : ℕ) : Type 0 where
  pub held : IsOneOf lits last
  pub apart : same last other ≡ false
  pub latest : list_all (λ m. same m other || nat_le (place_in trail m) (place_in trail last)) (take i lits) ≡ true

module _ (trail : List Entry) (lits : List Literal) (other last lit : Literal) (i : ℕ) (before : IsLatestOf trail lits other last i) (inside : i < length lits) (is : lit ≡ get_or lits i lit) where
  right : (a b : Bool) → b ≡ true → (a || b) ≡ true
  right true b one = refl
  right false b one = one

  more : (l : Literal) → list_all (λ m. same m other || nat_le (place_in trail m) (place_in trail l)) (take i lits) ≡ true → (same lit other || nat_le (place_in trail lit) (place_in trail l)) ≡ true →
      list_all (λ m. same m other || nat_le (place_in trail m) (place_in trail l)) (take (i + 1) lits) ≡ true
  more l first one =
      list_all_more (λ m. same m other || nat_le (place_in trail m) (place_in trail l)) lits i lit inside
      ∙ (ap (λ b. b && (same (get_or lits i lit) other || nat_le (place_in trail (get_or lits i lit)) (place_in trail l))) first
      ∙ (ap (λ m. same m other || nat_le (place_in trail m) (place_in trail l)) (sym is) ∙ one))

  -- the next one is the other one, or no later
  pub latest_stays : (same lit other ≡ true) ⊎ (nat_lt (place_in trail last) (place_in trail lit) ≡ false) → IsLatestOf trail lits other last (i + 1)
  latest_stays (inl left_out) = record { held = before.held; apart = before.apart; latest = more last before.latest (ap (λ b. b || nat_le (place_in trail lit) (place_in trail last)) left_out) }
  latest_stays (inr past) = record { held = before.held; apart = before.apart; latest = more last before.latest (right (same lit other) (nat_le (place_in trail lit) (place_in trail last)) (no_less (place_in trail last) (place_in trail lit) past)) }
    where
      no_less : (p q : ℕ) → nat_lt p q ≡ false → nat_le q p ≡ true
      no_less p q past = grind arith

  -- the next one is later, and not the other one
  pub latest_moves : same lit other ≡ false → nat_lt (place_in trail last) (place_in trail lit) ≡ true → IsLatestOf trail lits other lit (i + 1)
  latest_moves no_other later =
      let among : IsOneOf lits lit = list_any_at (λ m. same m lit) lits i lit inside (subst (λ m. same m lit ≡ true) is (same_itself lit)) in
      let older = all_when (λ m. same m other || nat_le (place_in trail m) (place_in trail last)) (λ m. same m other || nat_le (place_in trail m) (place_in trail lit)) (λ m passes. step m (parts (same m other) (nat_le (place_in trail m) (place_in trail last)) passes)) (take i lits) before.latest in
      record { held = among; apart = no_other; latest = more lit older (right (same lit other) (nat_le (place_in trail lit) (place_in trail lit)) (itself (place_in trail lit))) }
    where
      parts : (a b : Bool) → (a || b) ≡ true → (a ≡ true) ⊎ (b ≡ true)
      parts true b one = inl refl
      parts false b one = inr one

      less : (p q m : ℕ) → nat_lt p q ≡ true → nat_le m p ≡ true → nat_le m q ≡ true
      less p q m one two = grind arith

      itself : (p : ℕ) → nat_le p p ≡ true
      itself p = grind arith

      step : (m : Literal) → (same m other ≡ true) ⊎ (nat_le (place_in trail m) (place_in trail last) ≡ true) → (same m other || nat_le (place_in trail m) (place_in trail lit)) ≡ true
      step m (inl left_out) = ap (λ b. b || nat_le (place_in trail m) (place_in trail lit)) left_out
      step m (inr most) = right (same m other) (nat_le (place_in trail m) (place_in trail lit)) (less (place_in trail last) (place_in trail lit) (place_in trail m) later most)

-- the latest of the first so many, and its place
pub record IsLatestAt (trail : List Entry) (lits : List Literal) (other last : Literal) (greatest i : ℕ) : Type 0 where
  pub latest : IsLatestOf trail lits other last i
  pub place : greatest ≡ place_in trail last

module _ (trail : List Entry) (lits : List Literal) (other last lit : Literal) (greatest found i : ℕ) (before : IsLatestAt trail lits other last greatest i) (inside : i < length lits) (is : lit ≡ get_or lits i lit) (found_is : found ≡ place_in trail lit) where
  test_is : nat_lt greatest found ≡ nat_lt (place_in trail last) (place_in trail lit)
  test_is = ap (λ p. nat_lt p found) before.place ∙ ap (λ p. nat_lt (place_in trail last) p) found_is

  -- it stays, where the next one is the other one, or no later
  pub stays_at : (next : Literal) (p : ℕ) → (same lit other ≡ true) ⊎ (nat_lt greatest found ≡ false) → next ≡ last → p ≡ greatest → IsLatestAt trail lits other next p (i + 1)
  stays_at next p why next_is p_is =
      let step = latest_stays trail lits other last lit i before.latest inside is (turn why) in
      record { latest = subst (λ l. IsLatestOf trail lits other l (i + 1)) (sym next_is) step; place = p_is ∙ (before.place ∙ ap (λ l. place_in trail l) (sym next_is)) }
    where
      turn : (same lit other ≡ true) ⊎ (nat_lt greatest found ≡ false) → (same lit other ≡ true) ⊎ (nat_lt (place_in trail last) (place_in trail lit) ≡ false)
      turn (inl left_out) = inl left_out
      turn (inr past) = inr (sym test_is ∙ past)

  -- and else gives way to it
  pub moves_to : (next : Literal) (p : ℕ) → same lit other ≡ false → nat_lt greatest found ≡ true → next ≡ lit → p ≡ found → IsLatestAt trail lits other next p (i + 1)
  moves_to next p no_other later next_is p_is =
      let step = latest_moves trail lits other last lit i before.latest inside is no_other (sym test_is ∙ later) in
      record { latest = subst (λ l. IsLatestOf trail lits other l (i + 1)) (sym next_is) step; place = p_is ∙ (found_is ∙ ap (λ l. place_in trail l) (sym next_is)) }
