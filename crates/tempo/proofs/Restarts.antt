-- When restarts come: the conflicts since the last one are counted, up to the unit times the value of the sequence.
use Rattle.std.proofs.Common.{◌≡◌, ℕ, zero, suc, ◌+◌, ◌*◌, ◌<◌, ◌≤◌, true, false, refl, ap, ◌∙◌, arith, add-one}
use Rattle.std.proofs.lemmas.Bool.{eq-eqb, ne_eqb}
use Rattle.std.proofs.lemmas.Nat.{mul-le}
use Rattle.tempo.specs.Tempo.{TempoState, luby, is_due, after_conflict}
use Rattle.tempo.specs.Laws.{restarted, after_conflicts}
use Rattle.tempo.proofs.Halves.{luby_some}

-- this place, with so many conflicts since the restart
abbrev pub counted : ℕ → ℕ → ℕ → TempoState
counted unit t n = record { unit = unit; t = t; count = n }

-- a conflict before the last is counted, and the last one is a restart
one_more : (unit t n : ℕ) → n + 1 < luby t * unit → after_conflict (counted unit t n) ≡ counted unit t (n + 1)
one_more unit t n before = rw (ne_eqb (n + 1) (luby t * unit) (λ same. omega arith)) refl

last_one : (unit t n : ℕ) → n + 1 ≡ luby t * unit → after_conflict (counted unit t n) ≡ restarted unit (t + 1)
last_one unit t n same = rw (eq-eqb (n + 1) (luby t * unit) same) refl

-- conflicts before the last are counted
pub after_some : (unit t n : ℕ) → n < luby t * unit → after_conflicts n (restarted unit t) ≡ counted unit t n
after_some unit t zero before = refl
after_some unit t (suc n) before =
    ap after_conflict (after_some unit t n (omega arith)) ∙ one_more unit t n (omega arith) ∙ ap (counted unit t) (add-one n)

pub none_before : (unit t n : ℕ) → n + 1 < luby t * unit → is_due (after_conflicts n (restarted unit t)) ≡ false
none_before unit t n before = ap is_due (after_some unit t n (omega arith)) ∙ ne_eqb (n + 1) (luby t * unit) (λ same. omega arith)

pub last_is_due : (unit t n : ℕ) → n + 1 ≡ luby t * unit → is_due (after_conflicts n (restarted unit t)) ≡ true
last_is_due unit t n same = ap is_due (after_some unit t n (omega arith)) ∙ eq-eqb (n + 1) (luby t * unit) same

-- all of them end at the next place
after_all : (unit t n : ℕ) → n ≡ luby t * unit → 1 ≤ n → after_conflicts n (restarted unit t) ≡ restarted unit (t + 1)
after_all unit t zero same some = absurd (omega arith)
after_all unit t (suc n) same some = ap after_conflict (after_some unit t n (omega arith)) ∙ last_one unit t n (omega arith)

pub next_place : (unit t : ℕ) → 1 ≤ unit → 1 ≤ t → after_conflicts (luby t * unit) (restarted unit t) ≡ restarted unit (t + 1)
next_place unit t unit_some some = after_all unit t (luby t * unit) refl (omega (arith, mul-le 1 1 (luby t) unit (luby_some t some) unit_some))
