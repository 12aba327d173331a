-- How many mails went through a mailbox that its sender, or its receiver, is about to use: and that the other party is not there.
use Rattle.std.proofs.Common.{◌≡◌, ◌≢◌, ℕ, ◌+◌, ◌-◌, ◌<◌, ◌≤◌, Bool, eqb, get_or, refl, sym, ap, ◌∙◌, ⊎_elim, eq-eqb, ne_eqb, arith}
use mathlib.Core.Logic.{dite}
use native.Mathlib.Decide.{ℕ_discrete}
use Rattle.std.specs.Prelude.{if◌then◌else◌, ◌&&◌, Option}
use Rattle.atomic_table.specs.Table.{State}
use Rattle.board_rule.specs.declared.views.Account.{Account}
use Rattle.board_rule.specs.declared.views.Moving.{Moving}
use Rattle.board_rule.specs.declared.views.Moving.TheVariants.{Still, Filling, Emptying}
use Rattle.board_rule.specs.declared.views.View.{View}
use Rattle.board_rule.specs.Mailbox.{bank_of, uses}
use Rattle.board_rule.specs.Accounts.{IsMovingInOrder, filling, emptying}
use Rattle.board_rule.specs.Board.{BoardRule}

abbrev one_if : Bool → ℕ
one_if x = if x then 1 else 0

-- 1 where both pairs of numbers agree, else 0
abbrev agree : ℕ → ℕ → ℕ → ℕ → ℕ
agree i j b c = one_if (eqb i j && eqb b c)

do_agree : (i j b c : ℕ) → i ≡ j → b ≡ c → agree i j b c ≡ 1
do_agree i j b c e f = ap (λ (x : Bool). one_if (x && eqb b c)) (eq-eqb i j e) ∙ ap one_if (eq-eqb b c f)

do_not : (i j b c : ℕ) → (i ≡ j → b ≡ c → ⊥) → agree i j b c ≡ 0
do_not i j b c ne = dite (ℕ_discrete i j)
    (λ e. ap (λ (x : Bool). one_if (x && eqb b c)) (eq-eqb i j e) ∙ ap one_if (ne_eqb b c (ne e)))
    (λ other. ap (λ (x : Bool). one_if (x && eqb b c)) (ne_eqb i j other))

pub fills_here : (arrivals to bank : ℕ) → bank_of (arrivals + 1) ≡ bank → filling arrivals (Filling to) to bank ≡ 1
fills_here arrivals to bank e = do_agree to to _ _ refl e

pub fills_not : (arrivals to j bank : ℕ) → (to ≡ j → bank_of (arrivals + 1) ≡ bank → ⊥) → filling arrivals (Filling to) j bank ≡ 0
fills_not arrivals to j bank ne = do_not to j _ _ ne

pub empties_here : (arrivals from bank : ℕ) → bank_of arrivals ≡ bank → emptying arrivals (Emptying from) from bank ≡ 1
empties_here arrivals from bank e = do_agree from from _ _ refl e

pub empties_not : (arrivals from i bank : ℕ) → (from ≡ i → bank_of arrivals ≡ bank → ⊥) → emptying arrivals (Emptying from) i bank ≡ 0
empties_not arrivals from i bank ne = do_not from i _ _ ne

module _ {O : Type 0} (a : Account O) where
  -- a party whose next period uses another bank, or that waits for its last one, puts nothing into this bank
  no_fill : (m : Moving) (j bank : ℕ) → IsMovingInOrder a m → (a.known ≡ a.arrivals → bank_of (a.arrivals + 1) ≡ bank → ⊥) → filling a.arrivals m j bank ≡ 0
  no_fill Still j bank k other = refl
  no_fill (Filling to) j bank k other = fills_not a.arrivals to j bank (λ _ e. other k.2 e)
  no_fill (Emptying from) j bank k other = refl

  no_empty : (m : Moving) (i bank : ℕ) → IsMovingInOrder a m → (a.known ≡ a.arrivals → bank_of a.arrivals ≡ bank → ⊥) → emptying a.arrivals m i bank ≡ 0
  no_empty Still i bank k other = refl
  no_empty (Filling to) i bank k other = refl
  no_empty (Emptying from) i bank k other = empties_not a.arrivals from i bank (λ _ e. other k.2 e)

module _ {O T : Type 0} (fits : O → ℕ → ℕ → ℕ → T → Type 0) (n : ℕ) (o : O) (s : State (Option T) (View O)) (r : BoardRule fits n o s) (i j : ℕ) (li : i < n) (lj : j < n) (other : i ≢ j) where
  abbrev a : Account O
  a = r.account i

  abbrev b : Account O
  b = r.account j

  -- the sender knows its last period complete: as many mails were taken from the bank of its next one as were laid
  pub sender_level : (bank : ℕ) → a.known ≡ a.arrivals → bank ≡ bank_of (a.arrivals + 1) → (uses (get_or b.taken i 0) bank ≡ uses a.arrivals bank) × (emptying b.arrivals b.moving i bank ≡ 0)
  sender_level bank known e =
      let ahead = r.phases i j li lj in let behind = r.phases j i lj li in let k = r.accounts j lj in let below = k.behind in let near = k.near in (
        ⊎_elim (λ (t : get_or b.taken i 0 ≡ b.arrivals - 1). omega arith) (λ (t : (get_or b.taken i 0 ≡ b.arrivals) × (b.known ≡ b.arrivals)). omega arith) (k.taken i li other),
        no_empty b b.moving i bank k.moving (λ c d. omega arith),
      )

  -- the receiver knows its last period complete: as many mails were laid into the bank of that period as the period tells
  pub receiver_level : (bank : ℕ) → b.known ≡ b.arrivals → 1 ≤ b.arrivals → bank ≡ bank_of b.arrivals → (uses (get_or a.laid j 0) bank ≡ uses b.arrivals bank) × (filling a.arrivals a.moving j bank ≡ 0)
  receiver_level bank known some_period e =
      let ahead = r.phases j i lj li in let behind = r.phases i j li lj in let k = r.accounts i li in let below = k.behind in let near = k.near in (
        ⊎_elim (λ (t : get_or a.laid j 0 ≡ a.arrivals). omega arith) (λ (t : (get_or a.laid j 0 ≡ a.arrivals + 1) × (a.known ≡ a.arrivals)). omega arith) (k.laid j lj (λ x. other (sym x))),
        no_fill a a.moving j bank k.moving (λ c d. omega arith),
      )
