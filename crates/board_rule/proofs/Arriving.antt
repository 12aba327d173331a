-- The steps on word 0 keep the rule: to arrive, and to look.
use Rattle.std.proofs.Common.{◌≡◌, ◌≢◌, ◌⊎◌, ℕ, ◌+◌, ◌-◌, ◌*◌, ◌%◌, ◌^◌, ◌<◌, ◌≤◌, List, get_or, refl, sym, ap, ◌∙◌, subst, inl, inr, ⊎_elim, Option, lt_of_not-le, arith}
use mathlib.Core.Logic.{dite}
use mathlib.Core.Option.{none}
use native.Mathlib.Decide.{dec_le}
use Rattle.atomic_table.specs.Table.{State, step, keeps, Allows}
use Rattle.board_rule.specs.declared.views.Account.{Account}
use Rattle.board_rule.specs.declared.views.Moving.{Moving}
use Rattle.board_rule.specs.declared.views.Moving.TheVariants.{Still, Filling, Emptying}
use Rattle.board_rule.specs.declared.views.View.{View}
use Rattle.board_rule.specs.declared.views.View.TheVariants.{Party}
use Rattle.board_rule.specs.Accounts.{IsMovingInOrder, IsInOrder, filling, emptying}
use Rattle.board_rule.specs.Board.{BoardRule}
use Rattle.board_rule.specs.Steps.{Becomes, arrived, looked}
use Rattle.board_rule.specs.Laws.{MayArrive, Held, more}
use Rattle.board_rule.proofs.Sums.{sum_most, sum_below}
use Rattle.board_rule.proofs.Keeping.{same_account, account_is, counted}

module _ {O T : Type 0} where
  -- what is told of the one account that a view has
  pub becomes : (held held' : Held T) (a a' : Account O) (follows : Account O → Account O → Type 0) → follows a a' → Becomes {O = O} {T = T} (Party a, held) (Party a', held') follows
  becomes held held' a a' follows h b e = (a', refl, subst (λ (z : Account O). follows z a') (same_account a b e) h)

-- the account after a look that reads the word w
abbrev after_look : {O : Type 0} → Account O → ℕ → ℕ → Account O
after_look a w known = record a { looks = a.looks + 1; seen = w; known = known }

module _ {O : Type 0} (a : Account O) (w known : ℕ) (still_known : a.known ≡ a.arrivals → known ≡ a.arrivals) where
  moving_stays : (m : Moving) → IsMovingInOrder a m → IsMovingInOrder (after_look a w known) m
  moving_stays Still k = tt
  moving_stays (Filling to) k = (k.0, k.1, still_known k.2, k.3)
  moving_stays (Emptying from) k = (k.0, k.1, still_known k.2, k.3)

  look_in_order : (o : O) (n i : ℕ) → known ≤ a.arrivals → a.arrivals ≤ known + 1 → IsInOrder o n i a → IsInOrder o n i (after_look a w known)
  look_in_order o n i behind near k = record {
    occasion_is = k.occasion_is;
    parties_is = k.parties_is;
    number_is = k.number_is;
    behind = behind;
    near = near;
    few = k.few;
    laid_long = k.laid_long;
    taken_long = k.taken_long;
    laid = λ to l other. ⊎_elim (λ e. inl e) (λ e. inr (e.0, still_known e.1)) (k.laid to l other);
    taken = λ from l other. ⊎_elim (λ e. inl e) (λ e. inr (e.0, still_known e.1)) (k.taken from l other);
    moving = moving_stays a.moving k.moving;
  }

arrival_in_order : {O : Type 0} (o : O) (n : ℕ) (a : Account O) → MayArrive a → IsInOrder o n a.number a → IsInOrder o n a.number (record a { arrivals = a.arrivals + 1 })
arrival_in_order o n a may k = record {
  occasion_is = k.occasion_is;
  parties_is = k.parties_is;
  number_is = k.number_is;
  behind = let e = k.behind in omega arith;
  near = let e = may.known in omega arith;
  few = let e = may.more in omega arith;
  laid_long = k.laid_long;
  taken_long = k.taken_long;
  laid = λ to l other. inl (may.all_laid to (let e = k.parties_is in omega arith) other);
  taken = λ from l other. inl (let e = may.all_taken from (let e = k.parties_is in omega arith) other in omega arith);
  moving = subst (λ (m : Moving). IsMovingInOrder (record a { arrivals = a.arrivals + 1 }) m) (sym may.still) tt;
}

module _ {O T : Type 0} (fits : O → ℕ → ℕ → ℕ → T → Type 0) (n : ℕ) (o : O) where
  -- word 0 does not wrap
  word_small : (s : State (Option T) (View O)) → BoardRule fits n o s → get_or s.words 0 0 ≤ 33 * 2 ^ 40
  word_small s r = let few = sum_most n (2 ^ 40) (λ j. (r.account j).arrivals) (λ j l. (r.accounts j l).few) in let e = r.arrivals in let f = r.few_parties in omega arith

  -- where word 0 is as many arrivals as the parties would have together if all had this one's, none has less
  none_less : (s : State (Option T) (View O)) (r : BoardRule fits n o s) (i : ℕ) → i < n → n * (r.account i).arrivals ≤ get_or s.words 0 0 → (j : ℕ) → j < n → (r.account i).arrivals ≤ (r.account j).arrivals
  none_less s r i li many j lj = dite (dec_le (r.account i).arrivals (r.account j).arrivals) (λ e. e)
      (λ ne. let less = lt_of_not-le ne in let e = r.arrivals in
      let below = sum_below n (r.account i).arrivals j (λ k. (r.account k).arrivals) lj (λ k lk. let a = (r.accounts k lk).near in let b = r.phases k j lk lj in omega arith) less in absurd (omega arith))

  pub arrives : (slots id : ℕ) (a : Account O) (held : Held T) → MayArrive a → Allows (BoardRule fits n o) slots id (Party a, held) 0 (more 1) (arrived (step slots 0 1 0 none) (Party a, held))
  arrives slots id a held may s r deep at small =
      let is = account_is fits n o s r id a at in let a' : Account O = record a { arrivals = a.arrivals + 1 } in let w : ℕ = get_or s.words 0 0 in let few : w ≤ 33 * 2 ^ 40 = word_small s r in (
        Party a',
        keeps,
        tt,
        counted fits n o s r id a a' ((w + 1) % 2 ^ 64) at (omega arith) (omega arith)
            (λ j lj other. let e = ap (λ (z : Account O). z.known) is.0 in let b = r.phases a.number j is.1 lj in omega arith)
            (arrival_in_order o n a may is.2) refl refl
            (λ j b. subst (λ (m : Moving). filling (a.arrivals + 1) m j b ≡ filling a.arrivals m j b) (sym may.still) refl)
            (λ i b. subst (λ (m : Moving). emptying (a.arrivals + 1) m i b ≡ emptying a.arrivals m i b) (sym may.still) refl),
        (refl, becomes held held a a' _ refl),
      )

  pub looks : (slots id : ℕ) (a : Account O) (held : Held T) → Allows (BoardRule fits n o) slots id (Party a, held) 0 (λ word. word) (looked (step slots 0 0 0 none) (Party a, held))
  looks slots id a held s r deep at small =
      let is = account_is fits n o s r id a at in let k = is.2 in let w : ℕ = get_or s.words 0 0 in
      let kept : (known : ℕ) → (a.known ≡ a.arrivals → known ≡ a.arrivals) → known ≤ a.arrivals → a.arrivals ≤ known + 1 → ((j : ℕ) → j < n → j ≢ a.number → known ≤ (r.account j).arrivals)
      → BoardRule fits n o record { words = Rattle.std.proofs.Common.set s.words 0 w; homes = s.homes; views = Rattle.std.proofs.Common.set s.views id (Party (after_look a w known)) }
      = λ known still behind near ahead. counted fits n o s r id a (after_look a w known) w at refl (omega arith) ahead (look_in_order a w known still o n a.number behind near k) refl refl (λ _ _. refl) (λ _ _. refl) in
      dite (dec_le (a.parties * a.arrivals) w)
      (λ many. (
        Party (after_look a w a.arrivals),
        keeps,
        tt,
        kept a.arrivals (λ _. refl) (omega arith) (omega arith)
            (λ j lj other. let e = ap (λ (z : Account O). z.arrivals) is.0 in
            let less = none_less s r a.number is.1 (subst (λ (z : ℕ × ℕ). z.0 * z.1 ≤ w) (λ c. (k.parties_is c, sym e c)) many) j lj in omega arith),
        (refl, becomes held held a (after_look a w a.arrivals) _ ((λ _. refl), (λ few. absurd (omega arith)))),
      ))
      (λ few. let lt = lt_of_not-le few in (
        Party (after_look a w a.known),
        keeps,
        tt,
        kept a.known (λ e. e) k.behind k.near (λ j lj other. let e = ap (λ (z : Account O). z.known) is.0 in let b = r.phases a.number j is.1 lj in omega arith),
        (refl, becomes held held a (after_look a w a.known) _ ((λ many. absurd (few many)), (λ _. refl))),
      ))
