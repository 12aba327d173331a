-- The steps of a sender keep the rule: to lift an empty slot, and to lay it down with a mail.
use Rattle.std.proofs.Common.{◌≡◌, ◌≢◌, ◌⊎◌, ℕ, ◌+◌, ◌*◌, ◌%◌, ◌^◌, ◌<◌, ◌≤◌, List, ◌∷◌, get_or, set, refl, sym, ap, ◌∙◌, subst, inr, Option, Some, None, length-set, get_or-set_same, get_or-set_other, arith}
use mathlib.Core.Logic.{dite}
use mathlib.Core.Option.{some, none}
use mathlib.Core.Option as maybe
use native.Mathlib.Decide.{ℕ_discrete}
use lib.ListN.{get_elem?}
use Rattle.atomic_table.specs.Table.{State, step, takes, gives, Allows}
use Rattle.board_rule.specs.declared.views.Account.{Account}
use Rattle.board_rule.specs.declared.views.Moving.{Moving}
use Rattle.board_rule.specs.declared.views.Moving.TheVariants.{Still, Filling, Emptying}
use Rattle.board_rule.specs.declared.views.View.{View}
use Rattle.board_rule.specs.declared.views.View.TheVariants.{Party}
use Rattle.board_rule.specs.Mailbox.{bank_of, slot_of, word_of, uses, period_of}
use Rattle.board_rule.specs.Accounts.{IsMovingInOrder, IsInOrder, filling, emptying}
use Rattle.board_rule.specs.Board.{IsMailboxOf, BoardRule}
use Rattle.board_rule.specs.Steps.{lifted_to_fill, laid_down}
use Rattle.board_rule.specs.Laws.{MayFill, Held, more}
use Rattle.board_rule.proofs.Changes.{changed_here, changed_else, set_there}
use Rattle.board_rule.proofs.Boxes.{slot_below}
use Rattle.board_rule.proofs.Keeping.{account_is, boxed}
use Rattle.board_rule.proofs.Arriving.{becomes}
use Rattle.board_rule.proofs.Levels.{fills_here, fills_not, sender_level}

-- the party at the other end of a move
abbrev pub end_of : Moving → ℕ
end_of Still = 0
end_of (Filling to) = to
end_of (Emptying from) = from

abbrev lifted : {O : Type 0} → Account O → ℕ → Account O
lifted a to = record a { moving = Filling to }

abbrev laid_for : {O : Type 0} → Account O → ℕ → Account O
laid_for a to = record a { moving = Still; laid = set a.laid to (a.arrivals + 1) }

lifted_in_order : {O : Type 0} (o : O) (n : ℕ) (a : Account O) (to : ℕ) → MayFill a to → IsInOrder o n a.number a → IsInOrder o n a.number (lifted a to)
lifted_in_order o n a to may k = record {
  occasion_is = k.occasion_is;
  parties_is = k.parties_is;
  number_is = k.number_is;
  behind = k.behind;
  near = k.near;
  few = k.few;
  laid_long = k.laid_long;
  taken_long = k.taken_long;
  laid = k.laid;
  taken = k.taken;
  moving = (may.within, may.other, may.known, may.next);
}

laid_in_order : {O : Type 0} (o : O) (n : ℕ) (a : Account O) (to : ℕ) → IsMovingInOrder a (Filling to) → IsInOrder o n a.number a → IsInOrder o n a.number (laid_for a to)
laid_in_order o n a to mid k = record {
  occasion_is = k.occasion_is;
  parties_is = k.parties_is;
  number_is = k.number_is;
  behind = k.behind;
  near = k.near;
  few = k.few;
  laid_long = length-set a.laid to (a.arrivals + 1) ∙ k.laid_long;
  taken_long = k.taken_long;
  laid = λ j l other. dite (ℕ_discrete j to)
      (λ e. inr (ap (λ (z : ℕ). get_or (set a.laid to (a.arrivals + 1)) z 0) e ∙ get_or-set_same a.laid to (a.arrivals + 1) 0 (let b = k.laid_long in let c = k.parties_is in let d = mid.0 in omega arith), mid.2))
      (λ ne. subst (λ (x : ℕ). (x ≡ a.arrivals) ⊎ ((x ≡ a.arrivals + 1) × (a.known ≡ a.arrivals))) (sym (get_or-set_other a.laid to j (a.arrivals + 1) 0 ne)) (k.laid j l other));
  taken = k.taken;
  moving = tt;
}

module _ {O T : Type 0} (fits : O → ℕ → ℕ → ℕ → T → Type 0) (n : ℕ) (o : O) where
  module _ (s : State (Option T) (View O)) (r : BoardRule fits n o s) (id : ℕ) (a : Account O) (at : get_elem? s.views id ≡ some (Party a)) (to : ℕ) (within : to < a.parties) (other : to ≢ a.number) where
    abbrev number : ℕ
    number = a.number

    inside : to < n
    inside = let e = (account_is fits n o s r id a at).2.parties_is in omega arith

    -- the mailbox of the sender's next period
    old_box : (c : ℕ) → c < 2 → IsMailboxOf fits o s.words s.homes number to c a (r.account to)
    old_box c lc = let is = account_is fits n o s r id a at in subst (λ (z : Account O). IsMailboxOf fits o s.words s.homes number to c z (r.account to)) is.0 (r.mailboxes number to c is.1 inside (λ e. other (sym e)) lc)

    level : (c : ℕ) → a.known ≡ a.arrivals → c ≡ bank_of (a.arrivals + 1) → (uses (get_or (r.account to).taken number 0) c ≡ uses a.arrivals c) × (emptying (r.account to).arrivals (r.account to).moving number c ≡ 0)
    level c = let is = account_is fits n o s r id a at in subst (λ (z : Account O). z.known ≡ z.arrivals → c ≡ bank_of (z.arrivals + 1) → (uses (get_or (r.account to).taken number 0) c ≡ uses z.arrivals c) × (emptying (r.account to).arrivals (r.account to).moving number c ≡ 0)) is.0
        (sender_level fits n o s r number to is.1 inside (λ e. other (sym e)) c)

    -- the sender's account changes, and its mailbox is in order again
    sender_moves : (a' : Account O) (c x : ℕ) (home : maybe.Option (Option T)) → c < 2 → a'.arrivals ≡ a.arrivals → a'.known ≡ a.known → a'.taken ≡ a.taken → IsInOrder o n number a'
        → ((j b : ℕ) → j < n → b < 2 → slot_of number j b ≢ slot_of number to c → (uses (get_or a'.laid j 0) b ≡ uses (get_or a.laid j 0) b) × (filling a'.arrivals a'.moving j b ≡ filling a.arrivals a.moving j b))
        → ((i b : ℕ) → emptying a'.arrivals a'.moving i b ≡ emptying a.arrivals a.moving i b)
        → IsMailboxOf fits o (set s.words (word_of (slot_of number to c)) x) (set s.homes (slot_of number to c) home) number to c a' (r.account to)
        → BoardRule fits n o record { words = set s.words (word_of (slot_of number to c)) x; homes = set s.homes (slot_of number to c) home; views = set s.views id (Party a') }
    sender_moves a' c x home lc same known taken ok sent empties box = let is = account_is fits n o s r id a at in
        boxed fits n o s r id a a' number to c x home at is.1 inside (λ e. other (sym e)) lc same known ok sent (λ i b _ _ _. (ap (λ (l : List ℕ). uses (get_or l i 0) b) taken, empties i b))
        (subst (λ (z : Account O × Account O). IsMailboxOf fits o (set s.words (word_of (slot_of number to c)) x) (set s.homes (slot_of number to c) home) number to c z.0 z.1)
        (λ k. (sym (changed_here r.account number a' number refl) k, sym (changed_else r.account number a' to other) k)) box)

  pub lifts_to_fill : (slots id : ℕ) (a : Account O) (held : Held T) (to : ℕ) → MayFill a to → let word : ℕ = word_of (slot_of a.number to (bank_of (a.arrivals + 1))) in
      Allows (BoardRule fits n o) slots id (Party a, held) word (more 1) (lifted_to_fill (step slots word 1 0 none) (Party a, held))
  lifts_to_fill slots id a held to may s r deep at small =
      let is = account_is fits n o s r id a at in let k = is.2 in let c : ℕ = bank_of (a.arrivals + 1) in let slot : ℕ = slot_of a.number to c in let w : ℕ = get_or s.words (slot + 16) 0 in let x : ℕ = (w + 1) % 2 ^ 64 in
      let few = r.few_parties in let lq : to < n = inside s r id a at to may.within may.other in let lc : c < 2 = omega arith in let b : Account O = r.account to in
      let box = old_box s r id a at to may.within may.other c lc in let even = level s r id a at to may.within may.other c may.known refl in
      let below : slot < 2178 = slot_below a.number to c (let e = is.1 in omega arith) (omega arith) lc in let wide = r.wide in
      let idle : (j d : ℕ) → filling a.arrivals a.moving j d ≡ 0 = λ j d. ap (λ (m : Moving). filling a.arrivals m j d) may.still in
      let none_here : filling a.arrivals a.moving to c ≡ 0 = idle to c in let as_many : uses (get_or a.laid to 0) c ≡ uses a.arrivals c = ap (λ (z : ℕ). uses z c) may.next in
      let word_is : w ≡ 2 * uses (get_or a.laid to 0) c + 2 * uses (get_or b.taken a.number 0) c + (filling a.arrivals a.moving to c + emptying b.arrivals b.moving a.number c) = box.word in
      let count : uses a.arrivals c ≤ 1099511627776 = let f = k.few in omega arith in
      let home : get_elem? s.homes slot ≡ some (some None) = box.empty (let e = even.1 in omega arith) (let e = even.0 in omega arith) in
      let mine : filling a.arrivals (Filling to) to c ≡ 1 = fills_here a.arrivals to c refl in (
        Party (lifted a to),
        takes slot None,
        home,
        sender_moves s r id a at to may.within may.other (lifted a to) c x none lc refl refl refl (lifted_in_order o n a to may k)
            (λ j d lj ld ne. (refl, fills_not a.arrivals to j d (λ e f. ne (omega arith)) ∙ sym (idle j d)))
            (λ i d. sym (ap (λ (m : Moving). emptying a.arrivals m i d) may.still))
            record {
              word = get_or-set_same s.words (slot + 16) x 0 (omega arith) ∙ (let e = even.0 in let f = even.1 in omega arith);
              alone = let e = even.1 in omega arith;
              out = λ _. set_there s.homes slot (some None) none home;
              empty = λ e _. absurd (omega arith);
              full = λ e _. absurd (omega arith);
            },
        becomes held ((slot, None) ∷ held) a (lifted a to) _
            (λ t _ e. let same : to ≡ t = omega arith in (ap (lifted a) same, ap (λ (z : ℕ). (slot_of a.number z c, None) ∷ held) same)),
      )

  pub lays_down : (slots id : ℕ) (a : Account O) (held : Held T) (to : ℕ) (mail : T) → a.moving ≡ Filling to → fits a.occasion a.number to (a.arrivals + 1) mail → let slot : ℕ = slot_of a.number to (bank_of (a.arrivals + 1)) in
      Allows (BoardRule fits n o) slots id (Party a, (slot, Some mail) ∷ held) (word_of slot) (more 1) (laid_down (step slots (word_of slot) 1 0 none) (Party a, (slot, Some mail) ∷ held))
  lays_down slots id a held to mail moving fit s r deep at small =
      let is = account_is fits n o s r id a at in let k = is.2 in let mid : IsMovingInOrder a (Filling to) = subst (IsMovingInOrder a) moving k.moving in
      let c : ℕ = bank_of (a.arrivals + 1) in let slot : ℕ = slot_of a.number to c in let w : ℕ = get_or s.words (slot + 16) 0 in let x : ℕ = (w + 1) % 2 ^ 64 in
      let few = r.few_parties in let lq : to < n = inside s r id a at to mid.0 mid.1 in let lc : c < 2 = omega arith in let b : Account O = r.account to in
      let box = old_box s r id a at to mid.0 mid.1 c lc in let even = level s r id a at to mid.0 mid.1 c mid.2 refl in
      let below : slot < 2178 = slot_below a.number to c (let e = is.1 in omega arith) (omega arith) lc in let wide = r.wide in
      let mine : filling a.arrivals a.moving to c ≡ 1 = ap (λ (m : Moving). filling a.arrivals m to c) moving ∙ fills_here a.arrivals to c refl in
      let as_many : uses (get_or a.laid to 0) c ≡ uses a.arrivals c = ap (λ (z : ℕ). uses z c) mid.3 in
      let now : get_or (set a.laid to (a.arrivals + 1)) to 0 ≡ a.arrivals + 1 = get_or-set_same a.laid to (a.arrivals + 1) 0 (let d = k.laid_long in omega arith) in
      let one_more : uses (get_or (set a.laid to (a.arrivals + 1)) to 0) c ≡ uses a.arrivals c + 1 = omega arith in
      let word_is : w ≡ 2 * uses (get_or a.laid to 0) c + 2 * uses (get_or b.taken a.number 0) c + (filling a.arrivals a.moving to c + emptying b.arrivals b.moving a.number c) = box.word in
      let count : uses a.arrivals c ≤ 1099511627776 = let f = k.few in omega arith in
      let home : get_elem? s.homes slot ≡ some none = box.out (let e = even.1 in omega arith) in
      let period : period_of (uses (get_or (set a.laid to (a.arrivals + 1)) to 0) c) c ≡ a.arrivals + 1 = omega arith in (
        Party (laid_for a to),
        gives,
        tt,
        sender_moves s r id a at to mid.0 mid.1 (laid_for a to) c x (some (Some mail)) lc refl refl refl (laid_in_order o n a to mid k)
            (λ j d lj ld ne. (
              dite (ℕ_discrete j to)
                  (λ e. let old : get_or a.laid j 0 ≡ a.arrivals = ap (λ (z : ℕ). get_or a.laid z 0) e ∙ mid.3 in
                  let new : get_or (set a.laid to (a.arrivals + 1)) j 0 ≡ a.arrivals + 1 = ap (λ (z : ℕ). get_or (set a.laid to (a.arrivals + 1)) z 0) e ∙ now in
                  let apart : d ≢ c = λ f. ne (omega arith) in omega arith)
                  (λ far. ap (λ (z : ℕ). uses z d) (get_or-set_other a.laid to j (a.arrivals + 1) 0 far)),
              sym (ap (λ (m : Moving). filling a.arrivals m j d) moving ∙ fills_not a.arrivals to j d (λ e f. ne (omega arith))),
            ))
            (λ i d. sym (ap (λ (m : Moving). emptying a.arrivals m i d) moving))
            record {
              word = get_or-set_same s.words (slot + 16) x 0 (omega arith) ∙ (let e = even.0 in let f = even.1 in omega arith);
              alone = let e = even.1 in omega arith;
              out = λ e. let f = even.1 in absurd (omega arith);
              empty = λ _ e. let f = even.0 in absurd (omega arith);
              full = λ _ _. (
                (let e = even.0 in omega arith),
                (mail, set_there s.homes slot none (some (Some mail)) home, subst (λ (z : O × ℕ). fits z.0 a.number to z.1 mail) (λ i. (k.occasion_is i, sym period i)) fit),
              );
            },
        (refl, becomes ((slot, Some mail) ∷ held) held a (laid_for a to) _ (λ t e. ap (laid_for a) (ap end_of (sym moving ∙ e)))),
      )
