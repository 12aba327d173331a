-- The steps of a receiver keep the rule: to lift a slot with its mail, and to lay it down empty.
use Rattle.std.proofs.Common.{◌≡◌, ◌≢◌, ◌⊎◌, ℕ, ◌+◌, ◌-◌, ◌*◌, ◌%◌, ◌^◌, ◌<◌, ◌≤◌, List, ◌∷◌, get_or, set, refl, sym, ap, ◌∙◌, subst, inr, Option, Some, None, length-set, get_or-set_same, get_or-set_other, arith}
use mathlib.Core.Logic.{dite}
use mathlib.Core.Option.{some, none}
use mathlib.Core.Option as maybe
use native.Mathlib.Decide.{ℕ_discrete}
use lib.ListN.{get_elem?}
use Rattle.atomic_table.specs.Table.{State, step, takes, gives, Allows}
use Rattle.board_rule.specs.declared.views.Account.{Account}
use Rattle.board_rule.specs.declared.views.Moving.{Moving}
use Rattle.board_rule.specs.declared.views.Moving.TheVariants.{Still, Emptying}
use Rattle.board_rule.specs.declared.views.View.{View}
use Rattle.board_rule.specs.declared.views.View.TheVariants.{Party}
use Rattle.board_rule.specs.Mailbox.{bank_of, slot_of, word_of, uses, period_of}
use Rattle.board_rule.specs.Accounts.{IsMovingInOrder, IsInOrder, filling, emptying}
use Rattle.board_rule.specs.Board.{IsMailboxOf, BoardRule}
use Rattle.board_rule.specs.Steps.{lifted_to_take, emptied}
use Rattle.board_rule.specs.Laws.{MayTake, Held, more}
use Rattle.board_rule.proofs.Changes.{changed_here, changed_else, set_there}
use Rattle.board_rule.proofs.Boxes.{slot_below}
use Rattle.board_rule.proofs.Keeping.{account_is, boxed}
use Rattle.board_rule.proofs.Arriving.{becomes}
use Rattle.board_rule.proofs.Levels.{empties_here, empties_not, receiver_level}
use Rattle.board_rule.proofs.Sending.{end_of}

abbrev lifted : {O : Type 0} → Account O → ℕ → Account O
lifted a from = record a { moving = Emptying from }

abbrev taken_from : {O : Type 0} → Account O → ℕ → Account O
taken_from a from = record a { moving = Still; taken = set a.taken from a.arrivals }

lifted_in_order : {O : Type 0} (o : O) (n : ℕ) (a : Account O) (from : ℕ) → MayTake a from → IsInOrder o n a.number a → IsInOrder o n a.number (lifted a from)
lifted_in_order o n a from may k = record {
  occasion_is = k.occasion_is;
  parties_is = k.parties_is;
  number_is = k.number_is;
  behind = k.behind;
  near = k.near;
  few = k.few;
  laid_long = k.laid_long;
  taken_long = k.taken_long;
  laid = k.laid;
  taken = k.taken;
  moving = (may.within, may.other, may.known, may.next);
}

taken_in_order : {O : Type 0} (o : O) (n : ℕ) (a : Account O) (from : ℕ) → IsMovingInOrder a (Emptying from) → IsInOrder o n a.number a → IsInOrder o n a.number (taken_from a from)
taken_in_order o n a from mid k = record {
  occasion_is = k.occasion_is;
  parties_is = k.parties_is;
  number_is = k.number_is;
  behind = k.behind;
  near = k.near;
  few = k.few;
  laid_long = k.laid_long;
  taken_long = length-set a.taken from a.arrivals ∙ k.taken_long;
  laid = k.laid;
  taken = λ i l other. dite (ℕ_discrete i from)
      (λ e. inr (ap (λ (z : ℕ). get_or (set a.taken from a.arrivals) z 0) e ∙ get_or-set_same a.taken from a.arrivals 0 (let b = k.taken_long in let c = k.parties_is in let d = mid.0 in omega arith), mid.2))
      (λ ne. subst (λ (x : ℕ). (x ≡ a.arrivals - 1) ⊎ ((x ≡ a.arrivals) × (a.known ≡ a.arrivals))) (sym (get_or-set_other a.taken from i a.arrivals 0 ne)) (k.taken i l other));
  moving = tt;
}

module _ {O T : Type 0} (fits : O → ℕ → ℕ → ℕ → T → Type 0) (n : ℕ) (o : O) where
  module _ (s : State (Option T) (View O)) (r : BoardRule fits n o s) (id : ℕ) (a : Account O) (at : get_elem? s.views id ≡ some (Party a)) (from : ℕ) (within : from < a.parties) (other : from ≢ a.number) where
    abbrev number : ℕ
    number = a.number

    inside : from < n
    inside = let e = (account_is fits n o s r id a at).2.parties_is in omega arith

    -- the mailbox of the receiver's last period
    old_box : (c : ℕ) → c < 2 → IsMailboxOf fits o s.words s.homes from number c (r.account from) a
    old_box c lc = let is = account_is fits n o s r id a at in subst (λ (z : Account O). IsMailboxOf fits o s.words s.homes from number c (r.account from) z) is.0 (r.mailboxes from number c inside is.1 other lc)

    level : (c : ℕ) → a.known ≡ a.arrivals → 1 ≤ a.arrivals → c ≡ bank_of a.arrivals
        → (uses (get_or (r.account from).laid number 0) c ≡ uses a.arrivals c) × (filling (r.account from).arrivals (r.account from).moving number c ≡ 0)
    level c = let is = account_is fits n o s r id a at in subst (λ (z : Account O). z.known ≡ z.arrivals → 1 ≤ z.arrivals → c ≡ bank_of z.arrivals
        → (uses (get_or (r.account from).laid number 0) c ≡ uses z.arrivals c) × (filling (r.account from).arrivals (r.account from).moving number c ≡ 0)) is.0
        (receiver_level fits n o s r from number inside is.1 other c)

    -- the receiver's account changes, and its mailbox is in order again
    receiver_moves : (a' : Account O) (c x : ℕ) (home : maybe.Option (Option T)) → c < 2 → a'.arrivals ≡ a.arrivals → a'.known ≡ a.known → a'.laid ≡ a.laid → IsInOrder o n number a'
        → ((i b : ℕ) → i < n → b < 2 → slot_of i number b ≢ slot_of from number c → (uses (get_or a'.taken i 0) b ≡ uses (get_or a.taken i 0) b) × (emptying a'.arrivals a'.moving i b ≡ emptying a.arrivals a.moving i b))
        → ((j b : ℕ) → filling a'.arrivals a'.moving j b ≡ filling a.arrivals a.moving j b)
        → IsMailboxOf fits o (set s.words (word_of (slot_of from number c)) x) (set s.homes (slot_of from number c) home) from number c (r.account from) a'
        → BoardRule fits n o record { words = set s.words (word_of (slot_of from number c)) x; homes = set s.homes (slot_of from number c) home; views = set s.views id (Party a') }
    receiver_moves a' c x home lc same known laid ok got fills box = let is = account_is fits n o s r id a at in
        boxed fits n o s r id a a' from number c x home at inside is.1 other lc same known ok (λ j b _ _ _. (ap (λ (l : List ℕ). uses (get_or l j 0) b) laid, fills j b)) got
        (subst (λ (z : Account O × Account O). IsMailboxOf fits o (set s.words (word_of (slot_of from number c)) x) (set s.homes (slot_of from number c) home) from number c z.0 z.1)
        (λ k. (sym (changed_else r.account number a' from other) k, sym (changed_here r.account number a' number refl) k)) box)

  pub lifts_to_take : (slots id : ℕ) (a : Account O) (held : Held T) (from : ℕ) → MayTake a from → let word : ℕ = word_of (slot_of from a.number (bank_of a.arrivals)) in
      Allows (BoardRule fits n o) slots id (Party a, held) word (more 1) (lifted_to_take fits (step slots word 1 0 none) (Party a, held))
  lifts_to_take slots id a held from may s r deep at small =
      let is = account_is fits n o s r id a at in let k = is.2 in let c : ℕ = bank_of a.arrivals in let slot : ℕ = slot_of from a.number c in let w : ℕ = get_or s.words (slot + 16) 0 in let x : ℕ = (w + 1) % 2 ^ 64 in
      let few = r.few_parties in let lp : from < n = inside s r id a at from may.within may.other in let lc : c < 2 = omega arith in let b : Account O = r.account from in
      let some_period : 1 ≤ a.arrivals = let e = may.next in omega arith in
      let box = old_box s r id a at from may.within may.other c lc in let even = level s r id a at from may.within may.other c may.known some_period refl in
      let below : slot < 2178 = slot_below from a.number c (omega arith) (let e = is.1 in omega arith) lc in let wide = r.wide in
      let idle : (i d : ℕ) → emptying a.arrivals a.moving i d ≡ 0 = λ i d. ap (λ (m : Moving). emptying a.arrivals m i d) may.still in
      let none_here : emptying a.arrivals a.moving from c ≡ 0 = idle from c in
      let one_less : uses (get_or a.taken from 0) c + 1 ≡ uses a.arrivals c = let e = may.next in omega arith in
      let word_is : w ≡ 2 * uses (get_or b.laid a.number 0) c + 2 * uses (get_or a.taken from 0) c + (filling b.arrivals b.moving a.number c + emptying a.arrivals a.moving from c) = box.word in
      let count : uses a.arrivals c ≤ 1099511627776 = let f = k.few in omega arith in
      let full = box.full (let e = even.1 in omega arith) (λ e. let f = even.0 in omega arith) in let mail : T = full.1.0 in let home : get_elem? s.homes slot ≡ some (some (Some mail)) = full.1.1 in
      let period : period_of (uses (get_or b.laid a.number 0) c) c ≡ a.arrivals = let e = even.0 in omega arith in
      let fit : fits a.occasion from a.number a.arrivals mail = subst (λ (z : O × ℕ). fits z.0 from a.number z.1 mail) (λ i. (sym k.occasion_is i, period i)) full.1.2 in
      let mine : emptying a.arrivals (Emptying from) from c ≡ 1 = empties_here a.arrivals from c refl in (
        Party (lifted a from),
        takes slot (Some mail),
        home,
        receiver_moves s r id a at from may.within may.other (lifted a from) c x none lc refl refl refl (lifted_in_order o n a from may k)
            (λ i d li ld ne. (refl, empties_not a.arrivals from i d (λ e f. ne (omega arith)) ∙ sym (idle i d)))
            (λ j d. sym (ap (λ (m : Moving). filling a.arrivals m j d) may.still))
            record {
              word = get_or-set_same s.words (slot + 16) x 0 (omega arith) ∙ (let e = even.0 in let f = even.1 in omega arith);
              alone = let e = even.1 in omega arith;
              out = λ _. set_there s.homes slot (some (Some mail)) none home;
              empty = λ e _. absurd (omega arith);
              full = λ e _. absurd (omega arith);
            },
        becomes held ((slot, Some mail) ∷ held) a (lifted a from) _
            (λ t _ e. let same : from ≡ t = omega arith in (
              ap (lifted a) same,
              (mail, ap (λ (z : ℕ). (slot_of z a.number c, Some mail) ∷ held) same, subst (λ (z : ℕ). fits a.occasion z a.number a.arrivals mail) same fit),
            )),
      )

  pub lays_empty : (slots id : ℕ) (a : Account O) (held : Held T) (from : ℕ) → a.moving ≡ Emptying from → let slot : ℕ = slot_of from a.number (bank_of a.arrivals) in
      Allows (BoardRule fits n o) slots id (Party a, (slot, None) ∷ held) (word_of slot) (more 1) (emptied (step slots (word_of slot) 1 0 none) (Party a, (slot, None) ∷ held))
  lays_empty slots id a held from moving s r deep at small =
      let is = account_is fits n o s r id a at in let k = is.2 in let mid : IsMovingInOrder a (Emptying from) = subst (IsMovingInOrder a) moving k.moving in
      let c : ℕ = bank_of a.arrivals in let slot : ℕ = slot_of from a.number c in let w : ℕ = get_or s.words (slot + 16) 0 in let x : ℕ = (w + 1) % 2 ^ 64 in
      let few = r.few_parties in let lp : from < n = inside s r id a at from mid.0 mid.1 in let lc : c < 2 = omega arith in let b : Account O = r.account from in
      let some_period : 1 ≤ a.arrivals = let e = mid.3 in omega arith in
      let box = old_box s r id a at from mid.0 mid.1 c lc in let even = level s r id a at from mid.0 mid.1 c mid.2 some_period refl in
      let below : slot < 2178 = slot_below from a.number c (omega arith) (let e = is.1 in omega arith) lc in let wide = r.wide in
      let mine : emptying a.arrivals a.moving from c ≡ 1 = ap (λ (m : Moving). emptying a.arrivals m from c) moving ∙ empties_here a.arrivals from c refl in
      let one_less : uses (get_or a.taken from 0) c + 1 ≡ uses a.arrivals c = let e = mid.3 in omega arith in
      let now : get_or (set a.taken from a.arrivals) from 0 ≡ a.arrivals = get_or-set_same a.taken from a.arrivals 0 (let d = k.taken_long in omega arith) in
      let as_many : uses (get_or (set a.taken from a.arrivals) from 0) c ≡ uses a.arrivals c = ap (λ (z : ℕ). uses z c) now in
      let word_is : w ≡ 2 * uses (get_or b.laid a.number 0) c + 2 * uses (get_or a.taken from 0) c + (filling b.arrivals b.moving a.number c + emptying a.arrivals a.moving from c) = box.word in
      let count : uses a.arrivals c ≤ 1099511627776 = let f = k.few in omega arith in
      let home : get_elem? s.homes slot ≡ some none = box.out (let e = even.1 in omega arith) in (
        Party (taken_from a from),
        gives,
        tt,
        receiver_moves s r id a at from mid.0 mid.1 (taken_from a from) c x (some None) lc refl refl refl (taken_in_order o n a from mid k)
            (λ i d li ld ne. (
              dite (ℕ_discrete i from)
                  (λ e. let old : get_or a.taken i 0 + 1 ≡ a.arrivals = ap (λ (z : ℕ). get_or a.taken z 0 + 1) e ∙ mid.3 in
                  let new : get_or (set a.taken from a.arrivals) i 0 ≡ a.arrivals = ap (λ (z : ℕ). get_or (set a.taken from a.arrivals) z 0) e ∙ now in
                  let apart : d ≢ c = λ f. ne (omega arith) in omega arith)
                  (λ far. ap (λ (z : ℕ). uses z d) (get_or-set_other a.taken from i a.arrivals 0 far)),
              sym (ap (λ (m : Moving). emptying a.arrivals m i d) moving ∙ empties_not a.arrivals from i d (λ e f. ne (omega arith))),
            ))
            (λ j d. sym (ap (λ (m : Moving). filling a.arrivals m j d) moving))
            record {
              word = get_or-set_same s.words (slot + 16) x 0 (omega arith) ∙ (let e = even.0 in let f = even.1 in omega arith);
              alone = let e = even.1 in omega arith;
              out = λ e. let f = even.1 in absurd (omega arith);
              empty = λ _ _. set_there s.homes slot none (some None) home;
              full = λ _ ne. absurd (ne (let e = even.0 in omega arith));
            },
        (refl, becomes ((slot, None) ∷ held) held a (taken_from a from) _ (λ t e. ap (taken_from a) (ap end_of (sym moving ∙ e)))),
      )
