-- What stays of the rule when one party's account, one word and one slot change.
use Rattle.std.proofs.Common.{◌≡◌, ◌≢◌, ℕ, ◌+◌, ◌<◌, ◌≤◌, List, length, get_or, set, refl, sym, ap, ◌∙◌, subst, ⊎_elim, Option, arith, length-set, get_or-set_other, get_or-set_same}
use mathlib.Core.Path.{Path}
use mathlib.Core.Logic.{dite}
use mathlib.Core.Option.{some, some-injective}
use mathlib.Core.Option as maybe
use native.Mathlib.Decide.{ℕ_discrete}
use lib.ListN.{get_elem?}
use Rattle.atomic_table.specs.Table.{State}
use Rattle.atomic_table.proofs.Lists.{at_set, set_else}
use Rattle.board_rule.specs.declared.views.Account.{Account}
use Rattle.board_rule.specs.declared.views.View.{View}
use Rattle.board_rule.specs.declared.views.View.TheVariants.{Maker, Party}
use Rattle.board_rule.specs.Mailbox.{slot_of, word_of, uses}
use Rattle.board_rule.specs.Accounts.{account_of, IsInOrder, filling, emptying}
use Rattle.board_rule.specs.Board.{IsPlaced, AreSeated, IsMailboxOf, BoardRule}
use Rattle.board_rule.proofs.Sums.{sum_change}
use Rattle.board_rule.proofs.Changes.{changed, changed_here, changed_else, set_there}
use Rattle.board_rule.proofs.Boxes.{same_box, one_slot}

module _ {O : Type 0} where
  abbrev IsParty : View O → Type 0
  IsParty (Maker _ _ _) = ⊥
  IsParty (Party _) = Unit {0}

  pub no_party : (o : O) (n k : ℕ) (a : Account O) → Path (View O) (Maker o n k) (Party a) → ⊥
  no_party o n k a e = subst IsParty (sym e) tt

  pub same_account : (a b : Account O) → Path (View O) (Party a) (Party b) → Path (Account O) a b
  same_account a b e = ap account_of e

  module _ (o : O) (n made maker : ℕ) (seat : ℕ → ℕ) (account : ℕ → Account O) (views : List (View O)) (r : AreSeated o n made maker seat account views) where
    -- a party's seat is its own, and its view is its account
    pub own_seat : (id : ℕ) (a : Account O) → get_elem? views id ≡ some (Party a) → (a.number < made) × (id ≡ seat a.number) × Path (Account O) (account a.number) a
    own_seat id a at = let placed = r.each_view id (Party a) at in
        let here : get_elem? views id ≡ some (Party (account a.number)) = ap (get_elem? views) placed.1 ∙ r.each_seat a.number placed.0 in
        (placed.0, placed.1, same_account _ _ (some-injective _ _ (sym here ∙ at)))

    -- the seats stay in order when a party's account changes
    pub seats_stay : (id : ℕ) (a a' : Account O) → get_elem? views id ≡ some (Party a) → a'.number ≡ a.number → ((i : ℕ) → i < made → (account i).number ≡ i)
        → AreSeated o n made maker seat (changed account a.number a') (set views id (Party a'))
    seats_stay id a a' at same numbers = let own = own_seat id a at in record {
      made_few = r.made_few;
      maker_is = set_else views id maker (Party a') (λ e. no_party o n made a (some-injective _ _ (sym r.maker_is ∙ (ap (get_elem? views) e ∙ at)))) ∙ r.maker_is;
      each_seat = λ i l. dite (ℕ_discrete i a.number)
          (λ is. ap (get_elem? (set views id (Party a'))) (ap seat is ∙ sym own.1) ∙ (set_there views id (Party a) (Party a') at ∙ ap (λ (z : Account O). some (Party z)) (sym (changed_here account a.number a' i is))))
          (λ other. set_else views id (seat i) (Party a') (λ e. other (sym (numbers i l) ∙ ap (λ (z : Account O). z.number) (same_account _ _ (some-injective _ _ (sym (r.each_seat i l) ∙ (ap (get_elem? views) e ∙ at))))))
          ∙ (r.each_seat i l ∙ ap (λ (z : Account O). some (Party z)) (sym (changed_else account a.number a' i other))));
      each_view = λ j v e. ⊎_elim
          (λ (t : (j ≡ id) × Path (View O) (Party a') v). subst (IsPlaced made maker seat j) t.1 (subst (λ (z : ℕ). z < made) (sym same) own.0, t.0 ∙ (own.1 ∙ ap seat (sym same))))
          (λ (t : (j ≢ id) × Path (maybe.Option (View O)) (get_elem? views j) (some v)). r.each_view j v t.1)
          (at_set views id j (Party a') v e);
      rest_fresh = λ i l. changed_else account a.number a' i (λ is. let b = own.0 in omega arith) ∙ r.rest_fresh i l;
    }

  -- what is read of each account is as before, if it is at the one that changes
  pub same_reading : (F : Account O → ℕ) (account : ℕ → Account O) (k : ℕ) (a a' : Account O) (i : ℕ) → Path (Account O) (account k) a → (i ≡ k → F a' ≡ F a) → F (changed account k a' i) ≡ F (account i)
  same_reading F account k a a' i was same = dite (ℕ_discrete i k)
      (λ is. ap F (changed_here account k a' i is) ∙ (same is ∙ ap F (sym was ∙ ap account (sym is))))
      (λ other. ap F (changed_else account k a' i other))

module _ {O T : Type 0} (fits : O → ℕ → ℕ → ℕ → T → Type 0) (n : ℕ) (o : O) where
  abbrev St : Type 0
  St = State (Option T) (View O)

  abbrev Homes : Type 0
  Homes = List (maybe.Option (Option T))

  abbrev Boxes : List ℕ → Homes → (ℕ → Account O) → Type 0
  Boxes words homes account = (i j b : ℕ) → i < n → j < n → i ≢ j → b < 2 → IsMailboxOf fits o words homes i j b (account i) (account j)

  -- the account of a party, its number, and its seat
  pub account_is : (s : St) (r : BoardRule fits n o s) (id : ℕ) (a : Account O) → get_elem? s.views id ≡ some (Party a) → Path (Account O) (r.account a.number) a × (a.number < n) × IsInOrder o n a.number a
  account_is s r id a at = let own = own_seat o n r.made r.maker r.seat r.account s.views r.seats id a at in let small : a.number < n = let b = own.0 in let c = r.seats.made_few in omega arith in
      (own.2, small, subst (IsInOrder o n a.number) own.2 (r.accounts a.number small))

  -- one party's account goes from a to a', the word k becomes x, and some slot changes
  pub moved : (s : St) (r : BoardRule fits n o s) (id : ℕ) (a a' : Account O) (k x : ℕ) (homes' : Homes) → get_elem? s.views id ≡ some (Party a) → length homes' ≡ length s.homes
      → get_or (set s.words k x) 0 0 + a.arrivals ≡ get_or s.words 0 0 + a'.arrivals → a.arrivals ≤ a'.arrivals → ((j : ℕ) → j < n → j ≢ a.number → a'.known ≤ (r.account j).arrivals)
      → IsInOrder o n a.number a' → Boxes (set s.words k x) homes' (changed r.account a.number a')
      → BoardRule fits n o record { words = set s.words k x; homes = homes'; views = set s.views id (Party a') }
  moved s r id a a' k x homes' at deep sum more ahead ok boxes =
      let is = account_is s r id a at in let account' : ℕ → Account O = changed r.account a.number a' in
      let risen : (j : ℕ) → (r.account j).arrivals ≤ (account' j).arrivals = λ j. dite (ℕ_discrete j a.number)
      (λ e. subst (λ (z : ℕ × ℕ). z.0 ≤ z.1) (λ i. (ap (λ (z : Account O). z.arrivals) (sym is.0 ∙ ap r.account (sym e)) i, ap (λ (z : Account O). z.arrivals) (sym (changed_here r.account a.number a' j e)) i)) more)
      (λ other. let e = ap (λ (z : Account O). z.arrivals) (changed_else r.account a.number a' j other) in omega arith) in
      let numbers : (i : ℕ) → i < r.made → (r.account i).number ≡ i = λ i l. let f = r.seats.made_few in (r.accounts i (omega arith)).number_is in
      record {
        made = r.made;
        maker = r.maker;
        seat = r.seat;
        account = account';
        some_party = r.some_party;
        few_parties = r.few_parties;
        wide = length-set s.words k x ∙ r.wide;
        deep = deep ∙ r.deep;
        seats = seats_stay o n r.made r.maker r.seat r.account s.views r.seats id a a' at ok.number_is numbers;
        arrivals =
            let before = ap (λ (z : Account O). z.arrivals) is.0 in let after = ap (λ (z : Account O). z.arrivals) (changed_here r.account a.number a' a.number refl) in
            let total = sum_change n a.number (λ i. (r.account i).arrivals) (λ i. (account' i).arrivals) is.1 (λ j other. ap (λ (z : Account O). z.arrivals) (changed_else r.account a.number a' j other)) in
            let old = r.arrivals in omega arith;
        phases = λ i j li lj. dite (ℕ_discrete i a.number)
            (λ e. let now = ap (λ (z : Account O). z.known) (changed_here r.account a.number a' i e) in dite (ℕ_discrete j a.number)
            (λ f. let own = ap (λ (z : Account O). z.arrivals) (changed_here r.account a.number a' j f) in let b = ok.behind in omega arith)
            (λ other. let b = ahead j lj other in let c = risen j in omega arith))
            (λ other. let now = ap (λ (z : Account O). z.known) (changed_else r.account a.number a' i other) in let b = r.phases i j li lj in let c = risen j in omega arith);
        accounts = λ i l. dite (ℕ_discrete i a.number)
            (λ e. subst (λ (z : ℕ × Account O). IsInOrder o n z.0 z.1) (λ c. (sym e c, sym (changed_here r.account a.number a' i e) c)) ok)
            (λ other. subst (IsInOrder o n i) (sym (changed_else r.account a.number a' i other)) (r.accounts i l));
        mailboxes = boxes;
      }

  -- a step on word 0: the mailboxes stay as they are
  pub counted : (s : St) (r : BoardRule fits n o s) (id : ℕ) (a a' : Account O) (x : ℕ) → get_elem? s.views id ≡ some (Party a) → x + a.arrivals ≡ get_or s.words 0 0 + a'.arrivals → a.arrivals ≤ a'.arrivals
      → ((j : ℕ) → j < n → j ≢ a.number → a'.known ≤ (r.account j).arrivals) → IsInOrder o n a.number a' → a'.laid ≡ a.laid → a'.taken ≡ a.taken
      → ((j b : ℕ) → filling a'.arrivals a'.moving j b ≡ filling a.arrivals a.moving j b) → ((i b : ℕ) → emptying a'.arrivals a'.moving i b ≡ emptying a.arrivals a.moving i b)
      → BoardRule fits n o record { words = set s.words 0 x; homes = s.homes; views = set s.views id (Party a') }
  counted s r id a a' x at sum more ahead ok laid taken fills empties =
      let is = account_is s r id a at in let read : (F : Account O → ℕ) → F a' ≡ F a → (i : ℕ) → F (changed r.account a.number a' i) ≡ F (r.account i) = λ F e i. same_reading F r.account a.number a a' i is.0 (λ _. e) in
      moved s r id a a' 0 x s.homes at refl (subst (λ (z : ℕ). z + a.arrivals ≡ get_or s.words 0 0 + a'.arrivals) (sym (get_or-set_same s.words 0 x 0 (let w = r.wide in omega arith))) sum) more ahead ok
      (λ i j b li lj other lb. same_box (fits o i j) s.words (set s.words 0 x) s.homes s.homes (slot_of i j b) b _ _ _ _ _ _ _ _ (get_or-set_other s.words 0 (slot_of i j b + 16) x 0 (λ e. omega arith)) refl
      (read (λ z. uses (get_or z.laid j 0) b) (ap (λ l. uses (get_or l j 0) b) laid) i)
      (read (λ z. uses (get_or z.taken i 0) b) (ap (λ l. uses (get_or l i 0) b) taken) j)
      (read (λ z. filling z.arrivals z.moving j b) (fills j b) i)
      (read (λ z. emptying z.arrivals z.moving i b) (empties i b) j)
      (r.mailboxes i j b li lj other lb))

  -- a step on one mailbox, by its sender or its receiver: the others stay as they are
  pub boxed : (s : St) (r : BoardRule fits n o s) (id : ℕ) (a a' : Account O) (p q c x : ℕ) (home : maybe.Option (Option T)) → get_elem? s.views id ≡ some (Party a) → p < n → q < n → p ≢ q → c < 2
      → a'.arrivals ≡ a.arrivals → a'.known ≡ a.known → IsInOrder o n a.number a'
      → ((j b : ℕ) → j < n → b < 2 → slot_of a.number j b ≢ slot_of p q c → (uses (get_or a'.laid j 0) b ≡ uses (get_or a.laid j 0) b) × (filling a'.arrivals a'.moving j b ≡ filling a.arrivals a.moving j b))
      → ((i b : ℕ) → i < n → b < 2 → slot_of i a.number b ≢ slot_of p q c → (uses (get_or a'.taken i 0) b ≡ uses (get_or a.taken i 0) b) × (emptying a'.arrivals a'.moving i b ≡ emptying a.arrivals a.moving i b))
      → IsMailboxOf fits o (set s.words (word_of (slot_of p q c)) x) (set s.homes (slot_of p q c) home) p q c (changed r.account a.number a' p) (changed r.account a.number a' q)
      → BoardRule fits n o record { words = set s.words (word_of (slot_of p q c)) x; homes = set s.homes (slot_of p q c) home; views = set s.views id (Party a') }
  boxed s r id a a' p q c x home at lp lq apart lc same known ok sent got box =
      let is = account_is s r id a at in let words' : List ℕ = set s.words (word_of (slot_of p q c)) x in let homes' : Homes = set s.homes (slot_of p q c) home in let f = r.few_parties in
      let account' : ℕ → Account O = changed r.account a.number a' in
      moved s r id a a' (word_of (slot_of p q c)) x homes' at (length-set s.homes (slot_of p q c) home)
      (subst (λ (z : ℕ). z + a.arrivals ≡ get_or s.words 0 0 + a'.arrivals) (sym (get_or-set_other s.words (slot_of p q c + 16) 0 x 0 (λ e. omega arith))) (omega arith)) (omega arith)
      (λ j lj other. let b = r.phases a.number j is.1 lj in let e = ap (λ (z : Account O). z.known) is.0 in omega arith) ok
      (λ i j b li lj other lb. dite (ℕ_discrete (slot_of i j b) (slot_of p q c))
      (λ e. let t = one_slot i j b p q c (omega arith) (omega arith) lb (omega arith) (omega arith) lc e in
      subst (λ (z : ℕ × ℕ × ℕ). IsMailboxOf fits o words' homes' z.0 z.1 z.2 (account' z.0) (account' z.1)) (λ k. (sym t.0 k, sym t.1 k, sym t.2 k)) box)
      (λ ne. same_box (fits o i j) s.words words' s.homes homes' (slot_of i j b) b _ _ _ _ _ _ _ _ (get_or-set_other s.words (slot_of p q c + 16) (slot_of i j b + 16) x 0 (λ e. ne (omega arith)))
      (set_else s.homes (slot_of p q c) (slot_of i j b) home ne)
      (same_reading (λ z. uses (get_or z.laid j 0) b) r.account a.number a a' i is.0 (λ e. (sent j b lj lb (λ h. ne (ap (λ (z : ℕ). slot_of z j b) e ∙ h))).0))
      (same_reading (λ z. uses (get_or z.taken i 0) b) r.account a.number a a' j is.0 (λ e. (got i b li lb (λ h. ne (ap (λ (z : ℕ). slot_of i z b) e ∙ h))).0))
      (same_reading (λ z. filling z.arrivals z.moving j b) r.account a.number a a' i is.0 (λ e. (sent j b lj lb (λ h. ne (ap (λ (z : ℕ). slot_of z j b) e ∙ h))).1))
      (same_reading (λ z. emptying z.arrivals z.moving i b) r.account a.number a a' j is.0 (λ e. (got i b li lb (λ h. ne (ap (λ (z : ℕ). slot_of i z b) e ∙ h))).1))
      (r.mailboxes i j b li lj other lb)))
