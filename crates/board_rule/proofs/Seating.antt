-- The rule at the start, and when the maker gives a party its seat.
use Rattle.std.proofs.Common.{◌≡◌, ◌≢◌, ℕ, zero, suc, ◌+◌, ◌<◌, ◌≤◌, List, [], ◌∷◌, ◌++◌, map, length, replicate, get_or, set, refl, sym, ap, ◌∙◌, subst, inl, ⊎_elim, Option, None, length-set, arith}
use mathlib.Core.Path.{Path}
use mathlib.Core.Logic.{dite}
use mathlib.Core.Option.{some, some-injective, some-ne-none}
use mathlib.Core.Option as maybe
use native.Mathlib.Decide.{ℕ_discrete}
use lib.ListN.{get_elem?, length-map, length-replicate, get_or-replicate}
use Rattle.atomic_table.specs.Table.{opening, Splits}
use Rattle.atomic_table.proofs.Lists.{at_set, set_else, at_longer, at_last}
use Rattle.board_rule.specs.declared.views.Account.{Account}
use Rattle.board_rule.specs.declared.views.View.{View}
use Rattle.board_rule.specs.declared.views.View.TheVariants.{Maker, Party}
use Rattle.board_rule.specs.Mailbox.{slot_of}
use Rattle.board_rule.specs.Accounts.{fresh, maker_view, IsInOrder}
use Rattle.board_rule.specs.Board.{sum_to, IsPlaced, AreSeated, BoardRule}
use Rattle.board_rule.proofs.Changes.{changed, changed_here, changed_else, set_there, at_snoc_place}
use Rattle.board_rule.proofs.Boxes.{slot_below}
use Rattle.board_rule.proofs.Keeping.{no_party}

all_there : {A : Type 0} (n i : ℕ) (a : A) → i < n → get_elem? (map some (replicate n a)) i ≡ some (some a)
all_there zero i a h = absurd (omega arith)
all_there (suc n) zero a h = refl
all_there (suc n) (suc i) a h = all_there n i a (omega arith)

sum_none : (n : ℕ) → sum_to n (λ _. 0) ≡ 0
sum_none zero = refl
sum_none (suc n) = let e = sum_none n in omega arith

fresh_in_order : {O : Type 0} (o : O) (n i : ℕ) → IsInOrder o n i (fresh o n i)
fresh_in_order o n i = record {
  occasion_is = refl;
  parties_is = refl;
  number_is = refl;
  behind = omega arith;
  near = omega arith;
  few = omega arith;
  laid_long = length-replicate n 0;
  taken_long = length-replicate n 0;
  laid = λ to l other. inl (get_or-replicate n to 0 0 l);
  taken = λ from l other. inl (get_or-replicate n from 0 0 l);
  moving = tt;
}

module _ {O : Type 0} (o : O) (n : ℕ) where
  seats_at_start : AreSeated o n 0 0 (λ _. 0) (fresh o n) (maker_view o n 0 ∷ [])
  seats_at_start = record {
    made_few = omega arith;
    maker_is = refl;
    each_seat = λ i l. absurd (omega arith);
    each_view = alone;
    rest_fresh = λ i l. refl;
  }
    where
      alone : (id : ℕ) (v : View O) → get_elem? (maker_view o n 0 ∷ []) id ≡ some v → IsPlaced 0 0 (λ _. 0) id v
      alone zero v e = subst (IsPlaced 0 0 (λ _. 0) 0) (some-injective _ _ e) refl
      alone (suc id) v e = absurd (some-ne-none v (sym e))

  seats_split : (k made maker : ℕ) (seat : ℕ → ℕ) (account : ℕ → Account O) (views : List (View O)) (id : ℕ) → AreSeated o n made maker seat account views → made ≡ k → id ≡ maker → k < n
      → get_elem? views id ≡ some (Maker o n k) → AreSeated o n (k + 1) maker (changed seat k (length views)) account (set views id (Maker o n (k + 1)) ++ Party (fresh o n k) ∷ [])
  seats_split k made maker seat account views id r is at_maker more at =
      let front : List (View O) = set views id (Maker o n (k + 1)) in let last : List (View O) = Party (fresh o n k) ∷ [] in record {
        made_few = omega arith;
        maker_is = at_longer front last maker _ (ap (get_elem? front) (sym at_maker) ∙ set_there views id _ (Maker o n (k + 1)) at);
        each_seat = λ i l. dite (ℕ_discrete i k)
            (λ e. ap (get_elem? (front ++ last)) (changed_here seat k (length views) i e)
            ∙ (at_last front (Party (fresh o n k)) (length views) (length-set views id (Maker o n (k + 1))) ∙ ap (λ (z : Account O). some (Party z)) (sym (ap account e ∙ r.rest_fresh k (omega arith)))))
            (λ other. ap (get_elem? (front ++ last)) (changed_else seat k (length views) i other)
            ∙ at_longer front last (seat i) _ (set_else views id (seat i) (Maker o n (k + 1)) (λ e. no_party o n k (account i) (some-injective _ _ (sym at ∙ (ap (get_elem? views) (sym e) ∙ r.each_seat i (omega arith))))) ∙ r.each_seat i (omega arith)));
        each_view = λ j v e. ⊎_elim
            (λ (t : Path (maybe.Option (View O)) (get_elem? front j) (some v)). ⊎_elim
            (λ (u : (j ≡ id) × Path (View O) (Maker o n (k + 1)) v). subst (IsPlaced (k + 1) maker (changed seat k (length views)) j) u.1 (u.0 ∙ at_maker))
            (λ (u : (j ≢ id) × Path (maybe.Option (View O)) (get_elem? views j) (some v)). stays j v (r.each_view j v u.1))
            (at_set views id j (Maker o n (k + 1)) v t))
            (λ (t : (j ≡ length front) × Path (View O) (Party (fresh o n k)) v). subst (IsPlaced (k + 1) maker (changed seat k (length views)) j) t.1
            (omega arith, t.0 ∙ (length-set views id (Maker o n (k + 1)) ∙ sym (changed_here seat k (length views) k refl))))
            (at_snoc_place front (Party (fresh o n k)) v j e);
        rest_fresh = λ i l. r.rest_fresh i (omega arith);
      }
    where
      stays : (j : ℕ) (v : View O) → IsPlaced made maker seat j v → IsPlaced (k + 1) maker (changed seat k (length views)) j v
      stays j (Maker _ _ _) p = p
      stays j (Party a) p = let l = p.0 in (omega arith, p.1 ∙ sym (changed_else seat k (length views) a.number (λ e. omega arith)))

module _ {O T : Type 0} (fits : O → ℕ → ℕ → ℕ → T → Type 0) (n : ℕ) (o : O) where
  -- a list of zeros and one of empty slots, of these lengths
  pub starts_at : (words slots : ℕ) → 0 < n → n ≤ 33 → words ≡ 2194 → slots ≡ 2178 → BoardRule fits n o (opening (replicate words 0) (replicate {A = Option T} slots None) (maker_view o n 0))
  starts_at words slots some_party few wide deep = let zeros : List ℕ = replicate words 0 in let none_yet : List ℕ = replicate n 0 in record {
    made = 0;
    maker = 0;
    seat = λ _. 0;
    account = fresh o n;
    some_party = some_party;
    few_parties = few;
    wide = length-replicate words 0 ∙ wide;
    deep = length-map (replicate slots None) (λ (x : Option T). some x) ∙ (length-replicate slots None ∙ deep);
    seats = seats_at_start o n;
    arrivals = get_or-replicate words 0 0 0 (omega arith) ∙ sym (sum_none n);
    phases = λ i j li lj. omega arith;
    accounts = λ i l. fresh_in_order o n i;
    mailboxes = λ i j b li lj other lb.
        let below : slot_of i j b < 2178 = slot_below i j b (omega arith) (omega arith) lb in let blank : get_or zeros (slot_of i j b + 16) 0 ≡ 0 = get_or-replicate words (slot_of i j b + 16) 0 0 (omega arith) in
        let laid : get_or none_yet j 0 ≡ 0 = get_or-replicate n j 0 0 lj in let taken : get_or none_yet i 0 ≡ 0 = get_or-replicate n i 0 0 li in record {
          word = omega arith;
          alone = omega arith;
          out = λ e. absurd (omega arith);
          empty = λ _ _. all_there slots (slot_of i j b) None (omega arith);
          full = λ _ ne. absurd (ne (omega arith));
        };
  }

  pub splits : (id k : ℕ) → k < n → Splits (BoardRule fits n o) id (Maker o n k) (Maker o n (k + 1)) (Party (fresh o n k))
  splits id k more s r at =
      let at_maker : id ≡ r.maker = r.seats.each_view id (Maker o n k) at in
      let is : r.made ≡ k = ap number_of (some-injective _ _ (sym r.seats.maker_is ∙ (ap (get_elem? s.views) (sym at_maker) ∙ at))) in record {
        made = k + 1;
        maker = r.maker;
        seat = changed r.seat k (length s.views);
        account = r.account;
        some_party = r.some_party;
        few_parties = r.few_parties;
        wide = r.wide;
        deep = r.deep;
        seats = seats_split o n k r.made r.maker r.seat r.account s.views id r.seats is at_maker more at;
        arrivals = r.arrivals;
        phases = r.phases;
        accounts = r.accounts;
        mailboxes = r.mailboxes;
      }
    where
      number_of : View O → ℕ
      number_of (Maker _ _ i) = i
      number_of (Party a) = 0
