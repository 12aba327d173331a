-- Mailboxes do not share a slot or a word, and one that a step does not touch stays in order.
use Rattle.std.proofs.Common.{◌≡◌, ℕ, ◌+◌, List, get_or, subst, sym, ◌∙◌, arith, Option}
use mathlib.Core.Option as maybe
use lib.ListN.{get_elem?}
use Rattle.board_rule.specs.Board.{IsMailbox}
use Rattle.board_rule.specs.Laws.{SlotsApart, SlotsBelow}

pub one_slot : SlotsApart
one_slot i j b i' j' b' li lj lb li' lj' lb' e = let r : i ≡ i' = omega arith in let s : j ≡ j' = omega arith in (r, s, omega arith)

pub slot_below : SlotsBelow
slot_below i j b li lj lb = omega arith

module _ {T : Type 0} (fits : ℕ → T → Type 0) where
  pub same_box : (words words' : List ℕ) (homes homes' : List (maybe.Option (Option T))) (slot bank l t f e l' t' f' e' : ℕ) → get_or words' (slot + 16) 0 ≡ get_or words (slot + 16) 0
      → get_elem? homes' slot ≡ get_elem? homes slot → l' ≡ l → t' ≡ t → f' ≡ f → e' ≡ e → IsMailbox fits words homes slot bank l t f e → IsMailbox fits words' homes' slot bank l' t' f' e'
  same_box words words' homes homes' slot bank l t f e l' t' f' e' word home el et ef ee k = subst (λ (z : ℕ × ℕ × ℕ × ℕ). IsMailbox fits words' homes' slot bank z.0 z.1 z.2 z.3)
      (λ i. (sym el i, sym et i, sym ef i, sym ee i))
      record {
        word = word ∙ k.word;
        alone = k.alone;
        out = λ a. home ∙ k.out a;
        empty = λ a b. home ∙ k.empty a b;
        full = λ a b. let h = k.full a b in (h.0, (h.1.0, home ∙ h.1.1, h.1.2));
      }
