-- Slots are linked one after another.
use Rattle.std.proofs.Common.{◌≡◌, ℕ, ◌+◌, ◌<◌, ◌==◌, ◌^◌, ◌⊎◌, inl, inr, cond, List, [], ◌∷◌, length, take, reverse, replicate, get_or, set, map, ap, sym, ◌∙◌, subst, arith}
use Rattle.std.proofs.lemmas.Bool.{cases_eq, cond-true, cond-false, eq-eqb, ne_eqb}
use Rattle.std.proofs.lemmas.List.{length-set, get_or-set_same, get_or-set_other, get_or-replicate, length-replicate, take_more_set, reverse-append, map-set, set-get_or, get_or-map}
use Rattle.clause_pool.specs.declared.slot.Slot.{Slot}
use Rattle.clause_pool.specs.Slots.{unlinked}
use Rattle.clause_pool.specs.Links.{chain_of, head_in, AreLinks, IsLinked}
use Rattle.clause_pool.proofs.Splits.{older_length}

-- no slots are linked by heads that are all 0
pub linked_none : (count : ℕ) → IsLinked (replicate count 0) []
linked_none count =
    let zero : ℕ = 0 in
    let zeros : length (replicate count zero) ≡ count = length-replicate count zero in
    record {
      some = λ none. let never : ⊥ = omega (arith, none) in absurd never;
      heads_are = λ chain below. get_or-replicate count chain 0 0 (omega (arith, below, zeros));
      links = tt;
    }

-- the heads with a slot more
head_more : (heads : List ℕ) (older : List Slot) (s : Slot) (chain : ℕ) → IsLinked heads older → chain_of (length heads) s.name < length heads → chain < length heads →
    get_or (set heads (chain_of (length heads) s.name) (length older + 1)) chain 0 ≡ head_in (length heads) chain (s ∷ older)
head_more heads older s chain linked within below = by_case (cases_eq (chain_of (length heads) s.name) chain)
  where
    by_case : (chain_of (length heads) s.name ≡ chain) ⊎ (chain_of (length heads) s.name ≡ chain → ⊥) →
        get_or (set heads (chain_of (length heads) s.name) (length older + 1)) chain 0 ≡ cond (chain_of (length heads) s.name == chain) (length older + 1) (head_in (length heads) chain older)
    by_case (inl here) =
        ap (λ k. get_or (set heads (chain_of (length heads) s.name) (length older + 1)) k 0) (sym here)
        ∙ (get_or-set_same heads (chain_of (length heads) s.name) (length older + 1) 0 within
        ∙ sym (cond-true (chain_of (length heads) s.name == chain) (length older + 1) (head_in (length heads) chain older) (eq-eqb (chain_of (length heads) s.name) chain here)))
    by_case (inr other) =
        get_or-set_other heads (chain_of (length heads) s.name) chain (length older + 1) 0 (λ same. other (sym same))
        ∙ (linked.heads_are chain below
        ∙ sym (cond-false (chain_of (length heads) s.name == chain) (length older + 1) (head_in (length heads) chain older) (ne_eqb (chain_of (length heads) s.name) chain other)))

-- a slot that leads to where its chain began, which begins at it from now on
pub linked_more : (heads after : List ℕ) (older : List Slot) (s : Slot) → IsLinked heads older → chain_of (length heads) s.name < length heads →
    s.link ≡ get_or heads (chain_of (length heads) s.name) 0 → after ≡ set heads (chain_of (length heads) s.name) (length older + 1) → IsLinked after (s ∷ older)
linked_more heads after older s linked within link is =
    let size : length after ≡ length heads = ap length is ∙ length-set heads (chain_of (length heads) s.name) (length older + 1) in
    record {
      some = λ some. omega (arith, within, size);
      heads_are = λ chain below.
          ap (λ xs. get_or xs chain 0) is
          ∙ (head_more heads older s chain linked within (omega (arith, below, size)) ∙ ap (λ count. head_in count chain (s ∷ older)) (sym size));
      links = subst (λ count. AreLinks count (s ∷ older)) (sym size) (link ∙ linked.heads_are (chain_of (length heads) s.name) within, linked.links);
    }

-- a new link leaves what else the slots have
pub relinked_at : (items slots : List Slot) (place link : ℕ) (d : Slot) → place < length slots → map unlinked slots ≡ map unlinked items →
    map unlinked (set slots place (record (get_or slots place d) { link = link })) ≡ map unlinked items
relinked_at items slots place link d inside same =
    map-set unlinked slots place (record (get_or slots place d) { link = link })
    ∙ (ap (λ s. set (map unlinked slots) place s) (sym (get_or-map unlinked slots place d d inside)) ∙ (set-get_or (map unlinked slots) place d ∙ same))

-- one slot more is linked
pub linked_next : (heads after : List ℕ) (slots : List Slot) (place link : ℕ) (d : Slot) → place < length slots → place + 1 < 2 ^ 32 → IsLinked heads (reverse (take place slots)) →
    (place + 1 < 2 ^ 32 → chain_of (length heads) (get_or slots place d).name < length heads) →
    (place + 1 < 2 ^ 32 → link ≡ get_or heads (chain_of (length heads) (get_or slots place d).name) 0) →
    (place + 1 < 2 ^ 32 → after ≡ set heads (chain_of (length heads) (get_or slots place d).name) (place + 1)) →
    IsLinked after (reverse (take (place + 1) (set slots place (record (get_or slots place d) { link = link }))))
linked_next heads after slots place link d inside few linked within read is =
    let s : Slot = record (get_or slots place d) { link = link } in
    let older = reverse (take place slots) in
    let size : length older ≡ place = older_length slots place (omega (arith, inside)) in
    subst (IsLinked after) (sym (ap reverse (take_more_set slots place s inside) ∙ reverse-append (take place slots) (s ∷ [])))
    (linked_more heads after older s linked (within few) (read few) (is few ∙ ap (λ p. set heads (chain_of (length heads) s.name) (p + 1)) (sym size)))
