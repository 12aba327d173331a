-- What is gathered of entries by their places, against the definition.
use Rattle.std.proofs.Common.{◌≡◌, ℕ, ◌==◌, ◌+◌, ◌-◌, ◌≤◌, ◌<◌, List, [], ◌∷◌, length, get_or, take, map, reverse, vec_len, vec_capacity, refl, ap, ◌∙◌, sym, subst, arith}
use Rattle.std.specs.Prelude.{Option, Some, slice_get}
use Rattle.std.proofs.lemmas.List.{reverse-append, take_more, take_all}
use Rattle.lit_base.specs.Literal.{Literal}
use Rattle.lit_base.specs.declared.trail.Entry.{Entry}
use Rattle.lit_base.specs.declared.name.Name.{Name}
use Rattle.lit_base.specs.Analysis.{Trace, touch, settle}
use Rattle.first_uip.specs.Places.{AreAt}
use Rattle.first_uip.specs.Room.{IsSameRoom, IsSameGathered, HasSpare}
use Rattle.first_uip.specs.Walked.{IsGathered, settled}
use Rattle.first_uip.specs.declared.walk.Walk.{Walk}

-- where the lists are the same, so is what was gathered, and so is the room
pub gathered_same : (level : ℕ) (walk after : Walk) (t : Trace) → IsSameGathered walk after → IsGathered level walk t → IsGathered level after t
gathered_same level walk after t same has = record {
  lemma = ap (λ lits. lits.items) same.lits ∙ has.lemma;
  jump = same.back ∙ has.jump;
  turned = ap (λ hints. hints.items) same.hints ∙ has.turned;
  met = ap (λ touched. touched.items) same.touched ∙ has.met;
}

pub spare_same : (entries fewer : ℕ) (walk after : Walk) → fewer ≤ entries → IsSameGathered walk after → HasSpare entries walk → HasSpare fewer after
spare_same entries fewer walk after less same spare = record {
  lits = omega (arith, spare.lits, ap vec_len same.lits, ap vec_capacity same.lits);
  hints = omega (arith, spare.hints, ap vec_len same.hints, ap vec_capacity same.hints);
  touched = omega (arith, spare.touched, ap vec_len same.touched, ap vec_capacity same.touched);
}

pub room_same : (walk next after : Walk) → IsSameRoom walk next → IsSameRoom next after → IsSameRoom walk after
room_same walk next after first then = record {
  lits = then.lits ∙ first.lits;
  hints = then.hints ∙ first.hints;
  touched = then.touched ∙ first.touched;
  places = then.places ∙ first.places;
}

pub same_gathered : (walk next after : Walk) → IsSameGathered walk next → IsSameGathered next after → IsSameGathered walk after
same_gathered walk next after first then = record {
  lits = then.lits ∙ first.lits;
  hints = then.hints ∙ first.hints;
  back = then.back ∙ first.back;
  touched = then.touched ∙ first.touched;
}

-- a walk that has met all but the entries at these places: it stands at a trace from which they lead where all lead
pub record IsOnWay (look : Name → Option (List Literal)) (trail : List Entry) (level : ℕ) (places : List ℕ) (walk : Walk) (entries : List Entry) (t : Trace) : Type 0 where
  pub here : Trace
  pub left : List Entry
  pub at : AreAt trail places left
  pub stands : IsGathered level walk here
  pub rest : settled look left here ≡ settled look entries t

-- the first of the entries that are left
record IsFirst (e : Entry) (later : List (Option Entry)) (left : List Entry) : Type 0 where
  others : List Entry
  is : left ≡ e ∷ others
  rest : later ≡ map Some others

first_left : (x : Option Entry) (later : List (Option Entry)) (e : Entry) (left : List Entry) → x ∷ later ≡ map Some left → x ≡ Some e → IsFirst e later left
first_left x later e [] is here = absurd (cc)
first_left x later e (y ∷ others) is here = record { others = others; is = let same : y ≡ e = cc in ap (λ z. z ∷ others) same; rest = cc }

-- the place at an index is the first of those up to it, the last one first
last_first : (places : List ℕ) (index place : ℕ) → 0 < index → index ≤ length places → place ≡ get_or places (index - 1) place → reverse (take index places) ≡ place ∷ reverse (take (index - 1) places)
last_first places index place some within is =
    let next : index ≡ index - 1 + 1 = omega arith in
    ap (λ n. reverse (take n places)) next
    ∙ (ap reverse (take_more places (index - 1) place (omega arith))
    ∙ (reverse-append (take (index - 1) places) (get_or places (index - 1) place ∷ []) ∙ ap (λ p. p ∷ reverse (take (index - 1) places)) (sym is)))

-- one entry more is met
pub way_more : (look : Name → Option (List Literal)) (trail : List Entry) (level : ℕ) (places : List ℕ) (index place : ℕ) (e : Entry) (walk after : Walk) (entries : List Entry) (t : Trace) →
    0 < index → index ≤ length places → place ≡ get_or places (index - 1) place → slice_get (reverse trail) place ≡ Some e →
    ((now : Trace) → IsGathered level walk now → IsGathered level after (settle look (e.level == 0) e (touch e now))) → IsOnWay look trail level (take index places) walk entries t →
    IsOnWay look trail level (take (index - 1) places) after entries t
way_more look trail level places index place e walk after entries t some within is there gathers way =
    let turned = ap (map (slice_get (reverse trail))) (last_first places index place some within is) in
    let first = first_left (slice_get (reverse trail) place) (map (slice_get (reverse trail)) (reverse (take (index - 1) places))) e way.left (sym turned ∙ way.at) there in
    record {
      here = settle look (e.level == 0) e (touch e way.here);
      left = first.others;
      at = first.rest;
      stands = gathers way.here way.stands;
      rest = sym (ap (λ left. settled look left way.here) first.is) ∙ way.rest;
    }

-- at first all are left
pub way_begins : (look : Name → Option (List Literal)) (trail : List Entry) (level : ℕ) (places : List ℕ) (index : ℕ) (walk : Walk) (entries : List Entry) (t : Trace) → length places ≤ index →
    AreAt trail places entries → IsGathered level walk t → IsOnWay look trail level (take index places) walk entries t
way_begins look trail level places index walk entries t all at has = record {
  here = t;
  left = entries;
  at = ap (λ ps. map (slice_get (reverse trail)) (reverse ps)) (take_all index places all) ∙ at;
  stands = has;
  rest = refl;
}

none_left : (look : Name → Option (List Literal)) (left : List Entry) (t : Trace) → [] ≡ map Some left → settled look left t ≡ t
none_left look [] t is = refl
none_left look (e ∷ others) t is = absurd (cc)

-- in the end none is
pub way_ends : (look : Name → Option (List Literal)) (trail : List Entry) (level : ℕ) (places : List ℕ) (index : ℕ) (walk : Walk) (entries : List Entry) (t : Trace) → index ≡ 0 →
    IsOnWay look trail level (take index places) walk entries t → IsGathered level walk (settled look entries t)
way_ends look trail level places index walk entries t is way =
    let none : [] ≡ map Some way.left = ap (λ n. map (slice_get (reverse trail)) (reverse (take n places))) (sym is) ∙ way.at in
    subst (IsGathered level walk) (sym (none_left look way.left way.here none) ∙ way.rest) way.stands
