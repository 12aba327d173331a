-- What a clause's two links say, as a trail grows and as one of them becomes false.
use Rattle.std.proofs.Common.{◌≡◌, ◌⊎◌, ℕ, ◌+◌, ◌≤◌, ◌==◌, Bool, true, false, cond, not, ◌&&◌, ◌||◌, List, [], ◌∷◌, ◌++◌, length, refl, inl, inr, ap, sym, ◌∙◌, subst, arith}
use Rattle.std.specs.Prelude.{Option, Some, None, nat_lt, nat_le}
use Rattle.std.specs.List.{list_all, list_any}
use Rattle.std.proofs.lemmas.Bool.{cases_Bool, eqb-true}
use Rattle.std.proofs.lemmas.Option.{same_Some}
use Rattle.lit_base.specs.Literal.{Literal, same}
use Rattle.lit_base.specs.Trail.{sign_of, is_true, is_false, is_free}
use Rattle.lit_base.specs.Rounds.{is_falsified, unit_of}
use Rattle.lit_base.specs.Fits.{HasDistinctVariables, IsImplied}
use Rattle.lit_base.specs.Quiet.{IsQuiet, IsOneOf}
use Rattle.lit_base.specs.declared.trail.Entry.{Entry}
use Rattle.lit_base.proofs.DistinctLits.{same-true}
use Rattle.lit_base.proofs.FixIsQuiet.{unit_is_free}
use Rattle.lit_base.proofs.Known.{all_when, all_at, any_at, same_itself}
use Rattle.lit_base.proofs.PropagationFits.{unit_implied}
use Rattle.lit_base.proofs.Standing.{Stands, negation_stands, false_from_stands, newest_stands, Extends, newest_extends, false_extends}
use Rattle.round_prop.specs.Linked.{IsPart, IsPair, IsGuarded, AreOthersFalse, IsFine, IsLinked, AreFalseWith, IsWaiting, IsPending, place_in, AreAllBut, IsLatest, IsStep}
use Rattle.round_prop.proofs.OlderParts.{part_extends, part_distinct, part_itself, part_of_part, nested, true_extends, true_not_false, true_not_free, free_not_false, not_false_before, others_extends, false_at, true_at}

never : true ≡ false → ⊥
never is = cc

-- a Bool is not both
pub not_both : (b : Bool) → b ≡ true → b ≡ false → ⊥
not_both b one other = never (sym one ∙ other)

-- parts of a disjunction
or_first : (a b : Bool) → b ≡ false → (a || b) ≡ true → a ≡ true
or_first true b is either = refl
or_first false b is either = absurd (never (sym either ∙ is))

or_second : (a b : Bool) → a ≡ false → (a || b) ≡ true → b ≡ true
or_second true b is either = absurd (never is)
or_second false b is either = either

or_cases : (a b : Bool) → (a || b) ≡ true → (a ≡ true) ⊎ (b ≡ true)
or_cases true b either = inl refl
or_cases false b either = inr either

or_left : (a b : Bool) → a ≡ true → (a || b) ≡ true
or_left a b is = ap (λ c. c || b) is

or_right : (a b : Bool) → b ≡ true → (a || b) ≡ true
or_right true b is = refl
or_right false b is = is

or_swap : (a b : Bool) → (a || b) ≡ (b || a)
or_swap true true = refl
or_swap true false = refl
or_swap false true = refl
or_swap false false = refl

-- beside the one literal of a clause beside which all are false there is none that isn't
pub beside : (trail : List Entry) (lits : List Literal) (l a : Literal) → IsImplied trail l lits → IsOneOf lits a → is_false trail a ≡ false → a ≡ l
beside trail lits l a implied held lives =
    same-true a l (or_second (is_false trail a) (same a l) lives (all_at (λ m. is_false trail m || same m l) lits a implied.others held))

lives_not_falsified : (trail : List Entry) (lits : List Literal) (a : Literal) → IsOneOf lits a → is_false trail a ≡ false → is_falsified trail lits ≡ false
lives_not_falsified trail lits a held lives = by_test (is_falsified trail lits) refl
  where
    by_test : (b : Bool) → is_falsified trail lits ≡ b → b ≡ false
    by_test true is = absurd (not_both (is_false trail a) (all_at (λ m. is_false trail m) lits a is held) lives)
    by_test false is = refl

quiet_by : (trail : List Entry) (lits : List Literal) (a : Literal) → IsOneOf lits a → is_false trail a ≡ false →
    ((l : Literal) → IsImplied trail l lits → is_free trail l.variable ≡ true → ⊥) → IsQuiet trail lits
quiet_by trail lits a held lives none = record { not_falsified = lives_not_falsified trail lits a held lives; not_unit = by_unit (unit_of trail lits) refl }
  where
    by_unit : (o : Option Literal) → unit_of trail lits ≡ o → o ≡ None
    by_unit None is = refl
    by_unit (Some l) is = absurd (none l (unit_implied trail lits l is) (unit_is_free trail lits l is))

-- a clause with a true literal is quiet
quiet_by_true : (trail : List Entry) (lits : List Literal) (a : Literal) → IsOneOf lits a → is_true trail a ≡ true → IsQuiet trail lits
quiet_by_true trail lits a held holds =
    quiet_by trail lits a held (true_not_false trail a holds)
    (λ l implied free. not_both (is_free trail l.variable) free (ap (λ (m : Literal). is_free trail m.variable) (sym (beside trail lits l a implied held (true_not_false trail a holds))) ∙ true_not_free trail a holds))

pub true_quiet : (trail : List Entry) (lits : List Literal) → list_any (λ m. is_true trail m) lits ≡ true → IsQuiet trail lits
true_quiet trail lits some = let one = any_at (λ m. is_true trail m) lits some in quiet_by_true trail lits one.0 one.2 one.1

not_pair : (lits : List Literal) (a b : Literal) → IsPair lits a b → a ≡ b → ⊥
not_pair lits a b pair is = not_both (same a b) (subst (λ m. same a m ≡ true) is (same_itself a)) pair.apart

-- a guarded clause is quiet
pub guarded_quiet : (trail : List Entry) (lits : List Literal) (a b : Literal) → IsPair lits a b → IsGuarded trail a b → IsQuiet trail lits
guarded_quiet trail lits a b pair (inl holds) = quiet_by_true trail lits a pair.first holds
guarded_quiet trail lits a b pair (inr (inl holds)) = quiet_by_true trail lits b pair.second holds
guarded_quiet trail lits a b pair (inr (inr (one, other))) =
    quiet_by trail lits a pair.first one
    (λ l implied free. not_pair lits a b pair (beside trail lits l a implied pair.first one ∙ sym (beside trail lits l b implied pair.second other)))

-- the links in the other order
pub pair_swap : (lits : List Literal) (a b : Literal) → IsPair lits a b → IsPair lits b a
pair_swap lits a b pair = record { first = pair.second; second = pair.first; apart = by_test (same b a) refl }
  where
    by_test : (s : Bool) → same b a ≡ s → s ≡ false
    by_test true is = absurd (not_pair lits a b pair (sym (same-true b a is)))
    by_test false is = refl

pub guarded_swap : (trail : List Entry) (a b : Literal) → IsGuarded trail a b → IsGuarded trail b a
guarded_swap trail a b (inl holds) = inr (inl holds)
guarded_swap trail a b (inr (inl holds)) = inl holds
guarded_swap trail a b (inr (inr (one, other))) = inr (inr (other, one))

pub others_swap : (trail : List Entry) (lits : List Literal) (a b : Literal) → AreOthersFalse trail lits a b → AreOthersFalse trail lits b a
others_swap trail lits a b are =
    all_when (λ m. is_false trail m || (same m a || same m b)) (λ m. is_false trail m || (same m b || same m a))
    (λ m held. sym (ap (λ s. is_false trail m || s) (or_swap (same m a) (same m b))) ∙ held) lits are

fine_swap : (trail : List Entry) (lits : List Literal) (a b : Literal) → IsFine trail lits a b → IsFine trail lits b a
fine_swap trail lits a b (inl guarded) = inl (guarded_swap trail a b guarded)
fine_swap trail lits a b (inr others) = inr (others_swap trail lits a b others)

pub linked_swap : (trail : List Entry) (lits : List Literal) (a b : Literal) → IsLinked trail lits a b → IsLinked trail lits b a
linked_swap trail lits a b linked part is = fine_swap part lits a b (linked part is)

-- a longer trail
guard_grows : (older newer : List Entry) (a b : Literal) → Extends older newer → IsGuarded older a b → (is_false newer a ≡ true → is_false older a ≡ true) → (is_false newer b ≡ true → is_false older b ≡ true) → IsGuarded newer a b
guard_grows older newer a b extends (inl holds) one other = inl (true_extends older newer a extends holds)
guard_grows older newer a b extends (inr (inl holds)) one other = inr (inl (true_extends older newer b extends holds))
guard_grows older newer a b extends (inr (inr (alive, too))) one other = inr (inr (still a alive one, still b too other))
  where
    still : (x : Literal) → is_false older x ≡ false → (is_false newer x ≡ true → is_false older x ≡ true) → is_false newer x ≡ false
    still x lives before = by_test (is_false newer x) refl
      where
        by_test : (s : Bool) → is_false newer x ≡ s → s ≡ false
        by_test true is = absurd (not_both (is_false older x) (before is) lives)
        by_test false is = refl

linked_grows : (older newer : List Entry) (lits : List Literal) (a b : Literal) → HasDistinctVariables newer → IsPart newer older → IsLinked older lits a b → IsGuarded older a b →
    (is_false newer a ≡ true → is_false older a ≡ true) → (is_false newer b ≡ true → is_false older b ≡ true) → IsLinked newer lits a b
linked_grows older newer lits a b distinct is linked guarded one other part inside = by_case (nested newer part older inside is)
  where
    extends : Extends part newer
    extends = part_extends newer part distinct inside

    by_case : IsPart part older ⊎ IsPart older part → IsFine part lits a b
    by_case (inl longer) =
        inl (guard_grows older part a b (part_extends part older (part_distinct newer part distinct inside) longer) guarded (λ lost. one (false_extends part newer a extends lost)) (λ lost. other (false_extends part newer b extends lost)))
    by_case (inr shorter) = linked part shorter

waits : (older newer : List Entry) (lits : List Literal) (a b : Literal) → Extends older newer → IsGuarded older a b → is_false newer a ≡ true → is_false older a ≡ false → IsWaiting newer older lits a b
waits older newer lits a b extends guarded lost lived = record { late = record { now = lost; before = lived }; other = inl (by_case guarded) }
  where
    by_case : IsGuarded older a b → is_false older b ≡ false
    by_case (inl holds) = absurd (not_both (is_false newer a) lost (true_not_false newer a (true_extends older newer a extends holds)))
    by_case (inr (inl holds)) = true_not_false older b holds
    by_case (inr (inr (alive, too))) = too

is_new : (older newer : List Entry) (x : Literal) → ((is_false newer x ≡ true) × (is_false older x ≡ false)) ⊎ (is_false newer x ≡ true → is_false older x ≡ true)
is_new older newer x = by_cases (cases_Bool (is_false newer x)) (cases_Bool (is_false older x))
  where
    by_cases : (is_false newer x ≡ true) ⊎ (is_false newer x ≡ false) → (is_false older x ≡ true) ⊎ (is_false older x ≡ false) →
        ((is_false newer x ≡ true) × (is_false older x ≡ false)) ⊎ (is_false newer x ≡ true → is_false older x ≡ true)
    by_cases (inl now) (inl before) = inr (λ lost. before)
    by_cases (inl now) (inr before) = inl (now, before)
    by_cases (inr now) before = inr (λ lost. absurd (not_both (is_false newer x) lost now))

-- a guarded clause stays so, or waits for the entry that made one of its links false
pub guarded_later : (older newer : List Entry) (lits : List Literal) (a b : Literal) → HasDistinctVariables newer → IsPart newer older → IsLinked older lits a b → IsGuarded older a b →
    (IsLinked newer lits a b × IsGuarded newer a b) ⊎ IsPending newer older lits a b
guarded_later older newer lits a b distinct is linked guarded = by_cases (is_new older newer a) (is_new older newer b)
  where
    extends : Extends older newer
    extends = part_extends newer older distinct is

    by_cases : ((is_false newer a ≡ true) × (is_false older a ≡ false)) ⊎ (is_false newer a ≡ true → is_false older a ≡ true) →
        ((is_false newer b ≡ true) × (is_false older b ≡ false)) ⊎ (is_false newer b ≡ true → is_false older b ≡ true) → (IsLinked newer lits a b × IsGuarded newer a b) ⊎ IsPending newer older lits a b
    by_cases (inl new) second = inr (inl (waits older newer lits a b extends guarded new.0 new.1))
    by_cases (inr old) (inl new) = inr (inr (waits older newer lits b a extends (guarded_swap older a b guarded) new.0 new.1))
    by_cases (inr old) (inr too) = inl (linked_grows older newer lits a b distinct is linked guarded old too, guard_grows older newer a b extends guarded old too)

-- where a clause is noted all its literals but its links are false
note_others : (trail : List Entry) (lits : List Literal) (a b m : Literal) → IsPair lits a b → IsFine trail lits a b → IsImplied trail m lits → AreOthersFalse trail lits a b
note_others trail lits a b m pair (inr others) implied = others
note_others trail lits a b m pair (inl guarded) implied = by_case guarded
  where
    weaker : (m ≡ a) ⊎ (m ≡ b) → AreOthersFalse trail lits a b
    weaker which =
        all_when (λ k. is_false trail k || same k m) (λ k. is_false trail k || (same k a || same k b)) (λ k held. step k which (or_cases (is_false trail k) (same k m) held)) lits implied.others
      where
        step : (k : Literal) → (m ≡ a) ⊎ (m ≡ b) → (is_false trail k ≡ true) ⊎ (same k m ≡ true) → (is_false trail k || (same k a || same k b)) ≡ true
        step k which (inl lost) = or_left (is_false trail k) (same k a || same k b) lost
        step k (inl is) (inr one) = or_right (is_false trail k) (same k a || same k b) (or_left (same k a) (same k b) (subst (λ n. same k n ≡ true) is one))
        step k (inr is) (inr one) = or_right (is_false trail k) (same k a || same k b) (or_right (same k a) (same k b) (subst (λ n. same k n ≡ true) is one))

    by_case : IsGuarded trail a b → AreOthersFalse trail lits a b
    by_case (inl holds) = weaker (inl (sym (beside trail lits m a implied pair.first (true_not_false trail a holds))))
    by_case (inr (inl holds)) = weaker (inr (sym (beside trail lits m b implied pair.second (true_not_false trail b holds))))
    by_case (inr (inr (alive, too))) = absurd (not_pair lits a b pair (beside trail lits m a implied pair.first alive ∙ sym (beside trail lits m b implied pair.second too)))

-- so its links stay right whatever comes
pub noted_later : (older newer : List Entry) (lits : List Literal) (a b m : Literal) → HasDistinctVariables newer → IsPart newer older → IsPair lits a b → IsLinked older lits a b → IsImplied older m lits → IsLinked newer lits a b
noted_later older newer lits a b m distinct is pair linked implied part inside = by_case (nested newer part older inside is)
  where
    by_case : IsPart part older ⊎ IsPart older part → IsFine part lits a b
    by_case (inl longer) = inr (others_extends older part lits a b (part_extends part older (part_distinct newer part distinct inside) longer) (note_others older lits a b m pair (linked older (part_itself older)) implied))
    by_case (inr shorter) = linked part shorter

-- and guard it once the note's literal is true
pub answered : (older newer : List Entry) (lits : List Literal) (a b m : Literal) → HasDistinctVariables newer → IsPart newer older → IsPair lits a b → IsLinked older lits a b → IsImplied older m lits → is_true newer m ≡ true → IsGuarded newer a b
answered older newer lits a b m distinct is pair linked implied holds =
    by_case (or_cases (same m a) (same m b) (or_second (is_false older m) (same m a || same m b) lives (all_at (λ k. is_false older k || (same k a || same k b)) lits m others implied.held)))
  where
    others : AreOthersFalse older lits a b
    others = note_others older lits a b m pair (linked older (part_itself older)) implied

    lives : is_false older m ≡ false
    lives = not_false_before newer older m (part_extends newer older distinct is) (true_not_false newer m holds)

    by_case : (same m a ≡ true) ⊎ (same m b ≡ true) → IsGuarded newer a b
    by_case (inl one) = inl (subst (λ k. is_true newer k ≡ true) (same-true m a one) holds)
    by_case (inr one) = inr (inl (subst (λ k. is_true newer k ≡ true) (same-true m b one) holds))

-- one entry more
module _ (trail done next : List Entry) (own : Literal) (step : IsStep trail done next own) where
  next_extends : Extends next trail
  next_extends = part_extends trail next step.distinct step.part

  next_distinct : HasDistinctVariables (step.newest ∷ done)
  next_distinct = subst HasDistinctVariables step.is (part_distinct trail next step.distinct step.part)

  done_extends : Extends done next
  done_extends v sign found = ap (λ t. sign_of t v) step.is ∙ newest_extends step.newest done next_distinct.0 v sign found

  pub done_part : IsPart trail done
  done_part = part_of_part trail next done step.part (record { newer = step.newest ∷ []; front = step.is })

  pub own_now : is_false next own ≡ true
  own_now = false_from_stands next own (subst (λ l. Stands next l) step.falsifies (subst (λ t. Stands t step.newest.lit) (sym step.is) (newest_stands step.newest done)))

  pub own_lost : is_false trail own ≡ true
  own_lost = false_extends next trail own next_extends own_now

  pub own_before : is_false done own ≡ false
  own_before = free_not_false done own (subst (λ (l : Literal). is_free done l.variable ≡ true) step.falsifies next_distinct.0)

  -- nothing else becomes false by it
  pub only_own : (x : Literal) → is_false next x ≡ true → (is_false done x ≡ true) ⊎ (x ≡ own)
  only_own x lost = by_test (step.newest.lit.variable == x.variable) refl (sym (ap (λ t. sign_of t x.variable) step.is) ∙ negation_stands next x lost)
    where
      not_same : (a b : Bool) → not a ≡ not b → b ≡ a
      not_same true true is = refl
      not_same true false is = cc
      not_same false true is = cc
      not_same false false is = refl

      joined : (v w : ℕ) (p q : Bool) → v ≡ w → p ≡ q → (let k : Literal = record { variable = v; positive = p } in k) ≡ record { variable = w; positive = q }
      joined v w p q one two = cc

      by_test : (b : Bool) → (step.newest.lit.variable == x.variable) ≡ b → cond b (Some step.newest.lit.positive) (sign_of done x.variable) ≡ Some (not x.positive) → (is_false done x ≡ true) ⊎ (x ≡ own)
      by_test true is found =
          let variable : x.variable ≡ own.variable = sym (eqb-true step.newest.lit.variable x.variable is) ∙ ap (λ (l : Literal). l.variable) step.falsifies in
          let sign : not own.positive ≡ not x.positive = sym (ap (λ (l : Literal). l.positive) step.falsifies) ∙ same_Some step.newest.lit.positive (not x.positive) found in
          inr (joined x.variable own.variable x.positive own.positive variable (not_same own.positive x.positive sign))
      by_test false is found = inl (false_from_stands done x found)

  -- a clause is linked, or waits
  module _ (lits : List Literal) (other : Literal) (pair : IsPair lits own other) (met : IsLinked trail lits own other ⊎ IsPending trail done lits own other) where
    -- where its other link was false before, all other literals were
    old_others : (part : List Entry) → IsPart trail part → IsPart done part → is_false part other ≡ true → AreOthersFalse part lits own other
    old_others part inside before lost = by_case met
      where
        extends : Extends part trail
        extends = part_extends trail part step.distinct inside

        old : is_false done other ≡ true
        old = false_extends part done other (part_extends done part (part_distinct trail done step.distinct done_part) before) lost

        fine : IsFine part lits own other → AreOthersFalse part lits own other
        fine (inl (inl holds)) = absurd (not_both (is_false trail own) own_lost (true_not_false trail own (true_extends part trail own extends holds)))
        fine (inl (inr (inl holds))) = absurd (not_both (is_false part other) lost (true_not_false part other holds))
        fine (inl (inr (inr (one, two)))) = absurd (not_both (is_false part other) lost two)
        fine (inr others) = others

        waiting : (is_false done other ≡ false) ⊎ AreFalseWith trail lits own other other → AreOthersFalse part lits own other
        waiting (inl lives) = absurd (not_both (is_false done other) old lives)
        waiting (inr others) = others part inside lost

        by_case : IsLinked trail lits own other ⊎ IsPending trail done lits own other → AreOthersFalse part lits own other
        by_case (inl linked) = fine (linked part inside)
        by_case (inr (inl one)) = waiting one.other
        by_case (inr (inr two)) = absurd (not_both (is_false done other) old two.late.before)

    -- it is linked by a literal that isn't false instead
    pub moved : (m : Literal) → IsOneOf lits m → same m other ≡ false → is_false trail m ≡ false → (IsLinked trail lits m other × IsGuarded trail m other) ⊎ IsPending trail next lits m other
    moved m held apart lives = by_other (cases_Bool (is_false trail other)) (cases_Bool (is_false next other))
      where
        alive : (part : List Entry) (x : Literal) → IsPart trail part → is_false trail x ≡ false → is_false part x ≡ false
        alive part x inside = not_false_before trail part x (part_extends trail part step.distinct inside)

        not_old : is_false done other ≡ true → ⊥
        not_old lost = by_cases (or_cases (is_false done m) (same m own || same m other) (all_at (λ k. is_false done k || (same k own || same k other)) lits m (old_others done done_part (part_itself done) lost) held))
          where
            by_cases : (is_false done m ≡ true) ⊎ ((same m own || same m other) ≡ true) → ⊥
            by_cases (inl gone) = not_both (is_false trail m) (false_extends done trail m (part_extends trail done step.distinct done_part) gone) lives
            by_cases (inr one) = not_both (is_false trail m) (subst (λ k. is_false trail k ≡ true) (sym (same-true m own (or_first (same m own) (same m other) apart one))) own_lost) lives

        by_step : (is_false done other ≡ true) ⊎ (other ≡ own) → ⊥
        by_step (inl lost) = not_old lost
        by_step (inr is) = not_pair lits own other pair (sym is)

        by_other : (is_false trail other ≡ true) ⊎ (is_false trail other ≡ false) → (is_false next other ≡ true) ⊎ (is_false next other ≡ false) → (IsLinked trail lits m other × IsGuarded trail m other) ⊎ IsPending trail next lits m other
        by_other (inr lives_too) now = inl (λ part inside. inl (inr (inr (alive part m inside lives, alive part other inside lives_too))), inr (inr (lives, lives_too)))
        by_other (inl lost) (inr later) = inr (inr (record { late = record { now = lost; before = later }; other = inl (not_false_before trail next m next_extends lives) }))
        by_other (inl lost) (inl now) = absurd (by_step (only_own other now))

    -- the other link is true since before: nothing has to be done
    pub blocked : is_true trail other ≡ true → nat_lt (place_in trail other) (place_in trail own) ≡ true → IsLinked trail lits own other × IsGuarded trail own other
    blocked holds older = (λ part inside. by_test part inside (cases_Bool (is_true part other)), inr (inl holds))
      where
        outside : (a b n : ℕ) → nat_lt a b ≡ true → nat_lt a n ≡ false → nat_lt b n ≡ false
        outside a b n less past = grind arith

        by_test : (part : List Entry) → IsPart trail part → (is_true part other ≡ true) ⊎ (is_true part other ≡ false) → IsFine part lits own other
        by_test part inside (inl yet) = inl (inr (inl yet))
        by_test part inside (inr not_yet) =
            let past = sym (true_at trail part other step.distinct inside holds) ∙ not_yet in
            let own_later : is_false part own ≡ false = false_at trail part own step.distinct inside own_lost ∙ outside (place_in trail other) (place_in trail own) (length part) older past in
            inl (inr (inr (own_later, not_false_before trail part other (part_extends trail part step.distinct inside) (true_not_false trail other holds))))

    module _ (last : Literal) (all : AreAllBut trail other lits) (latest : IsLatest trail lits other last) where
      last_lost : is_false trail last ≡ true
      last_lost = or_first (is_false trail last) (same last other) latest.apart (all_at (λ m. is_false trail m || same m other) lits last all latest.held)

      place_own : length done ≤ place_in trail own
      place_own = bound (place_in trail own) (length done) (sym (false_at trail done own step.distinct done_part own_lost) ∙ own_before)
        where
          bound : (p n : ℕ) → nat_lt p n ≡ false → n ≤ p
          bound p n is = grind arith

      -- it is linked by the literal that becomes false last, and waits for it
      pub stuck_late : nat_lt (place_in trail own) (place_in trail last) ≡ true → IsPending trail next lits last other
      stuck_late later = inl (record { late = record { now = last_lost; before = not_yet }; other = inl (by_test (is_false next other) refl) })
        where
          past : (p q n : ℕ) → n ≤ p → nat_lt p q ≡ true → nat_lt q (n + 1) ≡ false
          past p q n most less = grind arith

          long : length next ≡ length done + 1
          long = let e = ap length step.is in omega (arith, e)

          not_yet : is_false next last ≡ false
          not_yet = false_at trail next last step.distinct step.part last_lost ∙ (ap (λ n. nat_lt (place_in trail last) n) long ∙ past (place_in trail own) (place_in trail last) (length done) place_own later)

          itself : (p : ℕ) → nat_lt p p ≡ true → ⊥
          itself p is = grind arith

          by_cases : (is_false done last ≡ true) ⊎ ((same last own || same last other) ≡ true) → ⊥
          by_cases (inl gone) = not_both (is_false next last) (false_extends done next last done_extends gone) not_yet
          by_cases (inr one) =
              itself (place_in trail own) (subst (λ k. nat_lt (place_in trail own) (place_in trail k) ≡ true) (same-true last own (or_first (same last own) (same last other) latest.apart one)) later)

          by_step : (is_false done other ≡ true) ⊎ (other ≡ own) → ⊥
          by_step (inl lost) = by_cases (or_cases (is_false done last) (same last own || same last other) (all_at (λ k. is_false done k || (same k own || same k other)) lits last (old_others done done_part (part_itself done) lost) latest.held))
          by_step (inr is) = not_pair lits own other pair (sym is)

          by_test : (b : Bool) → is_false next other ≡ b → b ≡ false
          by_test true now = absurd (by_step (only_own other now))
          by_test false now = refl

      -- it keeps its link, where that is the one
      pub stuck_own : nat_lt (place_in trail own) (place_in trail last) ≡ false → IsLinked trail lits own other
      stuck_own most part inside = by_test (cases_Bool (is_false part own)) (cases_Bool (is_false part other))
        where
          within : (p q m n : ℕ) → nat_lt p q ≡ false → nat_le m q ≡ true → nat_lt p n ≡ true → nat_lt m n ≡ true
          within p q m n no_less le less = grind arith

          each : is_false part own ≡ true → (m : Literal) → ((same m other || nat_le (place_in trail m) (place_in trail last)) ≡ true) → ((is_false trail m || same m other) ≡ true) → (is_false part m || (same m own || same m other)) ≡ true
          each gone m le but = by_same (cases_Bool (same m other))
            where
              by_same : (same m other ≡ true) ⊎ (same m other ≡ false) → (is_false part m || (same m own || same m other)) ≡ true
              by_same (inl is) = or_right (is_false part m) (same m own || same m other) (or_right (same m own) (same m other) is)
              by_same (inr no_other) =
                  or_left (is_false part m) (same m own || same m other)
                  (false_at trail part m step.distinct inside (or_first (is_false trail m) (same m other) no_other but)
                  ∙ within (place_in trail own) (place_in trail last) (place_in trail m) (length part) most (or_second (same m other) (nat_le (place_in trail m) (place_in trail last)) no_other le)
                  (sym (false_at trail part own step.distinct inside own_lost) ∙ gone))

          before : is_false part own ≡ false → IsPart done part
          before lives = by_nested (nested trail part next inside step.part)
            where
              by_front : (newer : List Entry) → next ≡ newer ++ part → IsPart done part
              by_front [] front = absurd (not_both (is_false part own) (subst (λ t. is_false t own ≡ true) front own_now) lives)
              by_front (x ∷ newer) front = record { newer = newer; front = tails (sym step.is ∙ front) }
                where
                  tails : step.newest ∷ done ≡ x ∷ (newer ++ part) → done ≡ newer ++ part
                  tails same_lists = cc

              by_nested : IsPart part next ⊎ IsPart next part → IsPart done part
              by_nested (inl longer) = absurd (not_both (is_false part own) (false_extends next part own (part_extends part next (part_distinct trail part step.distinct inside) longer) own_now) lives)
              by_nested (inr shorter) = by_front shorter.newer shorter.front

          by_test : (is_false part own ≡ true) ⊎ (is_false part own ≡ false) → (is_false part other ≡ true) ⊎ (is_false part other ≡ false) → IsFine part lits own other
          by_test (inl gone) second = inr (both_all lits (λ m. same m other || nat_le (place_in trail m) (place_in trail last)) (λ m. is_false trail m || same m other) (λ m. is_false part m || (same m own || same m other)) (each gone) latest.latest all)
            where
              both_all : (ls : List Literal) (p q r : Literal → Bool) → ((m : Literal) → p m ≡ true → q m ≡ true → r m ≡ true) → list_all p ls ≡ true → list_all q ls ≡ true → list_all r ls ≡ true
              both_all [] p q r gives one two = refl
              both_all (m ∷ later) p q r gives one two =
                  and_both (r m) (list_all r later) (gives m (and_first (p m) (list_all p later) one) (and_first (q m) (list_all q later) two))
                  (both_all later p q r gives (and_second (p m) (list_all p later) one) (and_second (q m) (list_all q later) two))
                where
                  and_first : (a b : Bool) → (a && b) ≡ true → a ≡ true
                  and_first true b is = refl
                  and_first false b is = absurd (never (sym is))

                  and_second : (a b : Bool) → (a && b) ≡ true → b ≡ true
                  and_second true b is = is
                  and_second false b is = absurd (never (sym is))

                  and_both : (a b : Bool) → a ≡ true → b ≡ true → (a && b) ≡ true
                  and_both a b one two = ap (λ x. x && b) one ∙ two
          by_test (inr lives) (inl lost) = inr (old_others part inside (before lives) lost)
          by_test (inr lives) (inr lives_too) = inl (inr (inr (lives, lives_too)))
