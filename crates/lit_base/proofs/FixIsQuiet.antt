-- Where propagation ends without a conflict, no clause is unit or falsified.
use Rattle.std.proofs.Common.{◌≡◌, ℕ, Bool, true, false, cond, not, ◌&&◌, ◌||◌, List, [], ◌∷◌, ◌++◌, length, length-append, refl, ap, ◌∙◌, sym, subst, arith, All}
use Rattle.std.specs.Prelude.{Option, Some, None, find}
use Rattle.std.specs.List.{list_all}
use Rattle.std.proofs.lemmas.Bool.{and_parts}
use Rattle.std.proofs.lemmas.Option.{same_Some}
use Rattle.lit_base.specs.Literal.{Literal, IsWithin, same}
use Rattle.lit_base.specs.Trail.{is_false, is_free, level_now}
use Rattle.lit_base.specs.Rounds.{NamedClause, only_free, unit_of, conflict_of, with_unit, with_units, round_by, propagate}
use Rattle.lit_base.specs.Quiet.{AreQuiet}
use Rattle.lit_base.specs.declared.trail.Entry.{Entry}
use Rattle.lit_base.proofs.FixedPoint.{with_units_front, round-propagate, conflict_of-propagate}
use Rattle.lit_base.proofs.FullTrail.{first_holds, others_hold}

free_by : (trail : List Entry) (k l : Literal) (rest b : Bool) → (is_free trail k.variable && rest) ≡ b → cond b (Some k) None ≡ Some l → is_free trail l.variable ≡ true
free_by trail k l rest true is some = subst (λ m. is_free trail m.variable ≡ true) (same_Some k l some) (and_parts (is_free trail k.variable) rest is).0
free_by trail k l rest false is some = cc

only_free_is_free : (trail : List Entry) (lits : List Literal) (l : Literal) (o : Option Literal) → only_free trail lits o ≡ Some l → is_free trail l.variable ≡ true
only_free_is_free trail lits l None some = cc
only_free_is_free trail lits l (Some k) some =
    let rest = list_all (λ m. is_false trail m || same m k) lits in free_by trail k l rest (is_free trail k.variable && rest) refl some

-- the literal of a unit clause is free
pub unit_is_free : (trail : List Entry) (lits : List Literal) (l : Literal) → unit_of trail lits ≡ Some l → is_free trail l.variable ≡ true
unit_is_free trail lits l some = only_free_is_free trail lits l (find (λ m. not (is_false trail m)) lits) some

-- units that are added to one more entry don't give the trail back
longer : (snapshot : List Entry) (clauses : List NamedClause) (e : Entry) (trail : List Entry) → with_units snapshot clauses (e ∷ trail) ≡ trail → ⊥
longer snapshot clauses e trail same =
    let front = with_units_front snapshot clauses (e ∷ trail) in
    let long : length (front.0 ++ e ∷ trail) ≡ length trail = ap length (sym front.1 ∙ same) in
    omega (arith, length-append front.0 (e ∷ trail))

-- where a unit adds nothing there is none, and the later ones add nothing
nothing_added : (trail : List Entry) (c : NamedClause) (others : List NamedClause) (unit : Option Literal) → unit_of trail c.lits ≡ unit →
    with_units trail others (with_unit c.name unit trail) ≡ trail → (unit ≡ None) × (with_units trail others trail ≡ trail)
nothing_added trail c others None is same = (refl, same)
nothing_added trail c others (Some l) is same =
    let e : Entry = record { lit = l; level = level_now trail; reason = Some c.name } in
    absurd (longer trail others e trail (sym (ap (λ b. with_units trail others (cond b (e ∷ trail) trail)) (unit_is_free trail c.lits l is)) ∙ same))

-- no clause is falsified or unit where there is no conflict and a round adds nothing
quiet_clauses : (trail : List Entry) (clauses : List NamedClause) → conflict_of trail clauses ≡ None → with_units trail clauses trail ≡ trail → AreQuiet trail clauses
quiet_clauses trail [] none same = tt
quiet_clauses trail (c ∷ others) none same =
    let nothing = nothing_added trail c others (unit_of trail c.lits) refl same in
    (record { not_falsified = first_holds trail c others none; not_unit = nothing.0 }, quiet_clauses trail others (others_hold trail c others none) nothing.1)

-- the fixed point of propagation is quiet
pub fix_quiet : (variables : ℕ) (clauses : List NamedClause) (trail : List Entry) → All (λ c. All (IsWithin variables) c.lits) clauses →
    (propagate variables clauses trail).conflict ≡ None → AreQuiet (propagate variables clauses trail).trail clauses
fix_quiet variables clauses trail within none =
    let end = propagate variables clauses trail in
    let calm : conflict_of end.trail clauses ≡ None = conflict_of-propagate variables clauses trail within ∙ none in
    quiet_clauses end.trail clauses calm
    (sym (ap (λ o. (round_by clauses end.trail o).trail) calm) ∙ ap (λ r. r.trail) (round-propagate variables clauses trail within))
