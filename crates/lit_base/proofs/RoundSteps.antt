-- One round after another, and one clause after another within a round.
use Rattle.std.proofs.Common.{◌≡◌, ◌≢◌, ℕ, suc, ◌+◌, ◌<◌, ◌≤◌, Bool, true, false, cond, List, [], ◌∷◌, ◌++◌, length, get_or, drop, take, reverse, refl, ap, ◌∙◌, sym, arith}
use Rattle.std.specs.Prelude.{Option, Some, None, is_some, if◌then◌else◌}
use Rattle.std.proofs.lemmas.List.{reverse-reverse, reverse-append, take-append-le}
use Rattle.std.proofs.Common.{length-append, add-one, drop-cons}
use Rattle.std.proofs.lemmas.Bool.{eq-eqb, ne_eqb}
use Rattle.lit_base.specs.Literal.{Literal}
use Rattle.lit_base.specs.declared.trail.Entry.{Entry}
use Rattle.lit_base.specs.declared.name.Name.{Name}
use Rattle.lit_base.specs.Trail.{is_free, level_now}
use Rattle.lit_base.specs.Rounds.{NamedClause, original, named_from, unit_of, Propagated, conflict_of, round_by, rounds, is_last, with_unit, with_units}

-- the rest of the rounds, from what a round over the snapshot answers
abbrev rest_of : ℕ → List NamedClause → List Entry → Propagated → Propagated
rest_of most clauses trail r = if is_last trail r then r else rounds most clauses r.trail

-- where propagation ends
abbrev ends_at : List Entry → Option Name → Propagated
ends_at trail conflict = record { trail = trail; conflict = conflict }

-- rounds end at a conflict
pub rounds-conflict : (most : ℕ) (clauses : List NamedClause) (trail : List Entry) (name : Name) → conflict_of trail clauses ≡ Some name →
    rounds (suc most) clauses trail ≡ record { trail = trail; conflict = Some name }
rounds-conflict most clauses trail name is = ap (λ o. rest_of most clauses trail (round_by clauses trail o)) is

-- rounds end where one adds nothing
pub rounds-fixed : (most : ℕ) (clauses : List NamedClause) (trail : List Entry) → conflict_of trail clauses ≡ None →
    length (with_units trail clauses trail) ≡ length trail → rounds (suc most) clauses trail ≡ record { trail = with_units trail clauses trail; conflict = None }
rounds-fixed most clauses trail none same =
    let after = with_units trail clauses trail in
    ap (λ o. rest_of most clauses trail (round_by clauses trail o)) none
    ∙ ap (λ b. cond b (ends_at after None) (rounds most clauses after)) (eq-eqb (length after) (length trail) same)

-- rounds go on where one adds something
pub rounds-more : (most : ℕ) (clauses : List NamedClause) (trail : List Entry) → conflict_of trail clauses ≡ None →
    length (with_units trail clauses trail) ≢ length trail → rounds (suc most) clauses trail ≡ rounds most clauses (with_units trail clauses trail)
rounds-more most clauses trail none more =
    let after = with_units trail clauses trail in
    ap (λ o. rest_of most clauses trail (round_by clauses trail o)) none
    ∙ ap (λ b. cond b (ends_at after None) (rounds most clauses after)) (ne_eqb (length after) (length trail) more)

same_kept : (before after : List Entry) (n : ℕ) → reverse after ≡ reverse before → (take n after ≡ take n before) × (length before ≤ length after)
same_kept before after n is =
    let e : after ≡ before = sym (reverse-reverse after) ∙ (ap reverse is ∙ reverse-reverse before) in
    (ap (λ t. take n t) e, (let l : length after ≡ length before = ap length e in omega arith))

longer_kept : (e : Entry) (before after : List Entry) (n : ℕ) → n ≤ length before → reverse after ≡ e ∷ reverse before → (take n after ≡ take n before) × (length before ≤ length after)
longer_kept e before after n few is =
    let longer : after ≡ before ++ e ∷ [] =
    sym (reverse-reverse after) ∙ (ap reverse is ∙ (reverse-append (e ∷ []) (reverse before) ∙ ap (λ t. t ++ e ∷ []) (reverse-reverse before))) in
    (ap (λ t. take n t) longer ∙ take-append-le n before (e ∷ []) few, (let l : length after ≡ length (before ++ e ∷ []) = ap length longer in omega (arith, length-append before (e ∷ []))))

kept_by : (b : Bool) (e : Entry) (before after : List Entry) (n : ℕ) → n ≤ length before → reverse after ≡ cond b (e ∷ reverse before) (reverse before) →
    (take n after ≡ take n before) × (length before ≤ length after)
kept_by true e before after n few is = longer_kept e before after n few is
kept_by false e before after n few is = same_kept before after n is

-- a unit is added at the newest end, if at all
pub with_unit-keeps : (name : Name) (unit : Option Literal) (before after : List Entry) (n : ℕ) → n ≤ length before →
    reverse after ≡ with_unit name unit (reverse before) → (take n after ≡ take n before) × (length before ≤ length after)
with_unit-keeps name None before after n few is = same_kept before after n is
with_unit-keeps name (Some l) before after n few is =
    kept_by (is_free (reverse before) l.variable) (record { lit = l; level = level_now (reverse before); reason = Some name }) before after n few is

-- the loop over rounds leaves at a conflict
pub rounds_leave-conflict : (most most_after : ℕ) (clauses : List NamedClause) (trail : List Entry) (conflict : Option Name) → most ≡ suc most_after →
    conflict ≡ conflict_of trail clauses → is_some conflict ≡ true → rounds most clauses trail ≡ record { trail = trail; conflict = conflict }
rounds_leave-conflict most most_after clauses trail None one found there = cc
rounds_leave-conflict most most_after clauses trail (Some name) one found there =
    ap (λ m. rounds m clauses trail) one ∙ rounds-conflict most_after clauses trail name (sym found)

none_from_is_some : (conflict : Option Name) → is_some conflict ≡ false → conflict ≡ None
none_from_is_some None h = refl
none_from_is_some (Some name) h = cc

-- the loop over rounds leaves where a round added nothing
pub rounds_leave-fixed : (most most_after : ℕ) (clauses : List NamedClause) (trail after : List Entry) (conflict : Option Name) → most ≡ suc most_after →
    conflict ≡ conflict_of trail clauses → is_some conflict ≡ false → after ≡ with_units trail clauses trail → length after ≡ length trail →
    rounds most clauses trail ≡ record { trail = after; conflict = conflict }
rounds_leave-fixed most most_after clauses trail after conflict one found absent added same =
    let none : conflict ≡ None = none_from_is_some conflict absent in
    ap (λ m. rounds m clauses trail) one
    ∙ (rounds-fixed most_after clauses trail (sym found ∙ none) (ap length (sym added) ∙ same)
    ∙ ends_both (with_units trail clauses trail) after None conflict (sym added) (sym none))
  where
    ends_both : (t u : List Entry) (o p : Option Name) → t ≡ u → o ≡ p → ends_at t o ≡ ends_at u p
    ends_both t u o p e f = cc

-- the loop over rounds goes on where a round added something
pub rounds_go_on : (most most_after : ℕ) (clauses : List NamedClause) (trail after : List Entry) (conflict : Option Name) → most ≡ suc most_after →
    conflict ≡ conflict_of trail clauses → is_some conflict ≡ false → after ≡ with_units trail clauses trail → length after ≢ length trail →
    rounds most clauses trail ≡ rounds most_after clauses after
rounds_go_on most most_after clauses trail after conflict one found absent added more =
    let none : conflict ≡ None = none_from_is_some conflict absent in
    ap (λ m. rounds m clauses trail) one
    ∙ (rounds-more most_after clauses trail (sym found ∙ none) (λ same. more (ap length added ∙ same))
    ∙ ap (λ t. rounds most_after clauses t) (sym added))

-- the loop over the clauses of a round: one clause more
pub with_units-step : (snapshot : List Entry) (clauses : List (List Literal)) (index : ℕ) (lits : List Literal) (unit : Option Literal) (now after : List Entry) →
    index < length clauses → lits ≡ get_or clauses index lits → unit ≡ unit_of snapshot lits → after ≡ with_unit (original index) unit now →
    with_units snapshot (named_from (index + 1) (drop (index + 1) clauses)) after ≡ with_units snapshot (named_from index (drop index clauses)) now
with_units-step snapshot clauses index lits unit now after in_range is one added =
    let split : drop index clauses ≡ lits ∷ drop (index + 1) clauses =
    rw add-one (drop-cons clauses index lits in_range ∙ ap (λ x. x ∷ drop (suc index) clauses) (sym is)) in
    ap (λ t. with_units snapshot (named_from (index + 1) (drop (index + 1) clauses)) t) (added ∙ ap (λ u. with_unit (original index) u now) one)
    ∙ ap (λ cs. with_units snapshot (named_from index cs) now) (sym split)
