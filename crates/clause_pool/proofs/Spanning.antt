-- Where the literals of held clauses stand in those of all.
use Rattle.std.proofs.Common.{◌≡◌, ℕ, ◌+◌, ◌-◌, ◌<◌, ◌≤◌, ◌==◌, ◌⊎◌, inl, inr, Bool, true, false, cond, List, [], ◌∷◌, ◌++◌, length, refl, ap, sym, ◌∙◌, subst, arith}
use Rattle.std.specs.Prelude.{Option, Some, None, is_some}
use Rattle.std.proofs.lemmas.Bool.{cond-true, cond-false, eq-eqb, ne_eqb, cases_eq}
use Rattle.std.proofs.lemmas.Option.{same_Some}
use Rattle.std.proofs.lemmas.List.{length-map, map-append}
use Rattle.lit_base.specs.Literal.{Literal}
use Rattle.lit_base.specs.Named.{same_name, lits_at}
use Rattle.lit_base.specs.Held.{HeldClause, clause_of, clauses_of}
use Rattle.lit_base.specs.declared.name.Name.{Name}
use Rattle.lit_base.proofs.HeldClauses.{same_name-true, lits_at-cons}
use Rattle.clause_pool.specs.declared.span.Span.{Span}
use Rattle.clause_pool.specs.Arena.{literals_in}
use Rattle.clause_pool.specs.Slots.{row_names, place_at, AreApart}
use Rattle.clause_pool.specs.Pooled.{held_of, originals_of, is_front}
use Rattle.clause_pool.specs.Spans.{PoolState, literals_of, span_of, span_at, laid, lits_of}
use Rattle.clause_pool.proofs.ClauseAt.{clause_at, clause_at-no_place, at_place-clause_at, lits_at-clause_at, lits_at-held_of}
use Rattle.clause_pool.proofs.Fronts.{named_original, is_front-true, clause_at-left, clause_at-behind}
use Rattle.clause_pool.proofs.Lookup.{some_mapped}
use Rattle.clause_pool.proofs.Laying.{IsLaid, length-laid, laid-append, laid_last, laid_more, laid_front, laid_back}

-- where a clause stands behind so many literals
abbrev pub shifted : ℕ → Span → Span
shifted base s = record { start = base + s.start; end = base + s.end }

-- the span of so many literals from a place on
abbrev span_from : ℕ → ℕ → Span
span_from start size = record { start = start; end = start + size }

-- clauses have as many literals as their parts
literals_of-rows : (rows : List HeldClause) → literals_of (clauses_of rows) ≡ literals_in (lits_of rows)
literals_of-rows [] = refl
literals_of-rows (c ∷ older) = let rest = literals_of-rows older in omega (arith, rest)

literals_of-both : (rows others : List HeldClause) → literals_of (clauses_of (rows ++ others)) ≡ literals_in (lits_of others) + literals_in (lits_of rows)
literals_of-both [] others = let all = literals_of-rows others in omega (arith, all)
literals_of-both (c ∷ rows) others = let rest = literals_of-both rows others in omega (arith, rest)

lits_of-originals : (parts : List (List Literal)) → lits_of (originals_of parts) ≡ parts
lits_of-originals [] = refl
lits_of-originals (lits ∷ older) = ap (λ others. lits ∷ others) (lits_of-originals older)

-- a clause's literals stand at its span
span_read : (rows : List HeldClause) (n : Name) (s : Span) → span_of (clauses_of rows) n ≡ Some s → IsLaid (laid (lits_of rows)) (lits_at (clauses_of rows) n) s
span_read [] n s is = cc
span_read (c ∷ older) n s is =
    subst (λ o. IsLaid (laid (lits_of older) ++ c.lits) o s) (sym (lits_at-cons (clause_of c) (clauses_of older) n)) (by_test (same_name c.name n) is (span_read older n s))
  where
    by_test : (b : Bool) → cond b (Some (span_from (literals_of (clauses_of older)) (length c.lits))) (span_of (clauses_of older) n) ≡ Some s →
        (span_of (clauses_of older) n ≡ Some s → IsLaid (laid (lits_of older)) (lits_at (clauses_of older) n) s) →
        IsLaid (laid (lits_of older) ++ c.lits) (cond b (Some c.lits) (lits_at (clauses_of older) n)) s
    by_test true is rest =
        subst (IsLaid (laid (lits_of older) ++ c.lits) (Some c.lits)) (same_Some (span_from (literals_of (clauses_of older)) (length c.lits)) s is)
        (laid_last (laid (lits_of older)) c.lits (literals_of (clauses_of older)) (literals_of-rows older ∙ sym (length-laid (lits_of older))))
    by_test false is rest = laid_more (laid (lits_of older)) c.lits (lits_at (clauses_of older) n) s (rest is)

-- a span that ends behind the others' literals begins behind them
span_over : (rows others : List HeldClause) (n : Name) (s : Span) → span_of (clauses_of (rows ++ others)) n ≡ Some s → literals_in (lits_of others) < s.end → literals_in (lits_of others) ≤ s.start
span_over [] others n s is over =
    let within = (span_read others n s is).within in
    let size = length-laid (lits_of others) in
    let never : ⊥ = omega (arith, within, size, over) in
    absurd never
span_over (c ∷ rows) others n s is over = by_test (same_name c.name n) is (λ later. span_over rows others n s later over)
  where
    by_test : (b : Bool) → cond b (Some (span_from (literals_of (clauses_of (rows ++ others))) (length c.lits))) (span_of (clauses_of (rows ++ others)) n) ≡ Some s →
        (span_of (clauses_of (rows ++ others)) n ≡ Some s → literals_in (lits_of others) ≤ s.start) → literals_in (lits_of others) ≤ s.start
    by_test true is rest =
        let start = ap (λ t. t.start) (same_Some (span_from (literals_of (clauses_of (rows ++ others))) (length c.lits)) s is) in
        let both = literals_of-both rows others in
        omega (arith, start, both)
    by_test false is rest = rest is

-- the literals of originals and of the clauses behind them
laid_rows : (rows : List HeldClause) (parts : List (List Literal)) → laid (lits_of (rows ++ originals_of parts)) ≡ laid parts ++ laid (lits_of rows)
laid_rows rows parts =
    ap laid (map-append (λ c. c.lits) rows (originals_of parts))
    ∙ (laid-append (lits_of rows) (lits_of (originals_of parts)) ∙ ap (λ others. laid others ++ laid (lits_of rows)) (lits_of-originals parts))

lits_at-held : (rows : List HeldClause) (n : Name) → AreApart (row_names rows) → lits_at (clauses_of rows) n ≡ lits_at (clauses_of (held_of rows)) n
lits_at-held rows n apart = lits_at-clause_at rows n ∙ sym (lits_at-held_of rows n apart)

-- a name that no held clause has is that of none that was added
pub new_name : (rows : List HeldClause) (state : PoolState) (n : Name) → (let s : PoolState = record { held = held_of rows; added = clauses_of rows } in s) ≡ state → AreApart (row_names rows) →
    lits_at (clauses_of state.held) n ≡ None → lits_at state.added n ≡ None
new_name rows state n view apart free =
    ap (λ v. lits_at v.added n) (sym view) ∙ (lits_at-held rows n apart ∙ (ap (λ v. lits_at (clauses_of v.held) n) view ∙ free))

pool_read : (rows : List HeldClause) (parts : List (List Literal)) (n : Name) (s : Span) → AreApart (row_names (rows ++ originals_of parts)) →
    span_of (clauses_of (rows ++ originals_of parts)) n ≡ Some s → IsLaid (laid parts ++ laid (lits_of rows)) (lits_at (clauses_of (held_of (rows ++ originals_of parts))) n) s
pool_read rows parts n s apart is =
    subst (λ all. IsLaid all (lits_at (clauses_of (held_of (rows ++ originals_of parts))) n) s) (laid_rows rows parts)
    (subst (λ lits. IsLaid (laid (lits_of (rows ++ originals_of parts))) lits s) (lits_at-held (rows ++ originals_of parts) n apart) (span_read (rows ++ originals_of parts) n s is))

-- a span that ends among the literals of originals is read there
pub read_front : (rows : List HeldClause) (parts : List (List Literal)) (n : Name) (s : Span) → AreApart (row_names (rows ++ originals_of parts)) →
    span_of (clauses_of (rows ++ originals_of parts)) n ≡ Some s → s.end ≤ literals_in parts → IsLaid (laid parts) (lits_at (clauses_of (held_of (rows ++ originals_of parts))) n) s
read_front rows parts n s apart is within =
    laid_front (laid parts) (laid (lits_of rows)) (lits_at (clauses_of (held_of (rows ++ originals_of parts))) n) s (pool_read rows parts n s apart is) (omega (arith, within, length-laid parts))

-- one that ends behind them begins behind them
pub over_front : (rows : List HeldClause) (parts : List (List Literal)) (n : Name) (s : Span) → span_of (clauses_of (rows ++ originals_of parts)) n ≡ Some s → literals_in parts < s.end →
    literals_in parts ≤ s.start
over_front rows parts n s is over =
    subst (λ ps. literals_in ps ≤ s.start) (lits_of-originals parts)
    (span_over rows (originals_of parts) n s is (subst (λ ps. literals_in ps < s.end) (sym (lits_of-originals parts)) over))

-- and is read among the other literals
pub read_back : (rows : List HeldClause) (parts : List (List Literal)) (n : Name) (s : Span) → AreApart (row_names (rows ++ originals_of parts)) →
    span_of (clauses_of (rows ++ originals_of parts)) n ≡ Some s → literals_in parts < s.end →
    IsLaid (laid (lits_of rows)) (lits_at (clauses_of (held_of (rows ++ originals_of parts))) n) (record { start = s.start - literals_in parts; end = s.end - literals_in parts })
read_back rows parts n s apart is over =
    let begin = over_front rows parts n s is over in
    let size = length-laid parts in
    subst (λ base. IsLaid (laid (lits_of rows)) (lits_at (clauses_of (held_of (rows ++ originals_of parts))) n) (record { start = s.start - base; end = s.end - base })) size
    (laid_back (laid parts) (laid (lits_of rows)) (lits_at (clauses_of (held_of (rows ++ originals_of parts))) n) s (pool_read rows parts n s apart is) (omega (arith, begin, size)))

placed : (lits : List Literal) (all base start : ℕ) (s : Span) → all ≡ base + start → span_from start (length lits) ≡ s → Some (span_from all (length lits)) ≡ Some (shifted base s)
placed lits all base start s both is =
    ap (λ from. Some (span_from from (length lits))) both
    ∙ (ap (λ to. let t : Span = record { start = base + start; end = to } in Some t) {x = base + start + length lits} {y = base + (start + length lits)} (omega arith)
    ∙ ap (λ t. Some (shifted base t)) is)

-- a clause that has a place stands where its place does, behind the others' literals
span_placed : (rows others : List HeldClause) (n : Name) (place : ℕ) (s : Span) → place_at (row_names rows) n ≡ Some place → span_at (lits_of rows) place ≡ Some s →
    span_of (clauses_of (rows ++ others)) n ≡ Some (shifted (literals_in (lits_of others)) s)
span_placed [] others n place s is at = cc
span_placed (c ∷ rows) others n place s is at = by_test (same_name c.name n) is (λ later stands. span_placed rows others n place s later stands)
  where
    size : length (row_names rows) ≡ length (lits_of rows)
    size = length-map rows (λ d. d.name) ∙ sym (length-map rows (λ d. d.lits))

    by_test : (b : Bool) → cond b (Some (length (row_names rows))) (place_at (row_names rows) n) ≡ Some place →
        (place_at (row_names rows) n ≡ Some place → span_at (lits_of rows) place ≡ Some s → span_of (clauses_of (rows ++ others)) n ≡ Some (shifted (literals_in (lits_of others)) s)) →
        cond b (Some (span_from (literals_of (clauses_of (rows ++ others))) (length c.lits))) (span_of (clauses_of (rows ++ others)) n) ≡ Some (shifted (literals_in (lits_of others)) s)
    by_test true is rest =
        let here : place ≡ length (lits_of rows) = sym (same_Some (length (row_names rows)) place is) ∙ size in
        let stands : Some (span_from (literals_in (lits_of rows)) (length c.lits)) ≡ Some s =
        sym (cond-true (place == length (lits_of rows)) (Some (span_from (literals_in (lits_of rows)) (length c.lits))) (span_at (lits_of rows) place) (eq-eqb place (length (lits_of rows)) here)) ∙ at in
        placed c.lits (literals_of (clauses_of (rows ++ others))) (literals_in (lits_of others)) (literals_in (lits_of rows)) s (literals_of-both rows others)
        (same_Some (span_from (literals_in (lits_of rows)) (length c.lits)) s stands)
    by_test false is rest =
        let inside : place < length rows = (at_place-clause_at rows n place is).1 in
        let below : place < length (lits_of rows) = omega (arith, inside, length-map rows (λ d. d.lits)) in
        rest is
        (sym (cond-false (place == length (lits_of rows)) (Some (span_from (literals_in (lits_of rows)) (length c.lits))) (span_at (lits_of rows) place)
        (ne_eqb place (length (lits_of rows)) (λ same. omega (arith, below, same)))) ∙ at)

pub span_behind : (rows : List HeldClause) (parts : List (List Literal)) (n : Name) (place : ℕ) (s : Span) → place_at (row_names rows) n ≡ Some place → span_at (lits_of rows) place ≡ Some s →
    span_of (clauses_of (rows ++ originals_of parts)) n ≡ Some (shifted (literals_in parts) s)
span_behind rows parts n place s is at =
    span_placed rows (originals_of parts) n place s is at ∙ ap (λ ps. Some (shifted (literals_in ps) s)) (lits_of-originals parts)

-- a name has a span where it has a clause
some_span : (rows : List HeldClause) (n : Name) → is_some (span_of (clauses_of rows) n) ≡ is_some (clause_at rows n)
some_span [] n = refl
some_span (c ∷ older) n = by_test (same_name c.name n) (some_span older n)
  where
    by_test : (b : Bool) → is_some (span_of (clauses_of older) n) ≡ is_some (clause_at older n) →
        is_some (cond b (Some (span_from (literals_of (clauses_of older)) (length c.lits))) (span_of (clauses_of older) n)) ≡ is_some (cond b (Some c) (clause_at older n))
    by_test true rest = refl
    by_test false rest = rest

span_held : (rows : List HeldClause) (n : Name) → AreApart (row_names rows) → is_some (span_of (clauses_of rows) n) ≡ is_some (lits_at (clauses_of (held_of rows)) n)
span_held rows n apart = some_span rows n ∙ (sym (some_mapped (λ c. c.lits) (clause_at rows n)) ∙ ap is_some (sym (lits_at-held_of rows n apart)))

pub tells_held : (rows : List HeldClause) (state : PoolState) (n : Name) (r : Option Span) → (let s : PoolState = record { held = held_of rows; added = clauses_of rows } in s) ≡ state → AreApart (row_names rows) →
    r ≡ span_of state.added n → is_some r ≡ is_some (lits_at (clauses_of state.held) n)
tells_held rows state n r view apart is =
    ap is_some (is ∙ ap (λ v. span_of v.added n) (sym view)) ∙ (span_held rows n apart ∙ ap (λ v. is_some (lits_at (clauses_of v.held) n)) view)

not_some : {X : Type 0} (o : Option X) → is_some o ≡ false → o ≡ None
not_some None is = refl
not_some (Some x) is = cc

pub span_none : (rows : List HeldClause) (parts : List (List Literal)) (n : Name) → place_at (row_names rows) n ≡ None → is_front (length parts) n ≡ false →
    span_of (clauses_of (rows ++ originals_of parts)) n ≡ None
span_none rows parts n none behind =
    not_some (span_of (clauses_of (rows ++ originals_of parts)) n)
    (some_span (rows ++ originals_of parts) n
    ∙ ap is_some (clause_at-left rows (originals_of parts) n (clause_at-behind parts n behind) ∙ clause_at-no_place rows n none))

-- an original stands where its index does
span_original : (parts : List (List Literal)) (n : Name) → n.period ≡ 0 → n.core ≡ 0 → span_of (clauses_of (originals_of parts)) n ≡ span_at parts n.index
span_original [] n period core = refl
span_original (lits ∷ older) n period core =
    ap (λ b. cond b (Some (span_from (literals_of (clauses_of (originals_of older))) (length lits))) (span_of (clauses_of (originals_of older)) n)) (named_original n (length older) period core)
    ∙ by_case (cases_eq (length older) n.index) (span_original older n period core)
  where
    start : literals_of (clauses_of (originals_of older)) ≡ literals_in older
    start = literals_of-rows (originals_of older) ∙ ap literals_in (lits_of-originals older)

    by_case : (length older ≡ n.index) ⊎ (length older ≡ n.index → ⊥) → span_of (clauses_of (originals_of older)) n ≡ span_at older n.index →
        cond (length older == n.index) (Some (span_from (literals_of (clauses_of (originals_of older))) (length lits))) (span_of (clauses_of (originals_of older)) n)
        ≡ cond (n.index == length older) (Some (span_from (literals_in older) (length lits))) (span_at older n.index)
    by_case (inl here) later =
        cond-true (length older == n.index) _ (span_of (clauses_of (originals_of older)) n) (eq-eqb (length older) n.index here)
        ∙ (ap (λ from. Some (span_from from (length lits))) start ∙ sym (cond-true (n.index == length older) _ (span_at older n.index) (eq-eqb n.index (length older) (sym here))))
    by_case (inr other) later =
        cond-false (length older == n.index) _ (span_of (clauses_of (originals_of older)) n) (ne_eqb (length older) n.index other)
        ∙ (later ∙ sym (cond-false (n.index == length older) _ (span_at older n.index) (ne_eqb n.index (length older) (λ same. other (sym same)))))

some_or_none : {X : Type 0} {o : Option X} {x : X} → o ≡ Some x → o ≡ None → ⊥
some_or_none some none = cc

-- a name that one of the others has is that of none of the first
span_right : (rows others : List HeldClause) (n : Name) (s : Span) → AreApart (row_names (rows ++ others)) → span_of (clauses_of others) n ≡ Some s → span_of (clauses_of (rows ++ others)) n ≡ Some s
span_right [] others n s apart is = is
span_right (c ∷ rows) others n s apart is = by_test (same_name c.name n) refl (span_right rows others n s apart.1 is)
  where
    by_test : (b : Bool) → same_name c.name n ≡ b → span_of (clauses_of (rows ++ others)) n ≡ Some s →
        cond b (Some (span_from (literals_of (clauses_of (rows ++ others))) (length c.lits))) (span_of (clauses_of (rows ++ others)) n) ≡ Some s
    by_test true same later =
        let none : clause_at (rows ++ others) n ≡ None =
        subst (λ m. clause_at (rows ++ others) m ≡ None) (same_name-true c.name n same) (clause_at-no_place (rows ++ others) c.name apart.0) in
        absurd (some_or_none later (not_some (span_of (clauses_of (rows ++ others)) n) (some_span (rows ++ others) n ∙ ap is_some none)))
    by_test false other later = later

pub span_front : (rows : List HeldClause) (parts : List (List Literal)) (n : Name) (s : Span) → AreApart (row_names (rows ++ originals_of parts)) → is_front (length parts) n ≡ true →
    span_at parts n.index ≡ Some s → span_of (clauses_of (rows ++ originals_of parts)) n ≡ Some s
span_front rows parts n s apart front at =
    let is = is_front-true (length parts) n front in
    span_right rows (originals_of parts) n s apart (span_original parts n is.period is.core ∙ at)
