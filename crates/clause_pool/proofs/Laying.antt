-- Parts laid end to end, and where each of them stands.
use Rattle.std.proofs.Common.{◌≡◌, ℕ, ◌+◌, ◌-◌, ◌<◌, ◌≤◌, ◌==◌, List, [], ◌∷◌, ◌++◌, length, take, drop, reverse, get_or, refl, ap, sym, ◌∙◌, subst, arith}
use Rattle.std.specs.Prelude.{Option, Some, slice_range}
use Rattle.std.proofs.lemmas.Bool.{cond-true, cond-false, eq-eqb, ne_eqb}
use Rattle.std.proofs.lemmas.List.{take-take, take-append-le, take_all, take-append-drop, append-nil, append_assoc, length-append}
use Rattle.std.proofs.lemmas.Slice.{between_is}
use Rattle.std.proofs.Math.Seq.{length-slice, drop-append-add}
use Rattle.lit_base.specs.Literal.{Literal}
use Rattle.clause_pool.specs.declared.span.Span.{Span}
use Rattle.clause_pool.specs.Arena.{end_of, parts_of, AreEnds, IsArena, literals_in}
use Rattle.clause_pool.specs.Spans.{span_at, laid}
use Rattle.clause_pool.proofs.Splits.{split, older_length}
use Rattle.clause_pool.proofs.Parts.{range_same, range_added, parts_length, parts_size, part_order}

-- they have as many literals as the parts
pub length-laid : (parts : List (List Literal)) → length (laid parts) ≡ literals_in parts
length-laid [] = refl
length-laid (lits ∷ older) = let rest = length-laid older in let both = length-append (laid older) lits in omega (arith, rest, both)

-- newer parts stand behind older ones
pub laid-append : (newer older : List (List Literal)) → laid (newer ++ older) ≡ laid older ++ laid newer
laid-append [] older = sym (append-nil (laid older))
laid-append (lits ∷ newer) older = ap (λ all. all ++ lits) (laid-append newer older) ∙ append_assoc (laid older) (laid newer) lits

-- the parts up to an end are what stands in front of it
laid_up_to : (literals : List Literal) (ends : List ℕ) → AreEnds ends → laid (parts_of literals ends) ≡ take (end_of ends) literals
laid_up_to literals [] ordered = refl
laid_up_to literals (e ∷ older) ordered =
    ap (λ all. all ++ slice_range literals (end_of older) e) (laid_up_to literals older ordered.1 ∙ sym (take-take (end_of older) e literals ordered.0))
    ∙ (ap (λ part. take (end_of older) (take e literals) ++ part) (between_is literals (end_of older) e) ∙ take-append-drop (end_of older) (take e literals))

-- the parts of an arena are the whole of it
pub laid_arena : (literals : List Literal) (ends : List ℕ) → IsArena literals ends → laid (parts_of literals ends) ≡ literals
laid_arena literals ends arena = laid_up_to literals ends arena.ordered ∙ take_all (end_of ends) literals (omega (arith, arena.full))

-- where a part stands
span_in : (literals : List Literal) (newer : List ℕ) (e : ℕ) (older : List ℕ) → AreEnds (e ∷ older) → e ≤ length literals →
    span_at (parts_of literals (newer ++ e ∷ older)) (length older) ≡ Some (record { start = end_of older; end = e })
span_in literals [] e older ordered within =
    let below : end_of older ≤ length literals = omega (arith, ordered.0, within) in
    let start = parts_size literals older ordered.1 below in
    let size : length (slice_range literals (end_of older) e) ≡ e - end_of older = ap length (between_is literals (end_of older) e) ∙ length-slice (end_of older) e literals within in
    let end : literals_in (parts_of literals older) + length (slice_range literals (end_of older) e) ≡ e = omega (arith, start, size, ordered.0) in
    cond-true (length older == length (parts_of literals older)) _ (span_at (parts_of literals older) (length older))
    (eq-eqb (length older) (length (parts_of literals older)) (sym (parts_length literals older)))
    ∙ (ap (λ from. Some (let s : Span = record { start = from; end = literals_in (parts_of literals older) + length (slice_range literals (end_of older) e) } in s)) start
    ∙ ap (λ to. Some (let s : Span = record { start = end_of older; end = to } in s)) end)
span_in literals (f ∷ newer) e older ordered within =
    cond-false (length older == length (parts_of literals (newer ++ e ∷ older))) _ (span_at (parts_of literals (newer ++ e ∷ older)) (length older))
    (ne_eqb (length older) (length (parts_of literals (newer ++ e ∷ older)))
    (λ same. let size : length (parts_of literals (newer ++ e ∷ older)) ≡ length newer + length (e ∷ older) = parts_length literals (newer ++ e ∷ older) ∙ length-append newer (e ∷ older) in
    omega (arith, same, size)))
    ∙ span_in literals newer e older ordered within

older_ends : (newer : List ℕ) (e : ℕ) (older : List ℕ) → AreEnds (newer ++ e ∷ older) → AreEnds (e ∷ older)
older_ends [] e older ordered = ordered
older_ends (f ∷ newer) e older ordered = older_ends newer e older ordered.1

-- what is read of a part at a place
record IsSpan (literals : List Literal) (items : List ℕ) (place e : ℕ) : Type 0 where
  pub order : end_of (reverse (take place items)) ≤ e
  pub within : e ≤ length literals
  pub is : span_at (parts_of literals (reverse items)) place ≡ Some (record { start = end_of (reverse (take place items)); end = e })

is_span : (literals : List Literal) (items : List ℕ) (place d : ℕ) → IsArena literals (reverse items) → place < length items → IsSpan literals items place (get_or items place d)
is_span literals items place d arena inside =
    let newer = reverse (drop (place + 1) items) in
    let e = get_or items place d in
    let older = reverse (take place items) in
    let at = split items place d inside in
    let ordered = subst AreEnds at arena.ordered in
    let bounds = part_order newer e older ordered in
    let size = older_length items place (omega (arith, inside)) in
    let full : end_of (newer ++ e ∷ older) ≡ length literals = ap end_of (sym at) ∙ arena.full in
    let within : e ≤ length literals = omega (arith, bounds.1, full) in
    record {
      order = bounds.0;
      within = within;
      is = ap (λ ends. span_at (parts_of literals ends) place) at
          ∙ (ap (λ p. span_at (parts_of literals (newer ++ e ∷ older)) p) (sym size) ∙ span_in literals newer e older (older_ends newer e older ordered) within);
    }

-- what the steps of reading say together
pub record IsSpanRead (literals : List Literal) (value : List (List Literal)) (place start e : ℕ) : Type 0 where
  pub order : start ≤ e
  pub within : e ≤ length literals
  pub is : span_at value place ≡ Some (record { start = start; end = e })

pub span_read_at : (literals : List Literal) (items read : List ℕ) (place start e : ℕ) → IsArena literals (reverse items) → place < length items → read ≡ items →
    start ≡ end_of (reverse (take place read)) → e ≡ get_or items place e → IsSpanRead literals (parts_of literals (reverse items)) place start e
span_read_at literals items read place start e arena inside reads starts ends =
    let at = is_span literals items place e arena inside in
    let from : start ≡ end_of (reverse (take place items)) = starts ∙ ap (λ xs. end_of (reverse (take place xs))) reads in
    record {
      order = omega (arith, at.order, from, ends);
      within = omega (arith, at.within, ends);
      is = at.is
          ∙ (ap (λ to. Some (let s : Span = record { start = end_of (reverse (take place items)); end = to } in s)) (sym ends)
          ∙ ap (λ begin. Some (let s : Span = record { start = begin; end = e } in s)) (sym from));
    }

-- what the literals are that stand somewhere
pub record IsLaid (all : List Literal) (lits : Option (List Literal)) (s : Span) : Type 0 where
  pub order : s.start ≤ s.end
  pub within : s.end ≤ length all
  pub is : lits ≡ Some (slice_range all s.start s.end)

-- those that were laid last
pub laid_last : (all lits : List Literal) (k : ℕ) → k ≡ length all → IsLaid (all ++ lits) (Some lits) (record { start = k; end = k + length lits })
laid_last all lits k is =
    let both = length-append all lits in
    record {
      order = omega arith;
      within = omega (arith, both, is);
      is = ap (λ part. Some part) (sym (range_added all lits k (k + length lits) is (omega (arith, is))));
    }

-- in front of others
front_range : (all more : List Literal) (from to : ℕ) → to ≤ length all → slice_range (all ++ more) from to ≡ slice_range all from to
front_range all more from to within = range_same (all ++ more) all from to (length all) within (take-append-le (length all) all more (omega arith))

pub laid_more : (all more : List Literal) (lits : Option (List Literal)) (s : Span) → IsLaid all lits s → IsLaid (all ++ more) lits s
laid_more all more lits s old =
    let both = length-append all more in
    record {
      order = old.order;
      within = omega (arith, both, old.within);
      is = old.is ∙ ap (λ part. Some part) (sym (front_range all more s.start s.end old.within));
    }

-- those that end in front of others stand there without them
pub laid_front : (all more : List Literal) (lits : Option (List Literal)) (s : Span) → IsLaid (all ++ more) lits s → s.end ≤ length all → IsLaid all lits s
laid_front all more lits s both within = record {
  order = both.order;
  within = within;
  is = both.is ∙ ap (λ part. Some part) (front_range all more s.start s.end within);
}

back_range : (all more : List Literal) (from to : ℕ) → length all ≤ from → slice_range (all ++ more) from to ≡ slice_range more (from - length all) (to - length all)
back_range all more from to behind =
    let start : from ≡ length all + (from - length all) = omega (arith, behind) in
    let size : to - from ≡ to - length all - (from - length all) = omega (arith, behind) in
    ap (take (to - from)) (ap (λ k. drop k (all ++ more)) start ∙ drop-append-add all more (from - length all)) ∙ ap (λ k. take k (drop (from - length all) more)) size

-- those that begin behind others stand there without them
pub laid_back : (all more : List Literal) (lits : Option (List Literal)) (s : Span) → IsLaid (all ++ more) lits s → length all ≤ s.start →
    IsLaid more lits (record { start = s.start - length all; end = s.end - length all })
laid_back all more lits s both behind =
    let size = length-append all more in
    record {
      order = omega (arith, both.order, behind);
      within = omega (arith, both.within, size);
      is = both.is ∙ ap (λ part. Some part) (back_range all more s.start s.end behind);
    }
