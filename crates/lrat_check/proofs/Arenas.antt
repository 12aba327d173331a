-- The literals of parts of an arena that grows.
use Rattle.std.proofs.Common.{◌≡◌, ℕ, ◌+◌, ◌-◌, ◌≤◌, Bool, true, false, cond, ◌&&◌, List, ◌++◌, length, take, drop, refl, ap, sym, ◌∙◌, subst, arith}
use Rattle.std.specs.Prelude.{Option, Some, None, slice_range, nat_le}
use Rattle.std.proofs.lemmas.Bool.{le-leb}
use Rattle.std.proofs.lemmas.List.{take-append-le, take_all, drop_at, length-append}
use Rattle.std.proofs.lemmas.Slice.{between_is}
use Rattle.lit_base.specs.Literal.{Literal}
use Rattle.lrat_check.specs.declared.table.Span.{Span}
use Rattle.lrat_check.specs.Clauses.{lits_in, IsPart}

-- a part that lies within has its literals
pub lits_of_part : (literals : List Literal) (s : Span) → s.from ≤ s.to → s.to ≤ length literals → lits_in literals (Some s) ≡ Some (slice_range literals s.from s.to)
lits_of_part literals s ordered within =
    ap (λ b. cond (b && nat_le s.to (length literals)) (Some (slice_range literals s.from s.to)) None) (le-leb s.from s.to ordered)
    ∙ ap (λ b. cond b (Some (slice_range literals s.from s.to)) None) (le-leb s.to (length literals) within)

range_same : (literals more : List Literal) (from to : ℕ) → to ≤ length literals → slice_range (literals ++ more) from to ≡ slice_range literals from to
range_same literals more from to within =
    between_is (literals ++ more) from to ∙ (ap (drop from) (take-append-le to literals more within) ∙ sym (between_is literals from to))

-- an arena that grows keeps the literals of its parts
pub lits_stay : (literals more : List Literal) (o : Option Span) → IsPart (length literals) o → lits_in (literals ++ more) o ≡ lits_in literals o
lits_stay literals more None within = refl
lits_stay literals more (Some s) within =
    lits_of_part (literals ++ more) s within.0 (let size = length-append literals more in omega (arith, size, within.1))
    ∙ (ap Some (range_same literals more s.from s.to within.1) ∙ sym (lits_of_part literals s within.0 within.1))

-- and its parts
pub part_stays : (size more : ℕ) (o : Option Span) → size ≤ more → IsPart size o → IsPart more o
part_stays size more None grown within = tt
part_stays size more (Some s) grown within = (within.0, omega (arith, within.1))

-- the part of what was added
pub lits_added : (literals lits : List Literal) (s : Span) → s.from ≡ length literals → s.to ≡ length literals + length lits → lits_in (literals ++ lits) (Some s) ≡ Some lits
lits_added literals lits s start end =
    let size = length-append literals lits in
    lits_of_part (literals ++ lits) s (omega (arith, start, end)) (omega (arith, size, end))
    ∙ ap Some (ap (take (s.to - s.from)) (drop_at literals lits s.from (sym start)) ∙ take_all (s.to - s.from) lits (omega (arith, start, end)))

pub part_added : (literals lits : List Literal) (s : Span) → s.from ≡ length literals → s.to ≡ length literals + length lits → IsPart (length (literals ++ lits)) (Some s)
part_added literals lits s start end = let size = length-append literals lits in (omega (arith, start, end), omega (arith, size, end))

-- a clause is put in: by whether its id is the one that is sought
pub lits_put : (literals lits : List Literal) (s : Span) (b : Bool) (before after : Option Span) → s.from ≡ length literals → s.to ≡ length literals + length lits → IsPart (length literals) before →
    after ≡ cond b (Some s) before → lits_in (literals ++ lits) after ≡ cond b (Some lits) (lits_in literals before)
lits_put literals lits s true before after start end within is = ap (lits_in (literals ++ lits)) is ∙ lits_added literals lits s start end
lits_put literals lits s false before after start end within is = ap (lits_in (literals ++ lits)) is ∙ lits_stay literals lits before within

pub within_put : (literals lits : List Literal) (s : Span) (b : Bool) (before after : Option Span) → s.from ≡ length literals → s.to ≡ length literals + length lits → IsPart (length literals) before →
    after ≡ cond b (Some s) before → IsPart (length (literals ++ lits)) after
within_put literals lits s true before after start end within is = subst (IsPart (length (literals ++ lits))) (sym is) (part_added literals lits s start end)
within_put literals lits s false before after start end within is =
    let size = length-append literals lits in
    subst (IsPart (length (literals ++ lits))) (sym is) (part_stays (length literals) (length (literals ++ lits)) before (omega (arith, size)) within)

-- a clause is taken out
pub lits_removed : (literals : List Literal) (b : Bool) (before after : Option Span) → after ≡ cond b None before → lits_in literals after ≡ cond b None (lits_in literals before)
lits_removed literals true before after is = ap (lits_in literals) is
lits_removed literals false before after is = ap (lits_in literals) is

pub within_removed : (size : ℕ) (b : Bool) (before after : Option Span) → IsPart size before → after ≡ cond b None before → IsPart size after
within_removed size true before after within is = subst (IsPart size) (sym is) tt
within_removed size false before after within is = subst (IsPart size) (sym is) within
