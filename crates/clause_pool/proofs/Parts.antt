-- Parts of an arena.
use Rattle.std.proofs.Common.{◌≡◌, ℕ, ◌+◌, ◌-◌, ◌<◌, ◌≤◌, List, [], ◌∷◌, ◌++◌, length, take, drop, reverse, refl, ap, sym, ◌∙◌, arith}
use Rattle.std.specs.Prelude.{slice_range}
use Rattle.std.proofs.lemmas.List.{take-take, take-append-le, take_all, drop_at, length-append, length-reverse}
use Rattle.std.proofs.lemmas.Slice.{between_is}
use Rattle.std.proofs.Math.Seq.{length-slice}
use Rattle.lit_base.specs.Literal.{Literal}
use Rattle.clause_pool.specs.Arena.{end_of, parts_of, AreEnds, IsArena, literals_in}

-- a part is the same where the arenas are the same up to its end
pub range_same : (xs ys : List Literal) (from to n : ℕ) → to ≤ n → take n xs ≡ take n ys → slice_range xs from to ≡ slice_range ys from to
range_same xs ys from to n within same =
    between_is xs from to
    ∙ (ap (drop from) (sym (take-take to n xs within) ∙ (ap (take to) same ∙ take-take to n ys within)) ∙ sym (between_is ys from to))

-- so are all parts
pub parts_same : (xs ys : List Literal) (ends : List ℕ) (n : ℕ) → AreEnds ends → end_of ends ≤ n → take n xs ≡ take n ys → parts_of xs ends ≡ parts_of ys ends
parts_same xs ys [] n ordered within same = refl
parts_same xs ys (e ∷ older) n ordered within same =
    let below : end_of older ≤ n = omega (arith, ordered.0, within) in
    ap (λ lits. lits ∷ parts_of xs older) (range_same xs ys (end_of older) e n within same)
    ∙ ap (λ parts. slice_range ys (end_of older) e ∷ parts) (parts_same xs ys older n ordered.1 below same)

-- the part that was added
pub range_added : (xs ys : List Literal) (from to : ℕ) → from ≡ length xs → to ≡ length xs + length ys → slice_range (xs ++ ys) from to ≡ ys
range_added xs ys from to start end =
    ap (λ zs. take (to - from) zs) (drop_at xs ys from (sym start)) ∙ take_all (to - from) ys (omega (arith, start, end))

pub parts_added : (literals lits : List Literal) (ends : List ℕ) (e : ℕ) → IsArena literals ends → e ≡ length literals + length lits →
    parts_of (literals ++ lits) (e ∷ ends) ≡ lits ∷ parts_of literals ends
parts_added literals lits ends e arena is =
    ap (λ part. part ∷ parts_of (literals ++ lits) ends) (range_added literals lits (end_of ends) e arena.full is)
    ∙ ap (λ parts. lits ∷ parts)
    (parts_same (literals ++ lits) literals ends (length literals) arena.ordered (omega (arith, arena.full)) (take-append-le (length literals) literals lits (omega arith)))

pub arena_added : (literals lits : List Literal) (ends : List ℕ) (e : ℕ) → IsArena literals ends → e ≡ length literals + length lits → IsArena (literals ++ lits) (e ∷ ends)
arena_added literals lits ends e arena is =
    let size = length-append literals lits in
    let full = arena.full in
    record {
      ordered = (omega arith, arena.ordered);
      full = omega arith;
    }

pub parts_length : (literals : List Literal) (ends : List ℕ) → length (parts_of literals ends) ≡ length ends
parts_length literals [] = refl
parts_length literals (e ∷ older) = let rest = parts_length literals older in omega (arith, rest)

-- the parts up to an end have as many literals as stand in front of it
pub parts_size : (literals : List Literal) (ends : List ℕ) → AreEnds ends → end_of ends ≤ length literals → literals_in (parts_of literals ends) ≡ end_of ends
parts_size literals [] ordered within = refl
parts_size literals (e ∷ older) ordered within =
    let below : end_of older ≤ length literals = omega (arith, ordered.0, within) in
    let rest = parts_size literals older ordered.1 below in
    let size : length (slice_range literals (end_of older) e) ≡ e - end_of older =
    ap length (between_is literals (end_of older) e) ∙ length-slice (end_of older) e literals within in
    omega (arith, rest, size, ordered.0)

-- so a whole arena has those of its parts
pub arena_size : (literals : List Literal) (ends : List ℕ) (value : List (List Literal)) → IsArena literals ends → parts_of literals ends ≡ value → literals_in value ≡ length literals
arena_size literals ends value arena view =
    ap literals_in (sym view) ∙ (parts_size literals ends arena.ordered (omega (arith, arena.full)) ∙ arena.full)

-- a part begins before it ends, and ends in the arena
pub part_order : (newer : List ℕ) (e : ℕ) (older : List ℕ) → AreEnds (newer ++ e ∷ older) → (end_of older ≤ e) × (e ≤ end_of (newer ++ e ∷ older))
part_order [] e older ordered = (ordered.0, omega arith)
part_order (f ∷ newer) e older ordered =
    let later = part_order newer e older ordered.1 in
    (later.0, omega (arith, later.1, ordered.0))

-- an index below the number of parts is that of an end
pub inside_ends : (literals : List Literal) (items : List ℕ) (value : List (List Literal)) (index : ℕ) → parts_of literals (reverse items) ≡ value → index < length value → index < length items
inside_ends literals items value index view inside = omega (arith, inside, ap length view, parts_length literals (reverse items), length-reverse items)
