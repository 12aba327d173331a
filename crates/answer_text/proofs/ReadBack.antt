-- What a line says can be read from it.
use Rattle.std.proofs.Common.{◌≡◌, ℕ, ◌<◌, ◌^◌, true, false, List, [], ◌∷◌, ◌++◌, refl, ap, sym, ◌∙◌, arith, append_assoc}
use Rattle.std.specs.Prelude.{codes, decimal}
use Rattle.std.proofs.lemmas.Fmt.{decimal_injective}
use Rattle.lit_base.specs.Lines.{is_blank}
use Rattle.lit_base.proofs.Numerals.{AreSolid, digits_are_solid, decimal_is}
use Rattle.crew.specs.declared.trace.TraceRow.{TraceRow}
use Rattle.crew.specs.Laws.{traced}
use Rattle.answer_text.specs.Trace.{era_line, era_lines}
use Rattle.answer_text.specs.Laws.{FitsRow, FitRows}

-- a word, the blank behind it, and a rest
record SameWord (xs ys rest others : List ℕ) : Type 0 where
  word : xs ≡ ys
  behind : rest ≡ others

-- two texts that are the same begin with the same word
same_word : (xs ys rest others : List ℕ) (p q : ℕ) → AreSolid xs → AreSolid ys → is_blank p ≡ true → is_blank q ≡ true → xs ++ p ∷ rest ≡ ys ++ q ∷ others → SameWord xs ys rest others
same_word [] [] rest others p q solid solid' blank blank' same = record { word = refl; behind = cc }
same_word [] (y ∷ ys) rest others p q solid solid' blank blank' same =
    let first : p ≡ y = cc in
    absurd (let clash : true ≡ false = sym blank ∙ (ap is_blank first ∙ solid'.0) in cc)
same_word (x ∷ xs) [] rest others p q solid solid' blank blank' same =
    let first : x ≡ q = cc in
    absurd (let clash : true ≡ false = sym blank' ∙ (ap is_blank (sym first) ∙ solid.0) in cc)
same_word (x ∷ xs) (y ∷ ys) rest others p q solid solid' blank blank' same =
    let more = same_word xs ys rest others p q solid.1 solid'.1 blank blank' (let tail : xs ++ p ∷ rest ≡ ys ++ q ∷ others = cc in tail) in
    let word = more.word in
    record { word = cc; behind = more.behind }

-- the bytes of a number are no blanks
decimal_is_solid : (n : ℕ) → n < 2 ^ 64 → AreSolid (decimal n)
decimal_is_solid n small =
    let is = decimal_is 20 n (omega arith) (omega arith) small in
    rw is.is (digits_are_solid (is.digit ∷ is.digits) is.all)

-- two texts that are the same begin with the same number
record SameNumber (m n : ℕ) (rest others : List ℕ) : Type 0 where
  number : m ≡ n
  behind : rest ≡ others

same_number : (m n : ℕ) (rest others : List ℕ) (p : ℕ) → m < 2 ^ 64 → n < 2 ^ 64 → is_blank p ≡ true → decimal m ++ p ∷ rest ≡ decimal n ++ p ∷ others → SameNumber m n rest others
same_number m n rest others p small small' blank same =
    let word = same_word (decimal m) (decimal n) rest others p p (decimal_is_solid m small) (decimal_is_solid n small') blank blank same in
    record { number = decimal_injective m n small small' word.word; behind = word.behind }

-- a line and what follows it, with the numbers in turn
abbrev line_then : TraceRow → List ℕ → List ℕ
line_then row rest =
    codes "c era " ++ (decimal row.period ++ (codes " " ++ (decimal row.core ++ (codes " " ++ (decimal row.conflicts
    ++ (codes " " ++ (decimal row.volume ++ (codes " " ++ (decimal row.posted ++ (codes " " ++ (decimal row.next ++ (codes "\n" ++ rest))))))))))))

line_then_is : (row : TraceRow) (rest : List ℕ) → era_line row ++ rest ≡ line_then row rest
line_then_is row rest = simp append_assoc

-- a row of the same numbers is the same
same_row : (row other : TraceRow) → row.period ≡ other.period → row.core ≡ other.core → row.conflicts ≡ other.conflicts → row.volume ≡ other.volume → row.posted ≡ other.posted →
    row.next ≡ other.next → row ≡ other
same_row row other period core conflicts volume posted next =
    let whole : traced row.period row.core row.conflicts row.volume row.posted row.next ≡ traced other.period other.core other.conflicts other.volume other.posted other.next = cc in
    whole

-- two texts that are the same begin with the line of the same row
record SameRow (row other : TraceRow) (rest others : List ℕ) : Type 0 where
  row_is : row ≡ other
  behind : rest ≡ others

same_line : (row other : TraceRow) (rest others : List ℕ) → FitsRow row → FitsRow other → line_then row rest ≡ line_then other others → SameRow row other rest others
same_line row other rest others fits fits' same =
    let start : decimal row.period ++ (codes " " ++ _) ≡ decimal other.period ++ (codes " " ++ _) = cc in
    let period = same_number row.period other.period _ _ 32 fits.period fits'.period refl start in
    let core = same_number row.core other.core _ _ 32 fits.core fits'.core refl period.behind in
    let conflicts = same_number row.conflicts other.conflicts _ _ 32 fits.conflicts fits'.conflicts refl core.behind in
    let volume = same_number row.volume other.volume _ _ 32 fits.volume fits'.volume refl conflicts.behind in
    let posted = same_number row.posted other.posted _ _ 32 fits.posted fits'.posted refl volume.behind in
    let next = same_number row.next other.next rest others 10 fits.next fits'.next refl posted.behind in
    record { row_is = same_row row other period.number core.number conflicts.number volume.number posted.number next.number; behind = next.behind }

-- the rows of the same lines are the same
pub same_rows : (rows others : List TraceRow) → FitRows rows → FitRows others → era_lines rows ≡ era_lines others → rows ≡ others
same_rows [] [] fit fit' same = refl
same_rows [] (other ∷ others) fit fit' same = absurd (let clash : [] ≡ line_then other (era_lines others) = same ∙ line_then_is other (era_lines others) in cc)
same_rows (row ∷ rows) [] fit fit' same = absurd (let clash : line_then row (era_lines rows) ≡ [] = sym (line_then_is row (era_lines rows)) ∙ same in cc)
same_rows (row ∷ rows) (other ∷ others) fit fit' same =
    let line = same_line row other (era_lines rows) (era_lines others) fit.0 fit'.0
    (sym (line_then_is row (era_lines rows)) ∙ (same ∙ line_then_is other (era_lines others))) in
    let first = line.row_is in
    let more = same_rows rows others fit.1 fit'.1 line.behind in
    cc
