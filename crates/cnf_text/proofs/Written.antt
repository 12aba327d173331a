-- What is written as a formula is read as that formula.
use Rattle.std.proofs.Common.{◌≡◌, ℕ, ◌+◌, ◌*◌, ◌≤◌, ◌<◌, Bool, true, false, cond, List, [], ◌∷◌, ◌++◌, length, map, refl, sym, ap, ◌∙◌, subst, arith, append_assoc, append-nil, length-append, Result, Ok, Err, codes, decimal, All}
use Rattle.std.specs.List.{flat_map, AllByRecursion}
use Rattle.std.proofs.lemmas.Bool.{le-ltb, lt-leb, ne_eqb}
use Rattle.std.proofs.lemmas.List.{length-map}
use Rattle.std.proofs.lemmas.List.Elements.{recursion_from_All}
use Rattle.lit_base.specs.Literal.{Literal, IsWithin, literal_text}
use Rattle.lit_base.specs.Distinct.{distinct}
use Rattle.lit_base.specs.Cnf.{Cnf}
use Rattle.cnf_text.specs.declared.fault.CnfFault.{CnfFault}
use Rattle.cnf_text.specs.declared.fault.CnfFault.TheVariants.{TooManyClauses, TooFewClauses, OverLimit}
use Rattle.cnf_text.specs.declared.fault.Which.TheVariants.{Variables, Clauses}
use Rattle.cnf_text.specs.declared.class.Class.TheVariants.{Number}
use Rattle.cnf_text.specs.declared.stage.Stage.TheVariants.{AfterFormat, AfterVariables, AfterClauses, Body}
use Rattle.cnf_text.specs.declared.scan.Place.{Place}
use Rattle.cnf_text.specs.declared.scan.Place.TheVariants.{LineStart, Tokens}
use Rattle.cnf_text.specs.declared.scan.Scan.{Scan}
use Rattle.lit_base.specs.Results.{on_ok}
use Rattle.lit_base.specs.Lines.{is_blank}
use Rattle.lit_base.specs.Numeral.{sign_bytes}
use Rattle.cnf_text.specs.Progress.{ProgressState}
use Rattle.cnf_text.specs.Judge.{nothing, judge_at, judge_token, judge_number, judge_literal}
use Rattle.cnf_text.specs.Machine.{start, steps, is_between, step_blank, ends_at}
use Rattle.cnf_text.specs.Reading.{formula_of}
use Rattle.cnf_text.specs.Spelling.{clause_line, header_line, formula_text, literal_count, CanBeWritten}
use Rattle.cnf_text.proofs.Fed.{within_all, formula_is}
use Rattle.lit_base.proofs.Numerals.{AreSolid, digits_are_solid, IsDecimal, decimal_is}
use Rattle.cnf_text.proofs.Numerals.{in_token, pushes, blank_step, numeral_class, numeral_steps}

-- a number of at most seven digits
short_decimal : (n : ℕ) → n ≤ 4000000 → IsDecimal 7 n
short_decimal n small = decimal_is 7 n (omega arith) (omega arith) (omega arith)

-- the steps over a token and the blank behind it, in a line of tokens
word_blank : (line : ℕ) (p : ProgressState) (word : List ℕ) (blank : ℕ) (rest : List ℕ) → AreSolid word → length word ≤ 64 → is_blank blank ≡ true
    → steps (in_token line p []) (word ++ blank ∷ rest) ≡ on_ok (on_ok (judge_token p word line) (λ q. step_blank (in_token line q []) blank)) (λ t. steps t rest)
word_blank line p word blank rest solid short is =
    pushes line p [] word (blank ∷ rest) solid (omega arith) ∙ ap (λ r. on_ok r (λ t. steps t rest)) (blank_step line p word blank is)

-- the steps over a number of the header and the blank behind it
number_blank : (line : ℕ) (p : ProgressState) (n blank : ℕ) (rest : List ℕ) → n ≤ 4000000 → is_blank blank ≡ true
    → steps (in_token line p []) (decimal n ++ blank ∷ rest) ≡ on_ok (on_ok (judge_at p.stage p (Number true n) line) (λ q. step_blank (in_token line q []) blank)) (λ t. steps t rest)
number_blank line p n blank rest small is =
    let d = short_decimal n small in
    word_blank line p (decimal n) blank rest (subst AreSolid (sym d.is) (digits_are_solid (d.digit ∷ d.digits) d.all)) (omega (arith, ap length d.is, d.short)) is
    ∙ ap (λ r. on_ok (on_ok r (λ q. step_blank (in_token line q []) blank)) (λ t. steps t rest))
    (ap (λ (w : List ℕ). judge_token p w line) d.is ∙ ap (λ k. judge_at p.stage p k line) (numeral_class true d.digit d.digits d.all) ∙ ap (λ v. judge_at p.stage p (Number true v) line) d.value)

-- behind the header, with closed clauses and an open one
abbrev body : ℕ → ℕ → List (List Literal) → List Literal → ℕ → ProgressState
body variables limit closed open_lits count =
    record { stage = Body; limit = limit; formula = record { variables = variables; clauses = closed }; literals = open_lits; count = count }

-- between two tokens
abbrev between_at : Place → ℕ → ProgressState → Scan
between_at place line p = record { line = line; place = place; token = []; progress = p }

header_steps : (variables clauses : ℕ) (rest : List ℕ) → variables ≤ 1000000 → clauses ≤ 4000000
    → steps start (header_line variables clauses ++ rest) ≡ steps (between_at LineStart 2 (body variables clauses [] [] 0)) rest
header_steps variables clauses rest few count =
    ap (steps start) regrouped ∙ (let e : steps start (codes "p cnf " ++ tail) ≡ steps (in_token 1 first []) tail = refl in e)
    ∙ number_blank 1 first variables 32 (decimal clauses ++ 10 ∷ rest) (omega arith) refl
    ∙ ap (λ t. on_ok (on_ok (cond t (Err (OverLimit Variables 1)) (Ok second)) (λ q. step_blank (in_token 1 q []) 32)) (λ t. steps t (decimal clauses ++ 10 ∷ rest))) (le-ltb 1000000 variables few)
    ∙ number_blank 1 second clauses 10 rest count refl
    ∙ ap (λ t. on_ok (on_ok (cond t (Err (OverLimit Clauses 1)) (Ok (record second { stage = AfterClauses; limit = clauses }))) (λ q. step_blank (in_token 1 q []) 10)) (λ t. steps t rest)) (le-ltb 4000000 clauses count)
  where
    tail : List ℕ
    tail = decimal variables ++ 32 ∷ (decimal clauses ++ 10 ∷ rest)

    first : ProgressState
    first = record nothing { stage = AfterFormat }

    second : ProgressState
    second = record { stage = AfterVariables; limit = 0; formula = record { variables = variables; clauses = [] }; literals = []; count = 0 }

    regrouped : header_line variables clauses ++ rest ≡ codes "p cnf " ++ (decimal variables ++ 32 ∷ (decimal clauses ++ 10 ∷ rest))
    regrouped =
        append_assoc (codes "p cnf ") (decimal variables ++ (codes " " ++ (decimal clauses ++ codes "\n"))) rest
        ∙ ap (λ (xs : List ℕ). codes "p cnf " ++ xs) (append_assoc (decimal variables) (codes " " ++ (decimal clauses ++ codes "\n")) rest)
        ∙ ap (λ (xs : List ℕ). codes "p cnf " ++ (decimal variables ++ 32 ∷ xs)) (append_assoc (decimal clauses) (codes "\n") rest)

module _ (variables limit : ℕ) (few : variables ≤ 1000000) where
  -- one literal more
  literal_steps : (place : Place) (line : ℕ) (closed : List (List Literal)) (lits : List Literal) (count : ℕ) (l : Literal) (rest : List ℕ) → is_between place [] ≡ true
      → IsWithin variables l → length closed < limit → count < 8000000
      → steps (between_at place line (body variables limit closed lits count)) (literal_text l ++ 32 ∷ rest) ≡ steps (between_at Tokens line (body variables limit closed (lits ++ l ∷ []) (count + 1))) rest
  literal_steps place line closed lits count l rest between in_range wanted room =
      ap (λ (xs : List ℕ). steps s (xs ++ 32 ∷ rest)) text
      ∙ numeral_steps s l.positive d.digit d.digits 32 rest between refl d.all (short l.positive) refl
      ∙ ap (λ r. on_ok (on_ok r (λ q. step_blank (in_token line q []) 32)) (λ t. steps t rest))
      (ap (λ v. judge_number p l.positive v line) d.value ∙ literal l.positive ∙ judged)
    where
      d : IsDecimal 7 l.variable
      d = short_decimal l.variable (omega arith)

      p : ProgressState
      p = body variables limit closed lits count

      s : Scan
      s = between_at place line p

      text : literal_text l ≡ sign_bytes l.positive ++ d.digit ∷ d.digits
      text = by l.positive ∙ ap (λ (xs : List ℕ). sign_bytes l.positive ++ xs) d.is
        where
          by : (t : Bool) → cond t [] (45 ∷ []) ++ decimal l.variable ≡ sign_bytes t ++ decimal l.variable
          by true = refl
          by false = refl

      short : (t : Bool) → length (sign_bytes t ++ d.digit ∷ d.digits) ≤ 64
      short true = omega (arith, d.short)
      short false = omega (arith, d.short)

      literal : (t : Bool) → judge_number p t l.variable line ≡ judge_literal p t l.variable line
      literal true = rw (ne_eqb l.variable 0 (λ e. omega arith)) refl
      literal false = rw (ne_eqb l.variable 0 (λ e. omega arith)) refl

      judged : judge_literal p l.positive l.variable line ≡ Ok (body variables limit closed (lits ++ l ∷ []) (count + 1))
      judged = rw (le-ltb variables l.variable in_range.1, lt-leb limit (length closed) wanted, lt-leb 8000000 count room) refl

  -- the end of a clause, and of its line
  end_steps : (place : Place) (line : ℕ) (closed : List (List Literal)) (lits : List Literal) (count : ℕ) (rest : List ℕ) → is_between place [] ≡ true → length closed < limit
      → steps (between_at place line (body variables limit closed lits count)) (codes "0\n" ++ rest) ≡ steps (between_at LineStart (line + 1) (body variables limit (closed ++ distinct lits ∷ []) [] count)) rest
  end_steps place line closed lits count rest between wanted =
      numeral_steps s true 48 [] 10 rest between refl refl (omega arith) refl
      ∙ ap (λ t. on_ok (on_ok (cond t (Err (TooManyClauses line)) (Ok (body variables limit (closed ++ distinct lits ∷ []) [] count))) (λ q. step_blank (in_token line q []) 10)) (λ t. steps t rest)) (lt-leb limit (length closed) wanted)
    where
      s : Scan
      s = between_at place line (body variables limit closed lits count)

  -- the line of a clause
  clause_steps : (lits : List Literal) (place : Place) (line : ℕ) (closed : List (List Literal)) (before : List Literal) (count : ℕ) (rest : List ℕ) → is_between place [] ≡ true
      → AllByRecursion (IsWithin variables) lits → length closed < limit → count + length lits ≤ 8000000
      → steps (between_at place line (body variables limit closed before count)) (clause_line lits ++ rest)
      ≡ steps (between_at LineStart (line + 1) (body variables limit (closed ++ distinct (before ++ lits) ∷ []) [] (count + length lits))) rest
  clause_steps [] place line closed before count rest between in_range wanted room =
      end_steps place line closed before count rest between wanted
      ∙ ap (λ (xs : List Literal). steps (between_at LineStart (line + 1) (body variables limit (closed ++ distinct xs ∷ []) [] count)) rest) (sym (append-nil before))
      ∙ ap (λ n. steps (between_at LineStart (line + 1) (body variables limit (closed ++ distinct (before ++ []) ∷ []) [] n)) rest) (let e : count ≡ count + 0 = omega arith in e)
  clause_steps (l ∷ lits) place line closed before count rest between in_range wanted room =
      ap (steps (between_at place line (body variables limit closed before count))) (regrouped (flat_map (λ m. literal_text m ++ codes " ") lits))
      ∙ literal_steps place line closed before count l (clause_line lits ++ rest) between in_range.0 wanted (omega arith)
      ∙ clause_steps lits Tokens line closed (before ++ l ∷ []) (count + 1) rest refl in_range.1 wanted (omega arith)
      ∙ ap (λ (xs : List Literal). steps (between_at LineStart (line + 1) (body variables limit (closed ++ distinct xs ∷ []) [] (count + 1 + length lits))) rest) (append_assoc before (l ∷ []) lits)
      ∙ ap (λ n. steps (between_at LineStart (line + 1) (body variables limit (closed ++ distinct (before ++ l ∷ lits) ∷ []) [] n)) rest) (let e : count + 1 + length lits ≡ count + length (l ∷ lits) = omega arith in e)
    where
      regrouped : (words : List ℕ) → (((literal_text l ++ codes " ") ++ words) ++ codes "0\n") ++ rest ≡ literal_text l ++ 32 ∷ ((words ++ codes "0\n") ++ rest)
      regrouped words =
          ap (λ (xs : List ℕ). (xs ++ codes "0\n") ++ rest) (append_assoc (literal_text l) (codes " ") words)
          ∙ ap (λ (xs : List ℕ). xs ++ rest) (append_assoc (literal_text l) (32 ∷ words) (codes "0\n"))
          ∙ append_assoc (literal_text l) (32 ∷ (words ++ codes "0\n")) rest

  -- the lines of clauses
  clauses_steps : (clauses : List (List Literal)) (line : ℕ) (closed : List (List Literal)) (count : ℕ)
      → AllByRecursion (All (IsWithin variables)) clauses → length closed + length clauses ≤ limit → count + literal_count clauses ≤ 8000000
      → (last : ℕ) × (steps (between_at LineStart line (body variables limit closed [] count)) (flat_map clause_line clauses)
      ≡ Ok (between_at LineStart last (body variables limit (closed ++ map distinct clauses) [] (count + literal_count clauses))))
  clauses_steps [] line closed count in_range wanted room = (
    line,
    ap (λ (xs : List (List Literal)). let t : Result Scan CnfFault = Ok (between_at LineStart line (body variables limit xs [] count)) in t) (sym (append-nil closed))
        ∙ ap (λ n. let t : Result Scan CnfFault = Ok (between_at LineStart line (body variables limit (closed ++ []) [] n)) in t) (let e : count ≡ count + 0 = omega arith in e),
  )
  clauses_steps (lits ∷ others) line closed count in_range wanted room =
      let more = clauses_steps others (line + 1) (closed ++ distinct lits ∷ []) (count + length lits) in_range.1 (omega (arith, length-append closed (distinct lits ∷ []))) (omega arith) in (
        more.0,
        clause_steps lits LineStart line closed [] count (flat_map clause_line others) refl (recursion_from_All (IsWithin variables) lits in_range.0) (omega arith) (omega arith)
            ∙ more.1
            ∙ ap (λ (xs : List (List Literal)). let t : Result Scan CnfFault = Ok (between_at LineStart more.0 (body variables limit xs [] (count + length lits + literal_count others))) in t) (append_assoc closed (distinct lits ∷ []) (map distinct others))
            ∙ ap (λ n. let t : Result Scan CnfFault = Ok (between_at LineStart more.0 (body variables limit (closed ++ distinct lits ∷ map distinct others) [] n)) in t) (let e : count + length lits + literal_count others ≡ count + literal_count (lits ∷ others) = omega arith in e),
      )

-- how long the text is
literal_length : (variables : ℕ) (l : Literal) → variables ≤ 1000000 → IsWithin variables l → length (literal_text l) ≤ 8
literal_length variables l few in_range = by l.positive
  where
    d : IsDecimal 7 l.variable
    d = short_decimal l.variable (omega arith)

    by : (t : Bool) → length (cond t [] (45 ∷ []) ++ decimal l.variable) ≤ 8
    by true = omega (arith, ap length d.is, d.short)
    by false = omega (arith, ap length d.is, d.short)

words_length : (variables : ℕ) (lits : List Literal) → variables ≤ 1000000 → AllByRecursion (IsWithin variables) lits → length (flat_map (λ l. literal_text l ++ codes " ") lits) ≤ 9 * length lits
words_length variables [] few in_range = omega arith
words_length variables (l ∷ lits) few in_range =
    omega (arith, length-append (literal_text l ++ codes " ") (flat_map (λ m. literal_text m ++ codes " ") lits), length-append (literal_text l) (codes " "), literal_length variables l few in_range.0, words_length variables lits few in_range.1)

lines_length : (variables : ℕ) (clauses : List (List Literal)) → variables ≤ 1000000 → AllByRecursion (All (IsWithin variables)) clauses → length (flat_map clause_line clauses) ≤ 9 * literal_count clauses + 2 * length clauses
lines_length variables [] few in_range = omega arith
lines_length variables (lits ∷ others) few in_range =
    omega (
      arith,
      length-append (clause_line lits) (flat_map clause_line others),
      length-append (flat_map (λ m. literal_text m ++ codes " ") lits) (codes "0\n"),
      words_length variables lits few (recursion_from_All (IsWithin variables) lits in_range.0),
      lines_length variables others few in_range.1,
    )

header_length : (variables clauses : ℕ) → variables ≤ 1000000 → clauses ≤ 4000000 → length (header_line variables clauses) ≤ 22
header_length variables clauses few count =
    let d = short_decimal variables (omega arith) in
    let e = short_decimal clauses count in
    omega (
      arith,
      length-append (codes "p cnf ") (decimal variables ++ (codes " " ++ (decimal clauses ++ codes "\n"))),
      length-append (decimal variables) (codes " " ++ (decimal clauses ++ codes "\n")),
      length-append (decimal clauses) (codes "\n"),
      ap length d.is,
      d.short,
      ap length e.is,
      e.short,
    )

-- at the end of the text
end_is : (line variables : ℕ) (closed : List (List Literal)) (limit count : ℕ) → length closed ≡ limit
    → ends_at (between_at LineStart line (body variables limit closed [] count)) ≡ Ok (record { variables = variables; clauses = closed })
end_is line variables closed limit count same =
    ap (λ t. let r : Result Cnf CnfFault = cond t (Err (TooFewClauses line)) (Ok (record { variables = variables; clauses = closed })) in r) (le-ltb (length closed) limit (omega arith))

-- what is written as a formula is read as that formula
pub written_read : (variables : ℕ) (clauses : List (List Literal)) → CanBeWritten variables clauses
    → formula_of (formula_text variables clauses) ≡ Ok (record { variables = variables; clauses = map distinct clauses })
written_read variables clauses can =
    let each = recursion_from_All (All (IsWithin variables)) clauses can.within in
    let few = can.few_variables in
    let count = can.few_clauses in
    let lits = can.few_literals in
    let short : length (formula_text variables clauses) ≤ 268435456 =
    omega (arith, length-append (header_line variables (length clauses)) (flat_map clause_line clauses), header_length variables (length clauses) few count, lines_length variables clauses few each) in
    let read = clauses_steps variables (length clauses) few clauses 2 [] 0 each (omega arith) (omega arith) in
    whole (formula_text variables clauses) (between_at LineStart read.0 (body variables (length clauses) (map distinct clauses) [] (0 + literal_count clauses))) short
    (header_steps variables (length clauses) (flat_map clause_line clauses) few count ∙ read.1)
    ∙ end_is read.0 variables (map distinct clauses) (length clauses) (0 + literal_count clauses) (length-map clauses distinct)
  where
    whole : (bytes : List ℕ) (s : Scan) → length bytes ≤ 268435456 → steps start bytes ≡ Ok s → formula_of bytes ≡ ends_at s
    whole bytes s short is = formula_is bytes s (ap (steps start) (within_all bytes short) ∙ is) (λ going. short)
