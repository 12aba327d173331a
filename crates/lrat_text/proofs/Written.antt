-- What is written as a log is read as its lemmas.
use Rattle.std.proofs.Common.{◌≡◌, ℕ, ◌+◌, ◌*◌, ◌≤◌, Bool, true, false, cond, List, [], ◌∷◌, ◌++◌, length, take, map, refl, sym, ap, ◌∙◌, subst, arith, append_assoc, append-nil, length-append, Some, None, Result, Ok, Err, codes, decimal, All}
use Rattle.std.specs.List.{list_all, flat_map, AllByRecursion}
use Rattle.std.specs.Char.{is_ascii_digit}
use Rattle.std.proofs.lemmas.Bool.{le-ltb, lt-leb, ne_eqb, and_parts}
use Rattle.std.proofs.lemmas.List.Elements.{recursion_from_All}
use Rattle.lit_base.specs.Literal.{Literal, IsWithin, literal_text}
use Rattle.lit_base.specs.Text.{spaced, log_line_text}
use Rattle.lit_base.specs.Lines.{is_line_feed, is_blank, mark_of, is_comment}
use Rattle.lit_base.specs.Parts.{Parts, parts_of}
use Rattle.lit_base.specs.Results.{on_ok}
use Rattle.lit_base.specs.Numeral.{sign_bytes}
use Rattle.lit_base.specs.declared.proof.LineStep.TheVariants.{Add}
use Rattle.lit_base.proofs.LineParts.{parts_of_is, solid_no_feed, mark_other}
use Rattle.lit_base.proofs.Numerals.{digit_range, digit_is_solid, AreSolid, digits_are_solid, IsDecimal, decimal_is}
use Rattle.lrat_text.specs.declared.fault.LineFault.{LineFault}
use Rattle.lrat_text.specs.declared.fault.LineFault.TheVariants.{LineTooLong}
use Rattle.lrat_text.specs.declared.token.Token.TheVariants.{Number}
use Rattle.lrat_text.specs.declared.stage.Stage.{Stage}
use Rattle.lrat_text.specs.declared.stage.Stage.TheVariants.{Start, AfterId, Literals, Hints, Added}
use Rattle.lrat_text.specs.declared.progress.Progress.{Progress}
use Rattle.lrat_text.specs.Class.{class_of}
use Rattle.lrat_text.specs.Judge.{nothing, judge_number, judge_literal, judge_class, judge_token, judge_tokens, judge_content, line_end, line_step}
use Rattle.lrat_text.specs.Reading.{Steps, with_line, steps_from, proof_steps}
use Rattle.lrat_text.specs.Written.{NumberedLemma, IsId, CanBeWritten, log_of, additions_from}
use Rattle.lrat_text.proofs.Fed.{short_steps}
use Rattle.lrat_text.proofs.Numerals.{numeral_class}

-- no byte cuts the text
abbrev AreUncut : (ℕ → Bool) → List ℕ → Type 0
AreUncut cuts [] = Unit {0}
AreUncut cuts (b ∷ bs) = (cuts b ≡ false) × AreUncut cuts bs

uncut-append : (cuts : ℕ → Bool) (xs ys : List ℕ) → AreUncut cuts xs → AreUncut cuts ys → AreUncut cuts (xs ++ ys)
uncut-append cuts [] ys first second = second
uncut-append cuts (x ∷ xs) ys first second = (first.0, uncut-append cuts xs ys first.1 second)

solid_uncut : (xs : List ℕ) → AreSolid xs → AreUncut is_blank xs
solid_uncut [] solid = tt
solid_uncut (x ∷ xs) solid = (solid.0, solid_uncut xs solid.1)

solid_feedless : (xs : List ℕ) → AreSolid xs → AreUncut is_line_feed xs
solid_feedless [] solid = tt
solid_feedless (x ∷ xs) solid = (solid_no_feed x solid.0, solid_feedless xs solid.1)

-- the parts of a text that begins with bytes that don't cut
uncut_parts : (cuts : ℕ → Bool) (xs rest : List ℕ) → AreUncut cuts xs → parts_of cuts (xs ++ rest) ≡ record { first = xs ++ (parts_of cuts rest).first; others = (parts_of cuts rest).others }
uncut_parts cuts [] rest uncut = refl
uncut_parts cuts (x ∷ xs) rest uncut =
    parts_of_is cuts x (xs ++ rest) false uncut.0 ∙ ap (λ (q : Parts). let p : Parts = record { first = x ∷ q.first; others = q.others } in p) (uncut_parts cuts xs rest uncut.1)

-- words without blanks
abbrev AreWords : List (List ℕ) → Type 0
AreWords [] = Unit {0}
AreWords (w ∷ ws) = AreSolid w × AreWords ws

words-append : (vs ws : List (List ℕ)) → AreWords vs → AreWords ws → AreWords (vs ++ ws)
words-append [] ws first second = second
words-append (v ∷ vs) ws first second = (first.0, words-append vs ws first.1 second)

-- the tokens of words with a blank before each but the first
word_parts : (w : List ℕ) (ws : List (List ℕ)) → AreSolid w → AreWords ws → parts_of is_blank (w ++ spaced ws) ≡ record { first = w; others = ws }
word_parts w [] solid words =
    uncut_parts is_blank w [] (solid_uncut w solid) ∙ ap (λ (xs : List ℕ). let p : Parts = record { first = xs; others = [] } in p) (append-nil w)
word_parts w (v ∷ vs) solid words =
    uncut_parts is_blank w (32 ∷ (v ++ spaced vs)) (solid_uncut w solid)
    ∙ ap (λ (q : Parts). let p : Parts = record { first = w ++ []; others = q.first ∷ q.others } in p) (word_parts v vs words.0 words.1)
    ∙ ap (λ (xs : List ℕ). let p : Parts = record { first = xs; others = v ∷ vs } in p) (append-nil w)

words_feedless : (ws : List (List ℕ)) → AreWords ws → AreUncut is_line_feed (spaced ws)
words_feedless [] words = tt
words_feedless (w ∷ ws) words = (refl, uncut-append is_line_feed w (spaced ws) (solid_feedless w words.0) (words_feedless ws words.1))

-- words one after the other
spaced-map : {A : Type 0} (f : A → List ℕ) (xs : List A) (ws : List (List ℕ)) → spaced (map f xs ++ ws) ≡ flat_map (λ x. 32 ∷ f x) xs ++ spaced ws
spaced-map f [] ws = refl
spaced-map f (x ∷ xs) ws =
    ap (λ (ys : List ℕ). (32 ∷ f x) ++ ys) (spaced-map f xs ws) ∙ sym (append_assoc (32 ∷ f x) (flat_map (λ y. 32 ∷ f y) xs) (spaced ws))

-- the words of a line behind its first
abbrev words_of : List Literal → List ℕ → List (List ℕ)
words_of lits hints = map literal_text lits ++ codes "0" ∷ (map decimal hints ++ codes "0" ∷ [])

-- a line without its LF
abbrev line_bytes : NumberedLemma → List ℕ
line_bytes lemma = decimal lemma.id ++ spaced (words_of lemma.lits lemma.hints)

line_is : (lemma : NumberedLemma) → log_line_text lemma.id lemma.lits lemma.hints ≡ line_bytes lemma ++ 10 ∷ []
line_is lemma =
    append_assoc ((decimal lemma.id ++ lits) ++ codes " 0") hints (codes " 0\n")
    ∙ append_assoc (decimal lemma.id ++ lits) (codes " 0") (hints ++ codes " 0\n")
    ∙ append_assoc (decimal lemma.id) lits (codes " 0" ++ (hints ++ codes " 0\n"))
    ∙ ap (λ (xs : List ℕ). decimal lemma.id ++ xs) behind ∙ sym (append_assoc (decimal lemma.id) (spaced (words_of lemma.lits lemma.hints)) (10 ∷ []))
  where
    lits : List ℕ
    lits = flat_map (λ l. 32 ∷ literal_text l) lemma.lits

    hints : List ℕ
    hints = flat_map (λ h. 32 ∷ decimal h) lemma.hints

    behind : lits ++ (codes " 0" ++ (hints ++ codes " 0\n")) ≡ spaced (words_of lemma.lits lemma.hints) ++ 10 ∷ []
    behind =
        sym (ap (λ (xs : List ℕ). xs ++ 10 ∷ []) (spaced-map literal_text lemma.lits (codes "0" ∷ (map decimal lemma.hints ++ codes "0" ∷ []))
        ∙ ap (λ (xs : List ℕ). lits ++ (codes " 0" ++ xs)) (spaced-map decimal lemma.hints (codes "0" ∷ [])))
        ∙ append_assoc lits (codes " 0" ++ (hints ++ codes " 0")) (10 ∷ [])
        ∙ ap (λ (xs : List ℕ). lits ++ (codes " 0" ++ xs)) (append_assoc hints (codes " 0") (10 ∷ [])))

-- a number that a clause may have, in decimal
id_decimal : (n : ℕ) → IsId n → IsDecimal 19 n
id_decimal n is = decimal_is 19 n (omega arith) (omega arith) (omega arith)

id_solid : (n : ℕ) → IsId n → AreSolid (decimal n)
id_solid n is = let d = id_decimal n is in subst AreSolid (sym d.is) (digits_are_solid (d.digit ∷ d.digits) d.all)

id_length : (n : ℕ) → IsId n → length (decimal n) ≤ 19
id_length n is = let d = id_decimal n is in omega (arith, ap length d.is, d.short)

id_class : (n : ℕ) → IsId n → class_of (decimal n) ≡ Number true n
id_class n is =
    let d = id_decimal n is in
    ap class_of d.is ∙ numeral_class true d.digit d.digits d.all ∙ ap (λ v. Number true v) d.value

variable_decimal : (l : Literal) → IsWithin 1000000 l → IsDecimal 7 l.variable
variable_decimal l is = decimal_is 7 l.variable (omega arith) (omega arith) (omega arith)

literal_is : (l : Literal) (is : IsWithin 1000000 l) → literal_text l ≡ sign_bytes l.positive ++ (variable_decimal l is).digit ∷ (variable_decimal l is).digits
literal_is l is = by l.positive ∙ ap (λ (xs : List ℕ). sign_bytes l.positive ++ xs) (variable_decimal l is).is
  where
    by : (t : Bool) → cond t [] (45 ∷ []) ++ decimal l.variable ≡ sign_bytes t ++ decimal l.variable
    by true = refl
    by false = refl

literal_solid : (l : Literal) → IsWithin 1000000 l → AreSolid (literal_text l)
literal_solid l is = subst AreSolid (sym (literal_is l is)) (by l.positive)
  where
    d : IsDecimal 7 l.variable
    d = variable_decimal l is

    by : (t : Bool) → AreSolid (sign_bytes t ++ d.digit ∷ d.digits)
    by true = digits_are_solid (d.digit ∷ d.digits) d.all
    by false = (refl, digits_are_solid (d.digit ∷ d.digits) d.all)

literal_length : (l : Literal) → IsWithin 1000000 l → length (literal_text l) ≤ 8
literal_length l is = by l.positive (ap length (literal_is l is))
  where
    d : IsDecimal 7 l.variable
    d = variable_decimal l is

    by : (t : Bool) → length (literal_text l) ≡ length (sign_bytes t ++ d.digit ∷ d.digits) → length (literal_text l) ≤ 8
    by true same = omega (arith, same, d.short)
    by false same = omega (arith, same, d.short)

literal_class : (l : Literal) → IsWithin 1000000 l → class_of (literal_text l) ≡ Number l.positive l.variable
literal_class l is =
    let d = variable_decimal l is in
    ap class_of (literal_is l is) ∙ numeral_class l.positive d.digit d.digits d.all ∙ ap (λ v. Number l.positive v) d.value

-- the words of a line that can be written
lits_words : (lits : List Literal) → AllByRecursion (IsWithin 1000000) lits → AreWords (map literal_text lits)
lits_words [] each = tt
lits_words (l ∷ lits) each = (literal_solid l each.0, lits_words lits each.1)

hints_words : (hints : List ℕ) → AllByRecursion IsId hints → AreWords (map decimal hints)
hints_words [] each = tt
hints_words (h ∷ hints) each = (id_solid h each.0, hints_words hints each.1)

zero_word : AreWords (codes "0" ∷ [])
zero_word = ((refl, tt), tt)

line_words : (lits : List Literal) (hints : List ℕ) → AllByRecursion (IsWithin 1000000) lits → AllByRecursion IsId hints → AreWords (words_of lits hints)
line_words lits hints few ids =
    words-append (map literal_text lits) (codes "0" ∷ (map decimal hints ++ codes "0" ∷ [])) (lits_words lits few) ((refl, tt), words-append (map decimal hints) (codes "0" ∷ []) (hints_words hints ids) zero_word)

-- how long they are
lits_length : (lits : List Literal) → AllByRecursion (IsWithin 1000000) lits → length (flat_map (λ l. 32 ∷ literal_text l) lits) ≤ 9 * length lits
lits_length [] each = omega arith
lits_length (l ∷ lits) each = omega (arith, length-append (32 ∷ literal_text l) (flat_map (λ m. 32 ∷ literal_text m) lits), literal_length l each.0, lits_length lits each.1)

hints_length : (hints : List ℕ) → AllByRecursion IsId hints → length (flat_map (λ h. 32 ∷ decimal h) hints) ≤ 20 * length hints
hints_length [] each = omega arith
hints_length (h ∷ hints) each = omega (arith, length-append (32 ∷ decimal h) (flat_map (λ i. 32 ∷ decimal i) hints), id_length h each.0, hints_length hints each.1)

line_length : (lemma : NumberedLemma) → CanBeWritten lemma → length (line_bytes lemma) ≤ 33554432
line_length lemma can =
    let lits = flat_map (λ l. 32 ∷ literal_text l) lemma.lits in
    let hints = flat_map (λ h. 32 ∷ decimal h) lemma.hints in
    omega (
      arith,
      length-append (decimal lemma.id) (spaced (words_of lemma.lits lemma.hints)),
      id_length lemma.id can.id,
      ap length (spaced-map literal_text lemma.lits (codes "0" ∷ (map decimal lemma.hints ++ codes "0" ∷ []))),
      length-append lits (spaced (codes "0" ∷ (map decimal lemma.hints ++ codes "0" ∷ []))),
      ap length (spaced-map decimal lemma.hints (codes "0" ∷ [])),
      length-append hints (spaced (codes "0" ∷ [])),
      lits_length lemma.lits (recursion_from_All (IsWithin 1000000) lemma.lits can.lits),
      hints_length lemma.hints (recursion_from_All IsId lemma.hints can.hints),
      can.few_lits,
      can.few_hints,
    )

-- words that are judged one after the other
abbrev judge_words : Progress → ℕ → List (List ℕ) → Result Progress LineFault
judge_words p line [] = Ok p
judge_words p line (w ∷ ws) = on_ok (judge_token p w line) (λ q. judge_words q line ws)

tokens_are_words : (p : Progress) (line : ℕ) (w : List ℕ) (ws : List (List ℕ)) → judge_tokens p line true w ws ≡ judge_words p line (w ∷ ws)
tokens_are_words p line w [] = by (judge_token p w line)
  where
    by : (r : Result Progress LineFault) → r ≡ on_ok r (λ q. Ok q)
    by (Ok q) = refl
    by (Err fault) = refl
tokens_are_words p line w (v ∷ vs) = by (judge_token p w line) (λ q. tokens_are_words q line v vs)
  where
    by : (r : Result Progress LineFault) → ((q : Progress) → judge_tokens q line true v vs ≡ judge_words q line (v ∷ vs)) → on_ok r (λ q. judge_tokens q line true v vs) ≡ on_ok r (λ q. judge_words q line (v ∷ vs))
    by (Ok q) each = each q
    by (Err fault) each = refl

-- behind the id and some literals
abbrev at_lits : Stage → ℕ → List Literal → Progress
at_lits stage id lits = record { stage = stage; id = id; lits = lits; ids = [] }

-- behind the literals and some hints
abbrev at_hints : Stage → ℕ → List Literal → List ℕ → Progress
at_hints stage id lits hints = record { stage = stage; id = id; lits = lits; ids = hints }

-- at this stage a number is a literal
abbrev TakesLiterals : Stage → Type 0
TakesLiterals stage = (p : Progress) (positive : Bool) (value line : ℕ) → judge_number stage p positive value line ≡ judge_literal p positive value line

lits_judged : (line id : ℕ) (lits : List Literal) (stage : Stage) (before : List Literal) (ws : List (List ℕ)) → TakesLiterals stage → AllByRecursion (IsWithin 1000000) lits
    → judge_words (at_lits stage id before) line (map literal_text lits ++ codes "0" ∷ ws) ≡ judge_words (at_hints Hints id (before ++ lits) []) line ws
lits_judged line id [] stage before ws takes each =
    ap (λ r. on_ok r (λ q. judge_words q line ws)) (takes (at_lits stage id before) true 0 line)
    ∙ ap (λ (ls : List Literal). judge_words (at_hints Hints id ls []) line ws) (sym (append-nil before))
lits_judged line id (l ∷ lits) stage before ws takes each =
    ap (λ c. on_ok (judge_class c (at_lits stage id before) line) (λ q. judge_words q line (map literal_text lits ++ codes "0" ∷ ws))) (literal_class l each.0)
    ∙ ap (λ r. on_ok r (λ q. judge_words q line (map literal_text lits ++ codes "0" ∷ ws)))
    (takes (at_lits stage id before) l.positive l.variable line ∙ literal)
    ∙ lits_judged line id lits Literals (before ++ l ∷ []) ws (λ p positive value n. refl) each.1
    ∙ ap (λ (ls : List Literal). judge_words (at_hints Hints id ls []) line ws) (append_assoc before (l ∷ []) lits)
  where
    literal : judge_literal (at_lits stage id before) l.positive l.variable line ≡ Ok (at_lits Literals id (before ++ l ∷ []))
    literal = rw (ne_eqb l.variable 0 (λ e. omega arith), le-ltb 1000000 l.variable each.0.1) refl

hints_judged : (line id : ℕ) (lits : List Literal) (hints before : List ℕ) → AllByRecursion IsId hints
    → judge_words (at_hints Hints id lits before) line (map decimal hints ++ codes "0" ∷ []) ≡ Ok (at_hints Added id lits (before ++ hints))
hints_judged line id lits [] before each = ap (λ (hs : List ℕ). let r : Result Progress LineFault = Ok (at_hints Added id lits hs) in r) (sym (append-nil before))
hints_judged line id lits (h ∷ hints) before each =
    ap (λ c. on_ok (judge_class c (at_hints Hints id lits before) line) (λ q. judge_words q line (map decimal hints ++ codes "0" ∷ []))) (id_class h each.0)
    ∙ ap (λ r. on_ok r (λ q. judge_words q line (map decimal hints ++ codes "0" ∷ [])))
    (let e : judge_number Hints (at_hints Hints id lits before) true h line ≡ Ok (at_hints Hints id lits (before ++ h ∷ [])) = rw (ne_eqb h 0 (λ e. omega arith), lt-leb 9223372036854775808 h each.0.1) refl in e)
    ∙ hints_judged line id lits hints (before ++ h ∷ []) each.1
    ∙ ap (λ (hs : List ℕ). let r : Result Progress LineFault = Ok (at_hints Added id lits hs) in r) (append_assoc before (h ∷ []) hints)

-- the words of a line are its lemma
words_judged : (line : ℕ) (lemma : NumberedLemma) → CanBeWritten lemma
    → judge_words nothing line (decimal lemma.id ∷ words_of lemma.lits lemma.hints) ≡ Ok (at_hints Added lemma.id lemma.lits lemma.hints)
words_judged line lemma can =
    ap (λ c. on_ok (judge_class c nothing line) (λ q. judge_words q line (words_of lemma.lits lemma.hints))) (id_class lemma.id can.id)
    ∙ ap (λ r. on_ok r (λ q. judge_words q line (words_of lemma.lits lemma.hints)))
    (let e : judge_number Start nothing true lemma.id line ≡ Ok (at_lits AfterId lemma.id []) = rw (ne_eqb lemma.id 0 (λ e. omega arith), lt-leb 9223372036854775808 lemma.id can.id.1) refl in e)
    ∙ lits_judged line lemma.id lemma.lits AfterId [] (map decimal lemma.hints ++ codes "0" ∷ []) (λ p positive value n. refl) (recursion_from_All (IsWithin 1000000) lemma.lits can.lits)
    ∙ hints_judged line lemma.id lemma.lits lemma.hints [] (recursion_from_All IsId lemma.hints can.hints)

-- a line that begins with a digit is no comment
digit_line : (id : ℕ) (rest : List ℕ) → IsId id → is_comment (mark_of (decimal id ++ rest)) ≡ false
digit_line id rest is =
    ap (λ (xs : List ℕ). is_comment (mark_of (xs ++ rest))) d.is ∙ ap is_comment (mark_other d.digit (d.digits ++ rest) (digit_is_solid d.digit digit)) ∙ ne_eqb d.digit 99 (λ e. omega (arith, (digit_range d.digit digit).1))
  where
    d : IsDecimal 19 id
    d = id_decimal id is

    digit : is_ascii_digit d.digit ≡ true
    digit = (and_parts (is_ascii_digit d.digit) (list_all is_ascii_digit d.digits) d.all).0

-- a line says its lemma
line_read : (line : ℕ) (lemma : NumberedLemma) → CanBeWritten lemma → line_step line true (line_bytes lemma) ≡ Ok (Some (record { line = line; step = Add lemma.id lemma.lits lemma.hints }))
line_read line lemma can =
    ap (λ t. on_ok (cond t (on_ok (judge_content line false (take 33554432 (line_bytes lemma))) (λ p. Err (LineTooLong line))) (judge_content line true (line_bytes lemma))) (λ p. line_end true p line))
    (le-ltb 33554432 (length (line_bytes lemma)) (line_length lemma can))
    ∙ ap (λ r. on_ok r (λ p. line_end true p line)) content
  where
    content : judge_content line true (line_bytes lemma) ≡ Ok (at_hints Added lemma.id lemma.lits lemma.hints)
    content =
        ap (λ t. cond t (Ok nothing) (judge_tokens nothing line true (parts_of is_blank (line_bytes lemma)).first (parts_of is_blank (line_bytes lemma)).others)) (digit_line lemma.id (spaced (words_of lemma.lits lemma.hints)) can.id)
        ∙ ap (λ (q : Parts). judge_tokens nothing line true q.first q.others)
        (word_parts (decimal lemma.id) (words_of lemma.lits lemma.hints) (id_solid lemma.id can.id)
        (line_words lemma.lits lemma.hints (recursion_from_All (IsWithin 1000000) lemma.lits can.lits) (recursion_from_All IsId lemma.hints can.hints)))
        ∙ tokens_are_words nothing line (decimal lemma.id) (words_of lemma.lits lemma.hints) ∙ words_judged line lemma can

-- the lines of a log say its lemmas
log_read : (lemmas : List NumberedLemma) (line : ℕ) → AllByRecursion CanBeWritten lemmas
    → steps_from true line (parts_of is_line_feed (log_of lemmas)).first (parts_of is_line_feed (log_of lemmas)).others ≡ record { lines = additions_from line lemmas; fault = None }
log_read [] line each = refl
log_read (lemma ∷ more) line each =
    ap (λ (xs : List ℕ). from (parts_of is_line_feed (xs ++ log_of more))) (line_is lemma)
    ∙ ap (λ (xs : List ℕ). from (parts_of is_line_feed xs)) (append_assoc (line_bytes lemma) (10 ∷ []) (log_of more))
    ∙ ap from (uncut_parts is_line_feed (line_bytes lemma) (10 ∷ log_of more) feedless)
    ∙ ap (λ (xs : List ℕ). with_line (line_step line true xs) later) (append-nil (line_bytes lemma))
    ∙ ap (λ r. with_line r later) (line_read line lemma each.0)
    ∙ ap (λ (s : Steps). with_line (Ok (Some (record { line = line; step = Add lemma.id lemma.lits lemma.hints }))) s) (log_read more (line + 1) each.1)
  where
    from : Parts → Steps
    from q = steps_from true line q.first q.others

    later : Steps
    later = steps_from true (line + 1) (parts_of is_line_feed (log_of more)).first (parts_of is_line_feed (log_of more)).others

    feedless : AreUncut is_line_feed (line_bytes lemma)
    feedless =
        uncut-append is_line_feed (decimal lemma.id) (spaced (words_of lemma.lits lemma.hints)) (solid_feedless (decimal lemma.id) (id_solid lemma.id each.0.id))
        (words_feedless (words_of lemma.lits lemma.hints) (line_words lemma.lits lemma.hints (recursion_from_All (IsWithin 1000000) lemma.lits each.0.lits) (recursion_from_All IsId lemma.hints each.0.hints)))

-- what is written as a log is read as its lemmas
pub written_read : (lemmas : List NumberedLemma) → All CanBeWritten lemmas → length (log_of lemmas) ≤ 1099511627776 → proof_steps (log_of lemmas) ≡ record { lines = additions_from 1 lemmas; fault = None }
unfolding proof_steps
written_read lemmas can few = short_steps true (log_of lemmas) few ∙ log_read lemmas 1 (recursion_from_All CanBeWritten lemmas can)
