-- A comment changes no formula.
use Rattle.std.proofs.Common.{◌≡◌, ℕ, ◌+◌, ◌≤◌, ◌==◌, ◌⊎◌, ◌↔◌, inl, inr, Bool, true, false, not, cond, ltb, leb, List, [], ◌∷◌, ◌++◌, length, refl, sym, ap, ◌∙◌, subst, arith, length-append, Some, Result, Ok, Err}
use Rattle.std.specs.List.{list_all}
use Rattle.std.proofs.lemmas.Bool.{and_parts, not-true}
use Rattle.lit_base.specs.Cnf.{Cnf}
use Rattle.cnf_text.specs.declared.fault.CnfFault.{CnfFault}
use Rattle.cnf_text.specs.declared.fault.CnfFault.TheVariants.{NoHeader, BadHeader, BadNumber, VariableAbove, TooManyClauses, TooFewClauses, Unclosed, OverLimit, TooLong, NoMemory}
use Rattle.cnf_text.specs.declared.fault.Which.TheVariants.{Variables, Clauses, Literals}
use Rattle.cnf_text.specs.declared.class.Class.{Class}
use Rattle.cnf_text.specs.declared.class.Class.TheVariants.{Magic, Format, Number, Other}
use Rattle.cnf_text.specs.declared.stage.Stage.{Stage}
use Rattle.cnf_text.specs.declared.stage.Stage.TheVariants.{Start, AfterMagic, AfterFormat, AfterVariables, AfterClauses, Body}
use Rattle.cnf_text.specs.declared.scan.Place.{Place}
use Rattle.cnf_text.specs.declared.scan.Place.TheVariants.{LineStart, Comment, Tokens, Ended}
use Rattle.cnf_text.specs.declared.scan.Scan.{Scan}
use Rattle.lit_base.specs.Results.{on_ok}
use Rattle.lit_base.specs.Lines.{is_line_feed, is_blank, mark_of, is_comment}
use Rattle.cnf_text.specs.Class.{class_of}
use Rattle.cnf_text.specs.Progress.{ProgressState}
use Rattle.cnf_text.specs.Judge.{judge_literal, judge_end, judge_number, judge_at, judge_token, judge_line_end, finish_at, finish}
use Rattle.cnf_text.specs.Machine.{start, end_token, end_line, step_at, step, steps, is_ended_at, ends_at}
use Rattle.cnf_text.specs.Reading.{within, formula_of}
use Rattle.cnf_text.specs.Laws.{lines_text, IsComment}
use Rattle.cnf_text.proofs.Fed.{steps_append, ended_stays, within_all, early_err, formula_is, formula_early}

-- a fault one line further down
later_fault : CnfFault → CnfFault
later_fault (NoHeader line) = NoHeader (line + 1)
later_fault (BadHeader line) = BadHeader (line + 1)
later_fault (BadNumber line) = BadNumber (line + 1)
later_fault (VariableAbove line) = VariableAbove (line + 1)
later_fault (TooManyClauses line) = TooManyClauses (line + 1)
later_fault (TooFewClauses line) = TooFewClauses (line + 1)
later_fault (Unclosed line) = Unclosed (line + 1)
later_fault (OverLimit which line) = OverLimit which (line + 1)
later_fault (TooLong line) = TooLong (line + 1)
later_fault NoMemory = NoMemory

-- the same result, its fault one line further down
abbrev err_later : {A : Type 0} → Result A CnfFault → Result A CnfFault
err_later (Ok x) = Ok x
err_later (Err fault) = Err (later_fault fault)

-- the same place, one line further down
abbrev later : Scan → Scan
later s = record { line = s.line + 1; place = s.place; token = s.token; progress = s.progress }

abbrev later_result : Result Scan CnfFault → Result Scan CnfFault
later_result (Ok s) = Ok (later s)
later_result (Err fault) = Err (later_fault fault)

-- a test that finds a fault, one line further down
test_later : {A : Type 0} (t : Bool) (fault below : CnfFault) (next : A) → below ≡ later_fault fault → cond t (Err below) (Ok next) ≡ err_later (cond t (Err fault) (Ok next))
unfolding later_fault
test_later true fault below next is = ap (λ (f : CnfFault). Err f) is
test_later false fault below next is = refl

literal_later : (p : ProgressState) (positive : Bool) (v line : ℕ) → judge_literal p positive v (line + 1) ≡ err_later (judge_literal p positive v line)
unfolding later_fault
literal_later p positive v line = by (ltb p.formula.variables v) (leb p.limit (length p.formula.clauses)) (leb 8000000 p.count)
  where
    next : ProgressState
    next = record p { literals = p.literals ++ record { variable = v; positive = positive } ∷ []; count = p.count + 1 }

    by : (t u w : Bool) → cond t (Err (VariableAbove (line + 1))) (cond u (Err (TooManyClauses (line + 1))) (cond w (Err (OverLimit Literals (line + 1))) (Ok next)))
        ≡ err_later (cond t (Err (VariableAbove line)) (cond u (Err (TooManyClauses line)) (cond w (Err (OverLimit Literals line)) (Ok next))))
    by true u w = refl
    by false true w = refl
    by false false true = refl
    by false false false = refl

clause_end_later : (p : ProgressState) (line : ℕ) → judge_end p (line + 1) ≡ err_later (judge_end p line)
unfolding later_fault
clause_end_later p line = test_later (leb p.limit (length p.formula.clauses)) (TooManyClauses line) _ _ refl

number_later : (p : ProgressState) (positive : Bool) (v line : ℕ) → judge_number p positive v (line + 1) ≡ err_later (judge_number p positive v line)
unfolding later_fault
number_later p true v line = by (v == 0)
  where
    by : (t : Bool) → cond t (judge_end p (line + 1)) (judge_literal p true v (line + 1)) ≡ err_later (cond t (judge_end p line) (judge_literal p true v line))
    by true = clause_end_later p line
    by false = literal_later p true v line
number_later p false v line = by (v == 0)
  where
    by : (t : Bool) → cond t (Err (BadNumber (line + 1))) (judge_literal p false v (line + 1)) ≡ err_later (cond t (Err (BadNumber line)) (judge_literal p false v line))
    by true = refl
    by false = literal_later p false v line

class_later : (stage : Stage) (class : Class) (p : ProgressState) (line : ℕ) → judge_at stage p class (line + 1) ≡ err_later (judge_at stage p class line)
unfolding later_fault
class_later Start Magic p line = refl
class_later Start Format p line = refl
class_later Start (Number positive v) p line = refl
class_later Start Other p line = refl
class_later AfterMagic Magic p line = refl
class_later AfterMagic Format p line = refl
class_later AfterMagic (Number positive v) p line = refl
class_later AfterMagic Other p line = refl
class_later AfterFormat Magic p line = refl
class_later AfterFormat Format p line = refl
class_later AfterFormat (Number false v) p line = refl
class_later AfterFormat (Number true v) p line = test_later (ltb 1000000 v) (OverLimit Variables line) _ _ refl
class_later AfterFormat Other p line = refl
class_later AfterVariables Magic p line = refl
class_later AfterVariables Format p line = refl
class_later AfterVariables (Number false v) p line = refl
class_later AfterVariables (Number true v) p line = test_later (ltb 4000000 v) (OverLimit Clauses line) _ _ refl
class_later AfterVariables Other p line = refl
class_later AfterClauses class p line = refl
class_later Body Magic p line = refl
class_later Body Format p line = refl
class_later Body (Number positive v) p line = number_later p positive v line
class_later Body Other p line = refl

token_later : (p : ProgressState) (token : List ℕ) (line : ℕ) → judge_token p token (line + 1) ≡ err_later (judge_token p token line)
token_later p [] line = refl
token_later p (b ∷ bs) line = class_later p.stage (class_of (b ∷ bs)) p line

line_end_later : (stage : Stage) (p : ProgressState) (line : ℕ) → judge_line_end stage p (line + 1) ≡ err_later (judge_line_end stage p line)
unfolding later_fault
line_end_later Start p line = refl
line_end_later AfterMagic p line = refl
line_end_later AfterFormat p line = refl
line_end_later AfterVariables p line = refl
line_end_later AfterClauses p line = refl
line_end_later Body p line = refl

finish_later : (stage : Stage) (p : ProgressState) (line : ℕ) → finish_at stage p (line + 1) ≡ err_later (finish_at stage p line)
unfolding later_fault
finish_later Start p line = refl
finish_later AfterMagic p line = refl
finish_later AfterFormat p line = refl
finish_later AfterVariables p line = refl
finish_later AfterClauses p line = refl
finish_later Body p line = by (length p.literals == 0) (ltb (length p.formula.clauses) p.limit)
  where
    by : (t u : Bool) → cond t (cond u (Err (TooFewClauses (line + 1))) (Ok p.formula)) (Err (Unclosed (line + 1))) ≡ err_later (cond t (cond u (Err (TooFewClauses line)) (Ok p.formula)) (Err (Unclosed line)))
    by true true = refl
    by true false = refl
    by false u = refl

end_line_later : (s : Scan) → end_line (later s) ≡ later_result (end_line s)
end_line_later s = ap (λ r. on_ok r (λ p. next (s.line + 1) p)) (line_end_later s.progress.stage s.progress s.line) ∙ by (judge_line_end s.progress.stage s.progress s.line)
  where
    next : ℕ → ProgressState → Result Scan CnfFault
    next line p = Ok (record { line = line + 1; place = LineStart; token = []; progress = p })

    by : (r : Result ProgressState CnfFault) → on_ok (err_later r) (λ p. next (s.line + 1) p) ≡ later_result (on_ok r (λ p. next s.line p))
    by (Ok p) = refl
    by (Err fault) = refl

end_token_later : (s : Scan) → end_token (later s) ≡ later_result (end_token s)
end_token_later s = ap (λ r. on_ok r (λ p. next (s.line + 1) p)) (token_later s.progress s.token s.line) ∙ by (judge_token s.progress s.token s.line)
  where
    next : ℕ → ProgressState → Result Scan CnfFault
    next line p = Ok (record { line = line; place = s.place; token = []; progress = p })

    by : (r : Result ProgressState CnfFault) → on_ok (err_later r) (λ p. next (s.line + 1) p) ≡ later_result (on_ok r (λ p. next s.line p))
    by (Ok p) = refl
    by (Err fault) = refl

-- a step one line further down
step_later : (place : Place) (s : Scan) (b : ℕ) → step_at place (later s) b ≡ later_result (step_at place s b)
unfolding later_fault
step_later LineStart s b = by (is_line_feed b) (is_blank b) (b == 99) (b == 37)
  where
    by : (t u v w : Bool) → cond t (end_line (later s)) (cond u (Ok (later s)) (cond v (Ok (record (later s) { place = Comment })) (cond w (Ok (record (later s) { place = Ended })) (Ok (record (later s) { place = Tokens; token = b ∷ [] })))))
        ≡ later_result (cond t (end_line s) (cond u (Ok s) (cond v (Ok (record s { place = Comment })) (cond w (Ok (record s { place = Ended })) (Ok (record s { place = Tokens; token = b ∷ [] }))))))
    by true u v w = end_line_later s
    by false true v w = refl
    by false false true w = refl
    by false false false true = refl
    by false false false false = refl
step_later Comment s b = by (is_line_feed b)
  where
    by : (t : Bool) → cond t (end_line (later s)) (Ok (later s)) ≡ later_result (cond t (end_line s) (Ok s))
    by true = end_line_later s
    by false = refl
step_later Tokens s b = by (is_blank b) (is_line_feed b) (leb 64 (length s.token))
  where
    both : (r : Result Scan CnfFault) → on_ok (later_result r) end_line ≡ later_result (on_ok r end_line)
    both (Ok t) = end_line_later t
    both (Err fault) = refl

    by : (t u v : Bool) → cond t (cond u (on_ok (end_token (later s)) end_line) (end_token (later s))) (cond v (Err (TooLong (s.line + 1))) (Ok (record (later s) { token = s.token ++ b ∷ [] })))
        ≡ later_result (cond t (cond u (on_ok (end_token s) end_line) (end_token s)) (cond v (Err (TooLong s.line)) (Ok (record s { token = s.token ++ b ∷ [] }))))
    by true true v = ap (λ r. on_ok r end_line) (end_token_later s) ∙ both (end_token s)
    by true false v = end_token_later s
    by false u true = refl
    by false u false = refl
step_later Ended s b = refl

steps_later : (s : Scan) (bytes : List ℕ) → steps (later s) bytes ≡ later_result (steps s bytes)
steps_later s [] = refl
steps_later s (b ∷ bs) = ap (λ r. on_ok r (λ t. steps t bs)) (step_later s.place s b) ∙ by (step s b) (λ t. steps_later t bs)
  where
    by : (r : Result Scan CnfFault) → ((t : Scan) → steps (later t) bs ≡ later_result (steps t bs)) → on_ok (later_result r) (λ t. steps t bs) ≡ later_result (on_ok r (λ t. steps t bs))
    by (Ok t) each = each t
    by (Err fault) each = refl

ends_later : (s : Scan) → ends_at (later s) ≡ err_later (ends_at s)
ends_later s = ap (λ r. on_ok r (λ t. finish t.progress (s.line + 1))) (steps_later s (10 ∷ [])) ∙ by (steps s (10 ∷ []))
  where
    by : (r : Result Scan CnfFault) → on_ok (later_result r) (λ t. finish t.progress (s.line + 1)) ≡ err_later (on_ok r (λ t. finish t.progress s.line))
    by (Ok t) = finish_later t.progress.stage t.progress s.line
    by (Err fault) = refl

-- no header line is begun
abbrev is_settled : Stage → Bool
is_settled Start = true
is_settled AfterMagic = false
is_settled AfterFormat = false
is_settled AfterVariables = false
is_settled AfterClauses = false
is_settled Body = true

-- the reader stands at the start of a line, or behind the end of the input
record AtStart (s : Scan) : Type 0 where
  place : s.place ≡ LineStart
  token : s.token ≡ []
  settled : is_settled s.progress.stage ≡ true

abbrev AtLine : Scan → Type 0
AtLine s = (s.place ≡ Ended) ⊎ AtStart s

abbrev AreAtLine : Result Scan CnfFault → Type 0
AreAtLine (Ok s) = AtLine s
AreAtLine (Err fault) = Unit {0}

end_line_at_line : (s : Scan) → AreAtLine (end_line s)
end_line_at_line s = by s.progress.stage refl
  where
    by : (stage : Stage) → s.progress.stage ≡ stage → AreAtLine (on_ok (judge_line_end stage s.progress s.line) (λ p. Ok (record { line = s.line + 1; place = LineStart; token = []; progress = p })))
    by Start is = inr (record { place = refl; token = refl; settled = ap is_settled is })
    by AfterMagic is = tt
    by AfterFormat is = tt
    by AfterVariables is = tt
    by AfterClauses is = inr (record { place = refl; token = refl; settled = refl })
    by Body is = inr (record { place = refl; token = refl; settled = ap is_settled is })

line_feed_at_line : (place : Place) (s : Scan) → s.place ≡ place → AreAtLine (step_at place s 10)
line_feed_at_line LineStart s at = end_line_at_line s
line_feed_at_line Comment s at = end_line_at_line s
line_feed_at_line Tokens s at = by (end_token s)
  where
    by : (r : Result Scan CnfFault) → AreAtLine (on_ok r end_line)
    by (Ok t) = end_line_at_line t
    by (Err fault) = tt
line_feed_at_line Ended s at = inl at

line_at_line : (s : Scan) (line : List ℕ) → AreAtLine (steps s (line ++ 10 ∷ []))
line_at_line s line = subst AreAtLine (sym (steps_append s line (10 ∷ []))) (by (steps s line))
  where
    last : (r : Result Scan CnfFault) → AreAtLine r → AreAtLine (on_ok r (λ t. Ok t))
    last (Ok t) at = at
    last (Err fault) at = tt

    by : (r : Result Scan CnfFault) → AreAtLine (on_ok r (λ t. steps t (10 ∷ [])))
    by (Ok t) = last (step t 10) (line_feed_at_line t.place t refl)
    by (Err fault) = tt

lines_at_line : (lines : List (List ℕ)) (s : Scan) → AtLine s → AreAtLine (steps s (lines_text lines))
lines_at_line [] s at = at
lines_at_line (line ∷ more) s at =
    subst AreAtLine (sym (steps_append s (line ++ 10 ∷ []) (lines_text more))) (by (steps s (line ++ 10 ∷ [])) (line_at_line s line) (λ t is. lines_at_line more t is))
  where
    by : (r : Result Scan CnfFault) → AreAtLine r → ((t : Scan) → AtLine t → AreAtLine (steps t (lines_text more))) → AreAtLine (on_ok r (λ t. steps t (lines_text more)))
    by (Ok t) is each = each t is
    by (Err fault) is each = tt

-- the bytes of a comment behind its `c`
comment_rest : (s : Scan) (bytes rest : List ℕ) → s.place ≡ Comment → list_all (λ b. not (is_line_feed b)) bytes ≡ true → steps s (bytes ++ 10 ∷ rest) ≡ on_ok (end_line s) (λ t. steps t rest)
comment_rest s [] rest at free = ap (λ p. on_ok (step_at p s 10) (λ t. steps t rest)) at
comment_rest s (b ∷ bs) rest at free =
    let parts = and_parts (not (is_line_feed b)) (list_all (λ c. not (is_line_feed c)) bs) free in
    ap (λ p. on_ok (step_at p s b) (λ t. steps t (bs ++ 10 ∷ rest))) at
    ∙ ap (λ t. on_ok (cond t (end_line s) (Ok s)) (λ u. steps u (bs ++ 10 ∷ rest))) (not-true (is_line_feed b) parts.0)
    ∙ comment_rest s bs rest at parts.1

-- a comment from the start of its line
comment_steps : (s : Scan) (bytes rest : List ℕ) → s.place ≡ LineStart → list_all (λ b. not (is_line_feed b)) bytes ≡ true → is_comment (mark_of bytes) ≡ true
    → steps s (bytes ++ 10 ∷ rest) ≡ on_ok (end_line s) (λ t. steps t rest)
comment_steps s [] rest at free marked = cc
comment_steps s (b ∷ bs) rest at free marked = by (is_blank b) refl marked (λ more. comment_steps s bs rest at parts.1 more)
  where
    parts : (not (is_line_feed b) ≡ true) × (list_all (λ c. not (is_line_feed c)) bs ≡ true)
    parts = and_parts (not (is_line_feed b)) (list_all (λ c. not (is_line_feed c)) bs) free

    tail : Result Scan CnfFault → Result Scan CnfFault
    tail r = on_ok r (λ t. steps t (bs ++ 10 ∷ rest))

    after : Bool → Bool → Result Scan CnfFault
    after t u = cond t (Ok s) (cond u (Ok (record s { place = Comment })) (cond (b == 37) (Ok (record s { place = Ended })) (Ok (record s { place = Tokens; token = b ∷ [] }))))

    here : (t u : Bool) → is_blank b ≡ t → (b == 99) ≡ u → steps s ((b ∷ bs) ++ 10 ∷ rest) ≡ tail (after t u)
    here t u blank mark =
        ap (λ p. tail (step_at p s b)) at ∙ ap (λ v. tail (cond v (end_line s) (after (is_blank b) (b == 99)))) (not-true (is_line_feed b) parts.0)
        ∙ ap (λ v. tail (after v (b == 99))) blank ∙ ap (λ v. tail (after t v)) mark

    by : (t : Bool) → is_blank b ≡ t → is_comment (cond t (mark_of bs) (Some b)) ≡ true → (is_comment (mark_of bs) ≡ true → steps s (bs ++ 10 ∷ rest) ≡ on_ok (end_line s) (λ u. steps u rest))
        → steps s ((b ∷ bs) ++ 10 ∷ rest) ≡ on_ok (end_line s) (λ u. steps u rest)
    by true blank mark more = here true (b == 99) blank refl ∙ more mark
    by false solid mark more = here false true solid mark ∙ comment_rest (record s { place = Comment }) bs rest refl parts.1

-- at the start of a line LF means nothing but one line more
line_feed_at_start : (s : Scan) → AtStart s → end_line s ≡ Ok (later s)
line_feed_at_start s at =
    ap (λ r. on_ok r (λ p. let t : Result Scan CnfFault = Ok (record { line = s.line + 1; place = LineStart; token = []; progress = p }) in t)) (by s.progress.stage at.settled)
    ∙ ap (λ p. let t : Result Scan CnfFault = Ok (record { line = s.line + 1; place = p; token = []; progress = s.progress }) in t) (sym at.place)
    ∙ ap (λ (w : List ℕ). let t : Result Scan CnfFault = Ok (record { line = s.line + 1; place = s.place; token = w; progress = s.progress }) in t) (sym at.token)
  where
    by : (stage : Stage) → is_settled stage ≡ true → judge_line_end stage s.progress s.line ≡ Ok s.progress
    by Start is = refl
    by AfterMagic is = cc
    by AfterFormat is = cc
    by AfterVariables is = cc
    by AfterClauses is = cc
    by Body is = refl

-- a text that is short enough, by the steps over it
formula_short : (bytes : List ℕ) → length bytes ≤ 268435456 → formula_of bytes ≡ on_ok (steps start bytes) ends_at
formula_short bytes short = by (steps start bytes) refl
  where
    all : steps start (within bytes) ≡ steps start bytes
    all = ap (steps start) (within_all bytes short)

    by : (r : Result Scan CnfFault) → steps start bytes ≡ r → formula_of bytes ≡ on_ok r ends_at
    by (Ok s) is = formula_is bytes s (all ∙ is) (λ going. short)
    by (Err fault) is = formula_early bytes fault (early_err bytes fault (all ∙ is))

-- the steps over a comment and a rest, from the start of a line
comment_from : (s : Scan) (comment rest : List ℕ) → IsComment comment → AtStart s → steps s (comment ++ 10 ∷ rest) ≡ later_result (steps s rest)
comment_from s comment rest is at =
    comment_steps s comment rest at.place is.one is.marked ∙ ap (λ r. on_ok r (λ t. steps t rest)) (line_feed_at_start s at) ∙ steps_later s rest

-- the second result is the first, or its fault one line further down
abbrev AreAlike : {A : Type 0} → Result A CnfFault → Result A CnfFault → Type 0
AreAlike first second = (second ≡ first) ⊎ (second ≡ err_later first)

same_ok : {A : Type 0} (first second : Result A CnfFault) (x : A) → AreAlike first second → (second ≡ Ok x) ↔ (first ≡ Ok x)
same_ok first second x alike = elim alike [
  | inl same ↦ (λ is. sym same ∙ is, λ is. same ∙ is)
  | inr moved ↦ (λ is. back first (sym moved ∙ is), λ is. moved ∙ ap err_later is)
]
  where
    back : (r : Result _ CnfFault) → err_later r ≡ Ok x → r ≡ Ok x
    back (Ok y) is = is
    back (Err fault) is = cc

alike : (lines : List (List ℕ)) (comment rest : List ℕ) → IsComment comment
    → AreAlike (on_ok (steps start (lines_text lines ++ rest)) ends_at) (on_ok (steps start (lines_text lines ++ (comment ++ 10 ∷ rest))) ends_at)
alike lines comment rest is =
    subst (λ r. AreAlike (on_ok r ends_at) (on_ok (steps start (lines_text lines ++ (comment ++ 10 ∷ rest))) ends_at)) (sym (steps_append start (lines_text lines) rest))
    (subst (λ r. AreAlike (on_ok (on_ok (steps start (lines_text lines)) (λ t. steps t rest)) ends_at) (on_ok r ends_at)) (sym (steps_append start (lines_text lines) (comment ++ 10 ∷ rest)))
    (by (steps start (lines_text lines)) (lines_at_line lines start (inr (record { place = refl; token = refl; settled = refl })))))
  where
    moved : (r : Result Scan CnfFault) → on_ok (later_result r) ends_at ≡ err_later (on_ok r ends_at)
    moved (Ok s) = ends_later s
    moved (Err fault) = refl

    by_place : (s : Scan) → AtLine s → AreAlike (on_ok (steps s rest) ends_at) (on_ok (steps s (comment ++ 10 ∷ rest)) ends_at)
    by_place s at = elim at [
      | inl ended ↦ inl (ap (λ r. on_ok r ends_at) (ended_stays s (comment ++ 10 ∷ rest) (ap is_ended_at ended) ∙ sym (ended_stays s rest (ap is_ended_at ended))))
      | inr begins ↦ inr (ap (λ r. on_ok r ends_at) (comment_from s comment rest is begins) ∙ moved (steps s rest))
    ]

    by : (r : Result Scan CnfFault) → AreAtLine r → AreAlike (on_ok (on_ok r (λ t. steps t rest)) ends_at) (on_ok (on_ok r (λ t. steps t (comment ++ 10 ∷ rest))) ends_at)
    by (Ok s) at = by_place s at
    by (Err fault) at = inl refl

-- a comment behind whole lines changes no formula
pub comment_means_nothing : (lines : List (List ℕ)) (comment rest : List ℕ) (cnf : Cnf) → IsComment comment → length (lines_text lines ++ (comment ++ 10 ∷ rest)) ≤ 268435456
    → (formula_of (lines_text lines ++ (comment ++ 10 ∷ rest)) ≡ Ok cnf) ↔ (formula_of (lines_text lines ++ rest) ≡ Ok cnf)
comment_means_nothing lines comment rest cnf is short =
    let less : length (lines_text lines ++ rest) ≤ 268435456 =
    omega (arith, length-append (lines_text lines) rest, length-append (lines_text lines) (comment ++ 10 ∷ rest), length-append comment (10 ∷ rest)) in
    same_ok (formula_of (lines_text lines ++ rest)) (formula_of (lines_text lines ++ (comment ++ 10 ∷ rest))) cnf
    (subst (λ r. AreAlike r (formula_of (lines_text lines ++ (comment ++ 10 ∷ rest)))) (sym (formula_short (lines_text lines ++ rest) less))
    (subst (λ r. AreAlike (on_ok (steps start (lines_text lines ++ rest)) ends_at) r) (sym (formula_short (lines_text lines ++ (comment ++ 10 ∷ rest)) short)) (alike lines comment rest is)))
