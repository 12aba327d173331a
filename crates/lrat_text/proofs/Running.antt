-- Reading on, one front of a text after the other.
use Rattle.std.proofs.Common.{◌≡◌, ℕ, zero, suc, ◌+◌, ◌-◌, true, false, List, [], ◌∷◌, ◌++◌, length, take, drop, refl, sym, ap, ◌∙◌, arith, Ok, Err}
use Rattle.std.proofs.lemmas.List.{take-append-drop, take_rest}
use Rattle.lit_base.specs.declared.numeral.Numeral.{Numeral}
use Rattle.lrat_text.specs.declared.fault.LineFault.{LineFault}
use Rattle.lrat_text.specs.declared.token.Token.{Token}
use Rattle.lrat_text.specs.declared.scan.Place.{Place}
use Rattle.lrat_text.specs.declared.scan.Place.TheVariants.{LineStart, Comment, Tokens, Ready}
use Rattle.lrat_text.specs.declared.scan.Scan.{Scan}
use Rattle.lrat_text.specs.Faults.{OnFault}
use Rattle.lrat_text.specs.Machine.{Outcome, no_more, handed_at, outcome_at, read, is_ready, is_between, step_number, IsAhead}
use Rattle.lrat_text.proofs.Results.{OnFault-weaker}
use Rattle.lrat_text.proofs.Outcomes.{read_behind}
use Rattle.lrat_text.proofs.Numerals.{ahead_taken, ahead_fault}

-- a longer front is a front and a front of what is behind it
take_on : (i n : ℕ) (xs : List ℕ) → take (i + n) xs ≡ take i xs ++ take n (drop i xs)
take_on zero n [] = ap (λ m. take {A = ℕ} m []) (let e : zero + n ≡ n = omega arith in e)
take_on zero n (x ∷ xs) = ap (λ m. take m (x ∷ xs)) (let e : zero + n ≡ n = omega arith in e)
take_on (suc i) n [] = ap (λ m. take {A = ℕ} m []) (let e : suc i + n ≡ suc (i + n) = omega arith in e) ∙ by n
  where
    by : (m : ℕ) → [] ≡ take {A = ℕ} m []
    by zero = refl
    by (suc m) = refl
take_on (suc i) n (x ∷ xs) =
    ap (λ m. take m (x ∷ xs)) (let e : suc i + n ≡ suc (i + n) = omega arith in e) ∙ ap (λ (ys : List ℕ). x ∷ ys) (take_on i n xs)

-- where no line is ready nothing is handed out
pub idle_outcome : (s : Scan) → is_ready s.place ≡ false → outcome_at s ≡ no_more s
idle_outcome s idle = by s.place idle
  where
    by : (place : Place) → is_ready place ≡ false → handed_at place s no_more ≡ no_more s
    by LineStart is = refl
    by Comment is = refl
    by Tokens is = refl
    by (Ready line) is = cc

-- reading behind a front after which no line is ready
behind_front : (s t : Scan) (front bytes : List ℕ) (o : Outcome) → read s front ≡ outcome_at t → is_ready t.place ≡ false → read t bytes ≡ o → read s (front ++ bytes) ≡ o
behind_front s t front bytes o first idle is = read_behind s front bytes [] t (first ∙ idle_outcome t idle) ∙ is

-- a front more
pub front_more : (s t u : Scan) (bytes : List ℕ) (i n : ℕ) → read s (take i bytes) ≡ outcome_at t → is_ready t.place ≡ false
    → read t (take n (take (length bytes - i) (drop i bytes))) ≡ outcome_at u → read s (take (i + n) bytes) ≡ outcome_at u
front_more s t u bytes i n first idle is =
    ap (read s) (take_on i n bytes ∙ ap (λ (xs : List ℕ). take i bytes ++ take n xs) (sym (take_rest bytes i)))
    ∙ behind_front s t (take i bytes) (take n (take (length bytes - i) (drop i bytes))) (outcome_at u) first idle is

-- a fault in what is behind a front
pub fault_behind : (s t : Scan) (bytes : List ℕ) (i : ℕ) (fault : LineFault) → read s (take i bytes) ≡ outcome_at t → is_ready t.place ≡ false
    → OnFault fault (read t (take (length bytes - i) (drop i bytes)) ≡ record { lines = []; last = Err fault }) → OnFault fault (read s bytes ≡ record { lines = []; last = Err fault })
fault_behind s t bytes i fault first idle owes =
    OnFault-weaker fault (read t (take (length bytes - i) (drop i bytes)) ≡ record { lines = []; last = Err fault }) (read s bytes ≡ record { lines = []; last = Err fault })
    (λ is. ap (read s) (sym (take-append-drop i bytes) ∙ ap (λ (xs : List ℕ). take i bytes ++ xs) (sym (take_rest bytes i)))
    ∙ behind_front s t (take i bytes) (take (length bytes - i) (drop i bytes)) (record { lines = []; last = Err fault }) first idle is) owes

-- between two tokens no line is ready
between_idle : (place : Place) (token : Token) → is_between place token ≡ true → is_ready place ≡ false
between_idle LineStart token is = refl
between_idle Comment token is = refl
between_idle Tokens token is = refl
between_idle (Ready line) token is = cc

-- a front more, which is a number and the blank behind it
pub number_more : (s t u : Scan) (bytes : List ℕ) (i : ℕ) (numeral : Numeral) → read s (take i bytes) ≡ outcome_at t → IsAhead t numeral (take (length bytes - i) (drop i bytes))
    → step_number t numeral.positive numeral.value numeral.len numeral.blank ≡ Ok u → read s (take (i + (numeral.len + 1)) bytes) ≡ outcome_at u
number_more s t u bytes i numeral first ahead is =
    front_more s t u bytes i (numeral.len + 1) first (between_idle t.place t.token ahead.between) (ahead_taken t u numeral (take (length bytes - i) (drop i bytes)) ahead is)

-- a fault of the number behind a front
pub number_fault : (s t : Scan) (bytes : List ℕ) (i : ℕ) (numeral : Numeral) (fault : LineFault) → read s (take i bytes) ≡ outcome_at t → IsAhead t numeral (take (length bytes - i) (drop i bytes))
    → OnFault fault (step_number t numeral.positive numeral.value numeral.len numeral.blank ≡ Err fault) → OnFault fault (read s bytes ≡ record { lines = []; last = Err fault })
number_fault s t bytes i numeral fault first ahead owes =
    fault_behind s t bytes i fault first (between_idle t.place t.token ahead.between) (ahead_fault t numeral (take (length bytes - i) (drop i bytes)) fault ahead owes)
