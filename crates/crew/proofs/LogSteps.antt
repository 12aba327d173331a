-- What an era adds to the log, as the writer counts and writes it.
use Rattle.std.proofs.Common.{◌≡◌, ℕ, ◌+◌, ◌≤◌, ◌<◌, ◌^◌, Bool, true, false, cond, List, [], ◌∷◌, ◌++◌, length, take, drop, get_or, append_assoc, append-nil, refl, ap, sym, ◌∙◌, subst, arith, length-append}
use Rattle.std.specs.Prelude.{Option, sum, Result, Ok, Err, OnOk, IsErrAnd}
use Rattle.std.proofs.lemmas.List.{length-map, map-append, take-append-drop, take_more}
use Rattle.std.proofs.lemmas.List.Elements.{All-from_recursion, recursion_from_All}
use Rattle.std.proofs.lemmas.Grind.{flat_map-append}
use Rattle.lit_base.specs.Cnf.{Cnf}
use Rattle.desk_io.specs.Told.{OutputsTold}
use Rattle.solo_core.specs.First.{AreInRange}
use Rattle.solo_core.specs.declared.lemma.Lemma.{Lemma}
use Rattle.solo_core.specs.declared.sheet.Sheet.{Sheet}
use Rattle.solo_core.specs.declared.sheet.Settings.{Settings}
use Rattle.log_merge.specs.Numbering.{Numbering, with_period, lemmas_in}
use Rattle.log_merge.specs.Part.{line_text, part_text, HasNumbers, AllHaveNumbers}
use Rattle.log_merge.specs.Writing.{WritesPart}
use Rattle.log_merge.specs.declared.stop.Stop.{Stop}
use Rattle.crew.specs.declared.logged.Logged.{Logged}
use Rattle.crew.specs.Era.{mails_in, winning_core}
use Rattle.crew.specs.Run.{members_at, mails_at, sheets_at, HasEra}
use Rattle.crew.specs.Log.{stands, standing_parts, parts_before, parts_at, era_parts, joined, all_joined, numbering_at}
use Rattle.crew.specs.Turns.{IsEra, era_text, logged_of, logged_before, logged_at, WritesLog}
use Rattle.crew.proofs.EraLog.{counts_of, all_joined-push, numbering_at-push}
use Rattle.crew.proofs.RunSound.{run_sound, length-era}
use Rattle.crew.proofs.LogSize.{log_small, standing_short, sum_of_counts, lemmas_of_counts}
use Rattle.crew.proofs.Texts.{HaveAll, have_behind, era_have}
use Rattle.crew.proofs.Writings.{fine, part_then, part_longer}
use Rattle.crew.proofs.InTurn.{mails_of_sheets}

-- what holds anyway holds where the answer is Ok
pub on_ok : {T E : Type 0} {P : Type 0} (result : Result T E) → P → OnOk result P
on_ok (Ok done) holds = holds
on_ok (Err stop) holds = tt

-- == the parts of an era ==

-- the parts that stand, by the winner that the sheets tell
pub parts_told : (cnf : Cnf) (settings : Settings) (past : ℕ) (sheets : List Sheet) (winner : Option ℕ) → sheets ≡ sheets_at cnf settings past → winner ≡ winning_core (mails_in sheets) →
    standing_parts winner sheets ≡ era_parts cnf settings past
parts_told cnf settings past sheets winner are is =
    ap (λ w. standing_parts w sheets) (is ∙ ap (λ ss. winning_core (mails_in ss)) are ∙ ap winning_core (mails_of_sheets (members_at cnf settings past)))
    ∙ ap (standing_parts (winning_core (mails_at cnf settings past))) are

-- the log with them is small
pub era_small : (cnf : Cnf) (settings : Settings) (past : ℕ) → AreInRange settings → HasEra cnf settings past →
    length (all_joined (parts_before cnf settings past)) + length (joined (era_parts cnf settings past)) ≤ 16000000000
era_small cnf settings past are has =
    omega (arith, log_small cnf settings past are has, standing_short (winning_core (mails_at cnf settings past)) (sheets_at cnf settings past))

pub era_cores : (cnf : Cnf) (settings : Settings) (past : ℕ) → length (counts_of (era_parts cnf settings past)) ≡ settings.cores
era_cores cnf settings past =
    length-map (era_parts cnf settings past) length ∙ length-era cnf settings past (λ sheet. cond (stands (winning_core (mails_at cnf settings past)) sheet.mail.core) sheet.lemmas [])

-- == counts ==

-- where the log is wanted, its numbers so far fit, with one era more
pub period_fits : (cnf : Cnf) (settings : Settings) (past : ℕ) (log : Bool) (old : Logged) (counts : List ℕ) → IsEra cnf settings past → log ≡ true → old ≡ logged_before cnf settings log past →
    counts ≡ counts_of (era_parts cnf settings past) → old.numbers.originals + lemmas_in old.numbers.periods + sum counts < 2 ^ 63
period_fits cnf settings past log old counts era wanted is are =
    let n = numbering_at cnf settings (parts_before cnf settings past) in
    let same : old.numbers ≡ n = ap (λ (l : Logged). l.numbers) is ∙ ap (λ b. numbering_at cnf settings (cond b (parts_before cnf settings past) [])) wanted in
    omega (
      arith,
      ap (λ (m : Numbering). m.originals) same,
      ap (λ (m : Numbering). lemmas_in m.periods) same,
      lemmas_of_counts (parts_before cnf settings past),
      ap sum are,
      sum_of_counts (era_parts cnf settings past),
      era_small cnf settings past era.range era.has,
      era.formula.few_clauses,
    )

pub period_cores : (cnf : Cnf) (settings : Settings) (past : ℕ) (log : Bool) (old : Logged) (counts : List ℕ) → old ≡ logged_before cnf settings log past → counts ≡ counts_of (era_parts cnf settings past) →
    length counts ≡ old.numbers.cores
period_cores cnf settings past log old counts is are = ap length are ∙ era_cores cnf settings past ∙ ap (λ (l : Logged). l.numbers.cores) (sym is)

-- the numbers with the era's counts
pub period_numbers : (cnf : Cnf) (settings : Settings) (past : ℕ) (log : Bool) (old : Logged) (counts : List ℕ) (after : Numbering) → log ≡ true → old ≡ logged_before cnf settings log past →
    counts ≡ counts_of (era_parts cnf settings past) → after ≡ with_period counts old.numbers → after ≡ numbering_at cnf settings (parts_at cnf settings past)
period_numbers cnf settings past log old counts after wanted is are ended =
    ended ∙ ap (λ cs. with_period cs old.numbers) are
    ∙ ap (λ (l : Logged). with_period (counts_of (era_parts cnf settings past)) l.numbers) is
    ∙ ap (λ b. with_period (counts_of (era_parts cnf settings past)) (numbering_at cnf settings (cond b (parts_before cnf settings past) []))) wanted
    ∙ sym (numbering_at-push cnf settings (parts_before cnf settings past) (era_parts cnf settings past))

-- the log with the era
logged_count : (cnf : Cnf) (settings : Settings) (past count : ℕ) (log : Bool) (old : Logged) (parts : List (List Lemma)) → old ≡ logged_before cnf settings log past → count ≡ length (joined parts) →
    parts ≡ era_parts cnf settings past → old.lemmas + count ≡ length (all_joined (parts_at cnf settings past))
logged_count cnf settings past count log old parts is counted are =
    let lemmas = ap (λ (l : Logged). l.lemmas) is in
    let more = ap length (all_joined-push (parts_before cnf settings past) (era_parts cnf settings past)) in
    let sum = length-append (all_joined (parts_before cnf settings past)) (joined (era_parts cnf settings past)) in
    let standing = ap (λ ps. length (joined ps)) are in
    omega (arith, lemmas, counted, standing, more, sum)

logged_made : (cnf : Cnf) (settings : Settings) (past count : ℕ) (log : Bool) (old : Logged) (parts : List (List Lemma)) (after : Numbering) → old ≡ logged_before cnf settings log past →
    count ≡ length (joined parts) → parts ≡ era_parts cnf settings past → after ≡ numbering_at cnf settings (cond log (parts_at cnf settings past) []) →
    (let l : Logged = record { numbers = after; lemmas = old.lemmas + count; trace = old.trace } in l) ≡ logged_at cnf settings log past
logged_made cnf settings past count log old parts after is counted are numbers =
    ap (λ n. let l : Logged = record { numbers = n; lemmas = old.lemmas + count; trace = old.trace } in l) numbers
    ∙ ap (λ k. let l : Logged = record { numbers = numbering_at cnf settings (cond log (parts_at cnf settings past) []); lemmas = k; trace = old.trace } in l)
    (logged_count cnf settings past count log old parts is counted are)
    ∙ ap (λ (o : Logged). logged_of cnf settings log (parts_at cnf settings past) o.trace) is

pub logged_wanted : (cnf : Cnf) (settings : Settings) (past count : ℕ) (log : Bool) (old : Logged) (parts : List (List Lemma)) (after : Numbering) → log ≡ true → old ≡ logged_before cnf settings log past →
    count ≡ length (joined parts) → parts ≡ era_parts cnf settings past → after ≡ numbering_at cnf settings (parts_at cnf settings past) →
    (let l : Logged = record { numbers = after; lemmas = old.lemmas + count; trace = old.trace } in l) ≡ logged_at cnf settings log past
logged_wanted cnf settings past count log old parts after wanted is counted are numbers =
    logged_made cnf settings past count log old parts after is counted are (numbers ∙ ap (λ b. numbering_at cnf settings (cond b (parts_at cnf settings past) [])) (sym wanted))

pub logged_unwanted : (cnf : Cnf) (settings : Settings) (past count : ℕ) (log : Bool) (old : Logged) (parts : List (List Lemma)) → log ≡ false → old ≡ logged_before cnf settings log past →
    count ≡ length (joined parts) → parts ≡ era_parts cnf settings past →
    (let l : Logged = record { numbers = old.numbers; lemmas = old.lemmas + count; trace = old.trace } in l) ≡ logged_at cnf settings log past
logged_unwanted cnf settings past count log old parts unwanted is counted are =
    logged_made cnf settings past count log old parts old.numbers is counted are
    (ap (λ (l : Logged). l.numbers) is ∙ ap (λ b. numbering_at cnf settings (cond b (parts_before cnf settings past) [])) unwanted ∙ ap (λ b. numbering_at cnf settings (cond b (parts_at cnf settings past) [])) (sym unwanted))

-- == what is written ==

pub part_has : (cnf : Cnf) (settings : Settings) (past : ℕ) (parts : List (List Lemma)) (after : Numbering) → IsEra cnf settings past → parts ≡ era_parts cnf settings past →
    after ≡ numbering_at cnf settings (parts_at cnf settings past) → AllHaveNumbers after (joined parts)
part_has cnf settings past parts after era are numbers =
    subst (λ (n : Numbering). AllHaveNumbers n (joined parts)) (sym numbers)
    (subst (λ ps. AllHaveNumbers (numbering_at cnf settings (parts_at cnf settings past)) (joined ps)) (sym are)
    (All-from_recursion (HasNumbers (numbering_at cnf settings (parts_at cnf settings past))) (joined (era_parts cnf settings past))
    (era_have cnf settings past (run_sound cnf settings past era.formula era.range era.has))))

pub part_written : (cnf : Cnf) (settings : Settings) (past : ℕ) (log : Bool) (parts : List (List Lemma)) (numbers : Numbering) (before after : OutputsTold) (result : Result (Unit {0}) Stop) → log ≡ true →
    parts ≡ era_parts cnf settings past → numbers ≡ numbering_at cnf settings (parts_at cnf settings past) → WritesPart (part_text numbers (joined parts)) before after result →
    WritesLog log (era_text cnf settings past) before after result
part_written cnf settings past log parts numbers before after result wanted are same written =
    subst (λ b. WritesLog b (era_text cnf settings past) before after result) (sym wanted)
    (subst (λ text. WritesPart text before after result) (ap (λ (n : Numbering). part_text n (joined parts)) same ∙ ap (λ ps. part_text (numbering_at cnf settings (parts_at cnf settings past)) (joined ps)) are) written)

-- == sheet by sheet ==

-- the part of a sheet, if it stands
abbrev pub part_of : Option ℕ → Sheet → List Lemma
part_of winner sheet = cond (stands winner sheet.mail.core) sheet.lemmas []

joined-append : (parts more : List (List Lemma)) → joined (parts ++ more) ≡ joined parts ++ joined more
joined-append [] more = refl
joined-append (part ∷ later) more = ap (λ lemmas. part ++ lemmas) (joined-append later more) ∙ sym (append_assoc part (joined later) (joined more))

-- the lemmas of the sheets up to one, of that one, and of those behind it
up_to : (winner : Option ℕ) (sheets : List Sheet) (i : ℕ) (sheet : Sheet) → i < length sheets → sheet ≡ get_or sheets i sheet →
    joined (standing_parts winner (take (i + 1) sheets)) ≡ joined (standing_parts winner (take i sheets)) ++ part_of winner sheet
up_to winner sheets i sheet within is =
    ap (λ ss. joined (standing_parts winner ss)) (take_more sheets i sheet within ∙ ap (λ s. take i sheets ++ s ∷ []) (sym is))
    ∙ ap joined (map-append (part_of winner) (take i sheets) (sheet ∷ []))
    ∙ joined-append (standing_parts winner (take i sheets)) (part_of winner sheet ∷ [])
    ∙ ap (λ lemmas. joined (standing_parts winner (take i sheets)) ++ lemmas) (append-nil (part_of winner sheet))

whole : (winner : Option ℕ) (sheets : List Sheet) (i : ℕ) → joined (standing_parts winner (take i sheets)) ++ joined (standing_parts winner (drop i sheets)) ≡ joined (standing_parts winner sheets)
whole winner sheets i =
    sym (joined-append (standing_parts winner (take i sheets)) (standing_parts winner (drop i sheets)))
    ∙ ap joined (sym (map-append (part_of winner) (take i sheets) (drop i sheets))) ∙ ap (λ ss. joined (standing_parts winner ss)) (take-append-drop i sheets)

front_has : (n : Numbering) (front back : List Lemma) → HaveAll n (front ++ back) → HaveAll n front
front_has n [] back have = tt
front_has n (lemma ∷ later) back have = (have.0, front_has n later back have.1)

-- the part of one of the sheets
pub sheet_has : (n : Numbering) (winner : Option ℕ) (sheets : List Sheet) (i : ℕ) (sheet : Sheet) → i < length sheets → sheet ≡ get_or sheets i sheet →
    AllHaveNumbers n (joined (standing_parts winner sheets)) → AllHaveNumbers n (part_of winner sheet)
sheet_has n winner sheets i sheet within is have =
    let all = recursion_from_All (HasNumbers n) (joined (standing_parts winner sheets)) have in
    let up = subst (HaveAll n) (sym (whole winner sheets (i + 1))) all in
    let front = front_has n (joined (standing_parts winner (take (i + 1) sheets))) (joined (standing_parts winner (drop (i + 1) sheets))) up in
    All-from_recursion (HasNumbers n) (part_of winner sheet)
    (have_behind n (joined (standing_parts winner (take i sheets))) (part_of winner sheet) (subst (HaveAll n) (up_to winner sheets i sheet within is) front))

-- one more part is written
text_up_to : (n : Numbering) (winner : Option ℕ) (sheets : List Sheet) (i : ℕ) (sheet : Sheet) → i < length sheets → sheet ≡ get_or sheets i sheet →
    part_text n (joined (standing_parts winner (take i sheets))) ++ part_text n (part_of winner sheet) ≡ part_text n (joined (standing_parts winner (take (i + 1) sheets)))
text_up_to n winner sheets i sheet within is =
    sym (flat_map-append (line_text n) (joined (standing_parts winner (take i sheets))) (part_of winner sheet)) ∙ ap (part_text n) (sym (up_to winner sheets i sheet within is))

pub sheet_written : (n : Numbering) (winner : Option ℕ) (sheets : List Sheet) (i : ℕ) (sheet : Sheet) (start mid after : OutputsTold) → i < length sheets → sheet ≡ get_or sheets i sheet →
    WritesPart (part_text n (joined (standing_parts winner (take i sheets)))) start mid fine → WritesPart (part_text n (part_of winner sheet)) mid after fine →
    WritesPart (part_text n (joined (standing_parts winner (take (i + 1) sheets)))) start after fine
sheet_written n winner sheets i sheet start mid after within is front back =
    subst (λ text. WritesPart text start after fine) (text_up_to n winner sheets i sheet within is) (part_then fine front back)

-- or the writing stopped at it
passed_on : (text : List ℕ) (start after : OutputsTold) (result : Result (Unit {0}) Stop) (stop : Stop) → IsErrAnd result (λ y. y ≡ stop) → WritesPart text start after (Err stop) → WritesPart text start after result
passed_on text start after (Ok done) stop same stopped = absurd same
passed_on text start after (Err y) stop same stopped = subst (λ (z : Stop). WritesPart text start after (Err z)) (sym same) stopped

pub sheet_stopped : (n : Numbering) (winner : Option ℕ) (sheets : List Sheet) (i : ℕ) (sheet : Sheet) (start mid after : OutputsTold) (result : Result (Unit {0}) Stop) (stop : Stop) →
    i < length sheets → sheet ≡ get_or sheets i sheet → IsErrAnd result (λ y. y ≡ stop) → WritesPart (part_text n (joined (standing_parts winner (take i sheets)))) start mid fine →
    WritesPart (part_text n (part_of winner sheet)) mid after (Err stop) → WritesPart (part_text n (joined (standing_parts winner sheets))) start after result
sheet_stopped n winner sheets i sheet start mid after result stop within is same front back =
    passed_on (part_text n (joined (standing_parts winner sheets))) start after result stop same
    (part_longer (part_text n (joined (standing_parts winner (take (i + 1) sheets)))) (part_text n (joined (standing_parts winner sheets))) start after stop
    (record {
      rest = part_text n (joined (standing_parts winner (drop (i + 1) sheets)));
      parts = sym (flat_map-append (line_text n) (joined (standing_parts winner (take (i + 1) sheets))) (joined (standing_parts winner (drop (i + 1) sheets))))
          ∙ ap (part_text n) (whole winner sheets (i + 1));
    })
    (subst (λ text. WritesPart text start after (Err stop)) (text_up_to n winner sheets i sheet within is) (part_then (Err stop) front back)))
