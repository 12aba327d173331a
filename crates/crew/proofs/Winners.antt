-- The winner of an era: the first core that has an answer, and what that says of the sheets, the ends and the log's parts.
use Rattle.std.proofs.Common.{◌≡◌, ℕ, zero, suc, ◌+◌, ◌≤◌, ◌<◌, ◌==◌, Bool, true, false, cond, List, [], ◌∷◌, ◌++◌, length, append-nil, refl, ap, sym, ◌∙◌, subst, arith}
use Rattle.std.specs.Prelude.{Option, Some, None, option_map, map, slice_get}
use Rattle.std.specs.List.{AllByRecursion}
use Rattle.std.proofs.lemmas.Bool.{cond-true, cond-false, eq-eqb, eqb-true, false_from_ne_true}
use Rattle.std.proofs.lemmas.Option.{same_Some, none-some}
use Rattle.lit_base.specs.Cnf.{Cnf}
use Rattle.solo_core.specs.State.{CoreFrame}
use Rattle.solo_core.specs.declared.sheet.End.{End}
use Rattle.solo_core.specs.declared.sheet.Mail.{Mail}
use Rattle.solo_core.specs.declared.sheet.Sheet.{Sheet}
use Rattle.solo_core.specs.declared.sheet.Settings.{Settings}
use Rattle.crew.specs.Era.{Member, stretched, sheet_left, mails_of, sheets_of, is_answer, winner_of}
use Rattle.crew.specs.Log.{standing_parts, joined}
use Rattle.crew.specs.Outcome.{winning_sheet}
use Rattle.crew.proofs.Members.{HaveFrames, HaveNoAnswer}

-- the winner stands among the cores: none before it has an answer
pub record HasWon (members : List Member) (sheet : Sheet) : Type 0 where
  pub front : List Member
  pub m : Member
  pub back : List Member
  pub split : members ≡ front ++ m ∷ back
  pub none_before : HaveNoAnswer front
  pub answer : is_answer (stretched m).ended ≡ true
  pub left : sheet ≡ sheet_left m

pub has_won : (members : List Member) (sheet : Sheet) → winning_sheet (sheets_of members) ≡ Some sheet → HasWon members sheet
has_won [] sheet is = cc
has_won (m ∷ later) sheet is = by_end (is_answer (stretched m).ended) refl is (has_won later sheet)
  where
    by_end : (b : Bool) → is_answer (stretched m).ended ≡ b → cond b (Some (sheet_left m)) (winning_sheet (sheets_of later)) ≡ Some sheet →
        (winning_sheet (sheets_of later) ≡ Some sheet → HasWon later sheet) → HasWon (m ∷ later) sheet
    by_end true answer found further =
        record { front = []; m = m; back = later; split = refl; none_before = tt; answer = answer; left = sym (same_Some (sheet_left m) sheet found) }
    by_end false none found further =
        let w = further found in
        record { front = m ∷ w.front; m = w.m; back = w.back; split = ap (λ ms. m ∷ ms) w.split; none_before = (none, w.none_before); answer = w.answer; left = w.left }

-- where nobody won no core has an answer
pub nobody_won : (members : List Member) → winning_sheet (sheets_of members) ≡ None → HaveNoAnswer members
nobody_won [] is = tt
nobody_won (m ∷ later) is = by_end (is_answer (stretched m).ended) refl is (nobody_won later)
  where
    by_end : (b : Bool) → is_answer (stretched m).ended ≡ b → cond b (Some (sheet_left m)) (winning_sheet (sheets_of later)) ≡ None →
        (winning_sheet (sheets_of later) ≡ None → HaveNoAnswer later) → HaveNoAnswer (m ∷ later)
    by_end true answer none further = cc
    by_end false other none further = (other, further none)

pub none_of_none : (members : List Member) → HaveNoAnswer members → winning_sheet (sheets_of members) ≡ None
none_of_none [] none = refl
none_of_none (m ∷ later) none =
    cond-false (is_answer (stretched m).ended) (Some (sheet_left m)) (winning_sheet (sheets_of later)) none.0 ∙ none_of_none later none.1

-- the winning mail is that of the winning sheet
mail_by : (b : Bool) (sheet : Sheet) (o : Option Sheet) (p : Option Mail) → p ≡ option_map (λ (s : Sheet). s.mail) o →
    cond b (Some sheet.mail) p ≡ option_map (λ (s : Sheet). s.mail) (cond b (Some sheet) o)
mail_by true sheet o p same = refl
mail_by false sheet o p same = same

pub winning_mail : (members : List Member) → winner_of (mails_of members) ≡ option_map (λ (s : Sheet). s.mail) (winning_sheet (sheets_of members))
winning_mail [] = refl
winning_mail (m ∷ later) =
    mail_by (is_answer (stretched m).ended) (sheet_left m) (winning_sheet (sheets_of later)) (winner_of (mails_of later)) (winning_mail later)

-- == what holds of each core holds of one among them ==

pub at_split : (P : Member → Type 0) (front : List Member) (m : Member) (back : List Member) → AllByRecursion P (front ++ m ∷ back) → P m
at_split P [] m back all = all.0
at_split P (first ∷ front) m back all = at_split P front m back all.1

pub core_at_split : (cnf : Cnf) (settings : Settings) (core : ℕ) (front : List Member) (m : Member) (back : List Member) → HaveFrames cnf settings core (front ++ m ∷ back) → m.frame.core ≡ core + length front
core_at_split cnf settings core [] m back frames = let e = ap (λ (f : CoreFrame). f.core) frames.0 in omega (arith, e)
core_at_split cnf settings core (first ∷ front) m back frames = let e = core_at_split cnf settings (core + 1) front m back frames.1 in omega (arith, e)

-- how each core ended
abbrev pub ends_of : List Member → List End
ends_of members = map (λ (mail : Mail). mail.end) (mails_of members)

pub end_at_split : (front : List Member) (m : Member) (back : List Member) → slice_get (ends_of (front ++ m ∷ back)) (length front) ≡ Some (stretched m).ended
end_at_split [] m back = refl
end_at_split (first ∷ front) m back = end_at_split front m back

pub none_before_split : (front back : List Member) (i : ℕ) (e : End) → HaveNoAnswer front → i < length front → slice_get (ends_of (front ++ back)) i ≡ Some e → is_answer e ≡ false
none_before_split [] back i e none below at = absurd (omega (arith, below))
none_before_split (first ∷ front) back zero e none below at = ap is_answer (sym (same_Some (stretched first).ended e at)) ∙ none.0
none_before_split (first ∷ front) back (suc i) e none below at = none_before_split front back i e none.1 (omega (arith, below)) at

-- a core that ended so
pub ended_at : (P : Member → Type 0) (Q : Type 0) (members : List Member) (i : ℕ) (e : End) → AllByRecursion P members → slice_get (ends_of members) i ≡ Some e →
    ((m : Member) → P m → (stretched m).ended ≡ e → Q) → Q
ended_at P Q [] i e all at so = absurd (none-some e at)
ended_at P Q (m ∷ later) zero e all at so = so m all.0 (same_Some (stretched m).ended e at)
ended_at P Q (m ∷ later) (suc i) e all at so = ended_at P Q later i e all.1 at so

-- == of an era with a winner its part alone stands ==

parts_below : (cnf : Cnf) (settings : Settings) (core : ℕ) (winner : ℕ) (front back : List Member) → HaveFrames cnf settings core (front ++ back) → core + length front ≤ winner →
    joined (standing_parts (Some winner) (sheets_of (front ++ back))) ≡ joined (standing_parts (Some winner) (sheets_of back))
parts_below cnf settings core winner [] back frames below = refl
parts_below cnf settings core winner (m ∷ front) back frames below =
    let core_is = ap (λ (f : CoreFrame). f.core) frames.0 in
    ap (λ part. part ++ joined (standing_parts (Some winner) (sheets_of (front ++ back))))
    (cond-false (winner == m.frame.core) (stretched m).state.lemmas [] (false_from_ne_true (winner == m.frame.core)
    (λ same. omega (arith, eqb-true winner m.frame.core same, core_is, below))))
    ∙ parts_below cnf settings (core + 1) winner front back frames.1 (omega (arith, below))

parts_above : (cnf : Cnf) (settings : Settings) (core : ℕ) (winner : ℕ) (back : List Member) → HaveFrames cnf settings core back → winner < core → joined (standing_parts (Some winner) (sheets_of back)) ≡ []
parts_above cnf settings core winner [] frames above = refl
parts_above cnf settings core winner (m ∷ later) frames above =
    let core_is = ap (λ (f : CoreFrame). f.core) frames.0 in
    ap (λ part. part ++ joined (standing_parts (Some winner) (sheets_of later)))
    (cond-false (winner == m.frame.core) (stretched m).state.lemmas [] (false_from_ne_true (winner == m.frame.core)
    (λ same. omega (arith, eqb-true winner m.frame.core same, core_is, above))))
    ∙ parts_above cnf settings (core + 1) winner later frames.1 (omega (arith, above))

frames_behind : (cnf : Cnf) (settings : Settings) (core : ℕ) (front back : List Member) → HaveFrames cnf settings core (front ++ back) → HaveFrames cnf settings (core + length front) back
frames_behind cnf settings core [] back frames = subst (λ c. HaveFrames cnf settings c back) (let e : core ≡ core + 0 = omega arith in e) frames
frames_behind cnf settings core (m ∷ front) back frames =
    subst (λ c. HaveFrames cnf settings c back) (let e : core + 1 + length front ≡ core + length (m ∷ front) = omega arith in e) (frames_behind cnf settings (core + 1) front back frames.1)

pub winner_part : (cnf : Cnf) (settings : Settings) (front : List Member) (m : Member) (back : List Member) → HaveFrames cnf settings 0 (front ++ m ∷ back) →
    joined (standing_parts (Some m.frame.core) (sheets_of (front ++ m ∷ back))) ≡ (stretched m).state.lemmas
winner_part cnf settings front m back frames =
    let core_is = core_at_split cnf settings 0 front m back frames in
    parts_below cnf settings 0 m.frame.core front (m ∷ back) frames (omega (arith, core_is))
    ∙ ap (λ part. part ++ joined (standing_parts (Some m.frame.core) (sheets_of back))) (cond-true (m.frame.core == m.frame.core) (stretched m).state.lemmas [] (eq-eqb m.frame.core m.frame.core refl))
    ∙ ap (λ rest. (stretched m).state.lemmas ++ rest)
    (parts_above cnf settings (0 + length front + 1) m.frame.core back (frames_behind cnf settings 0 front (m ∷ back) frames).1 (omega (arith, core_is)))
    ∙ append-nil (stretched m).state.lemmas
