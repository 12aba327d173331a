-- The text of the log of some eras: it is behind that of the eras before, whose lines stay as they were written.
use Rattle.std.proofs.Common.{◌≡◌, inl, ℕ, zero, suc, ◌+◌, ◌-◌, ◌≤◌, Bool, true, false, cond, List, [], ◌∷◌, ◌++◌, length, append_assoc, append-nil, refl, ap, sym, ◌∙◌, subst, arith}
use Rattle.std.specs.Prelude.{Some, IsSome, map}
use Rattle.std.specs.List.{AllByRecursion}
use Rattle.std.proofs.lemmas.Grind.{flat_map-append}
use Rattle.std.proofs.lemmas.List.Elements.{recursion_from_All, All-from_recursion}
use Rattle.lit_base.specs.Literal.{Literal}
use Rattle.lit_base.specs.Cnf.{Cnf, IsFormula}
use Rattle.lit_base.specs.Rounds.{NamedClause, named_from, originals}
use Rattle.lit_base.specs.Named.{same_name, lits_at}
use Rattle.lit_base.specs.Text.{log_line_text}
use Rattle.lit_base.specs.declared.name.Name.{Name}
use Rattle.lit_base.proofs.HeldClauses.{same_name-true, lits_at-cons}
use Rattle.solo_core.specs.State.{lemma_clause}
use Rattle.solo_core.specs.First.{AreInRange}
use Rattle.solo_core.specs.Soundness.{AreDerived}
use Rattle.solo_core.specs.declared.lemma.Lemma.{Lemma}
use Rattle.solo_core.specs.declared.sheet.Settings.{Settings}
use Rattle.log_merge.specs.Numbering.{Numbering, with_period, number_of, HasNumber}
use Rattle.log_merge.specs.Part.{line_text, part_text, HasNumbers}
use Rattle.log_merge.proofs.Staying.{kept_number}
use Rattle.crew.specs.Era.{winning_core}
use Rattle.crew.specs.Run.{mails_at, sheets_at, HasEra, last_era}
use Rattle.crew.specs.Log.{parts_of, parts_before, parts_at, era_parts, joined, all_joined, numbering_at, log_text}
use Rattle.crew.specs.Turns.{text_before, era_text}
use Rattle.crew.proofs.EraLog.{counts_of, all_joined-push, numbering_at-push, IsLog, NamesHave}
use Rattle.crew.proofs.RunSound.{IsRunSound, run_sound, log_at}
use Rattle.crew.proofs.LastEra.{has_last, has_within}

-- == the names of hints have numbers too ==

-- the names of the clauses have numbers
abbrev ClausesHave : Numbering → List NamedClause → Type 0
ClausesHave n clauses = AllByRecursion (λ c. HasNumber n c.name) clauses

-- so has the name of one that is found among them
found_by : (n : Numbering) (c : NamedClause) (later : List NamedClause) (name : Name) (b : Bool) → same_name c.name name ≡ b → HasNumber n c.name →
    (IsSome (lits_at later name) → HasNumber n name) → IsSome (cond b (Some c.lits) (lits_at later name)) → HasNumber n name
found_by n c later name true is here further found = subst (HasNumber n) (same_name-true c.name name is) here
found_by n c later name false is here further found = further found

found_has : (n : Numbering) (clauses : List NamedClause) (name : Name) → ClausesHave n clauses → IsSome (lits_at clauses name) → HasNumber n name
found_has n [] name have found = cc
found_has n (c ∷ later) name have found =
    found_by n c later name (same_name c.name name) refl have.0 (found_has n later name have.1) (subst (λ lits. IsSome lits) (lits_at-cons c later name) found)

hints_have : (n : Numbering) (clauses : List NamedClause) (hints : List Name) → ClausesHave n clauses → AllByRecursion (λ hint. IsSome (lits_at clauses hint)) hints → AllByRecursion (HasNumber n) hints
hints_have n clauses [] have found = tt
hints_have n clauses (hint ∷ later) have found = (found_has n clauses hint have found.0, hints_have n clauses later have found.1)

one_more : (n : Numbering) (clauses : List NamedClause) (c : NamedClause) → ClausesHave n clauses → HasNumber n c.name → ClausesHave n (clauses ++ c ∷ [])
one_more n [] c have last = (last, tt)
one_more n (first ∷ later) c have last = (have.0, one_more n later c have.1 last)

originals_have : (n : Numbering) (index : ℕ) (clauses : List (List Literal)) → index + length clauses ≤ n.originals → ClausesHave n (named_from index clauses)
originals_have n index [] within = tt
originals_have n index (lits ∷ others) within =
    (inl (record { period = refl; core = refl; index = omega (arith, within) }), originals_have n (index + 1) others (omega (arith, within)))

-- the names of each lemma and of its hints have numbers
abbrev pub HaveAll : Numbering → List Lemma → Type 0
HaveAll n lemmas = AllByRecursion (HasNumbers n) lemmas

-- lemmas whose names have numbers, and that are derived from clauses whose names have, have numbers for all their hints
derived_have : (n : Numbering) (known : List NamedClause) (lemmas : List Lemma) → ClausesHave n known → NamesHave n lemmas → AreDerived known lemmas → HaveAll n lemmas
derived_have n known [] have names derived = tt
derived_have n known (lemma ∷ later) have names derived = (
  record { name = names.0; hints = All-from_recursion (HasNumber n) lemma.hints (hints_have n known lemma.hints have derived.0.found) },
  derived_have n (known ++ lemma_clause lemma ∷ []) later (one_more n known (lemma_clause lemma) have names.0) names.1 derived.1,
)

pub log_have : (cnf : Cnf) (settings : Settings) (eras : List (List (List Lemma))) → IsLog cnf settings eras → HaveAll (numbering_at cnf settings eras) (all_joined eras)
log_have cnf settings eras log =
    let n = numbering_at cnf settings eras in derived_have n (originals cnf) (all_joined eras) (originals_have n 0 cnf.clauses (omega arith)) log.have log.derived

pub have_behind : (n : Numbering) (lemmas more : List Lemma) → HaveAll n (lemmas ++ more) → HaveAll n more
have_behind n [] more have = have
have_behind n (lemma ∷ later) more have = have_behind n later more have.1

-- == what is written stays ==

numbers_stay : (n : Numbering) (counts : List ℕ) (hints : List Name) → AllByRecursion (HasNumber n) hints → map (number_of (with_period counts n)) hints ≡ map (number_of n) hints
numbers_stay n counts [] have = refl
numbers_stay n counts (hint ∷ later) have =
    ap (λ k. k ∷ map (number_of (with_period counts n)) later) (kept_number n counts hint have.0) ∙ ap (λ ks. number_of n hint ∷ ks) (numbers_stay n counts later have.1)

line_stays : (n : Numbering) (counts : List ℕ) (lemma : Lemma) → HasNumbers n lemma → line_text (with_period counts n) lemma ≡ line_text n lemma
line_stays n counts lemma have =
    ap (λ id. log_line_text id lemma.lits (map (number_of (with_period counts n)) lemma.hints)) (kept_number n counts lemma.name have.name)
    ∙ ap (log_line_text (number_of n lemma.name) lemma.lits) (numbers_stay n counts lemma.hints (recursion_from_All (HasNumber n) lemma.hints have.hints))

text_stays : (n : Numbering) (counts : List ℕ) (lemmas : List Lemma) → HaveAll n lemmas → part_text (with_period counts n) lemmas ≡ part_text n lemmas
text_stays n counts [] have = refl
text_stays n counts (lemma ∷ later) have =
    ap (λ line. line ++ part_text (with_period counts n) later) (line_stays n counts lemma have.0) ∙ ap (λ text. line_text n lemma ++ text) (text_stays n counts later have.1)

-- == one era more ==

-- the text of the log of some eras
abbrev pub text_of : Cnf → Settings → List (List (List Lemma)) → List ℕ
text_of cnf settings eras = part_text (numbering_at cnf settings eras) (all_joined eras)

pub text_more : (cnf : Cnf) (settings : Settings) (eras : List (List (List Lemma))) (parts : List (List Lemma)) → IsLog cnf settings eras →
    text_of cnf settings (eras ++ parts ∷ []) ≡ text_of cnf settings eras ++ part_text (numbering_at cnf settings (eras ++ parts ∷ [])) (joined parts)
text_more cnf settings eras parts log =
    let n = numbering_at cnf settings eras in
    let more = numbering_at cnf settings (eras ++ parts ∷ []) in
    ap (part_text more) (all_joined-push eras parts) ∙ flat_map-append (line_text more) (all_joined eras) (joined parts)
    ∙ ap (λ text. text ++ part_text more (joined parts))
    (ap (λ (m : Numbering). part_text m (all_joined eras)) (numbering_at-push cnf settings eras parts) ∙ text_stays n (counts_of parts) (all_joined eras) (log_have cnf settings eras log))

-- with the parts of an era that stand
pub era_more : (cnf : Cnf) (settings : Settings) (past : ℕ) → IsRunSound cnf settings past → text_of cnf settings (parts_at cnf settings past) ≡ text_before cnf settings past ++ era_text cnf settings past
era_more cnf settings past run = text_more cnf settings (parts_before cnf settings past) (era_parts cnf settings past) run.log

-- the lemmas that an era adds have numbers, and so have their hints
pub era_have : (cnf : Cnf) (settings : Settings) (past : ℕ) → IsRunSound cnf settings past → HaveAll (numbering_at cnf settings (parts_at cnf settings past)) (joined (era_parts cnf settings past))
era_have cnf settings past run =
    let n = numbering_at cnf settings (parts_at cnf settings past) in
    have_behind n (all_joined (parts_before cnf settings past)) (joined (era_parts cnf settings past))
    (subst (HaveAll n) (all_joined-push (parts_before cnf settings past) (era_parts cnf settings past))
    (log_have cnf settings (parts_at cnf settings past) (log_at cnf settings past (winning_core (mails_at cnf settings past)) run)))

-- == the whole text ==

-- what one text is longer by
pub record IsFront (front text : List ℕ) : Type 0 where
  pub rest : List ℕ
  pub parts : front ++ rest ≡ text

pub front-same : (text : List ℕ) → IsFront text text
front-same text = record { rest = []; parts = append-nil text }

pub front-then : (front mid text : List ℕ) → IsFront front mid → IsFront mid text → IsFront front text
front-then front mid text first second = record {
  rest = first.rest ++ second.rest;
  parts = sym (append_assoc front first.rest second.rest) ∙ ap (λ xs. xs ++ second.rest) first.parts ∙ second.parts;
}

-- the text of earlier eras is a front of that of more
fronts : (cnf : Cnf) (settings : Settings) (past more : ℕ) → IsFormula cnf → AreInRange settings → HasEra cnf settings (past + more) → IsFront (text_before cnf settings past) (text_before cnf settings (past + more))
fronts cnf settings past zero is are has = subst (λ q. IsFront (text_before cnf settings past) (text_before cnf settings q)) (let e : past ≡ past + 0 = omega arith in e) (front-same (text_before cnf settings past))
fronts cnf settings past (suc more) is are has =
    let q = past + more in
    let earlier : HasEra cnf settings q = λ p below. has p (omega (arith, below)) in
    let step = text_more cnf settings (parts_before cnf settings q) (parts_of (sheets_at cnf settings q)) (run_sound cnf settings q is are earlier).log in
    subst (λ p. IsFront (text_before cnf settings past) (text_before cnf settings p)) (let e : suc q ≡ past + suc more = omega arith in e)
    (front-then (text_before cnf settings past) (text_before cnf settings q) (text_before cnf settings (suc q)) (fronts cnf settings past more is are earlier)
    (record { rest = part_text (numbering_at cnf settings (parts_before cnf settings (suc q))) (joined (parts_of (sheets_at cnf settings q))); parts = sym step }))

-- so is the text of the eras past at any era of the run a front of the log's
pub text_is_front : (cnf : Cnf) (settings : Settings) (past : ℕ) → IsFormula cnf → AreInRange settings → HasEra cnf settings past → IsFront (text_before cnf settings past) (log_text cnf settings)
text_is_front cnf settings past is are has =
    let last = last_era cnf settings in
    let sum : past + (last - past) ≡ last = omega (arith, has_within cnf settings past are has) in
    let run = run_sound cnf settings last is are (has_last cnf settings are) in
    front-then (text_before cnf settings past) (text_before cnf settings last) (log_text cnf settings)
    (subst (λ q. IsFront (text_before cnf settings past) (text_before cnf settings q)) sum (fronts cnf settings past (last - past) is are (subst (HasEra cnf settings) (sym sum) (has_last cnf settings are))))
    (record { rest = era_text cnf settings last; parts = sym (era_more cnf settings last run) })
