-- The lemmas of the eras past are a log: each is derived at its place, they stand by their names, and each name has a number.
-- One era more keeps that.
use Rattle.std.proofs.Common.{◌≡◌, ℕ, ◌+◌, ◌-◌, ◌≤◌, List, [], ◌∷◌, ◌++◌, length, get_or, append_assoc, append-nil, length-append, refl, ap, sym, ◌∙◌, subst, arith}
use Rattle.std.specs.Prelude.{map}
use Rattle.std.specs.List.{AllByRecursion}
use Rattle.std.proofs.Math.Seq.{get_or-append_seam}
use Rattle.std.proofs.lemmas.List.{map-append, length-map}
use Rattle.std.proofs.lemmas.List.Elements.{recursion_from_All}
use Rattle.lit_base.specs.Cnf.{Cnf}
use Rattle.lit_base.specs.Rounds.{NamedClause, originals}
use Rattle.solo_core.specs.State.{lemma_name, lemma_clauses}
use Rattle.solo_core.specs.Soundness.{AreDerived, AreNamed, NoneFrom}
use Rattle.solo_core.specs.declared.lemma.Lemma.{Lemma}
use Rattle.solo_core.specs.declared.sheet.Settings.{Settings}
use Rattle.log_merge.specs.Numbering.{Numbering, with_period, counts_in, HasNumber}
use Rattle.log_merge.specs.Log.{names_from, names_of_cores, names_of_periods, log_names, names_of_lemmas}
use Rattle.log_merge.proofs.Staying.{named_have_numbers, still_has_number}
use Rattle.crew.specs.Log.{joined, all_joined, numbering_at}
use Rattle.crew.proofs.Parts.{ArePartsDerived, derived-append, lemma_clauses-append, parts_derived}

-- == one era more ==

pub all_joined-push : (eras : List (List (List Lemma))) (parts : List (List Lemma)) → all_joined (eras ++ parts ∷ []) ≡ all_joined eras ++ joined parts
all_joined-push [] parts = append-nil (joined parts)
all_joined-push (first ∷ later) parts =
    ap (λ lemmas. joined first ++ lemmas) (all_joined-push later parts) ∙ sym (append_assoc (joined first) (all_joined later) (joined parts))

-- the counts of the lemmas of each core in each era
abbrev pub counts_of : List (List Lemma) → List ℕ
counts_of parts = map length parts

pub numbering_at-push : (cnf : Cnf) (settings : Settings) (eras : List (List (List Lemma))) (parts : List (List Lemma)) →
    numbering_at cnf settings (eras ++ parts ∷ []) ≡ with_period (counts_of parts) (numbering_at cnf settings eras)
numbering_at-push cnf settings eras parts =
    ap (λ periods. let n : Numbering = record { originals = length cnf.clauses; cores = settings.cores; periods = periods } in n) (map-append counts_of eras (parts ∷ []))

-- what is known when so many eras are past: the clauses of the formula, and their lemmas
abbrev pub known_after : Cnf → List (List (List Lemma)) → List NamedClause
known_after cnf eras = originals cnf ++ lemma_clauses (all_joined eras)

pub known_after-push : (cnf : Cnf) (eras : List (List (List Lemma))) (parts : List (List Lemma)) → known_after cnf eras ++ lemma_clauses (joined parts) ≡ known_after cnf (eras ++ parts ∷ [])
known_after-push cnf eras parts =
    append_assoc (originals cnf) (lemma_clauses (all_joined eras)) (lemma_clauses (joined parts))
    ∙ ap (λ clauses. originals cnf ++ clauses)
    (sym (lemma_clauses-append (all_joined eras) (joined parts)) ∙ ap lemma_clauses (sym (all_joined-push eras parts)))

-- == names ==

names_of_part : (period core place : ℕ) (part : List Lemma) → AreNamed period core place part → names_of_lemmas part ≡ names_from period core place (length part)
names_of_part period core place [] named = refl
names_of_part period core place (lemma ∷ later) named =
    ap (λ name. name ∷ names_of_lemmas later) named.0 ∙ ap (λ names. lemma_name period core place ∷ names) (names_of_part period core (place + 1) later named.1)

names_of_parts : (base : List NamedClause) (period core : ℕ) (parts : List (List Lemma)) → ArePartsDerived base period core parts →
    names_of_lemmas (joined parts) ≡ names_of_cores period core (counts_of parts)
names_of_parts base period core [] are = refl
names_of_parts base period core (part ∷ later) are =
    map-append (λ (lemma : Lemma). lemma.name) part (joined later)
    ∙ ap (λ names. names ++ names_of_lemmas (joined later)) (names_of_part period core 0 part are.1)
    ∙ ap (λ names. names_from period core 0 (length part) ++ names) (names_of_parts base period (core + 1) later are.2)

names_of_periods-push : (period last : ℕ) (periods : List (List ℕ)) (counts : List ℕ) → last ≡ period + length periods →
    names_of_periods period (periods ++ counts ∷ []) ≡ names_of_periods period periods ++ names_of_cores last 0 counts
names_of_periods-push period last [] counts is = append-nil (names_of_cores period 0 counts) ∙ ap (λ p. names_of_cores p 0 counts) (omega (arith, is))
names_of_periods-push period last (first ∷ later) counts is =
    ap (λ names. names_of_cores period 0 first ++ names) (names_of_periods-push (period + 1) last later counts (omega (arith, is)))
    ∙ sym (append_assoc (names_of_cores period 0 first) (names_of_periods (period + 1) later) (names_of_cores last 0 counts))

-- == numbers ==

-- the name of each lemma has a number
abbrev pub NamesHave : Numbering → List Lemma → Type 0
NamesHave n lemmas = AllByRecursion (λ lemma. HasNumber n lemma.name) lemmas

have-append : (n : Numbering) (lemmas more : List Lemma) → NamesHave n lemmas → NamesHave n more → NamesHave n (lemmas ++ more)
have-append n [] more first second = second
have-append n (lemma ∷ later) more first second = (first.0, have-append n later more first.1 second)

still_have : (n : Numbering) (counts : List ℕ) (lemmas : List Lemma) → NamesHave n lemmas → NamesHave (with_period counts n) lemmas
still_have n counts [] have = tt
still_have n counts (lemma ∷ later) have = (still_has_number n counts lemma.name have.0, still_have n counts later have.1)

-- the parts behind the first ones of an ended period, whose counts are those of all its parts
parts_have : (n : Numbering) (base : List NamedClause) (period : ℕ) (front parts : List (List Lemma)) → 1 ≤ period → period ≤ length n.periods →
    counts_in n period ≡ counts_of (front ++ parts) → length (front ++ parts) ≡ n.cores → ArePartsDerived base period (length front) parts → NamesHave n (joined parts)
parts_have n base period front [] begun ended counts cores are = tt
parts_have n base period front (part ∷ later) begun ended counts cores are =
    let count : get_or (counts_in n period) (length front) 0 ≡ length part =
    ap (λ cs. get_or cs (length front) 0) (counts ∙ map-append length front (part ∷ later))
    ∙ (ap (λ i. get_or (counts_of front ++ length part ∷ counts_of later) i 0) (sym (length-map front length))
    ∙ get_or-append_seam (counts_of front) (length part) (counts_of later) 0) in
    let whole : (front ++ part ∷ []) ++ later ≡ front ++ part ∷ later = append_assoc front (part ∷ []) later in
    have-append n part (joined later)
    (recursion_from_All (λ (lemma : Lemma). HasNumber n lemma.name) part
    (named_have_numbers n period (length front) part begun ended (omega (arith, cores, length-append front (part ∷ later))) are.1 (omega (arith, count))))
    (parts_have n base period (front ++ part ∷ []) later begun ended (counts ∙ ap counts_of (sym whole)) (ap length whole ∙ cores)
    (subst (λ core. ArePartsDerived base period core later) (let e : length front + 1 ≡ length (front ++ part ∷ []) = omega (arith, length-append front (part ∷ [])) in e) are.2))

-- == the log of some eras ==

pub record IsLog (cnf : Cnf) (settings : Settings) (eras : List (List (List Lemma))) : Type 0 where
  pub derived : AreDerived (originals cnf) (all_joined eras)
  pub names : names_of_lemmas (all_joined eras) ≡ log_names (numbering_at cnf settings eras)
  pub have : NamesHave (numbering_at cnf settings eras) (all_joined eras)

pub no_log : (cnf : Cnf) (settings : Settings) → IsLog cnf settings []
no_log cnf settings = record { derived = tt; names = refl; have = tt }

-- the parts of one more era, one for each core, each derived from what was known when it began
pub log_more : (cnf : Cnf) (settings : Settings) (past : ℕ) (eras : List (List (List Lemma))) (parts : List (List Lemma)) → length eras ≡ past → length parts ≡ settings.cores →
    NoneFrom (known_after cnf eras) (past + 1) → ArePartsDerived (known_after cnf eras) (past + 1) 0 parts → IsLog cnf settings eras → IsLog cnf settings (eras ++ parts ∷ [])
log_more cnf settings past eras parts count cores none are log = record {
  derived = subst (λ lemmas. AreDerived (originals cnf) lemmas) (sym (all_joined-push eras parts))
      (derived-append (originals cnf) (all_joined eras) (joined parts) log.derived
      (parts_derived (known_after cnf eras) (known_after cnf eras) (past + 1) 0 parts (λ name lits is. is) (λ name now from. none name (omega (arith, now))) are));
  names = ap names_of_lemmas (all_joined-push eras parts) ∙ map-append (λ (lemma : Lemma). lemma.name) (all_joined eras) (joined parts)
      ∙ ap (λ names. names ++ names_of_lemmas (joined parts)) log.names
      ∙ ap (λ names. log_names n ++ names) (names_of_parts (known_after cnf eras) (past + 1) 0 parts are)
      ∙ sym (names_of_periods-push 1 (past + 1) n.periods (counts_of parts) (omega (arith, periods)))
      ∙ ap log_names (sym (numbering_at-push cnf settings eras parts));
  have = subst (λ lemmas. NamesHave (numbering_at cnf settings (eras ++ parts ∷ [])) lemmas) (sym (all_joined-push eras parts))
      (subst (λ m. NamesHave m (all_joined eras ++ joined parts)) (sym (numbering_at-push cnf settings eras parts))
      (have-append more (all_joined eras) (joined parts) (still_have n (counts_of parts) (all_joined eras) log.have)
      (parts_have more (known_after cnf eras) (past + 1) [] parts (omega arith) (omega (arith, periods, length-append n.periods (counts_of parts ∷ []))) here cores are)));
}
  where
    n : Numbering
    n = numbering_at cnf settings eras

    more : Numbering
    more = with_period (counts_of parts) n

    periods : length n.periods ≡ past
    periods = length-map eras counts_of ∙ count

    here : counts_in more (past + 1) ≡ counts_of parts
    here =
        ap (λ i. get_or (n.periods ++ counts_of parts ∷ []) i []) (let e : past + 1 - 1 ≡ length n.periods = omega (arith, periods) in e)
        ∙ get_or-append_seam n.periods (counts_of parts) [] []
