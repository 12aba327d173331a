-- An era after which the run goes on keeps what is sound. What all cores know then is what they knew before, and all lemmas of
-- the era.
use Rattle.std.proofs.Common.{◌≡◌, ℕ, ◌+◌, Bool, true, false, cond, List, [], ◌∷◌, ◌++◌, append-nil, refl, ap, sym, ◌∙◌, subst, arith}
use Rattle.std.specs.Prelude.{Option, None, map}
use Rattle.std.specs.List.{AllByRecursion}
use Rattle.lit_base.specs.Cnf.{Cnf}
use Rattle.lit_base.specs.Rounds.{NamedClause}
use Rattle.lit_base.specs.Named.{lits_at}
use Rattle.lit_base.specs.Walk.{FindsMore}
use Rattle.solo_core.specs.State.{CoreFrame, CoreState, lemma_clauses}
use Rattle.solo_core.specs.First.{frame_of}
use Rattle.solo_core.specs.Turn.{look_of}
use Rattle.solo_core.specs.Period.{clauses_posted, core_after_import, AreMails}
use Rattle.solo_core.specs.Soundness.{IsSound, NoneFrom, AreDerived, AreNamed}
use Rattle.solo_core.specs.declared.lemma.Lemma.{Lemma}
use Rattle.solo_core.specs.declared.sheet.End.{End}
use Rattle.solo_core.specs.declared.sheet.End.TheVariants.{Quota, Sat, Unsat, Spent}
use Rattle.solo_core.specs.declared.sheet.Mail.{Mail}
use Rattle.solo_core.specs.declared.sheet.Settings.{Settings}
use Rattle.solo_core.proofs.Derived.{found_in_front, found_behind}
use Rattle.solo_core.proofs.EndRules.{conflicts_counted}
use Rattle.solo_core.proofs.NextPeriod.{next_period_sound, next_period_others, import_sound, import_holds}
use Rattle.solo_core.proofs.StretchSound.{stretch_sound, stretch_holds, stretch_derived, stretch_named}
use Rattle.crew.specs.Era.{Member, stretched, mails_of, sheets_of, others, is_answer, next_member}
use Rattle.crew.specs.Log.{stands, standing_parts, parts_of, joined}
use Rattle.crew.proofs.Parts.{Finds, ArePartsDerived, ArePartsFound, finds_of_all, finds_either, parts_found, none_in_parts}
use Rattle.crew.proofs.Members.{HaveFrames, IsCounted, AreCounted, HaveNoAnswer, root_after}
use Rattle.crew.proofs.Mails.{IsMemberSound, mails_are, mails_found}

-- == the parts of an era, where all of them stand and where only the winner's does ==

part_derived : (cnf : Cnf) (settings : Settings) (known : List NamedClause) (past core : ℕ) (m : Member) → m.frame ≡ frame_of cnf settings core → IsCounted past m → IsMemberSound cnf known m →
    AreDerived known (stretched m).state.lemmas × AreNamed (past + 1) core 0 (stretched m).state.lemmas
part_derived cnf settings known past core m frame counted is = (
  stretch_derived known m.frame m.quota m.state is.sound,
  subst (λ period. AreNamed period core 0 (stretched m).state.lemmas) counted.period
      (subst (λ c. AreNamed m.state.period c 0 (stretched m).state.lemmas) (ap (λ (f : CoreFrame). f.core) frame) (stretch_named known m.frame m.quota m.state is.sound)),
)

-- a part that doesn't stand is empty
part_stands : (known : List NamedClause) (period core : ℕ) (b : Bool) (part : List Lemma) → AreDerived known part × AreNamed period core 0 part →
    AreDerived known (cond b part []) × AreNamed period core 0 (cond b part [])
part_stands known period core true part is = is
part_stands known period core false part is = (tt, tt)

pub parts_are : (cnf : Cnf) (settings : Settings) (known : List NamedClause) (past core : ℕ) (winner : Option ℕ) (members : List Member) → HaveFrames cnf settings core members →
    AllByRecursion (IsCounted past) members → AllByRecursion (IsMemberSound cnf known) members → ArePartsDerived known (past + 1) core (standing_parts winner (sheets_of members))
parts_are cnf settings known past core winner [] frames counted each = tt
parts_are cnf settings known past core winner (m ∷ later) frames counted each =
    let here = part_stands known (past + 1) core (stands winner m.frame.core) (stretched m).state.lemmas (part_derived cnf settings known past core m frames.0 counted.0 each.0) in
    (here.0, here.1, parts_are cnf settings known past (core + 1) winner later frames.1 counted.1 each.1)

-- == one core ==

-- at the start of a period what is known may be replaced by what finds at least the same, and has no name of this period or later
rebased : (base known : List NamedClause) (frame : CoreFrame) (state : CoreState) → state.lemmas ≡ [] → Finds base known → NoneFrom known state.period → IsSound base frame state → IsSound known frame state
rebased base known frame state none finds fresh sound = record {
  holds = sound.holds;
  derives = record {
    carried = subst (λ lemmas. FindsMore (look_of state) (lits_at (known ++ lemma_clauses lemmas)) (λ name. name)) (sym none)
        (subst (λ clauses. FindsMore (look_of state) (lits_at clauses) (λ name. name)) (sym (append-nil known)) (λ name lits is. finds name lits (before name lits is)));
    fresh = fresh;
    named = subst (λ lemmas. AreNamed state.period frame.core 0 lemmas) (sym none) tt;
    derived = subst (λ lemmas. AreDerived known lemmas) (sym none) tt;
    none_empty = sound.derives.none_empty;
    lemmas_distinct = sound.derives.lemmas_distinct;
    lemmas_within = sound.derives.lemmas_within;
  };
}
  where
    before : FindsMore (look_of state) (lits_at base) (λ name. name)
    before =
        subst (λ clauses. FindsMore (look_of state) (lits_at clauses) (λ name. name)) (append-nil base)
        (subst (λ lemmas. FindsMore (look_of state) (lits_at (base ++ lemma_clauses lemmas)) (λ name. name)) none sound.derives.carried)

pub not_refuted : (e : End) → is_answer e ≡ false → e ≡ Unsat → ⊥
not_refuted Quota other is = cc
not_refuted Sat other is = cc
not_refuted Unsat other is = cc
not_refuted Spent other is = cc

-- what a core is after an era that doesn't end the run
one_kept : (cnf : Cnf) (known after : List NamedClause) (past base : ℕ) (mails : List Mail) (m : Member) → IsCounted past m → IsMemberSound cnf known m → is_answer (stretched m).ended ≡ false →
    AreMails m.frame.variables (past + 1) m.frame.core 0 (others m.frame.core mails) → Finds ((known ++ lemma_clauses (stretched m).state.lemmas) ++ clauses_posted (others m.frame.core mails)) after →
    NoneFrom after (past + 1 + 1) → IsMemberSound cnf after (next_member base mails m)
one_kept cnf known after past base mails m counted is other are finds fresh =
    let s = stretched m in
    let rest = others m.frame.core mails in
    let sound = stretch_sound known m.frame m.quota m.state is.sound (not_refuted s.ended other) in
    let root = root_after m counted.limit is.root other in
    let now : s.state.period ≡ past + 1 = (conflicts_counted m.frame m.quota m.state).period ∙ counted.period in
    let may = subst (λ period. AreMails m.frame.variables period m.frame.core 0 rest) (sym now) are in
    let next = next_period_sound known m.frame s.state sound in
    let apart = next_period_others known m.frame s.state sound in
    let base_after = known ++ lemma_clauses s.state.lemmas in
    record {
      sound = rebased (base_after ++ clauses_posted rest) after m.frame (core_after_import rest s.state) refl finds
          (subst (λ period. NoneFrom after (period + 1)) (sym now) fresh) (import_sound base_after m.frame s.state rest next apart root may);
      holds = import_holds cnf base_after m.frame s.state rest next apart root may (stretch_holds cnf known m.frame m.quota m.state is.sound is.holds);
      root = root;
    }

-- == all cores ==

-- what is known of all cores at the start of the era before which so many are past
pub record IsEraSound (cnf : Cnf) (known : List NamedClause) (past : ℕ) (members : List Member) : Type 0 where
  pub each : AllByRecursion (IsMemberSound cnf known) members
  pub none : NoneFrom known (past + 1)

-- each of some cores, where `all` are those whose mails they take
each_kept : (cnf : Cnf) (settings : Settings) (known : List NamedClause) (past base core : ℕ) (all members : List Member) → HaveFrames cnf settings core members →
    AllByRecursion (IsCounted past) members → AllByRecursion (IsMemberSound cnf known) members → HaveNoAnswer members → ArePartsFound (known ++ lemma_clauses (joined (parts_of (sheets_of all)))) (parts_of (sheets_of members)) →
    ArePartsFound (known ++ lemma_clauses (joined (parts_of (sheets_of all)))) (parts_of (sheets_of all)) → ((own : ℕ) → AreMails cnf.variables (past + 1) own 0 (others own (mails_of all))) →
    NoneFrom (known ++ lemma_clauses (joined (parts_of (sheets_of all)))) (past + 1 + 1) →
    AllByRecursion (IsMemberSound cnf (known ++ lemma_clauses (joined (parts_of (sheets_of all))))) (map (next_member base (mails_of all)) members)
each_kept cnf settings known past base core all [] frames counted each none found all_found mails fresh = tt
each_kept cnf settings known past base core all (m ∷ later) frames counted each none found all_found mails fresh = (
  one_kept cnf known after past base (mails_of all) m counted.0 each.0 none.0
      (subst (λ variables. AreMails variables (past + 1) m.frame.core 0 (others m.frame.core (mails_of all))) (sym (ap (λ (f : CoreFrame). f.variables) frames.0)) (mails m.frame.core))
      (finds_either (known ++ lemma_clauses (stretched m).state.lemmas) (clauses_posted (others m.frame.core (mails_of all))) after
      (finds_either known (lemma_clauses (stretched m).state.lemmas) after (λ name lits is. found_in_front known (lemma_clauses (joined (parts_of (sheets_of all)))) name lits is)
      (finds_of_all (lemma_clauses (stretched m).state.lemmas) after found.0))
      (finds_of_all (clauses_posted (others m.frame.core (mails_of all))) after (mails_found after m.frame.core all all_found)))
      fresh,
  each_kept cnf settings known past base (core + 1) all later frames.1 counted.1 each.1 none.1 found.1 all_found mails fresh,
)
  where
    after : List NamedClause
    after = known ++ lemma_clauses (joined (parts_of (sheets_of all)))

-- an era after which the run goes on
pub era_kept : (cnf : Cnf) (settings : Settings) (known : List NamedClause) (past base : ℕ) (members : List Member) → AreCounted cnf settings past members → IsEraSound cnf known past members →
    HaveNoAnswer members → IsEraSound cnf (known ++ lemma_clauses (joined (parts_of (sheets_of members)))) (past + 1) (map (next_member base (mails_of members)) members)
era_kept cnf settings known past base members counted era none =
    let parts = parts_are cnf settings known past 0 None members counted.frames counted.each era.each in
    let found = parts_found known known (past + 1) 0 (parts_of (sheets_of members)) (λ name now from. era.none name (omega (arith, now))) parts in
    let fresh : NoneFrom (known ++ lemma_clauses (joined (parts_of (sheets_of members)))) (past + 1 + 1) =
    λ name late. found_behind known (lemma_clauses (joined (parts_of (sheets_of members)))) name (era.none name (omega (arith, late)))
    ∙ none_in_parts known (past + 1) 0 (parts_of (sheets_of members)) name (λ now. omega (arith, now, late)) parts in
    record {
      each = each_kept cnf settings known past base 0 members members counted.frames counted.each era.each none found found
          (λ own. mails_are cnf settings known past own 0 members counted.frames counted.each era.each) fresh;
      none = fresh;
    }
