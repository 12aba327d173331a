-- What a party of a board puts fits its run, and what it takes is of the run.
use Rattle.std.proofs.Common.{◌≡◌, ◌≢◌, ℕ, ◌+◌, ◌-◌, ◌<◌, true, false, List, [], ◌∷◌, ◌++◌, length, take, refl, ap, sym, ◌∙◌, subst, arith, ◌⊎◌, inl, inr}
use Rattle.std.specs.Prelude.{Option, Some, None, IfSome, map, Result, Ok, Err, OnOk, is_err, slice_index, slice_set}
use Rattle.std.proofs.Math.Seq.{take-length}
use Rattle.std.proofs.lemmas.List.{length-map, get_or-set_same, get_or-set_other}
use Rattle.std.proofs.lemmas.Bool.{both_ways}
use Rattle.std.proofs.lemmas.Option.{same_Some}
use Rattle.lit_base.specs.Cnf.{Cnf}
use Rattle.lit_base.specs.declared.NoMemory.{NoMemory}
use Rattle.solo_core.specs.Calls.{after_stretch}
use Rattle.solo_core.specs.declared.sheet.Mail.{Mail}
use Rattle.solo_core.specs.declared.sheet.Sheet.{Sheet}
use Rattle.solo_core.specs.declared.sheet.Settings.{Settings}
use Rattle.crew.specs.declared.searcher.Searcher.{Searcher}
use Rattle.crew.specs.declared.post.Brief.{Brief}
use Rattle.crew.specs.Era.{Member, mail_at, sheet_left, next_member}
use Rattle.crew.specs.Run.{HasEra, members_at, mails_at, sheets_at}
use Rattle.crew.specs.Turns.{IsEra, AtMember, MayWork, HasWorked, begun, worked}
use Rattle.crew.specs.Posts.{InPeriod}
use Rattle.crew.specs.Parties.{IsOneMore}
use Rattle.crew.proofs.Members.{IsCounted, run_counted}
use Rattle.crew.proofs.RunSound.{length-members}
use Rattle.crew.proofs.InTurn.{all_at, member_at, mapped_at, taken_more, next_member_at}

-- what is of an era is of its period
pub in_period : (brief : Brief) (cnf : Cnf) (settings : Settings) (past period core : ℕ) (P : Member → Type 0) → brief.formula.value ≡ cnf → brief.settings ≡ settings → period ≡ past + 1 →
    HasEra cnf settings past → AtMember cnf settings past core P → InPeriod brief.formula.value brief.settings period core P
in_period brief cnf settings past period core P formula range is has at =
    let back : past ≡ period - 1 = omega (arith, is) in
    subst (λ c. InPeriod c brief.settings period core P) (sym formula)
    (subst (λ s. InPeriod cnf s period core P) (sym range)
    (omega (arith, is), subst (HasEra cnf settings) back has, subst (λ q. AtMember cnf settings q core P) back at))

-- and the other way round
pub from_period : (brief : Brief) (cnf : Cnf) (settings : Settings) (past period core : ℕ) (P : Member → Type 0) → brief.formula.value ≡ cnf → brief.settings ≡ settings → period ≡ past + 1 →
    InPeriod brief.formula.value brief.settings period core P → AtMember cnf settings past core P
from_period brief cnf settings past period core P formula range is held =
    let back : period - 1 ≡ past = omega (arith, is) in
    let there = subst (λ s. InPeriod cnf s period core P) range (subst (λ c. InPeriod c brief.settings period core P) formula held) in
    subst (λ q. AtMember cnf settings q core P) back there.2

-- what holds of the places below one, and of that one once it is set, holds of all up to it
pub up_to_last : (xs : List ℕ) (n number v : ℕ) → ((j : ℕ) → j < n → j ≢ number → slice_index xs j ≡ v) → n < length xs →
    (j : ℕ) → j < n + 1 → j ≢ number → slice_index (slice_set xs n v) j ≡ v
up_to_last xs n number v before within j below other = by_place (let split : (j < n) ⊎ (j ≡ n) = grind (arith, below) in split)
  where
    by_place : (j < n) ⊎ (j ≡ n) → slice_index (slice_set xs n v) j ≡ v
    by_place (inl less) = get_or-set_other xs n j v 0 (λ same. omega (arith, same, less)) ∙ before j less other
    by_place (inr same) = subst (λ k. slice_index (slice_set xs n v) k ≡ v) (sym same) (get_or-set_same xs n v 0 within)

-- == a core in an era ==

pub may_begin : (cnf : Cnf) (settings : Settings) (past i : ℕ) (searcher : Searcher) → IsEra cnf settings past → i < settings.cores → AtMember cnf settings past i (λ m. searcher ≡ begun m) → MayWork searcher
may_begin cnf settings past i searcher era within at =
    let found = member_at cnf settings past i within in
    let counted = run_counted cnf settings past era.range era.has in
    let may : MayWork (begun found.0) = record { some = (all_at (IsCounted past) (members_at cnf settings past) i found.0 counted.each found.1).quota; begun = λ whole. refl } in
    subst MayWork (sym (at found.0 found.1)) may

pub has_worked : (m : Member) (before after : Searcher) → before ≡ begun m → HasWorked before after → after.core.is_broken ≡ false → after ≡ worked m
has_worked m before after is work whole = work whole ∙ ap (λ (s : Searcher). let t : Searcher = record s { core = after_stretch s.quota s.core } in t) is

-- a core that is brought to the next era is at the start of it
pub next_begun : (cnf : Cnf) (settings : Settings) (past i : ℕ) (searcher : Searcher) → i < settings.cores →
    AtMember cnf settings past i (λ m. searcher ≡ begun (next_member settings.period (mails_at cnf settings past) m)) → AtMember cnf settings (past + 1) i (λ m. searcher ≡ begun m)
next_begun cnf settings past i searcher within next m at =
    let found = member_at cnf settings past i within in
    next found.0 found.1
    ∙ same_Some (begun (next_member settings.period (mails_at cnf settings past) found.0)) (begun m)
    (sym (next_member_at cnf settings past i found.0 found.1) ∙ mapped_at begun (members_at cnf settings (past + 1)) i m at)

-- == mails and sheets, one after the other ==

pub came_more : {X : Type 0} (f : Member → X) (cnf : Cnf) (settings : Settings) (past i : ℕ) (before after : List X) (came : Option X) → i < settings.cores → IfSome came (λ x. AtMember cnf settings past i (λ m. x ≡ f m)) →
    before ≡ take i (map f (members_at cnf settings past)) → IsOneMore before came after → after ≡ take (i + 1) (map f (members_at cnf settings past))
came_more f cnf settings past i before after None within at are more = absurd more
came_more f cnf settings past i before after (Some x) within at are more =
    let found = member_at cnf settings past i within in
    more ∙ ap (λ xs. xs ++ x ∷ []) are ∙ ap (λ y. take i (map f (members_at cnf settings past)) ++ y ∷ []) (at found.0 found.1)
    ∙ sym (taken_more (map f (members_at cnf settings past)) i (f found.0) (mapped_at f (members_at cnf settings past) i found.0 found.1))

-- all is there once that of all cores is
pub all_came : {X : Type 0} (f : Member → X) (cnf : Cnf) (settings : Settings) (past : ℕ) (kept : List X) → kept ≡ take settings.cores (map f (members_at cnf settings past)) → kept ≡ map f (members_at cnf settings past)
all_came f cnf settings past kept are =
    are ∙ ap (λ n. take n (map f (members_at cnf settings past))) (sym (length-members cnf settings past) ∙ sym (length-map (members_at cnf settings past) f)) ∙ take-length (map f (members_at cnf settings past))

-- what follows from an answer that is no error
pub went_well : {P : Type 0} (r : Result (Unit {0}) NoMemory) → is_err r ≡ false → OnOk r P → P
went_well (Ok done) well held = held
went_well (Err e) well held = absurd (both_ways true well refl)
