-- What holds of the cores that one worker works for, while an era goes over them.
use Rattle.std.proofs.Common.{◌≡◌, ℕ, ◌+◌, ◌≤◌, ◌<◌, true, false, List, length, set, get_or, refl, sym, subst, All, ◌⊎◌, inl, inr, arith}
use Rattle.std.specs.Prelude.{Option, Some, None}
use Rattle.std.proofs.lemmas.Bool.{both_ways}
use Rattle.std.proofs.lemmas.List.{get_or-set_same, get_or-set_other, length-set}
use Rattle.lit_base.specs.Cnf.{Cnf}
use Rattle.solo_core.specs.declared.sheet.Settings.{Settings}
use Rattle.crew.specs.declared.party.Party.{Party}
use Rattle.crew.specs.declared.party.Step.{Step}
use Rattle.crew.specs.declared.party.Step.TheVariants.{GoesOn, Over, Broken}
use Rattle.crew.specs.Era.{is_over}
use Rattle.crew.specs.Run.{mails_at}
use Rattle.crew.specs.Parties.{Posts, PartyAt, PartyDone, Receives}
use Rattle.crew.specs.Working.{joint_of, AllReceive}

-- == lists, place by place ==

-- this holds of the items before a place
abbrev pub Before : {X : Type 0} → (X → Type 0) → ℕ → List X → Type 0
Before {X} P i xs = (j : ℕ) (d : X) → j < i → P (get_or xs j d)

-- and this of those from it on
abbrev pub From : {X : Type 0} → (X → Type 0) → ℕ → List X → Type 0
From {X} P i xs = (j : ℕ) (d : X) → i ≤ j → j < length xs → P (get_or xs j d)

pub none_before : {X : Type 0} (P : X → Type 0) (xs : List X) → Before P 0 xs
none_before P xs j d before = absurd (omega (arith, before))

pub all_from : {X : Type 0} (P : X → Type 0) (xs : List X) → All P xs → From P 0 xs
all_from P xs all j d from within = all j d within

pub all_before : {X : Type 0} (P : X → Type 0) (i : ℕ) (xs : List X) → length xs ≤ i → Before P i xs → All P xs
all_before P i xs end before j d within = before j d (omega (arith, end, within))

-- one more item is as it is to be
pub before_more : {X : Type 0} (P : X → Type 0) (i : ℕ) (xs : List X) (y : X) → i < length xs → P y → Before P i xs → Before P (i + 1) (set xs i y)
before_more {X} P i xs y within here before j d below = by_place (let split : (j < i) ⊎ (j ≡ i) = grind (arith, below) in split)
  where
    by_place : (j < i) ⊎ (j ≡ i) → P (get_or (set xs i y) j d)
    by_place (inl less) = subst P (sym (get_or-set_other xs i j y d (λ same. omega (arith, same, less)))) (before j d less)
    by_place (inr same) = subst (λ k. P (get_or (set xs i y) k d)) (sym same) (subst P (sym (get_or-set_same xs i y d within)) here)

-- the first one is
pub before_first : {X : Type 0} (P : X → Type 0) (i : ℕ) (xs : List X) (y : X) → i < length xs → i ≡ 0 → P y → Before P (i + 1) (set xs i y)
before_first P i xs y within first here = before_more P i xs y within here (λ j d below. absurd (omega (arith, below, first)))

pub from_more : {X : Type 0} (P : X → Type 0) (i : ℕ) (xs : List X) (y : X) → From P i xs → From P (i + 1) (set xs i y)
from_more P i xs y from j d behind within =
    subst P (sym (get_or-set_other xs i j y d (λ same. omega (arith, same, behind)))) (from j d (omega (arith, behind)) (omega (arith, within, length-set xs i y)))

-- == the second half of an era ==

-- what holds of the cores before a place for which an era ended so
abbrev pub HaveReceived : Posts → Cnf → Settings → ℕ → ℕ → List Party → Option Step → Type 0
HaveReceived board cnf settings past i parties None = i ≡ 0
HaveReceived board cnf settings past i parties (Some GoesOn) = (is_over (mails_at cnf settings past) ≡ false) × Before (PartyAt board cnf settings (past + 1)) i parties
HaveReceived board cnf settings past i parties (Some Over) = (is_over (mails_at cnf settings past) ≡ true) × Before (PartyDone board cnf settings past) i parties
HaveReceived board cnf settings past i parties (Some Broken) = Unit {0}

-- one more core has received: it ends the era as those before it, unless one was stopped
pub received_more : (board : Posts) (cnf : Cnf) (settings : Settings) (past i : ℕ) (parties : List Party) (party : Party) (came : Option Step) (step : Step) → i < length parties →
    Receives board cnf settings past party step → HaveReceived board cnf settings past i parties came → HaveReceived board cnf settings past (i + 1) (set parties i party) (Some (joint_of came step))
received_more board cnf settings past i parties party None GoesOn within here first = (here.0, before_first (PartyAt board cnf settings (past + 1)) i parties party within first here.1)
received_more board cnf settings past i parties party None Over within here first = (here.0, before_first (PartyDone board cnf settings past) i parties party within first here.1)
received_more board cnf settings past i parties party None Broken within here first = tt
received_more board cnf settings past i parties party (Some GoesOn) GoesOn within here before = (here.0, before_more (PartyAt board cnf settings (past + 1)) i parties party within here.1 before.1)
received_more board cnf settings past i parties party (Some GoesOn) Over within here before = absurd (both_ways (is_over (mails_at cnf settings past)) before.0 here.0)
received_more board cnf settings past i parties party (Some GoesOn) Broken within here before = tt
received_more board cnf settings past i parties party (Some Over) GoesOn within here before = absurd (both_ways (is_over (mails_at cnf settings past)) here.0 before.0)
received_more board cnf settings past i parties party (Some Over) Over within here before = (here.0, before_more (PartyDone board cnf settings past) i parties party within here.1 before.1)
received_more board cnf settings past i parties party (Some Over) Broken within here before = tt
received_more board cnf settings past i parties party (Some Broken) step within here before = tt

pub received_joined : (board : Posts) (cnf : Cnf) (settings : Settings) (past i : ℕ) (parties : List Party) (party : Party) (came : Option Step) (step joined : Step) → joined ≡ joint_of came step → i < length parties →
    Receives board cnf settings past party step → HaveReceived board cnf settings past i parties came → HaveReceived board cnf settings past (i + 1) (set parties i party) (Some joined)
received_joined board cnf settings past i parties party came step joined is within here before =
    subst (λ s. HaveReceived board cnf settings past (i + 1) (set parties i party) (Some s)) (sym is) (received_more board cnf settings past i parties party came step within here before)

-- all have
pub all_received : (board : Posts) (cnf : Cnf) (settings : Settings) (past i : ℕ) (parties : List Party) (came : Option Step) → length parties ≤ i →
    HaveReceived board cnf settings past i parties came → AllReceive board cnf settings past parties came
all_received board cnf settings past i parties None end before = tt
all_received board cnf settings past i parties (Some GoesOn) end before = (before.0, all_before (PartyAt board cnf settings (past + 1)) i parties end before.1)
all_received board cnf settings past i parties (Some Over) end before = (before.0, all_before (PartyDone board cnf settings past) i parties end before.1)
all_received board cnf settings past i parties (Some Broken) end before = tt
