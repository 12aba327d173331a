-- From the passes of a board to its parties, and back after the run.
use Rattle.std.proofs.Common.{◌≡◌, ◌≢◌, ℕ, zero, suc, ◌+◌, ◌<◌, List, [], ◌∷◌, ◌++◌, length, map, refl, ap, sym, ◌∙◌, subst, All, arith}
use Rattle.std.specs.Prelude.{Some, slice_get, slice_index}
use Rattle.std.specs.List.{AllByRecursion}
use Rattle.std.proofs.lemmas.Option.{same_Some, none-some}
use Rattle.std.proofs.lemmas.List.Elements.{All-from_recursion, recursion_from_All}
use Rattle.era_board.specs.Passes.{account}
use Rattle.era_board.specs.Periods.{IsAtRest}
use Rattle.era_board.proofs.Resting.{rests_when_fresh}
use Rattle.lit_base.specs.Cnf.{Cnf}
use Rattle.solo_core.specs.declared.sheet.Settings.{Settings}
use Rattle.crew.specs.declared.outcome.Outcome.{Outcome}
use Rattle.crew.specs.declared.party.Party.{Party}
use Rattle.crew.specs.declared.scribe.Scribe.{Scribe}
use Rattle.crew.specs.Era.{Member}
use Rattle.crew.specs.Run.{first_member, members_from, last_era}
use Rattle.crew.specs.Outcome.{outcome_of}
use Rattle.crew.specs.Groups.{AreEach}
use Rattle.crew.specs.Turns.{AtMember}
use Rattle.crew.specs.Parties.{Posts, PassOf, IsPassIn, PartyDone, number_of}
use Rattle.crew.specs.Scribing.{ScribeDone}
use Rattle.crew.specs.Working.{numbers_of}
use Rattle.crew.specs.Passes.{IsMadeFor, IsUsed, pass_of}
use Rattle.crew.proofs.Groups.{each_none, each_cons, each_head, each_tail}

-- == before the run ==

module _ (board : Posts) (cnf : Cnf) (settings : Settings) (number : ℕ) (pass : PassOf) (made : IsMadeFor board cnf settings number pass) where
  pub made_rests : IsAtRest (account pass)
  made_rests = (rests_when_fresh (account pass) (account pass).occasion board.parties number made.unused).0

  pub made_number : (account pass).number ≡ number
  made_number = (rests_when_fresh (account pass) (account pass).occasion board.parties number made.unused).1

  pub made_arrivals : (account pass).arrivals ≡ 0
  made_arrivals = (rests_when_fresh (account pass) (account pass).occasion board.parties number made.unused).2

  pub made_in : board.parties ≡ settings.cores + 1 → IsPassIn board cnf settings pass
  made_in parties = record { given = made.given; parties = parties; formula = made.formula; range = made.range }

-- the core of a number at the start of the run
first_from : (cnf : Cnf) (settings : Settings) (core more i : ℕ) (m : Member) → slice_get (members_from cnf settings core more) i ≡ Some m → first_member cnf settings (core + i) ≡ m
first_from cnf settings core zero i m at = absurd (none-some m at)
first_from cnf settings core (suc more) zero m at = ap (first_member cnf settings) (let e : core + 0 ≡ core = omega arith in e) ∙ same_Some (first_member cnf settings core) m at
first_from cnf settings core (suc more) (suc i) m at =
    ap (first_member cnf settings) (let e : core + suc i ≡ core + 1 + i = omega arith in e) ∙ first_from cnf settings (core + 1) more i m at

pub first_at : (cnf : Cnf) (settings : Settings) (i : ℕ) → AtMember cnf settings 0 i (λ m. first_member cnf settings i ≡ m)
first_at cnf settings i m at = ap (first_member cnf settings) (let e : i ≡ 0 + i = omega arith in e) ∙ first_from cnf settings 0 settings.cores i m at

-- == after the run ==

-- a party has become this one, of the same number, and is done
abbrev pub HasRunTo : Posts → Cnf → Settings → Party → Party → Type 0
HasRunTo board cnf settings before after = PartyDone board cnf settings (last_era cnf settings) after × (number_of after ≡ number_of before)

module _ (board : Posts) (cnf : Cnf) (settings : Settings) where
  -- groups of the same numbers, in which all are done, agree with those before the run
  group_agrees : (before after : List Party) → numbers_of after ≡ numbers_of before → AllByRecursion (PartyDone board cnf settings (last_era cnf settings)) after →
      AreEach (HasRunTo board cnf settings) before after
  group_agrees [] [] same done = each_none (HasRunTo board cnf settings)
  group_agrees [] (q ∷ after) same done = absurd (omega (arith, ap length same))
  group_agrees (p ∷ before) [] same done = absurd (omega (arith, ap length same))
  group_agrees (p ∷ before) (q ∷ after) same done =
      let head : number_of q ≡ number_of p = cc in
      let tail : numbers_of after ≡ numbers_of before = cc in
      each_cons (HasRunTo board cnf settings) p q before after (done.0, head) (group_agrees before after tail done.1)

  groups_by : (before after : List (List Party)) → map numbers_of after ≡ map numbers_of before → AllByRecursion (All (PartyDone board cnf settings (last_era cnf settings))) after →
      AreEach (AreEach (HasRunTo board cnf settings)) before after
  groups_by [] [] same done = each_none (AreEach (HasRunTo board cnf settings))
  groups_by [] (q ∷ after) same done = absurd (omega (arith, ap length same))
  groups_by (p ∷ before) [] same done = absurd (omega (arith, ap length same))
  groups_by (p ∷ before) (q ∷ after) same done =
      let head : numbers_of q ≡ numbers_of p = cc in
      let tail : map numbers_of after ≡ map numbers_of before = cc in
      each_cons (AreEach (HasRunTo board cnf settings)) p q before after
      (group_agrees p q head (recursion_from_All (PartyDone board cnf settings (last_era cnf settings)) q done.0)) (groups_by before after tail done.1)

  pub groups_agree : (before after : List (List Party)) → map numbers_of after ≡ map numbers_of before → All (All (PartyDone board cnf settings (last_era cnf settings))) after →
      AreEach (AreEach (HasRunTo board cnf settings)) before after
  groups_agree before after same done = groups_by before after same (recursion_from_All (All (PartyDone board cnf settings (last_era cnf settings))) after done)

  -- the pass of a party that is done is used
  rests_used : (eras : ℕ) (before after : PassOf) → IsPassIn board cnf settings after → IsAtRest (account after) → (account after).arrivals ≡ eras → (account after).number ≡ (account before).number →
      IsUsed board eras before after
  rests_used eras before after inside rest arrivals number = record {
    given = inside.given;
    number = number;
    arrivals = arrivals;
    taken = λ from below other. let held = rest.taken from (omega (arith, below, inside.given.1)) other in omega (arith, held, arrivals);
  }

  used_parties : (parties gone : List Party) → AreEach (HasRunTo board cnf settings) parties gone →
      AreEach (IsUsed board (last_era cnf settings + 1)) (map pass_of parties) (map pass_of gone)
  used_parties [] [] each = each_none (IsUsed board (last_era cnf settings + 1))
  used_parties [] (q ∷ gone) each = absurd (omega (arith, each.same_length))
  used_parties (p ∷ parties) [] each = absurd (omega (arith, each.same_length))
  used_parties (p ∷ parties) (q ∷ gone) each =
      let here = each_head (HasRunTo board cnf settings) p q parties gone each in
      each_cons (IsUsed board (last_era cnf settings + 1)) (pass_of p) (pass_of q) (map pass_of parties) (map pass_of gone)
      (rests_used (last_era cnf settings + 1) p.pass q.pass here.0.pass here.0.rest here.0.arrivals here.1)
      (used_parties parties gone (each_tail (HasRunTo board cnf settings) p q parties gone each))

each_snoc : {X Y : Type 0} (R : X → Y → Type 0) (xs : List X) (ys : List Y) (x : X) (y : Y) → AreEach R xs ys → R x y → AreEach R (xs ++ x ∷ []) (ys ++ y ∷ [])
each_snoc R [] [] x y each last = each_cons R x y [] [] last (each_none R)
each_snoc R [] (b ∷ ys) x y each last = absurd (omega (arith, each.same_length))
each_snoc R (a ∷ xs) [] x y each last = absurd (omega (arith, each.same_length))
each_snoc R (a ∷ xs) (b ∷ ys) x y each last =
    each_cons R a b (xs ++ x ∷ []) (ys ++ y ∷ []) (each_head R a b xs ys each) (each_snoc R xs ys x y (each_tail R a b xs ys each) last)

-- all passes are, in their order
pub all_used : (board : Posts) (cnf : Cnf) (settings : Settings) (passes given front : List PassOf) (last : PassOf) (parties gone : List Party) (scribe : Scribe) (outcome : Outcome) →
    passes ≡ front ++ last ∷ [] → map pass_of parties ≡ front → given ≡ map pass_of gone ++ scribe.pass ∷ [] → AreEach (HasRunTo board cnf settings) parties gone →
    ScribeDone board cnf settings (last_era cnf settings) scribe → (account last).number ≡ settings.cores → outcome ≡ outcome_of cnf settings →
    AreEach (IsUsed board outcome.eras) passes given
all_used board cnf settings passes given front last parties gone scribe outcome whole mapped are each done number is =
    subst (λ (o : Outcome). AreEach (IsUsed board o.eras) passes given) (sym is)
    (subst (λ xs. AreEach (IsUsed board (last_era cnf settings + 1)) xs given) (sym (whole ∙ ap (λ xs. xs ++ last ∷ []) (sym mapped)))
    (subst (AreEach (IsUsed board (last_era cnf settings + 1)) (map pass_of parties ++ last ∷ [])) (sym are)
    (each_snoc (IsUsed board (last_era cnf settings + 1)) (map pass_of parties) (map pass_of gone) last scribe.pass (used_parties board cnf settings parties gone each)
    (rests_used board cnf settings (last_era cnf settings + 1) last scribe.pass done.pass done.rest done.arrivals (done.last ∙ sym number)))))
