-- What the cores of a run are in turn, place by place.
use Rattle.std.proofs.Common.{◌≡◌, ℕ, zero, suc, ◌+◌, ◌≤◌, ◌<◌, ◌==◌, ◌^◌, false, not, List, [], ◌∷◌, ◌++◌, length, take, get_or, set, add-one, refl, ap, sym, ◌∙◌, subst, All, ◌⊎◌, inl, inr, arith}
use Rattle.std.specs.Prelude.{Some, option_map, map, slice_get}
use Rattle.std.specs.List.{AllByRecursion, insert, remove}
use Rattle.std.proofs.lemmas.Bool.{cond-true, cond-false, eq-eqb, eqb-true, false_from_ne_true}
use Rattle.std.proofs.lemmas.Option.{same_Some, none-some, slice_get-map, slice_get-get_or, slice_get_within, get_or_from_slice_get}
use Rattle.std.proofs.Math.Seq.{take-append_seam}
use Rattle.std.proofs.lemmas.List.{length-map, take_more}
use Rattle.std.proofs.lemmas.List.Elements.{All-from_recursion}
use Rattle.lit_base.specs.Cnf.{Cnf}
use Rattle.period_rule.specs.Period.{next_period}
use Rattle.solo_core.specs.State.{CoreFrame, CoreValue}
use Rattle.solo_core.specs.First.{frame_of}
use Rattle.solo_core.specs.Calls.{HasNoAnswer, after_import}
use Rattle.solo_core.specs.Period.{AreMails}
use Rattle.solo_core.specs.declared.sheet.End.{End}
use Rattle.solo_core.specs.declared.sheet.End.TheVariants.{Quota, Sat, Unsat, Spent}
use Rattle.solo_core.specs.declared.sheet.Mail.{Mail}
use Rattle.solo_core.specs.declared.sheet.Settings.{Settings}
use Rattle.solo_core.proofs.EndRules.{conflicts_counted}
use Rattle.crew.specs.declared.searcher.Searcher.{Searcher}
use Rattle.crew.specs.Era.{Member, stretched, mail_at, mails_in, mails_of, sheets_of, others, is_answer, is_over, largest_volume, next_member, after_era}
use Rattle.crew.specs.Run.{members_at, mails_at}
use Rattle.crew.specs.Groups.{AreEach}
use Rattle.crew.specs.Turns.{IsEra, MayWork, HasWorked, HaveWorked, core_begun, begun, at_rest}
use Rattle.crew.proofs.Members.{HaveFrames, IsCounted, goes_on, run_counted}
use Rattle.crew.proofs.Mails.{mails_are}
use Rattle.crew.proofs.RunSound.{run_sound, known_at, length-members}
use Rattle.crew.proofs.LastEra.{more_below}
use Rattle.crew.proofs.LogSize.{volumes_fit}

-- == lists, place by place ==

pub same_by_place : {X : Type 0} (xs ys : List X) → length xs ≡ length ys → ((i : ℕ) → i < length xs → slice_get xs i ≡ slice_get ys i) → xs ≡ ys
same_by_place [] [] lengths each = refl
same_by_place [] (y ∷ ys) lengths each = absurd (omega (arith, lengths))
same_by_place (x ∷ xs) [] lengths each = absurd (omega (arith, lengths))
same_by_place (x ∷ xs) (y ∷ ys) lengths each =
    ap (λ z. z ∷ xs) (same_Some x y (each 0 (omega arith))) ∙ ap (λ zs. y ∷ zs) (same_by_place xs ys (omega (arith, lengths)) (λ i within. each (suc i) (omega (arith, within))))

pub all_at : {X : Type 0} (P : X → Type 0) (xs : List X) (i : ℕ) (x : X) → AllByRecursion P xs → slice_get xs i ≡ Some x → P x
all_at P [] i x all at = absurd (none-some x at)
all_at P (y ∷ ys) zero x all at = subst P (same_Some y x at) all.0
all_at P (y ∷ ys) (suc i) x all at = all_at P ys i x all.1 at

-- what was taken out of a list is put back
pub put_back : {X : Type 0} (xs : List X) (i : ℕ) (x : X) → slice_get xs i ≡ Some x → insert (remove xs i) i x ≡ xs
put_back [] i x at = absurd (none-some x at)
put_back (y ∷ ys) zero x at = ap (λ z. z ∷ ys) (sym (same_Some y x at))
put_back (y ∷ ys) (suc i) x at = ap (λ zs. y ∷ zs) (put_back ys i x at)

-- what a slice of all items was changed to is what the list has
pub rewritten : {X : Type 0} (items rest : List X) (n : ℕ) → n ≡ length items → take n (items ++ rest) ≡ items
rewritten items rest n is = ap (λ m. take m (items ++ rest)) is ∙ take-append_seam items rest

-- == the cores of an era ==

-- each place below the number of cores has one
pub member_at : (cnf : Cnf) (settings : Settings) (past i : ℕ) → i < settings.cores → (m : Member) × (slice_get (members_at cnf settings past) i ≡ Some m)
member_at cnf settings past i below = found (members_at cnf settings past) i (omega (arith, below, length-members cnf settings past))
  where
    found : (members : List Member) (i : ℕ) → i < length members → (m : Member) × (slice_get members i ≡ Some m)
    found [] i below = absurd (omega (arith, below))
    found (m ∷ later) zero below = (m, refl)
    found (m ∷ later) (suc i) below = found later i (omega (arith, below))

pub frame_at : (cnf : Cnf) (settings : Settings) (core i : ℕ) (members : List Member) (m : Member) → HaveFrames cnf settings core members → slice_get members i ≡ Some m → m.frame ≡ frame_of cnf settings (core + i)
frame_at cnf settings core i [] m frames at = absurd (none-some m at)
frame_at cnf settings core zero (n ∷ later) m frames at =
    ap (λ (o : Member). o.frame) (sym (same_Some n m at)) ∙ (frames.0 ∙ ap (frame_of cnf settings) (let e : core ≡ core + 0 = omega arith in e))
frame_at cnf settings core (suc i) (n ∷ later) m frames at =
    frame_at cnf settings (core + 1) i later m frames.1 at ∙ ap (frame_of cnf settings) (let e : core + 1 + i ≡ core + suc i = omega arith in e)

-- the mails that the sheets of some cores have
pub mails_of_sheets : (members : List Member) → mails_in (sheets_of members) ≡ mails_of members
mails_of_sheets [] = refl
mails_of_sheets (m ∷ later) = ap (λ mails. mail_at m ∷ mails) (mails_of_sheets later)

-- == what a core may do ==

pub all_may_work : (cnf : Cnf) (settings : Settings) (past : ℕ) → IsEra cnf settings past → All MayWork (map begun (members_at cnf settings past))
all_may_work cnf settings past era =
    All-from_recursion MayWork (map begun (members_at cnf settings past)) (each (members_at cnf settings past) (run_counted cnf settings past era.range era.has).each)
  where
    each : (members : List Member) → AllByRecursion (IsCounted past) members → AllByRecursion MayWork (map begun members)
    each [] counted = tt
    each (m ∷ later) counted = (record { some = counted.0.quota; begun = λ whole. refl }, each later counted.1)

pub have_worked : (cnf : Cnf) (settings : Settings) (past : ℕ) (before after : List Searcher) → before ≡ map begun (members_at cnf settings past) → AreEach HasWorked before after → HaveWorked cnf settings past after
have_worked cnf settings past before after are each = record {
  same_length = each.same_length ∙ ap length are ∙ length-map (members_at cnf settings past) begun;
  each = λ i m s at_m at_s whole.
      each.each i (begun m) s (ap (λ searchers. slice_get searchers i) are ∙ slice_get-map begun (members_at cnf settings past) i ∙ ap (option_map begun) at_m) at_s whole;
}

-- == imports ==

-- the mails without that of a place are those of the others
none_of : (cnf : Cnf) (settings : Settings) (own core : ℕ) (members : List Member) → HaveFrames cnf settings core members → own < core → others own (mails_of members) ≡ mails_of members
none_of cnf settings own core [] frames below = refl
none_of cnf settings own core (m ∷ later) frames below =
    let core_is = ap (λ (f : CoreFrame). f.core) frames.0 in
    cond-true (not (m.frame.core == own)) (mail_at m ∷ others own (mails_of later)) (others own (mails_of later))
    (ap not (false_from_ne_true (m.frame.core == own) (λ same. omega (arith, eqb-true m.frame.core own same, core_is, below))))
    ∙ ap (λ mails. mail_at m ∷ mails) (none_of cnf settings own (core + 1) later frames.1 (omega (arith, below)))

pub others_are : (cnf : Cnf) (settings : Settings) (core i own : ℕ) (members : List Member) → HaveFrames cnf settings core members → own ≡ core + i → others own (mails_of members) ≡ remove (mails_of members) i
others_are cnf settings core zero own [] frames is = refl
others_are cnf settings core (suc i) own [] frames is = refl
others_are cnf settings core zero own (m ∷ later) frames is =
    let core_is = ap (λ (f : CoreFrame). f.core) frames.0 in
    cond-false (not (m.frame.core == own)) (mail_at m ∷ others own (mails_of later)) (others own (mails_of later)) (ap not (eq-eqb m.frame.core own (omega (arith, core_is, is))))
    ∙ none_of cnf settings own (core + 1) later frames.1 (omega (arith, is))
others_are cnf settings core (suc i) own (m ∷ later) frames is =
    let core_is = ap (λ (f : CoreFrame). f.core) frames.0 in
    cond-true (not (m.frame.core == own)) (mail_at m ∷ others own (mails_of later)) (others own (mails_of later))
    (ap not (false_from_ne_true (m.frame.core == own) (λ same. omega (arith, eqb-true m.frame.core own same, core_is, is))))
    ∙ ap (λ mails. mail_at m ∷ mails) (others_are cnf settings (core + 1) i own later frames.1 (omega (arith, is)))

no_answer_by : (e : End) → is_answer e ≡ false → HasNoAnswer (Some e)
no_answer_by Quota other = tt
no_answer_by Sat other = cc
no_answer_by Unsat other = cc
no_answer_by Spent other = tt

largest_by : (members : List Member) (i : ℕ) (m : Member) → slice_get members i ≡ Some m → (mail_at m).volume ≤ largest_volume (mails_of members)
largest_by [] i m at = absurd (none-some m at)
largest_by (n ∷ later) zero m at = subst (λ (o : Member). (mail_at o).volume ≤ largest_volume (mails_of (n ∷ later))) (same_Some n m at) (grind arith)
largest_by (n ∷ later) (suc i) m at = let further = largest_by later i m at in grind (arith, further)

-- what holds of a core and of the mails of an era after which the run goes on
pub record MayImport (cnf : Cnf) (settings : Settings) (past i : ℕ) (m : Member) : Type 0 where
  pub no_answer : HasNoAnswer (Some (stretched m).ended)
  pub others : others m.frame.core (mails_at cnf settings past) ≡ remove (mails_at cnf settings past) i
  pub mails : AreMails m.frame.variables (stretched m).state.period m.frame.core 0 (remove (mails_at cnf settings past) i)
  pub period : (stretched m).state.period + 1 < 2 ^ 32
  pub own : slice_get (mails_at cnf settings past) i ≡ Some (mail_at m)
  pub within : (mail_at m).volume ≤ largest_volume (mails_at cnf settings past)
  pub fits : largest_volume (mails_at cnf settings past) ≤ 2 ^ 40

pub may_import : (cnf : Cnf) (settings : Settings) (past i : ℕ) (m : Member) → IsEra cnf settings past → is_over (mails_at cnf settings past) ≡ false → slice_get (members_at cnf settings past) i ≡ Some m →
    MayImport cnf settings past i m
may_import cnf settings past i m era on at =
    let members = members_at cnf settings past in
    let counted = run_counted cnf settings past era.range era.has in
    let run = run_sound cnf settings past era.formula era.range era.has in
    let frame = frame_at cnf settings 0 i members m counted.frames at in
    let core_is = ap (λ (f : CoreFrame). f.core) frame in
    let same = others_are cnf settings 0 i m.frame.core members counted.frames core_is in
    let period : (stretched m).state.period ≡ past + 1 = (conflicts_counted m.frame m.quota m.state).period ∙ (all_at (IsCounted past) members i m counted.each at).period in
    record {
      no_answer = no_answer_by (stretched m).ended (all_at (λ (n : Member). is_answer (stretched n).ended ≡ false) members i m (goes_on members on).0 at);
      others = same;
      mails = subst (AreMails m.frame.variables (stretched m).state.period m.frame.core 0) same
          (subst (λ variables. AreMails variables (stretched m).state.period m.frame.core 0 (others m.frame.core (mails_of members))) (sym (ap (λ (f : CoreFrame). f.variables) frame))
          (subst (λ p. AreMails cnf.variables p m.frame.core 0 (others m.frame.core (mails_of members))) (sym period)
          (mails_are cnf settings (known_at cnf settings past) past m.frame.core 0 members counted.frames counted.each run.era.each)));
      period = omega (arith, period, more_below cnf settings past era.range era.has on, era.range.few_limit);
      own = slice_get-map mail_at members i ∙ ap (option_map mail_at) at;
      within = largest_by members i m at;
      fits = omega (arith, volumes_fit cnf settings past era.range era.has);
    }

-- == loops over the cores ==

pub set_here : {X : Type 0} (xs : List X) (i : ℕ) (x : X) → i < length xs → slice_get (set xs i x) i ≡ Some x
set_here [] i x within = absurd (omega (arith, within))
set_here (y ∷ ys) zero x within = refl
set_here (y ∷ ys) (suc i) x within = set_here ys i x (omega (arith, within))

pub set_other : {X : Type 0} (xs : List X) (i j : ℕ) (x : X) → (i ≡ j → ⊥) → slice_get (set xs i x) j ≡ slice_get xs j
set_other [] i j x other = refl
set_other (y ∷ ys) zero zero x other = absurd (other refl)
set_other (y ∷ ys) zero (suc j) x other = refl
set_other (y ∷ ys) (suc i) zero x other = refl
set_other (y ∷ ys) (suc i) (suc j) x other = set_other ys i j x (λ same. other (ap suc same))

-- one more place is as it is to be, and those behind it are as they were
pub done_more : {X : Type 0} (xs ys : List X) (i : ℕ) (x : X) → i < length xs → slice_get ys i ≡ Some x → ((j : ℕ) → j < i → slice_get xs j ≡ slice_get ys j) →
    (j : ℕ) → j < i + 1 → slice_get (set xs i x) j ≡ slice_get ys j
done_more xs ys i x within at done j below = by_place (let split : (j < i) ⊎ (j ≡ i) = grind (arith, below) in split)
  where
    by_place : (j < i) ⊎ (j ≡ i) → slice_get (set xs i x) j ≡ slice_get ys j
    by_place (inl before) = set_other xs i j x (λ same. omega (arith, before, same)) ∙ done j before
    by_place (inr same) = subst (λ k. slice_get (set xs i x) k ≡ slice_get ys k) (sym same) (set_here xs i x within ∙ sym at)

pub left_more : {X : Type 0} (xs zs : List X) (i : ℕ) (x : X) → ((j : ℕ) → i ≤ j → slice_get xs j ≡ slice_get zs j) → (j : ℕ) → i + 1 ≤ j → slice_get (set xs i x) j ≡ slice_get zs j
left_more xs zs i x left j behind = set_other xs i j x (λ same. omega (arith, behind, same)) ∙ left j (omega (arith, behind))

-- the item at a place that is as it was
pub left_at : {X : Type 0} (xs zs : List X) (i : ℕ) (d : X) → i < length xs → ((j : ℕ) → i ≤ j → slice_get xs j ≡ slice_get zs j) → slice_get zs i ≡ Some (get_or xs i d)
left_at xs zs i d within left = sym (left i (omega arith)) ∙ slice_get-get_or xs i d within

pub taken_more : {X : Type 0} (xs : List X) (i : ℕ) (x : X) → slice_get xs i ≡ Some x → take (i + 1) xs ≡ take i xs ++ x ∷ []
taken_more xs i x at =
    take_more xs i x (slice_get_within xs i x at) ∙ ap (λ y. take i xs ++ y ∷ []) (get_or_from_slice_get xs i x x at)

-- what stands at a place of a list that was made item by item
pub mapped_at : {X Y : Type 0} (f : X → Y) (xs : List X) (i : ℕ) (x : X) → slice_get xs i ≡ Some x → slice_get (map f xs) i ≡ Some (f x)
mapped_at f xs i x at = slice_get-map f xs i ∙ ap (option_map f) at

-- the cores of the next era
pub next_at : (cnf : Cnf) (settings : Settings) (past : ℕ) → members_at cnf settings (past + 1) ≡ after_era settings.period (members_at cnf settings past)
next_at cnf settings past = ap (members_at cnf settings) (add-one past)

pub next_member_at : (cnf : Cnf) (settings : Settings) (past i : ℕ) (m : Member) → slice_get (members_at cnf settings past) i ≡ Some m →
    slice_get (map begun (members_at cnf settings (past + 1))) i ≡ Some (begun (next_member settings.period (mails_at cnf settings past) m))
next_member_at cnf settings past i m at =
    ap (λ members. slice_get (map begun members) i) (next_at cnf settings past)
    ∙ mapped_at begun (after_era settings.period (members_at cnf settings past)) i (next_member settings.period (mails_at cnf settings past) m)
    (mapped_at (next_member settings.period (mails_at cnf settings past)) (members_at cnf settings past) i m at)

-- a core that imported the others' mails is in the next era
pub brought : (base quota : ℕ) (mails rest : List Mail) (m : Member) (before : Searcher) (after : CoreValue) → before ≡ at_rest m → others m.frame.core mails ≡ rest → after ≡ after_import rest before.core →
    quota ≡ next_period base (mail_at m).volume (largest_volume mails) → (let s : Searcher = record { number = before.number; core = after; quota = quota } in s) ≡ begun (next_member base mails m)
brought base quota mails rest m before after is others_are imported period =
    ap (λ core. let s : Searcher = record { number = before.number; core = core; quota = quota } in s)
    (imported ∙ ap (λ (s : Searcher). after_import rest s.core) is ∙ ap (λ ms. after_import ms (at_rest m).core) (sym others_are))
    ∙ ap (λ number. let s : Searcher = record { number = number; core = core_begun (next_member base mails m); quota = quota } in s) (ap (λ (s : Searcher). s.number) is)
    ∙ ap (λ q. let s : Searcher = record { number = m.frame.core; core = core_begun (next_member base mails m); quota = q } in s) period

-- the mail that is taken out for a core is its own
pub own_mail : (cnf : Cnf) (settings : Settings) (past i : ℕ) (m : Member) (mails : List Mail) (own : Mail) → slice_get (members_at cnf settings past) i ≡ Some m → mails ≡ mails_at cnf settings past →
    own ≡ get_or mails i own → own ≡ mail_at m
own_mail cnf settings past i m mails own at are is =
    is ∙ ap (λ ms. get_or ms i own) are ∙ get_or_from_slice_get (mails_at cnf settings past) i (mail_at m) own (mapped_at mail_at (members_at cnf settings past) i m at)
