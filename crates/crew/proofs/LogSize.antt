-- How many lemmas there are: one for each conflict, so a run's log is small, and so is what a core holds.
use Rattle.std.proofs.Common.{◌≡◌, ℕ, zero, suc, ◌+◌, ◌*◌, ◌≤◌, ◌==◌, Bool, true, false, cond, not, List, [], ◌∷◌, length, length-append, refl, ap, sym, ◌∙◌, subst, arith}
use Rattle.std.specs.Prelude.{Option, map, filter, max, sum}
use Rattle.std.specs.List.{AllByRecursion}
use Rattle.std.proofs.lemmas.Bool.{cond_both}
use Rattle.std.proofs.lemmas.List.{length-map}
use Rattle.std.proofs.lemmas.List.Sums.{sum_by-cons}
use Rattle.lit_base.specs.Cnf.{Cnf}
use Rattle.lit_base.specs.Literal.{Literal}
use Rattle.lit_base.specs.Rounds.{NamedClause, named_from}
use Rattle.lit_base.specs.Held.{HeldClause, is_before, is_original, unused, with_clause, volume_of}
use Rattle.solo_core.specs.State.{CoreFrame}
use Rattle.solo_core.specs.First.{AreInRange}
use Rattle.solo_core.specs.Period.{posted_clause, clauses_posted, with_unused}
use Rattle.solo_core.specs.declared.lemma.Lemma.{Lemma}
use Rattle.solo_core.specs.declared.sheet.Mail.{Mail}
use Rattle.solo_core.specs.declared.sheet.Sheet.{Sheet}
use Rattle.solo_core.specs.declared.sheet.Settings.{Settings}
use Rattle.solo_core.proofs.EndRules.{conflicts_counted}
use Rattle.log_merge.specs.Numbering.{lemmas_in}
use Rattle.crew.specs.Era.{Member, stretched, mail_at, mails_of, sheets_of, others, largest_volume, next_member}
use Rattle.crew.specs.Run.{members_from, members_at, mails_at, HasEra}
use Rattle.crew.specs.Log.{parts_of, stands, standing_parts, parts_before, joined, all_joined}
use Rattle.crew.proofs.Members.{HaveFrames, IsCounted, limit_after, run_counted}
use Rattle.crew.proofs.Mails.{posts_few}
use Rattle.crew.proofs.EraLog.{counts_of, all_joined-push}
use Rattle.crew.proofs.RunSound.{length-members}

-- == one lemma for each conflict ==

-- the conflicts of some cores in the run so far
abbrev pub conflicts_in : List Member → ℕ
conflicts_in [] = 0
conflicts_in (m ∷ later) = m.state.conflicts + conflicts_in later

abbrev pub lemmas_left : List Member → ℕ
lemmas_left members = length (joined (parts_of (sheets_of members)))

pub left_by : (past : ℕ) (m : Member) → IsCounted past m → length (stretched m).state.lemmas + m.state.conflicts ≡ (stretched m).state.conflicts
left_by past m counted =
    let counts = conflicts_counted m.frame m.quota m.state in
    let none = ap length counted.begins.1 in omega (arith, counts.lemmas, none, counts.risen)

era_adds : (past base : ℕ) (mails : List Mail) (members : List Member) → AllByRecursion (IsCounted past) members →
    conflicts_in (map (next_member base mails) members) ≡ conflicts_in members + lemmas_left members
era_adds past base mails [] counted = refl
era_adds past base mails (m ∷ later) counted =
    omega (arith, left_by past m counted.0, era_adds past base mails later counted.1, length-append (stretched m).state.lemmas (joined (parts_of (sheets_of later))))

none_at_first : (cnf : Cnf) (settings : Settings) (core more : ℕ) → conflicts_in (members_from cnf settings core more) ≡ 0
none_at_first cnf settings core zero = refl
none_at_first cnf settings core (suc more) = omega (arith, none_at_first cnf settings (core + 1) more)

-- the log of the eras past has a lemma for each conflict
pub log_length : (cnf : Cnf) (settings : Settings) (past : ℕ) → AreInRange settings → HasEra cnf settings past →
    length (all_joined (parts_before cnf settings past)) ≡ conflicts_in (members_at cnf settings past)
log_length cnf settings zero are has = sym (none_at_first cnf settings 0 settings.cores)
log_length cnf settings (suc past) are has =
    let earlier : HasEra cnf settings past = λ q below. has q (omega (arith, below)) in
    let members = members_at cnf settings past in
    let eras = parts_before cnf settings past in
    let parts = parts_of (sheets_of members) in
    omega (
      arith,
      ap length (all_joined-push eras parts),
      length-append (all_joined eras) (joined parts),
      log_length cnf settings past are earlier,
      era_adds past settings.period (mails_of members) members (run_counted cnf settings past are earlier).each,
    )

-- no core has more conflicts than the limit, which is at most 1,000,000,000
conflicts_fit : (cnf : Cnf) (settings : Settings) (past core : ℕ) (members : List Member) → AreInRange settings → HaveFrames cnf settings core members → AllByRecursion (IsCounted past) members →
    conflicts_in members + lemmas_left members ≤ 1000000000 * length members
conflicts_fit cnf settings past core [] are frames counted = omega arith
conflicts_fit cnf settings past core (m ∷ later) are frames counted =
    omega (
      arith,
      conflicts_fit cnf settings past (core + 1) later are frames.1 counted.1,
      left_by past m counted.0,
      limit_after m counted.0.limit,
      ap (λ (f : CoreFrame). f.limit) frames.0,
      are.few_limit,
      length-append (stretched m).state.lemmas (joined (parts_of (sheets_of later))),
    )

-- with an era more the log has at most 16,000,000,000 lemmas
pub log_small : (cnf : Cnf) (settings : Settings) (past : ℕ) → AreInRange settings → HasEra cnf settings past →
    length (all_joined (parts_before cnf settings past)) + lemmas_left (members_at cnf settings past) ≤ 16000000000
log_small cnf settings past are has =
    let counted = run_counted cnf settings past are has in
    omega (
      arith,
      log_length cnf settings past are has,
      conflicts_fit cnf settings past 0 (members_at cnf settings past) are counted.frames counted.each,
      length-members cnf settings past,
      are.few_cores,
    )

-- the parts that stand are no longer than all parts
pub standing_short : (winner : Option ℕ) (sheets : List Sheet) → length (joined (standing_parts winner sheets)) ≤ length (joined (parts_of sheets))
standing_short winner [] = omega arith
standing_short winner (sheet ∷ later) =
    omega (
      arith,
      standing_short winner later,
      cond_both (stands winner sheet.mail.core) sheet.lemmas [] (λ part. length part ≤ length sheet.lemmas) (λ is. omega arith) (λ other. omega arith),
      length-append (cond (stands winner sheet.mail.core) sheet.lemmas []) (joined (standing_parts winner later)),
      length-append sheet.lemmas (joined (parts_of later)),
    )

-- == the counts of the numbering ==

pub sum_of_counts : (parts : List (List Lemma)) → sum (counts_of parts) ≡ length (joined parts)
sum_of_counts [] = refl
sum_of_counts (part ∷ later) =
    omega (arith, sum_by-cons (λ x. x) (length part) (counts_of later), sum_of_counts later, length-append part (joined later))

pub lemmas_of_counts : (eras : List (List (List Lemma))) → lemmas_in (map counts_of eras) ≡ length (all_joined eras)
lemmas_of_counts [] = refl
lemmas_of_counts (parts ∷ later) =
    omega (arith, sum_by-cons sum (counts_of parts) (map counts_of later), sum_of_counts parts, lemmas_of_counts later, length-append (joined parts) (all_joined later))

-- == what a core holds ==

volume_by : (b : Bool) (c : HeldClause) (n : ℕ) (held : List HeldClause) → volume_of held ≤ n → length (cond b (c ∷ filter (λ (d : HeldClause). not (is_original d.name)) held) (filter (λ (d : HeldClause). not (is_original d.name)) held)) ≤ n + 1
volume_by true c n held few = omega (arith, few)
volume_by false c n held few = omega (arith, few)

volume_with : (c : HeldClause) (held : List HeldClause) → volume_of (with_clause c held) ≤ volume_of held + 1
volume_with c [] = volume_by (not (is_original c.name)) c 0 [] (omega arith)
volume_with c (d ∷ later) =
    cond_both (is_before c.name d.name) (c ∷ d ∷ later) (d ∷ with_clause c later) (λ held. volume_of held ≤ volume_of (d ∷ later) + 1)
    (λ before. volume_by (not (is_original c.name)) c (volume_of (d ∷ later)) (d ∷ later) (omega arith))
    (λ behind. behind_by (not (is_original d.name)) (volume_with c later))
  where
    behind_by : (b : Bool) → volume_of (with_clause c later) ≤ volume_of later + 1 →
        length (cond b (d ∷ filter (λ (e : HeldClause). not (is_original e.name)) (with_clause c later)) (filter (λ (e : HeldClause). not (is_original e.name)) (with_clause c later)))
        ≤ length (cond b (d ∷ filter (λ (e : HeldClause). not (is_original e.name)) later) (filter (λ (e : HeldClause). not (is_original e.name)) later)) + 1
    behind_by true further = omega (arith, further)
    behind_by false further = further

volume_more : (clauses : List NamedClause) (held : List HeldClause) → volume_of (with_unused clauses held) ≤ volume_of held + length clauses
volume_more [] held = omega arith
volume_more (c ∷ later) held = omega (arith, volume_more later (with_clause (unused c) held), volume_with (unused c) held)

-- the others post no more than all cores leave
posted_few : (own : ℕ) (members : List Member) → length (clauses_posted (others own (mails_of members))) ≤ lemmas_left members
posted_few own [] = omega arith
posted_few own (m ∷ later) =
    cond_both (not (m.frame.core == own)) (mail_at m ∷ others own (mails_of later)) (others own (mails_of later)) (λ mails. length (clauses_posted mails) ≤ lemmas_left (m ∷ later))
    (λ other. omega (
      arith,
      posted_few own later,
      posts_few m,
      length-map (mail_at m).posted posted_clause,
      length-append (map posted_clause (mail_at m).posted) (clauses_posted (others own (mails_of later))),
      length-append (stretched m).state.lemmas (joined (parts_of (sheets_of later))),
    ))
    (λ own_mail. omega (arith, posted_few own later, length-append (stretched m).state.lemmas (joined (parts_of (sheets_of later)))))

own_few : (members : List Member) → AllByRecursion (λ (m : Member). length (stretched m).state.lemmas ≤ lemmas_left members) members
own_few members = among members members (omega arith)
  where
    among : (all rest : List Member) → lemmas_left rest ≤ lemmas_left all → AllByRecursion (λ (m : Member). length (stretched m).state.lemmas ≤ lemmas_left all) rest
    among all [] few = tt
    among all (m ∷ later) few =
        let parts = length-append (stretched m).state.lemmas (joined (parts_of (sheets_of later))) in
        (omega (arith, few, parts), among all later (omega (arith, few, parts)))

-- no core holds more than two clauses for each lemma of the log
abbrev pub HoldFew : ℕ → List Member → Type 0
HoldFew most members = AllByRecursion (λ (m : Member). volume_of m.state.clauses ≤ 2 * most) members

first_volume : (index : ℕ) (clauses : List (List Literal)) → volume_of (map unused (named_from index clauses)) ≡ 0
first_volume index [] = refl
first_volume index (lits ∷ later) = first_volume (index + 1) later

first_few : (cnf : Cnf) (settings : Settings) (core more : ℕ) → HoldFew 0 (members_from cnf settings core more)
first_few cnf settings core zero = tt
first_few cnf settings core (suc more) = (let none = first_volume 0 cnf.clauses in omega (arith, none), first_few cnf settings (core + 1) more)

-- the volume after a stretch
pub volume_after : (past most left : ℕ) (m : Member) → IsCounted past m → volume_of m.state.clauses ≤ 2 * most → length (stretched m).state.lemmas ≤ left →
    volume_of (stretched m).state.clauses ≤ 2 * most + left
volume_after past most left m counted few own =
    let counts = conflicts_counted m.frame m.quota m.state in omega (arith, counts.volume, left_by past m counted, few, own)

next_few : (past base most : ℕ) (all members : List Member) → AllByRecursion (IsCounted past) members → HoldFew most members →
    AllByRecursion (λ (m : Member). length (stretched m).state.lemmas ≤ lemmas_left all) members → HoldFew (most + lemmas_left all) (map (next_member base (mails_of all)) members)
next_few past base most all [] counted few own = tt
next_few past base most all (m ∷ later) counted few own = (
  omega (
    arith,
    volume_more (clauses_posted (others m.frame.core (mails_of all))) (stretched m).state.clauses,
    volume_after past most (lemmas_left all) m counted.0 few.0 own.0,
    posted_few m.frame.core all,
  ),
  next_few past base most all later counted.1 few.1 own.1,
)

pub run_few : (cnf : Cnf) (settings : Settings) (past : ℕ) → AreInRange settings → HasEra cnf settings past → HoldFew (length (all_joined (parts_before cnf settings past))) (members_at cnf settings past)
run_few cnf settings zero are has = first_few cnf settings 0 settings.cores
run_few cnf settings (suc past) are has =
    let earlier : HasEra cnf settings past = λ q below. has q (omega (arith, below)) in
    let members = members_at cnf settings past in
    let eras = parts_before cnf settings past in
    let parts = parts_of (sheets_of members) in
    subst (λ most. HoldFew most (members_at cnf settings (suc past))) (sym (ap length (all_joined-push eras parts) ∙ length-append (all_joined eras) (joined parts)))
    (next_few past settings.period (length (all_joined eras)) members members (run_counted cnf settings past are earlier).each (run_few cnf settings past are earlier) (own_few members))

-- == volumes ==

max_at_most : (a b most : ℕ) → a ≤ most → b ≤ most → max a b ≤ most
max_at_most a b most first second = grind (arith, first, second)

largest_few : (past most left : ℕ) (members : List Member) → AllByRecursion (IsCounted past) members → HoldFew most members →
    AllByRecursion (λ (m : Member). length (stretched m).state.lemmas ≤ left) members → largest_volume (mails_of members) ≤ 2 * most + left
largest_few past most left [] counted few own = omega arith
largest_few past most left (m ∷ later) counted few own =
    max_at_most (volume_of (stretched m).state.clauses) (largest_volume (mails_of later)) (2 * most + left)
    (volume_after past most left m counted.0 few.0 own.0) (largest_few past most left later counted.1 few.1 own.1)

-- the volumes of an era are far below 2^40
pub volumes_fit : (cnf : Cnf) (settings : Settings) (past : ℕ) → AreInRange settings → HasEra cnf settings past → largest_volume (mails_at cnf settings past) ≤ 1000000000000
volumes_fit cnf settings past are has =
    let members = members_at cnf settings past in
    omega (
      arith,
      largest_few past (length (all_joined (parts_before cnf settings past))) (lemmas_left members) members (run_counted cnf settings past are has).each (run_few cnf settings past are has) (own_few members),
      log_small cnf settings past are has,
    )
