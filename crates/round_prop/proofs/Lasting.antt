-- Rounds one after another, to the last.
use Rattle.std.proofs.Common.{◌≡◌, ℕ, suc, ◌+◌, ◌≤◌, ◌==◌, Bool, true, false, cond, ◌||◌, List, [], ◌∷◌, ◌++◌, length, refl, ap, ◌∙◌, arith}
use Rattle.std.specs.Prelude.{Option, Some, None, is_some}
use Rattle.std.specs.List.{AllByRecursion}
use Rattle.std.proofs.lemmas.Bool.{cond-true, cond-false, eqb-true}
use Rattle.std.proofs.lemmas.List.{length-append}
use Rattle.lit_base.specs.Literal.{Literal}
use Rattle.lit_base.specs.Trail.{is_free, level_now}
use Rattle.lit_base.specs.Held.{HeldClause, clauses_of, is_before, AreRisingBy}
use Rattle.lit_base.specs.Rounds.{NamedClause, unit_of, conflict_of, with_unit, with_units, round_by, round, is_last, rounds}
use Rattle.lit_base.specs.declared.trail.Entry.{Entry}
use Rattle.lit_base.specs.declared.name.Name.{Name}
use Rattle.clause_pool.specs.Rising as pool
use Rattle.round_prop.specs.Linked.{IsPart}
use Rattle.round_prop.specs.Pairs.{pairs_of}
use Rattle.round_prop.specs.Readied.{oldest}
use Rattle.round_prop.proofs.CountSteps.{pairs-append}
use Rattle.round_prop.proofs.OlderParts.{part_itself, part_of_part}
use Rattle.round_prop.proofs.OldestSteps.{oldest_whole}
use Rattle.round_prop.proofs.Readying.{as_long}

-- the held clauses by rising names, without their uses
first_clauses : (name : Name) (held : List HeldClause) → AllByRecursion (λ (d : HeldClause). is_before name d.name ≡ true) held → AllByRecursion (λ (d : NamedClause). is_before name d.name ≡ true) (clauses_of held)
first_clauses name [] all = tt
first_clauses name (d ∷ later) all = (all.0, first_clauses name later all.1)

pub rising_clauses : (held : List HeldClause) → pool.AreRising held → AreRisingBy (λ (c : NamedClause). c.name) (clauses_of held)
rising_clauses [] rising = tt
rising_clauses (c ∷ later) rising = (first_clauses c.name later rising.0, rising_clauses later rising.1)

-- a round leaves the older entries
unit_front : (name : Name) (o : Option Literal) (trail : List Entry) → IsPart (with_unit name o trail) trail
unit_front name None trail = part_itself trail
unit_front name (Some l) trail = by_test (is_free trail l.variable)
  where
    by_test : (b : Bool) → IsPart (cond b ((record { lit = l; level = level_now trail; reason = Some name }) ∷ trail) trail) trail
    by_test true = record { newer = (record { lit = l; level = level_now trail; reason = Some name }) ∷ []; front = refl }
    by_test false = part_itself trail

units_front : (snapshot : List Entry) (clauses : List NamedClause) (trail : List Entry) → IsPart (with_units snapshot clauses trail) trail
units_front snapshot [] trail = part_itself trail
units_front snapshot (c ∷ later) trail =
    part_of_part (with_units snapshot later (with_unit c.name (unit_of snapshot c.lits) trail)) (with_unit c.name (unit_of snapshot c.lits) trail) trail
    (units_front snapshot later (with_unit c.name (unit_of snapshot c.lits) trail)) (unit_front c.name (unit_of snapshot c.lits) trail)

pub round_front : (clauses : List NamedClause) (trail : List Entry) → IsPart (round clauses trail).trail trail
round_front clauses trail = by_conflict (conflict_of trail clauses)
  where
    by_conflict : (o : Option Name) → IsPart (round_by clauses trail o).trail trail
    by_conflict None = units_front trail clauses trail
    by_conflict (Some name) = part_itself trail

-- the last one changes nothing
pub last_trail : (clauses : List NamedClause) (trail : List Entry) → is_last trail (round clauses trail) ≡ true → (round clauses trail).trail ≡ trail
last_trail clauses trail last = by_conflict (conflict_of trail clauses) last
  where
    by_conflict : (o : Option Name) → is_last trail (round_by clauses trail o) ≡ true → (round_by clauses trail o).trail ≡ trail
    by_conflict None long = as_long trail (with_units trail clauses trail) (units_front trail clauses trail) (eqb-true (length (with_units trail clauses trail)) (length trail) long)
    by_conflict (Some name) long = refl

-- what was seen by the next round
pub next_seen : (clauses : List NamedClause) (trail after : List Entry) (len : ℕ) → after ≡ (round clauses trail).trail → len ≡ length trail → (oldest len after ≡ trail) × (len ≤ length after)
next_seen clauses trail after len is long =
    let part = round_front clauses trail in (
      ap (λ n. oldest n after) long ∙ oldest_whole part.newer trail after (is ∙ part.front),
      (let e = ap length (is ∙ part.front) in omega (arith, e, long, length-append part.newer trail)),
    )

-- the count of the reads
pub few_reads : (clauses : List NamedClause) (newer old trail : List Entry) (steps now : ℕ) → trail ≡ newer ++ old → now + pairs_of clauses old ≤ steps + pairs_of clauses trail → now ≤ steps + pairs_of clauses newer
few_reads clauses newer old trail steps now is most =
    let e = ap (λ t. pairs_of clauses t) is in omega (arith, e, pairs-append clauses newer old, most)

-- the rounds from one on, where it is the last
pub rounds_last : (most after : ℕ) (clauses : List NamedClause) (trail : List Entry) → most ≡ suc after → is_last trail (round clauses trail) ≡ true →
    rounds most clauses trail ≡ round clauses trail
rounds_last most after clauses trail one last =
    let r = round clauses trail in
    ap (λ m. rounds m clauses trail) one ∙ cond-true (is_last trail r) r (rounds after clauses r.trail) last

-- and where it isn't
pub rounds_on : (most after : ℕ) (clauses : List NamedClause) (trail : List Entry) → most ≡ suc after → is_last trail (round clauses trail) ≡ false →
    rounds most clauses trail ≡ rounds after clauses (round clauses trail).trail
rounds_on most after clauses trail one on =
    let r = round clauses trail in
    ap (λ m. rounds m clauses trail) one ∙ cond-false (is_last trail r) r (rounds after clauses r.trail) on

-- whether a round is the last, by what is told of it
pub is_last-told : (clauses : List NamedClause) (trail after : List Entry) (conflict : Option Name) (seen len : ℕ) → conflict ≡ (round clauses trail).conflict →
    after ≡ (round clauses trail).trail → seen ≡ length trail → len ≡ length after → (is_some conflict || (len == seen)) ≡ is_last trail (round clauses trail)
is_last-told clauses trail after conflict seen len conflict_is after_is seen_is len_is =
    let r = round clauses trail in
    ap (λ o. is_some o || (len == seen)) conflict_is
    ∙ (ap (λ n. is_some r.conflict || (n == seen)) (len_is ∙ ap length after_is)
    ∙ ap (λ n. is_some r.conflict || (length r.trail == n)) seen_is)
