use Rattle.std.proofs.Common.{◌≡◌, ◌+◌, ◌<◌, [], ◌∷◌, ◌++◌, length, ap, sym, ◌∙◌, subst, arith}
use Rattle.std.specs.Prelude.{List, Some, vec_len, vec_capacity}
use Rattle.std.specs.List.{IsDistinct}
use Rattle.std.proofs.lemmas.List.{length-append}
use Rattle.std.proofs.lemmas.List.Elements.{All-weaker}
use Rattle.lit_base.specs.Literal.{Literal, same, IsWithin}
use Rattle.lit_base.specs.Held.{clauses_of}
use Rattle.lit_base.specs.Rounds.{NamedClause}
use Rattle.lit_base.specs.declared.trail.Entry.{Entry}
use Rattle.lit_base.specs.declared.name.Name.{Name}
use Rattle.trail_book.specs.Arrays.{index_of}
use Rattle.round_prop.specs.Attached.{AreAttachedIn, AreRoomy}
use Rattle.round_prop.specs.Readied.{IsTable}
use Rattle.round_prop.specs.Spanned.{IsSpanned, AreSpanned}
use Rattle.round_prop.specs.Shorts.{IsShortOf}
use Rattle.round_prop.specs.declared.row.Row.{Row}
use Rattle.round_prop.specs.declared.short.Short.{Short}
use Rattle.round_prop.proofs.Beginning.{began_row, began_short, roomy_row, roomy_short}
use Rattle.round_prop.proofs.Jumping.{all_at}
use Rattle.round_prop.proofs.TableSteps.{lits_within, index_inside}
use Rattle.round_prop.proofs.Spans.{found_spanned, found_named, held_at, spanned_more}
use Rattle.round_prop.proofs.begin.begin.Goals as goal
use Rattle.round_prop.proofs.begin.begin.Goals.{After-put_aside, After-link_first}

pub link_first-requires-clause-distinct : goal.link_first-requires-clause-distinct
link_first-requires-clause-distinct g c =
    all_at (λ (d : NamedClause). IsDistinct same d.lits) (clauses_of c.args.pool.now.held) c.args.name c.lits_of-lits.result.now c.volume.ensures.distinct
    (held_at c.args.pool.now.added (clauses_of c.args.pool.now.held) c.find_row-row.result c.args.name (Some c.lits_of-lits.result.now) c.find_row-row.ensures c.lits_of-lits.ensures.lits)

pub link_first-requires-clause-within : goal.link_first-requires-clause-within
link_first-requires-clause-within g c =
    let n = length c.args.trail.now.saved in
    let wide = c.requires.roomy.1.wide in
    All-weaker (IsWithin n) (λ (l : Literal). index_of l < vec_len c.args.table.now.links.heads) (λ l within. let inside = index_inside n l within in omega (arith, inside.1, wide)) c.lits_of-lits.result.now
    (lits_within n (clauses_of c.args.pool.now.held) c.args.name c.lits_of-lits.result.now c.requires.within
    (held_at c.args.pool.now.added (clauses_of c.args.pool.now.held) c.find_row-row.result c.args.name (Some c.lits_of-lits.result.now) c.find_row-row.ensures c.lits_of-lits.ensures.lits))

-- the clause is short
short_of : (g : _) (c : After-put_aside g) → IsShortOf (clauses_of c.args.pool.now.held) (record { name = c.args.name; lit = c.only.result })
short_of g c =
    held_at c.args.pool.now.added (clauses_of c.args.pool.now.held) c.find_row-row.result c.args.name (Some c.lits_of-lits.result.now) c.find_row-row.ensures c.lits_of-lits.ensures.lits
    ∙ ap Some (sym c.only.ensures)

aside : (g : _) (c : After-put_aside g) (done : List Entry) (fresh : List Name) → AreAttachedIn (clauses_of c.args.pool.now.held) c.args.trail.now.entries done c.args.table.now c.args.shorts.now.items (c.args.name ∷ fresh) →
    AreAttachedIn (clauses_of c.args.pool.now.held) c.args.trail.now.entries done c.put_aside.new.table (c.args.shorts.now.items ++ record { name = c.args.name; lit = c.only.result } ∷ []) fresh
aside g c done fresh are =
    began_short (clauses_of c.args.pool.now.held) c.args.trail.now.entries done c.args.table.now c.put_aside.new.table c.args.shorts.now.items fresh (record { name = c.args.name; lit = c.only.result }) are (short_of g c)
    c.put_aside.ensures.rows c.put_aside.ensures.links c.put_aside.ensures.notes c.put_aside.ensures.flags

pub returns-then-lits-lt2-clause-attached : goal.returns-then-lits-lt2-clause-attached
returns-then-lits-lt2-clause-attached g c = λ done fresh are.
    subst (λ (ss : List Short). AreAttachedIn (clauses_of c.args.pool.now.held) c.args.trail.now.entries done c.put_aside.new.table ss fresh) (sym c.put_aside.ensures.shorts) (aside g c done fresh are)

pub returns-then-lits-lt2-clause-roomy : goal.returns-then-lits-lt2-clause-roomy
returns-then-lits-lt2-clause-roomy g c = λ fresh roomy.
    let was = c.requires.attached in
    let s : Short = record { name = c.args.name; lit = c.only.result } in
    let items = ap length c.put_aside.ensures.shorts ∙ length-append c.args.shorts.now.items (s ∷ []) in
    let long : vec_len c.args.shorts.now + 1 ≡ vec_len c.put_aside.new.shorts = omega (arith, items) in
    subst (λ n. AreRoomy (length c.args.trail.now.saved) c.put_aside.new.table n (vec_capacity c.put_aside.new.shorts) fresh) long
    (roomy_short (length c.args.trail.now.saved) c.args.table.now c.put_aside.new.table (vec_len c.args.shorts.now) (vec_capacity c.args.shorts.now) (vec_capacity c.put_aside.new.shorts) fresh s
    (clauses_of c.args.pool.now.held) c.args.trail.now.entries was.0 roomy (aside g c was.0 was.1 was.2).table c.put_aside.ensures.rows c.put_aside.ensures.links c.put_aside.ensures.notes
    c.put_aside.ensures.flags c.put_aside.ensures.notes_room c.put_aside.ensures.shorts_room)

row_named : (g : _) (c : After-link_first g) → c.find_row-row.result.name ≡ c.args.name
row_named g c = ap (λ (r : Row). r.name) c.find_row-row.ensures ∙ found_named c.args.pool.now.added c.args.name

linked : (g : _) (c : After-link_first g) (done : List Entry) (fresh : List Name) → AreAttachedIn (clauses_of c.args.pool.now.held) c.args.trail.now.entries done c.args.table.now c.args.shorts.now.items (c.args.name ∷ fresh) →
    IsTable (clauses_of c.args.pool.now.held) c.args.trail.now.entries done c.link_first.new.self
linked g c done fresh are = c.link_first.ensures.table (clauses_of c.args.pool.now.held) done are.table c.lits_of-lits.ensures.lits

pub returns-clause-attached : goal.returns-clause-attached
returns-clause-attached g c = λ done fresh are.
    began_row (clauses_of c.args.pool.now.held) c.args.trail.now.entries done c.args.table.now c.link_first.new.self c.args.shorts.now.items fresh
    c.find_row-row.result
    (subst (λ n. AreAttachedIn (clauses_of c.args.pool.now.held) c.args.trail.now.entries done c.args.table.now c.args.shorts.now.items (n ∷ fresh)) (sym (row_named g c)) are)
    (linked g c done fresh are) c.link_first.ensures.rows c.link_first.ensures.notes

pub returns-clause-roomy : goal.returns-clause-roomy
returns-clause-roomy g c = λ fresh roomy.
    let was = c.requires.attached in
    roomy_row (length c.args.trail.now.saved) c.args.table.now c.link_first.new.self (vec_len c.args.shorts.now) (vec_capacity c.args.shorts.now) fresh
    c.find_row-row.result (clauses_of c.args.pool.now.held) c.args.trail.now.entries was.0 roomy (linked g c was.0 was.1 was.2)
    c.link_first.ensures.rows c.link_first.ensures.load c.link_first.ensures.room

-- the row tells where its clause stands
pub lits_of-lits-requires-clause-spanned : goal.lits_of-lits-requires-clause-spanned
lits_of-lits-requires-clause-spanned g c = subst (IsSpanned c.args.pool.now.added) (sym c.find_row-row.ensures) (found_spanned c.args.pool.now.added c.args.name)

-- so each row still does
pub returns-then-lits-lt2-clause-spanned : goal.returns-then-lits-lt2-clause-spanned
returns-then-lits-lt2-clause-spanned g c = λ all. subst (λ rs. AreSpanned c.args.pool.now.added rs.items) (sym c.put_aside.ensures.rows) all

pub returns-clause-spanned : goal.returns-clause-spanned
returns-clause-spanned g c = λ all.
    subst (AreSpanned c.args.pool.now.added) (sym c.link_first.ensures.rows)
    (spanned_more c.args.pool.now.added c.args.table.now.rows.items c.find_row-row.result all (subst (IsSpanned c.args.pool.now.added) (sym c.find_row-row.ensures) (found_spanned c.args.pool.now.added c.args.name)))
