use Rattle.std.proofs.Common.{◌≡◌, ℕ, ◌<◌, false, List, length, get_or, refl, ap, sym, ◌∙◌, subst, arith, Vec, Global, vec_len}
use Rattle.std.specs.Prelude.{Some}
use Rattle.std.proofs.lemmas.Option.{same_Some, slice_get_read}
use Rattle.lit_base.specs.Literal.{Literal, same}
use Rattle.trail_book.specs.Arrays.{index_of}
use Rattle.round_prop.specs.declared.note.Note.{Note}
use Rattle.round_prop.specs.Noting.{IsNoted, load_of}
use Rattle.round_prop.proofs.FirstLinks.{apart_swap}
use Rattle.round_prop.proofs.FirstRows.{one_at, two_apart, all_one, row_noted, row_open, note_first, note_second, load_noted, load_open}
use Rattle.round_prop.proofs.NoteSteps.{noted_last, noted_more}
use Rattle.round_prop.proofs.table.Table.link_first.Goals as goal

-- a literal that was read twice
one_read : (lits : List Literal) (i : ℕ) (a b : Literal) → i < length lits → a ≡ get_or lits i a → b ≡ get_or lits i b → a ≡ b
one_read lits i a b inside one two = same_Some a b (sym (slice_get_read lits (length lits) i a refl inside one) ∙ slice_get_read lits (length lits) i b refl inside two)

pub beside-a-requires-clause-held : goal.beside-a-requires-clause-held
beside-a-requires-clause-held c = one_at c.args.lits.now 1 c.index-lits-1.result (omega (arith, c.requires.two)) c.index-lits-1.is

pub beside-a-requires-clause-apart : goal.beside-a-requires-clause-apart
beside-a-requires-clause-apart c =
    apart_swap c.index-lits-0.result c.index-lits-1.result (two_apart c.args.lits.now c.index-lits-0.result c.index-lits-1.result c.requires.two c.requires.distinct c.index-lits-0.is c.index-lits-1.is)

pub beside-b-requires-clause-held : goal.beside-b-requires-clause-held
beside-b-requires-clause-held c = one_at c.args.lits.now 0 c.index-lits-0-2.result (omega (arith, c.requires.two)) c.index-lits-0-2.is

pub beside-b-requires-clause-apart : goal.beside-b-requires-clause-apart
beside-b-requires-clause-apart c =
    apart_swap c.beside-a.result c.index-lits-0-2.result
    (subst (λ l. same c.beside-a.result l ≡ false) (one_read c.args.lits.now 0 c.index-lits-0.result c.index-lits-0-2.result (omega (arith, c.requires.two)) c.index-lits-0.is c.index-lits-0-2.is) c.beside-a.ensures.apart)

pub link_noted-requires-clause-first : goal.link_noted-requires-clause-first
link_noted-requires-clause-first c = all_one (λ l. index_of l < vec_len c.args.self.now.links.heads) c.args.lits.now c.beside-a.result c.requires.within c.beside-a.ensures.held

pub link_noted-requires-clause-second : goal.link_noted-requires-clause-second
link_noted-requires-clause-second c = all_one (λ l. index_of l < vec_len c.args.self.now.links.heads) c.args.lits.now c.beside-b.result c.requires.within c.beside-b.ensures.held

pub link_noted-requires-then-is_false-2-clause-first : goal.link_noted-requires-then-is_false-2-clause-first
link_noted-requires-then-is_false-2-clause-first c = all_one (λ l. index_of l < vec_len c.args.self.now.links.heads) c.args.lits.now c.beside-a.result c.requires.within c.beside-a.ensures.held

pub link_noted-requires-then-is_false-2-clause-second : goal.link_noted-requires-then-is_false-2-clause-second
link_noted-requires-then-is_false-2-clause-second c = all_one (λ l. index_of l < vec_len c.args.self.now.links.heads) c.args.lits.now c.beside-b.result c.requires.within c.beside-b.ensures.held

pub link-requires-clause-first : goal.link-requires-clause-first
link-requires-clause-first c = all_one (λ l. index_of l < vec_len c.args.self.now.links.heads) c.args.lits.now c.beside-a.result c.requires.within c.beside-a.ensures.held

pub link-requires-clause-second : goal.link-requires-clause-second
link-requires-clause-second c = all_one (λ l. index_of l < vec_len c.args.self.now.links.heads) c.args.lits.now c.beside-b.result c.requires.within c.beside-b.ensures.held

-- the second is false: all but the first are
pub returns-then-is_false-clause-table : goal.returns-then-is_false-clause-table
returns-then-is_false-clause-table c = λ clauses done table found.
    let name = c.args.row.name in
    let note : Note = record { name = name; lit = Some c.beside-a.result; row = length c.args.self.now.rows.items } in
    let held = one_at c.args.lits.now 0 c.index-lits-0.result (omega (arith, c.requires.two)) c.index-lits-0.is in
    let noted = subst (λ ns. IsNoted ns name) (sym c.link_noted.ensures.notes) (noted_last c.args.self.now.noted.notes.items note) in
    c.link_noted.ensures.table clauses c.args.trail.now.entries done table
    (row_noted clauses c.args.trail.now.entries done c.link_noted.new.self.noted.notes.items name c.args.lits.now c.index-lits-0.result c.beside-a.result c.beside-b.result c.len.ensures.trail.distinct held c.beside-a.ensures c.beside-b.ensures found noted)
    (note_first clauses c.args.trail.now.entries done c.args.self.now.noted.notes.items name c.args.lits.now c.index-lits-0.result c.beside-a.result c.beside-b.result c.len.ensures.trail.distinct held c.beside-a.ensures c.beside-b.ensures found
    (length c.args.self.now.rows.items) (sym c.is_false.ensures ∙ c.if-is_false.true))

pub returns-then-is_false-clause-notes : goal.returns-then-is_false-clause-notes
returns-then-is_false-clause-notes c = λ name noted. subst (λ ns. IsNoted ns name) (sym c.link_noted.ensures.notes) (noted_more c.args.self.now.noted.notes.items _ name noted)

pub returns-then-is_false-clause-load : goal.returns-then-is_false-clause-load
returns-then-is_false-clause-load c = load_noted c.args.self.now.noted.notes.items c.link_noted.new.self.noted.notes.items c.args.self.now.noted.flags.items c.link_noted.new.self.noted.flags.items _ c.link_noted.ensures.notes c.link_noted.ensures.flags

-- the first alone is false: all but the second are
pub returns-then-is_false-2-clause-table : goal.returns-then-is_false-2-clause-table
returns-then-is_false-2-clause-table c = λ clauses done table found.
    let name = c.args.row.name in
    let note : Note = record { name = name; lit = Some c.beside-b.result; row = length c.args.self.now.rows.items } in
    let held = one_at c.args.lits.now 0 c.index-lits-0.result (omega (arith, c.requires.two)) c.index-lits-0.is in
    let noted = subst (λ ns. IsNoted ns name) (sym c.link_noted-then-is_false-2.ensures.notes) (noted_last c.args.self.now.noted.notes.items note) in
    c.link_noted-then-is_false-2.ensures.table clauses c.args.trail.now.entries done table
    (row_noted clauses c.args.trail.now.entries done c.link_noted-then-is_false-2.new.self.noted.notes.items name c.args.lits.now c.index-lits-0.result c.beside-a.result c.beside-b.result c.len.ensures.trail.distinct held c.beside-a.ensures c.beside-b.ensures
    found noted)
    (note_second clauses c.args.trail.now.entries done c.args.self.now.noted.notes.items name c.args.lits.now c.index-lits-0.result c.beside-a.result c.beside-b.result c.len.ensures.trail.distinct held c.beside-a.ensures c.beside-b.ensures found
    (length c.args.self.now.rows.items) (sym c.is_false-2.ensures ∙ c.if-is_false-2.true) (sym c.is_false.ensures ∙ c.if-is_false.false))

pub returns-then-is_false-2-clause-notes : goal.returns-then-is_false-2-clause-notes
returns-then-is_false-2-clause-notes c = λ name noted. subst (λ ns. IsNoted ns name) (sym c.link_noted-then-is_false-2.ensures.notes) (noted_more c.args.self.now.noted.notes.items _ name noted)

pub returns-then-is_false-2-clause-load : goal.returns-then-is_false-2-clause-load
returns-then-is_false-2-clause-load c =
    load_noted c.args.self.now.noted.notes.items c.link_noted-then-is_false-2.new.self.noted.notes.items c.args.self.now.noted.flags.items c.link_noted-then-is_false-2.new.self.noted.flags.items _ c.link_noted-then-is_false-2.ensures.notes
    c.link_noted-then-is_false-2.ensures.flags

-- neither is false
pub returns-clause-table : goal.returns-clause-table
returns-clause-table c = λ clauses done table found.
    let held = one_at c.args.lits.now 0 c.index-lits-0.result (omega (arith, c.requires.two)) c.index-lits-0.is in
    c.link.ensures.table clauses c.args.trail.now.entries done table
    (row_open clauses c.args.trail.now.entries done c.args.self.now.noted.notes.items c.args.row.name c.args.lits.now c.index-lits-0.result c.beside-a.result c.beside-b.result c.len.ensures.trail.distinct held c.beside-a.ensures c.beside-b.ensures found
    (sym c.is_false-2.ensures ∙ c.if-is_false-2.false) (sym c.is_false.ensures ∙ c.if-is_false.false)) (λ set_now. cc)

pub returns-clause-notes : goal.returns-clause-notes
returns-clause-notes c = λ name noted. subst (λ (v : Vec Note Global). IsNoted v.items name) (sym c.link.ensures.notes) noted

pub returns-clause-load : goal.returns-clause-load
returns-clause-load c =
    ap (λ (v : Vec Note Global). load_of v.items c.link.new.self.noted.flags.items) c.link.ensures.notes ∙ load_open c.args.self.now.noted.notes.items c.args.self.now.noted.flags.items c.link.new.self.noted.flags.items c.link.ensures.flags
