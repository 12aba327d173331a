use Rattle.std.proofs.Common.{◌≤◌, length, ap, sym, ◌∙◌, subst}
use Rattle.std.specs.Prelude.{IfSome}
use Rattle.std.specs.List.{AllByRecursion}
use Rattle.trail_book.specs.TrailState.{TrailState}
use Rattle.round_prop.specs.declared.note.Note.{Note}
use Rattle.round_prop.specs.Noting.{with_noted}
use Rattle.round_prop.proofs.Readying.{settled_ready, same_settled}
use Rattle.round_prop.proofs.round.settle.Goals as goal

pub imply_all-requires : goal.imply_all-requires
imply_all-requires c =
    let n = length c.args.trail.now.saved in
    subst (λ ns. AllByRecursion (λ (k : Note). IfSome k.lit (λ l. l.variable ≤ n)) ns) (sym c.deref.ensures.value) c.requires

pub returns-clause-trail : goal.returns-clause-trail
returns-clause-trail c =
    c.imply_all.ensures ∙ ap (λ ns. let t : TrailState = record { entries = with_noted ns c.args.trail.now.entries; saved = c.args.trail.now.saved } in t) c.deref.ensures.value

pub returns-clause-ready : goal.returns-clause-ready
returns-clause-ready c = λ variables clauses finds ready.
    let is = ap (λ (t : TrailState). t.entries) c.imply_all.ensures ∙ ap (λ ns. with_noted ns c.args.trail.now.entries) c.deref.ensures.value in
    settled_ready c.args.table.now c.keep_lost.new.self c.args.trail.now.entries c.imply_all.new.trail.entries is c.len.ensures.trail.distinct c.keep_lost.ensures.notes c.keep_lost.ensures.flags
    c.keep_lost.ensures.notes_room c.keep_lost.ensures.flags_room variables clauses finds ready

pub returns-clause-same : goal.returns-clause-same
returns-clause-same c =
    let is = ap (λ (t : TrailState). t.entries) c.imply_all.ensures ∙ ap (λ ns. with_noted ns c.args.trail.now.entries) c.deref.ensures.value in
    same_settled c.args.table.now c.keep_lost.new.self c.args.trail.now.entries c.imply_all.new.trail.entries is c.len.ensures.trail.distinct c.keep_lost.ensures.notes c.keep_lost.ensures.flags
    c.keep_lost.ensures.notes_room c.keep_lost.ensures.flags_room
