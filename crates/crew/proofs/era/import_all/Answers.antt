use Rattle.std.proofs.Common.{◌+◌, length, map, get_or, refl, ap, sym, ◌∙◌, arith}
use Rattle.std.specs.Prelude.{Some, slice_get}
use Rattle.std.proofs.lemmas.List.{length-set, length-map}
use Rattle.std.proofs.lemmas.Option.{same_Some}
use Rattle.crew.specs.Era.{mails_in}
use Rattle.crew.specs.Run.{members_at}
use Rattle.crew.specs.Turns.{at_rest, begun}
use Rattle.crew.proofs.RunSound.{length-members}
use Rattle.crew.proofs.InTurn.{member_at, mails_of_sheets, same_by_place, left_at, done_more, left_more, mapped_at, next_member_at}
use Rattle.crew.proofs.era.import_all.Goals as goal

-- the mails are those of the era
pub loop-i-init : goal.loop-i-init
loop-i-init c = record {
  same_length = refl;
  mails = c.in_ok-mails.ensures ∙ ap mails_in c.requires.sheets ∙ mails_of_sheets (members_at c.args.formula.now c.args.settings.now c.args.past);
  done = λ j below. absurd (omega (arith, below));
  left = λ j behind. refl;
}

pub import_one-requires-clause-within : goal.import_one-requires-clause-within
import_one-requires-clause-within c =
    let members = members_at c.args.formula.now c.args.settings.now c.args.past in
    omega (arith, ap length c.requires.rest, length-map members at_rest, length-members c.args.formula.now c.args.settings.now c.args.past)

-- the core is as it was after its sheet
pub import_one-requires-clause-rest : goal.import_one-requires-clause-rest
import_one-requires-clause-rest c m at =
    let i = c.loop-i.i in
    let d = c.index-searchers-i.result in
    same_Some (get_or c.loop-i.searchers i d) (at_rest m)
    (sym (left_at c.loop-i.searchers c.args.searchers.now i d (omega (arith, c.loop-i.invariant.same_length)) c.loop-i.invariant.left)
    ∙ ap (λ searchers. slice_get searchers i) c.requires.rest ∙ mapped_at at_rest (members_at c.args.formula.now c.args.settings.now c.args.past) i m at)

-- one more core is in the next era
pub loop-i-preserved : goal.loop-i-preserved
loop-i-preserved c =
    let cnf = c.args.formula.now in
    let settings = c.args.settings.now in
    let past = c.args.past in
    let i = c.loop-i.i in
    let members = members_at cnf settings past in
    let found = member_at cnf settings past i (omega (arith, ap length c.requires.rest, length-map members at_rest, length-members cnf settings past)) in
    record {
      same_length = omega (arith, length-set c.loop-i.searchers i c.import_one.new.searcher, c.loop-i.invariant.same_length);
      mails = c.in_ok-import_one.ensures.mails ∙ c.loop-i.invariant.mails;
      done = done_more c.loop-i.searchers (map begun (members_at cnf settings (past + 1))) i c.import_one.new.searcher (omega (arith, c.loop-i.invariant.same_length))
          (next_member_at cnf settings past i found.0 found.1 ∙ ap Some (sym (c.in_ok-import_one.ensures.next found.0 found.1))) c.loop-i.invariant.done;
      left = left_more c.loop-i.searchers c.args.searchers.now i c.import_one.new.searcher c.loop-i.invariant.left;
    }

-- all cores are
pub returns : goal.returns
returns c =
    let cnf = c.args.formula.now in
    let settings = c.args.settings.now in
    let next = members_at cnf settings (c.args.past + 1) in
    let members = members_at cnf settings c.args.past in
    same_by_place c.loop-i.searchers (map begun next)
    (omega (arith, c.loop-i.invariant.same_length, ap length c.requires.rest, length-map members at_rest, length-members cnf settings c.args.past, length-map next begun, length-members cnf settings (c.args.past + 1)))
    (λ j within. c.loop-i.invariant.done j (omega (arith, within, c.loop-i.invariant.same_length)))
