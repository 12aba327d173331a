use Rattle.std.proofs.Common.{◌<◌, ◌++◌, ◌∷◌, [], length, map, get_or, ap, sym, ◌∙◌, arith}
use Rattle.std.specs.Prelude.{Some}
use Rattle.std.proofs.lemmas.List.{length-set, length-map}
use Rattle.crew.specs.Era.{sheet_left}
use Rattle.crew.specs.Run.{members_at, sheets_at}
use Rattle.crew.specs.Turns.{at_rest}
use Rattle.crew.proofs.RunSound.{length-members}
use Rattle.crew.proofs.InTurn.{member_at, same_by_place, left_at, done_more, left_more, taken_more, mapped_at}
use Rattle.crew.proofs.era.take_sheets.Goals as goal

pub sheet_one-requires-clause-within : goal.sheet_one-requires-clause-within
sheet_one-requires-clause-within c =
    omega (arith, c.requires.worked.same_length, length-members c.args.formula.now c.args.settings.now c.args.past)

-- the core is as it was after its stretch
pub sheet_one-requires-clause-worked : goal.sheet_one-requires-clause-worked
sheet_one-requires-clause-worked c m at whole =
    let i = c.loop-i.i in
    c.requires.worked.each i m (get_or c.loop-i.searchers i c.index-searchers-i.result) at
    (left_at c.loop-i.searchers c.args.searchers.now i c.index-searchers-i.result (omega (arith, c.loop-i.invariant.same_length)) c.loop-i.invariant.left) whole

-- one more sheet is there
pub loop-i-preserved : goal.loop-i-preserved
loop-i-preserved c =
    let cnf = c.args.formula.now in
    let settings = c.args.settings.now in
    let past = c.args.past in
    let i = c.loop-i.i in
    let found = member_at cnf settings past i (omega (arith, c.requires.worked.same_length, length-members cnf settings past)) in
    let m = found.0 in
    let within : i < length c.loop-i.searchers = omega (arith, c.loop-i.invariant.same_length) in
    record {
      same_length = omega (arith, length-set c.loop-i.searchers i c.sheet_one.new.searcher, c.loop-i.invariant.same_length);
      sheets = c.in_ok-push.ensures.items ∙ ap (λ sheet. c.loop-i.sheets.items ++ sheet ∷ []) (c.in_ok-sheet_one.ensures.sheet m found.1)
          ∙ ap (λ sheets. sheets ++ sheet_left m ∷ []) c.loop-i.invariant.sheets
          ∙ sym (taken_more (sheets_at cnf settings past) i (sheet_left m) (mapped_at sheet_left (members_at cnf settings past) i m found.1));
      done = done_more c.loop-i.searchers (map at_rest (members_at cnf settings past)) i c.sheet_one.new.searcher within
          (mapped_at at_rest (members_at cnf settings past) i m found.1 ∙ ap Some (sym (c.in_ok-sheet_one.ensures.rest m found.1))) c.loop-i.invariant.done;
      left = left_more c.loop-i.searchers c.args.searchers.now i c.sheet_one.new.searcher c.loop-i.invariant.left;
    }

-- all cores have given theirs
pub returns-clause-rest : goal.returns-clause-rest
returns-clause-rest c =
    let members = members_at c.args.formula.now c.args.settings.now c.args.past in
    same_by_place c.loop-i.searchers (map at_rest members) (omega (arith, c.loop-i.invariant.same_length, c.requires.worked.same_length, length-map members at_rest))
    (λ j within. c.loop-i.invariant.done j (omega (arith, within, c.loop-i.invariant.same_length)))
