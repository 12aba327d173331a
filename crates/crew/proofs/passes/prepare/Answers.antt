use Rattle.std.proofs.Common.{◌++◌, ◌∷◌, [], ap, sym, ◌∙◌, arith}
use Rattle.std.specs.Prelude.{slice_get}
use Rattle.round_prop.proofs.NoteSteps.{slice_get-append}
use Rattle.crew.specs.Groups.{lists_of}
use Rattle.crew.specs.Parties.{PartyAt}
use Rattle.crew.proofs.Groups.{all_groups, dealt_all}
use Rattle.crew.proofs.passes.prepare.Goals as goal

-- each pass before the last is that of its place
pub parties_of-requires-clause-each : goal.parties_of-requires-clause-each
parties_of-requires-clause-each c = λ i pass at.
    c.requires.passes.each i pass (ap (λ passes. slice_get passes i) c.in-Some.ensures.items ∙ slice_get-append c.pop.new.self.items (c.in-Some.last ∷ []) i pass at)

-- the cores that were dealt are at the start, as the scribe is
pub returns : goal.returns
returns c =
    let cores = c.in_ok-parties.parties.items in
    let groups = c.in_ok-groups.groups.items in
    let Begun = PartyAt c.args.board.now c.args.formula.now c.args.settings.now 0 in
    record {
      formula = c.in_ok-scribe.ensures.formula;
      cores = cores;
      dealt = c.in_ok-groups.ensures.dealt;
      whole = ap (λ passes. passes ++ c.in_ok-scribe.scribe.pass ∷ []) c.in_ok-parties.ensures.passes
          ∙ ap (λ pass. c.pop.new.self.items ++ pass ∷ []) c.in_ok-scribe.ensures.pass ∙ sym c.in-Some.ensures.items;
      some = omega (arith, c.in_ok-groups.ensures.count, c.min.ensures, c.requires.workers, c.requires.range.some_cores);
      begun = all_groups Begun groups (dealt_all Begun 0 cores (lists_of groups) c.in_ok-groups.ensures.dealt c.in_ok-parties.ensures.parties);
      scribe = c.in_ok-scribe.ensures.scribe;
      runs = c.in_ok-scribe.ensures.runs;
      no_parties = c.in_ok-groups.ensures.emptied;
      no_passes = c.in_ok-room.ensures;
    }
