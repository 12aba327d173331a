use Rattle.std.proofs.Common.{◌∷◌, [], ◌++◌, map, ap, sym, ◌∙◌, subst, All}
use Rattle.std.proofs.lemmas.List.{map-append}
use Rattle.std.proofs.lemmas.List.Elements.{All-append, All-cons, All-nil}
use Rattle.crew.specs.Parties.{PartyAt}
use Rattle.crew.specs.Passes.{pass_of}
use Rattle.crew.proofs.passes.parties_of.Goals as goal

-- one more core is at the start of the run, with the next pass
pub loop-pass-preserved : goal.loop-pass-preserved
loop-pass-preserved c =
    let party = c.in_ok-party_of.field-0 in
    let parties = c.loop-pass.parties.items in
    let Begun = PartyAt c.args.board.now c.args.formula.now c.args.settings.now 0 in
    record {
      begun = subst (All Begun) (sym c.in_ok-push.ensures.items) (All-append Begun parties (party ∷ []) c.loop-pass.invariant.begun (All-cons Begun party [] c.in_ok-party_of.ensures.party (All-nil Begun)));
      passes_kept = ap (map pass_of) c.in_ok-push.ensures.items ∙ map-append pass_of parties (party ∷ []) ∙ ap (λ passes. passes ++ pass_of party ∷ []) c.loop-pass.invariant.passes_kept
          ∙ ap (λ pass. c.loop-pass.yielded ++ pass ∷ []) c.in_ok-party_of.ensures.pass;
    }
