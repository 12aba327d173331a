use Rattle.std.proofs.Common.{◌∷◌, get_or}
use Rattle.std.specs.Prelude.{decimal}
use Rattle.std.proofs.lemmas.List.{get_or_default}
use Rattle.lit_base.specs.Rounds.{original}
use Rattle.log_merge.specs.Numbering.{number_of}
use Rattle.log_merge.proofs.Gathered.{Gathers-more, Gathers-stopped_at}
use Rattle.log_merge.proofs.part.put_hints.Goals as goal

-- one more hint is gathered
pub loop-hint-preserved : goal.loop-hint-preserved
loop-hint-preserved g c =
    Gathers-more (λ h. 32 ∷ decimal (number_of c.args.numbers.now h)) c.args.hints.now c.loop-hint.hint-index (get_or c.args.hints.now c.loop-hint.hint-index (original 0)) c.loop-hint-test.true
    (get_or_default c.args.hints.now c.loop-hint.hint-index (original 0) _ c.loop-hint-test.true) c.loop-hint.invariant c.in_ok-put_hint.ensures

-- the gathering stopped at a hint
pub returns-in_err-put_hint : goal.returns-in_err-put_hint
returns-in_err-put_hint g c =
    Gathers-stopped_at (λ h. 32 ∷ decimal (number_of c.args.numbers.now h)) c.args.hints.now c.loop-hint.hint-index (get_or c.args.hints.now c.loop-hint.hint-index (original 0)) _
    c.from_residual.result c.loop-hint-test.true (get_or_default c.args.hints.now c.loop-hint.hint-index (original 0) _ c.loop-hint-test.true) c.from_residual.ensures.1 c.loop-hint.invariant c.in_err-put_hint.ensures
