use Rattle.std.proofs.Common.{◌+◌, ap, sym, ◌∙◌, refl, subst}
use Rattle.lrat_text.specs.State.{ReaderState}
use Rattle.lrat_text.specs.Machine.{PieceTaken, FaultOn}
use Rattle.lrat_text.proofs.Fed.{fed_ok, fed_err, no_fault_here}
use Rattle.lrat_text.proofs.reader.LineReader.feed.Goals as goal

pub returns-in-Some-clause-feeds : goal.returns-in-Some-clause-feeds
returns-in-Some-clause-feeds c bytes lines has =
    absurd (no_fault_here c.args.self.now bytes lines c.in-Some.fault has (ap (λ (s : ReaderState). s.fault) (sym c.self.view_is) ∙ c.in-Some.is))

-- what was taken of the piece
pub returns-in-Ok-clause-feeds : goal.returns-in-Ok-clause-feeds
returns-in-Ok-clause-feeds c bytes lines has =
    let piece = c.args.piece.now in
    let taken = c.in-Ok.taken in
    fed_ok c.args.self.now _ bytes lines piece taken.0 taken.1 has
    (ap (λ (s : ReaderState). s.fault) c.self.view_is)
    (c.in-Ok.ensures.judged.0 ∙ ap (λ (s : ReaderState). s.read + taken.0) c.self.view_is)
    c.in-Ok.ensures.judged.1 c.in-Ok.ensures.few c.in-Ok.ensures.idle
    (subst (λ (s : ReaderState). PieceTaken s.scan s.read piece c.read_on.new.scan taken.0 taken.1) c.self.view_is c.in-Ok.ensures.judged.2)

pub returns-in-Err-clause-feeds : goal.returns-in-Err-clause-feeds
returns-in-Err-clause-feeds c bytes lines has =
    let piece = c.args.piece.now in
    let fault = c.in-Err.fault in
    (refl, fed_err c.args.self.now bytes lines piece fault has (subst (λ (s : ReaderState). FaultOn s.scan s.read piece fault) c.self.view_is c.in-Err.ensures.judged))
