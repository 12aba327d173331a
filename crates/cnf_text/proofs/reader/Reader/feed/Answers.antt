use Rattle.std.proofs.Common.{◌+◌, length, ap, sym, ◌∙◌, refl, subst}
use Rattle.cnf_text.specs.State.{ReaderState}
use Rattle.cnf_text.specs.Machine.{room_of, ReadsAll, FaultOn}
use Rattle.cnf_text.proofs.Fed.{fed_ok, fed_err, no_fault_here}
use Rattle.cnf_text.proofs.reader.Reader.feed.Goals as goal

pub returns-in-Some-clause-feeds : goal.returns-in-Some-clause-feeds
returns-in-Some-clause-feeds c bytes read =
    absurd (no_fault_here c.args.self.now bytes c.in-Some.fault read (ap (λ (s : ReaderState). s.fault) (sym c.self.view_is) ∙ c.in-Some.is))

pub returns-in-Ok-clause-feeds : goal.returns-in-Ok-clause-feeds
returns-in-Ok-clause-feeds c bytes read =
    let piece = c.args.piece.now in
    fed_ok c.args.self.now _ bytes piece read
    (ap (λ (s : ReaderState). s.fault) c.self.view_is)
    (c.in-Ok.ensures.judged.counted ∙ ap (λ (s : ReaderState). s.read + length (room_of s.read piece)) c.self.view_is)
    (subst (λ (s : ReaderState). ReadsAll s.scan s.read piece c.read_on.new.scan) c.self.view_is c.in-Ok.ensures.judged.judged)

pub returns-in-Err-clause-feeds : goal.returns-in-Err-clause-feeds
returns-in-Err-clause-feeds c bytes read =
    let piece = c.args.piece.now in
    let fault = c.in-Err.fault in
    (refl, fed_err c.args.self.now bytes piece fault read (subst (λ (s : ReaderState). FaultOn s.scan s.read piece fault) c.self.view_is c.in-Err.ensures.judged.judged))
