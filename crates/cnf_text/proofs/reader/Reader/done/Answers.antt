use Rattle.std.proofs.Common.{◌∙◌, ap}
use Rattle.cnf_text.specs.State.{ReaderState}
use Rattle.cnf_text.specs.Machine.{is_ended_at}
use Rattle.cnf_text.proofs.Fed.{done_is}
use Rattle.cnf_text.proofs.reader.Reader.done.Goals as goal

pub returns : goal.returns
returns c = λ bytes read.
    c.is_ended.ensures ∙ ap (λ (r : ReaderState). is_ended_at r.scan.place) c.self.view_is ∙ done_is c.args.self.now bytes read
