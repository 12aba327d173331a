use Rattle.std.proofs.Common.{Bool, rules}
use Rattle.std.proofs.lemmas.Fn.{filter_same}
use Rattle.round_prop.specs.Noting.{is_lost}
use Rattle.round_prop.specs.declared.note.Note.{Note}
use Rattle.round_prop.proofs.noted.Noted.keep_lost.Goals as goal

pub returns-clause-notes : goal.returns-clause-notes
returns-clause-notes c =
    let p : Note → Bool = λ (n : Note). is_lost c.args.trail.now.entries n.lit in
    filter_same _ p _ (λ x b f k. search rules) c.args.self.now.notes.items c.retain.new.self.items c.retain.ensures.filtered
