use Rattle.round_prop.proofs.FlagsGone.{lowered_back}
use Rattle.round_prop.proofs.noted.Noted.clear.Goals as goal

-- each flag that was set is of a note, and so is lowered
pub returns-clause-flags : goal.returns-clause-flags
returns-clause-flags c =
    lowered_back c.args.self.now.flags c.args.self.now.notes.items c.deref_mut.result.now c.lower_all.new.flags c.deref.result.now c.deref_mut.ensures.value c.deref_mut.ensures.len c.deref.ensures.value c.lower_all.ensures c.requires.flagged
