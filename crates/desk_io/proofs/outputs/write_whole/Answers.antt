use Rattle.desk_io.proofs.Written.{HasWritten-more}
use Rattle.desk_io.proofs.outputs.write_whole.Goals as goal

pub loop-rest-preserved : goal.loop-rest-preserved
loop-rest-preserved g c = HasWritten-more c.in_ok-taken.taken c.loop-rest.invariant c.in_ok-taken.ensures
