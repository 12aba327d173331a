use Rattle.std.proofs.Common.{rules}
use Rattle.desk_io.specs.declared.Slot.TheVariants.{Formula}
use Rattle.dp2ll.proofs.ReadingLemmas.{unbegun, unread, all_read, all_stop}
use Rattle.dp2ll.proofs.read.read_formula.Goals as goal

-- the file could not be begun
pub returns-then-is_err-clause-found : goal.returns-then-is_err-clause-found
returns-then-is_err-clause-found g c =
    unbegun c.read_bytes_are_sound.ensures ((g.I.Inputs.told c.args.inputs.now).held Formula c.args.file.now) ((g.I.Inputs.told c.args.inputs.now).at Formula)
    ((g.I.Inputs.told c.begin.new.self).at Formula) c.new-reader.result c.new-reader.ensures c.begin.ensures.left (search rules)

-- memory was refused to the buffer
pub returns-in-Err-clause-found : goal.returns-in-Err-clause-found
returns-in-Err-clause-found g c =
    unread c.read_bytes_are_sound.ensures ((g.I.Inputs.told c.args.inputs.now).held Formula c.args.file.now) ((g.I.Inputs.told c.args.inputs.now).at Formula)
    ((g.I.Inputs.told c.begin.new.self).at Formula) c.new-reader.result c.new-reader.ensures c.begin.ensures.left

-- all pieces were read, and are a formula
pub returns-in-Ok-end-clause-found : goal.returns-in-Ok-end-clause-found
returns-in-Ok-end-clause-found g c =
    all_read ((g.I.Inputs.told c.args.inputs.now).held Formula c.args.file.now) ((g.I.Inputs.told c.begin.new.self).at Formula)
    ((g.I.Inputs.told c.read_pieces.new.inputs).at Formula) c.read_pieces.new.reader c.in-Ok-end.formula c.begin.ensures.left
    c.in_ok-read_pieces.ensures.pieces c.in-Ok-end.ensures.ends

-- all pieces were read, and are no formula
pub returns-clause-found : goal.returns-clause-found
returns-clause-found g c =
    all_stop ((g.I.Inputs.told c.args.inputs.now).held Formula c.args.file.now) ((g.I.Inputs.told c.args.inputs.now).at Formula)
    ((g.I.Inputs.told c.begin.new.self).at Formula) ((g.I.Inputs.told c.read_pieces.new.inputs).at Formula) c.read_pieces.new.reader
    c.in-Err-end.fault c.stop_of.result c.begin.ensures.left c.in_ok-read_pieces.ensures.pieces c.in-Err-end.ensures.ends c.stop_of.ensures
