use Rattle.std.proofs.Common.{◌∙◌, arith}
use Rattle.std.proofs.lemmas.List.{take_rest}
use Rattle.desk_io.proofs.Taken.{TakesFirst-from}
use Rattle.desk_io.proofs.bytes.read_from.Goals as goal

pub returns-in-Some-clause-taken : goal.returns-in-Some-clause-taken
returns-in-Some-clause-taken c =
    TakesFirst-from c.args.bytes.now c.in-Some.left.now c.copy_front.new.buf c.args.most c.args.position c.copy_front.result
    (c.in-Some.ensures.lookup.0.2 ∙ take_rest c.args.bytes.now c.args.position)
    c.requires.most (omega arith) c.copy_front.ensures.count c.copy_front.ensures.copied
