use Rattle.std.proofs.Common.{append-nil}
use Rattle.log_merge.specs.Part.{part_text}
use Rattle.log_merge.proofs.Gathered.{Gathers-same, Gathers-then, WritesWhole-gathered}
use Rattle.log_merge.proofs.part.write_lines.Goals as goal

-- what was gathered is written
pub returns : goal.returns
returns g c =
    WritesWhole-gathered c.flush.result c.in_ok-buffer.ensures
    (Gathers-same (append-nil (part_text c.args.numbers.now c.args.lemmas.now)) (Gathers-then c.in_ok-put_lines.ensures c.flush.ensures.gathers)) c.flush.ensures.emptied
