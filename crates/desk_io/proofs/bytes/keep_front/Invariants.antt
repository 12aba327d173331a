use Rattle.std.proofs.Common.{◌≡◌, ◌++◌, take}
use Rattle.desk_io.proofs.bytes.keep_front.Given as goal

abbrev pub invariant-loop-i : goal.invariant-loop-i
invariant-loop-i l = l.kept ≡ l.initial.kept ++ take l.i l.front
