use Rattle.std.proofs.Common.{◌≡◌, ◌-◌, ◌++◌}
use Rattle.std.specs.Prelude.{flat_map}
use Rattle.std.specs.List.{range_with_len}
use Rattle.answer_text.specs.Trace.{core_line_of, core_lines}
use Rattle.answer_text.proofs.trace.push_cores.Given as goal

-- the text so far and the lines to come are the whole
abbrev pub invariant-loop-core : goal.invariant-loop-core
invariant-loop-core l =
    l.buffer.items ++ flat_map (core_line_of l.settings) (range_with_len l.core (l.settings.cores - l.core))
    ≡ l.fn.buffer.items ++ core_lines l.settings
