use Rattle.std.proofs.Common.{◌≡◌, ◌++◌, take, map}
use Rattle.logic_four.specs.Values.{value_char}
use Rattle.trace_text.proofs.line.push_values.Given as goal

abbrev pub invariant-loop-value : goal.invariant-loop-value
invariant-loop-value l =
    l.line ≡ record l.fn.line { bytes = l.fn.line.bytes ++ map value_char (take l.value-index l.values) }
