use Rattle.std.proofs.Common.{◌≡◌, take}
use Rattle.std.specs.List.{filter_map}
use Rattle.logic_four.specs.Values.{char_value}
use Rattle.stim_text.proofs.row.values_in.Given as goal

abbrev pub invariant-loop-byte : goal.invariant-loop-byte
invariant-loop-byte l = l.values ≡ filter_map char_value (take l.byte-index l.bytes)
