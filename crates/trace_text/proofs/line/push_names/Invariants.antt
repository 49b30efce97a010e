use Rattle.std.proofs.Common.{◌≡◌, ◌∷◌, ◌++◌, take}
use Rattle.std.specs.List.{flat_map}
use Rattle.net_defs.specs.Canonical.{name_of}
use Rattle.trace_text.proofs.line.push_names.Given as goal

abbrev pub invariant-loop-number : goal.invariant-loop-number
invariant-loop-number l = record {
  so_far : l.line ≡ record l.fn.line { bytes = l.fn.line.bytes ++ flat_map (λ s. 32 ∷ name_of l.net s) (take l.number-index l.number-items) };
  whole : l.number-items ≡ l.net.printed;
}
