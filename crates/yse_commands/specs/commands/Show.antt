-- `show`: the canonical text of a netlist.
use Rattle.std.specs.Prelude.{◌≡◌, List, ℕ}
use Rattle.net_defs.specs.Canonical.{canonical_text}
use Rattle.call_steps.specs.{Checks.Writes, FileSteps.NetlistIn, Steps.◌>>=◌, Steps.Call, Steps.Ends}

-- the netlist, and its canonical text
abbrev pub Shows : List ℕ → Call
Shows netlist = do
  net ← NetlistIn netlist
  Ends (Writes (λ output. output ≡ canonical_text net))
