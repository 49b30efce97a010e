-- There is one summary of a run.
use Rattle.std.proofs.Common.{◌≡◌, ℕ, List, length, refl}
use Rattle.std.specs.List.{range_with_len, sum_by}
use Rattle.large_run.specs.{declared.summary.Summary.Summary, Summaries.counts_of}
use Rattle.logic_four.specs.declared.V4.{V4}
use Rattle.node_defs.specs.{declared.items.NodeNet.NodeNet, WellFormed.IsWellFormed}
use Rattle.plan_defs.specs.{declared.plan.Homes.Homes, Homes.AreHomes}
use Rattle.plan_text.specs.Counted.{AreCrossings}
use Rattle.yse_compile.proofs.lemmas.SwitchExists.{readers_there}

-- items at their homes have a number of crossings
pub crossings_there : (nodes : NodeNet) (homes : Homes) → IsWellFormed nodes → AreHomes nodes homes → (count : ℕ) × AreCrossings nodes homes count
crossings_there nodes homes formed are = (
  sum_by (λ i. length (readers_there nodes homes formed are i).0) (range_with_len 0 (length nodes.items)),
  record { readers = λ i. (readers_there nodes homes formed are i).0; are = λ i low. (readers_there nodes homes formed are i).1; is = refl },
)

abbrev pub summary_with : ℕ → ℕ → ℕ → ℕ → List V4 → Summary
summary_with gates nodes slots crossings cells = record { gates = gates; nodes = nodes; slots = slots; crossings = crossings; cells = counts_of cells }

pub one_summary : (gates nodes slots crossings others other_slots other_crossings : ℕ) (cells other_cells : List V4)
    → nodes ≡ others → slots ≡ other_slots → crossings ≡ other_crossings → cells ≡ other_cells
    → summary_with gates nodes slots crossings cells ≡ summary_with gates others other_slots other_crossings other_cells
one_summary gates nodes slots crossings others other_slots other_crossings cells other_cells one two three four = rw (one, two, three, four) refl
