-- Coverage only grows while a run goes on.
use Rattle.std.specs.Prelude.{◌≡◌, ℕ, List, ◌++◌, IsTrue, Some, slice_get}
use Rattle.logic_four.specs.declared.V4.{V4}
use Rattle.net_defs.specs.declared.{netlist.Netlist.Netlist, timing.Timing.Timing, stimulus.StimRow.StimRow, stimulus.Stimulus.Stimulus}
use Rattle.net_defs.specs.{Time.cycle_rows, Loops.IsCircle}
use Rattle.cover_sim.specs.{declared.marks.Marks.Marks, Marks.AreMarks}

-- each mark of the first is a mark of the second
pub record AreAmong (fewer more : Marks) : Type 0 where
  pub zero : IsTrue fewer.zero → IsTrue more.zero
  pub one : IsTrue fewer.one → IsTrue more.one
  pub rise : IsTrue fewer.rise → IsTrue more.rise
  pub fall : IsTrue fewer.fall → IsTrue more.fall

-- the cycles of the one stimulus are the first ones of the other
abbrev pub IsBeginning : Stimulus → Stimulus → Type 0
IsBeginning short long = (rest : List (List V4)) × (cycle_rows long ≡ cycle_rows short ++ rest)

-- the marks of a stimulus contain those of each of its beginnings
abbrev pub MarksGrow : Type 0
MarksGrow =
    (net : Netlist) (timing : Timing) (short long : Stimulus) (fewer more : List Marks)
    → ((members : List ℕ) → IsCircle net timing members → ⊥) → IsBeginning short long
    → AreMarks net timing short fewer → AreMarks net timing long more
    → (s : ℕ) (one other : Marks) → slice_get fewer s ≡ Some one → slice_get more s ≡ Some other → AreAmong one other

-- what is left of a stimulus where rows are cut off from its end is a beginning of it
abbrev pub CutIsBeginning : Type 0
CutIsBeginning =
    (short long : Stimulus) (cut : List StimRow) → long.rows ≡ short.rows ++ cut → IsBeginning short long
