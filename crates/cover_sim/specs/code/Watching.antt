-- Marks that are kept while a run goes on.
use Rattle.std.specs.Prelude.{◌≡◌, ℕ, ◌-◌, ◌<◌, ◌≤◌, Bool, true, false, ◌&&◌, ◌||◌, List, [], length, Some, slice_get, slice_index_or}
use Rattle.logic_four.specs.declared.V4.TheVariants.{Zero, One, Undef, HighZ}
use Rattle.logic_four.specs.declared.V4.{V4}
use Rattle.net_defs.specs.{declared.netlist.Netlist.Netlist, Time.value_at}
use Rattle.cover_sim.specs.{declared.marks.Marks.Marks, Marks.IsMarked}

abbrev pub is_zero : V4 → Bool
is_zero Zero = true
is_zero One = false
is_zero Undef = false
is_zero HighZ = false

abbrev pub is_one : V4 → Bool
is_one Zero = false
is_one One = true
is_one Undef = false
is_one HighZ = false

abbrev pub no_marks : Marks
no_marks = record { zero = false; one = false; rise = false; fall = false }

-- the marks after a cycle more, by the value at the end of the last one and that at its own end
abbrev pub marks_after : Marks → V4 → V4 → Marks
marks_after marks last now = record {
  zero = marks.zero || is_zero now;
  one = marks.one || is_one now;
  rise = marks.rise || (is_zero last && is_one now);
  fall = marks.fall || (is_one last && is_zero now);
}

-- the value of a signal in these rows of cycles, counted from 1
abbrev pub value_in : List (List V4) → ℕ → ℕ → V4
value_in rows signal cycle = value_at (slice_index_or rows (cycle - 1) []) signal

-- the marks are those of these rows, of which the last one is kept too; before the first it is undefined
pub record HaveMarks (net : Netlist) (marks : List Marks) (last : List V4) (rows : List (List V4)) : Type 0 where
  pub signals : length marks ≡ length net.signals
  pub values : length last ≡ length net.signals
  pub each : (s : ℕ) (mark : Marks) → slice_get marks s ≡ Some mark → IsMarked (length rows) (value_in rows s) mark
  pub kept : (s : ℕ) → value_at last s ≡ value_in rows s (length rows)

-- each of so many marks is that after a cycle more
pub record AreMarkedTo (count : ℕ) (last row : List V4) (old new : List Marks) : Type 0 where
  pub long : length new ≡ length old
  pub done :
      (s : ℕ) (before : Marks) → s < count → slice_get old s ≡ Some before
      → slice_get new s ≡ Some (marks_after before (value_at last s) (value_at row s))
  pub others : (s : ℕ) → count ≤ s → slice_get new s ≡ slice_get old s
