-- A line of a stimulus text, outside its comment: it is blank, or it is a row.
use Rattle.std.specs.Prelude.{◌≡◌, ℕ, ◌+◌, ◌==◌, ◌||◌, ◌⊎◌, max, Bool, List, Option, Some, None, is_some, nat_le, if◌then◌else◌, IsTrue, IsSome, count_by}
use Rattle.std.specs.{List.list_all, List.filter_map, Option.option_map}
use Rattle.limits.specs.declared.TheConstants.{MAX_CYCLES}
use Rattle.text_lines.specs.Bytes.{is_blank}
use Rattle.logic_four.specs.Values.{char_value}
use Rattle.net_defs.specs.declared.stimulus.StimRow.{StimRow}
use Rattle.stim_text.specs.declared.refusal.StimNo.TheVariants.{BadChar, Width, Repeat, TooManyCycles}
use Rattle.stim_text.specs.{declared.refusal.StimNo.StimNo, Repeats.is_blank_part, Repeats.before_repeat, Repeats.repeat_of}

-- ---- the values

-- whether a byte stands for the value of an input; where there are no inputs, whether it is `-`
unfoldable pub is_value_byte : ℕ → ℕ → Bool
is_value_byte inputs byte = if inputs == 0 then byte == 45 else is_some (char_value byte)

-- whether a byte may stand among the values of a row, before its repeat
unfoldable pub may_stand : ℕ → ℕ → Bool
may_stand inputs byte = is_blank byte || is_value_byte inputs byte

-- how many value bytes a row has: one for each input, and where there are none the single `-`
abbrev pub wanted : ℕ → ℕ
wanted inputs = max inputs 1

-- how many value bytes stand there
unfoldable pub width_of : ℕ → List ℕ → ℕ
width_of inputs values = count_by (is_value_byte inputs) values

-- the row that a line is, if it is one: the values of its characters in order, and the repeat
unfoldable pub row_of : List ℕ → Option StimRow
row_of part =
    if is_blank_part part then None
    else option_map (λ times. record { values = filter_map char_value (before_repeat part); times = times }) (repeat_of part)

-- ---- which lines are allowed

-- the line is a row for so many inputs
pub record IsRow (inputs : ℕ) (part : List ℕ) : Type 0 where
  pub bytes : IsTrue (list_all (may_stand inputs) (before_repeat part))
  pub repeat : IsSome (repeat_of part)
  pub width : width_of inputs (before_repeat part) ≡ wanted inputs

-- the line is blank or such a row
abbrev pub IsAllowed : ℕ → List ℕ → Type 0
IsAllowed inputs part = IsTrue (is_blank_part part) ⊎ IsRow inputs part

-- ---- the fault of a line

-- whether a row with this repeat may follow so many cycles
abbrev pub fits_after : ℕ → ℕ → Bool
fits_after cycles times = nat_le (cycles + times) MAX_CYCLES

abbrev pub repeat_fault : ℕ → ℕ → ℕ → List ℕ → Option ℕ → Option StimNo
repeat_fault inputs cycles line values None = Some (Repeat line)
repeat_fault inputs cycles line values (Some times) =
    if width_of inputs values == wanted inputs
    then (if fits_after cycles times then None else Some TooManyCycles)
    else Some (Width line (width_of inputs values) (wanted inputs))

-- the fault of a row with these values and this repeat, in the line of this number, after lines of so
-- many cycles
abbrev pub row_fault : ℕ → ℕ → ℕ → List ℕ → Option ℕ → Option StimNo
row_fault inputs cycles line values times =
    if list_all (may_stand inputs) values then repeat_fault inputs cycles line values times
    else Some (BadChar line)

-- the fault of a line
unfoldable pub fault_of : ℕ → ℕ → ℕ → List ℕ → Option StimNo
fault_of inputs cycles line part =
    if is_blank_part part then None
    else row_fault inputs cycles line (before_repeat part) (repeat_of part)
