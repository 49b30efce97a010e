-- A line of an order text, outside its comment: it is blank, or it stands for steps of a port.
use Rattle.std.specs.Prelude.{◌≡◌, ℕ, ◌+◌, ◌<◌, ◌⊎◌, List, Option, Some, None, nat_lt, nat_le, if◌then◌else◌, Bool, IsTrue}
use Rattle.stim_text.specs.Repeats.{is_blank_part, number_in, before_repeat, repeat_of}
use Rattle.stim_text.specs.declared.{order.OrderLine.OrderLine, refusal.OrderNo.OrderNo}
use Rattle.stim_text.specs.declared.refusal.OrderNo.TheVariants.{Syntax, Port, TooLong}
use Rattle.limits.specs.declared.TheConstants.{MAX_STEPS}

-- ---- the line of an order that a line of its text is

abbrev pub line_with : Option ℕ → Option ℕ → Option OrderLine
line_with (Some port) (Some times) = Some (record { port = port; times = times })
line_with _ _ = None

-- what a line has before its repeat, where that is a number, and its repeat, where that is allowed
abbrev pub form_of : List ℕ → Option OrderLine
form_of part = line_with (number_in (before_repeat part)) (repeat_of part)

-- so many steps of a port, if the line has that form
unfoldable pub line_of : List ℕ → Option OrderLine
line_of part = if is_blank_part part then None else form_of part

-- ---- which lines are allowed

-- the line is the number of one of so many ports, and its repeat
pub record IsLine (ports : ℕ) (part : List ℕ) (line : OrderLine) : Type 0 where
  pub port : number_in (before_repeat part) ≡ Some line.port
  pub there : line.port < ports
  pub times : repeat_of part ≡ Some line.times

-- the line is blank or such a line
abbrev pub IsAllowed : ℕ → List ℕ → Type 0
IsAllowed ports part = IsTrue (is_blank_part part) ⊎ ((line : OrderLine) × IsLine ports part line)

-- ---- the fault of a line

-- whether so many steps more may follow so many steps
abbrev pub fits_after : ℕ → ℕ → Bool
fits_after steps times = nat_le (steps + times) MAX_STEPS

-- the fault of a line of this form, in the line of this number, after lines of so many steps
abbrev pub form_fault : ℕ → ℕ → ℕ → Option OrderLine → Option OrderNo
form_fault ports steps line None = Some (Syntax line)
form_fault ports steps line (Some form) =
    if nat_lt form.port ports
    then (if fits_after steps form.times then None else Some (TooLong line))
    else Some (Port line)

-- the fault of a line
unfoldable pub fault_of : ℕ → ℕ → ℕ → List ℕ → Option OrderNo
fault_of ports steps line part =
    if is_blank_part part then None else form_fault ports steps line (form_of part)
