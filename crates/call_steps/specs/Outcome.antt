-- How a whole call ends.
use Rattle.std.specs.Prelude.{List, [], ℕ, Option, None}
use Rattle.refusals.specs.{declared.status.Status.Status, Lines.memory_line, Lines.unfinished_line}
use Rattle.refusals.specs.declared.status.Status.TheVariants as status

-- The turns that the gates of workers are told of: of so many ports, by so many workers, in so many cycles of so many
-- units each. Where a run goes by blocks of so many cycles, a fault of writing ends it after a whole number of them.
pub record Turns : Type 0 where
  pub ports : ℕ
  pub units : ℕ
  pub cycles : ℕ
  pub workers : ℕ
  pub block : Option ℕ

-- the status, the line to the error sink, the output, and the turns that the gates are told of, if any
pub record Outcome : Type 0 where
  pub status : Status
  pub line : List ℕ
  pub output : List ℕ
  pub told : Option Turns

-- an end with this output and no line
abbrev pub done : List ℕ → Outcome
done output = record { status = status.Done; line = []; output = output; told = None }

-- an end with this line and no output
abbrev pub refusal : Status → List ℕ → Outcome
refusal s l = record { status = s; line = l; output = []; told = None }

-- the same end, where the gates are told of these turns
abbrev pub telling : Option Turns → Outcome → Outcome
telling told outcome = record outcome { told = told }

abbrev pub out_of_memory : Outcome
out_of_memory = refusal status.Memory memory_line

-- an end with so many of the rows, and a line that says so
abbrev pub unfinished : ℕ → ℕ → List ℕ → Outcome
unfinished rows total output = record { status = status.Unfinished; line = unfinished_line rows total; output = output; told = None }
