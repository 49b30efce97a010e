-- The options of each command, and what the values of options say.
use Rattle.std.specs.Prelude.{◌==◌, ◌&&◌, ℕ, Bool, true, not, is_some, List, [], ◌∷◌, length, nat_le, if◌then◌else◌, Option, Some, None, codes, bytes_eq}
use Rattle.limits.specs.declared.TheConstants.{DEFAULT_BANKS, DEFAULT_UNITS, DEFAULT_WORKERS, MAX_LARGE_CYCLES, MAX_LARGE_GATES, MAX_UNITS, MAX_BANKS, MAX_WORKERS}
use Rattle.text_lines.specs.Numbers.{number_of, within}
use Rattle.net_defs.specs.declared.{homes.HomeChoice.HomeChoice, homes.HomeChoice.TheVariants.Plain, homes.HomeChoice.TheVariants.Better, timing.Timing.Timing}
use Rattle.net_defs.specs.declared.timing.{Mode.Mode, Mode.TheVariants.Rank, Mode.TheVariants.Unit, Mode.TheVariants.Mixed, Init.Init}
use Rattle.net_defs.specs.declared.timing.Init.TheVariants.{Undef, Zero}
use Rattle.cmd_words.specs.Arguments.{Word}

-- ---- the options of each command

abbrev pub run_options : List Word
run_options = codes "machine" ∷ codes "mode" ∷ codes "last" ∷ codes "units" ∷ codes "init" ∷ codes "workers" ∷ codes "banks" ∷ codes "homes" ∷ []

abbrev pub refer_options : List Word
refer_options = codes "mode" ∷ codes "last" ∷ codes "units" ∷ codes "init" ∷ []

abbrev pub order_options : List Word
order_options = codes "machine" ∷ codes "mode" ∷ codes "last" ∷ codes "units" ∷ codes "init" ∷ codes "order" ∷ codes "banks" ∷ []

abbrev pub plan_options : List Word
plan_options = codes "machine" ∷ codes "mode" ∷ codes "last" ∷ codes "homes" ∷ []

abbrev pub compile_options : List Word
compile_options = codes "machine" ∷ codes "mode" ∷ codes "last" ∷ codes "units" ∷ codes "init" ∷ codes "homes" ∷ []

abbrev pub exec_options : List Word
exec_options = codes "mode" ∷ codes "last" ∷ codes "units" ∷ codes "init" ∷ codes "workers" ∷ codes "banks" ∷ []

abbrev pub pack_options : List Word
pack_options = codes "machine" ∷ codes "mode" ∷ codes "last" ∷ codes "units" ∷ codes "init" ∷ codes "workers" ∷ []

abbrev pub fault_options : List Word
fault_options = codes "mode" ∷ codes "last" ∷ codes "units" ∷ codes "init" ∷ codes "workers" ∷ codes "faults" ∷ []

abbrev pub cover_options : List Word
cover_options = codes "mode" ∷ codes "last" ∷ codes "units" ∷ codes "init" ∷ []

abbrev pub show_options : List Word
show_options = []

abbrev pub large_options : List Word
large_options = codes "workers" ∷ []

abbrev pub help_options : List Word
help_options = []

-- ---- what one value says

-- a number of at most ten digits, from 1 to `most`
abbrev pub count_of : ℕ → Word → Option ℕ
count_of most digits = if nat_le (length digits) 10 then within 1 most (number_of digits) else None

-- the same, and `missing` where none is given
abbrev pub count_or : ℕ → ℕ → Option Word → Option ℕ
count_or most missing None = Some missing
count_or most missing (Some digits) = count_of most digits

-- the gates of a generated design: 1 to 30,000
abbrev pub gates_of : Word → Option ℕ
gates_of = count_of MAX_LARGE_GATES

-- the cycles that it is run for: 1 to 10,000
abbrev pub cycles_of : Word → Option ℕ
cycles_of = count_of MAX_LARGE_CYCLES

-- the mode, and rank order where none is given
abbrev pub mode_of : Option Word → Option Mode
mode_of None = Some Rank
mode_of (Some value) =
    if bytes_eq value (codes "rank") then Some Rank
    else if bytes_eq value (codes "unit") then Some Unit
    else if bytes_eq value (codes "mixed") then Some Mixed
    else None

-- the initial value, and undefined where none is given
abbrev pub init_of : Option Word → Option Init
init_of None = Some Undef
init_of (Some value) =
    if bytes_eq value (codes "x") then Some Undef
    else if bytes_eq value (codes "0") then Some Zero
    else None

-- the homes, and plain ones where none are named
abbrev pub homes_of : Option Word → Option HomeChoice
homes_of None = Some Plain
homes_of (Some value) =
    if bytes_eq value (codes "plain") then Some Plain
    else if bytes_eq value (codes "better") then Some Better
    else None

-- ---- what the values say together

-- in rank order a cycle is one turn
abbrev pub allows_units : Mode → ℕ → Bool
allows_units Rank units = units == 1
allows_units Unit units = true
allows_units Mixed units = true

-- exactly in mixed mode a file of a list is named
abbrev pub allows_list : Mode → Option Word → Bool
allows_list Rank file = not (is_some file)
allows_list Unit file = not (is_some file)
allows_list Mixed file = is_some file

-- the list is not read yet
abbrev pub timing_with : Option Mode → Option ℕ → Option Init → Option Word → Option Timing
timing_with (Some mode) (Some units) (Some init) file =
    if allows_units mode units && allows_list mode file
    then Some (record { mode = mode; units = units; init = init; listed = [] })
    else None
timing_with _ _ _ _ = None

-- the timing that the values of options say: 1 to 4,096 turns a cycle, and 1 where none are given
abbrev pub timing_by : (Word → Option Word) → Option Timing
timing_by value =
    timing_with (mode_of (value (codes "mode"))) (count_or MAX_UNITS DEFAULT_UNITS (value (codes "units"))) (init_of (value (codes "init"))) (value (codes "last"))

-- the words of each send: 1 to 8, and 1 where none are given
abbrev pub banks_by : (Word → Option Word) → Option ℕ
banks_by value = count_or MAX_BANKS DEFAULT_BANKS (value (codes "banks"))

-- the workers: 1 to 64, and 4 where none are given
abbrev pub workers_by : (Word → Option Word) → Option ℕ
workers_by value = count_or MAX_WORKERS DEFAULT_WORKERS (value (codes "workers"))

-- the homes that the nodes get
abbrev pub homes_by : (Word → Option Word) → Option HomeChoice
homes_by value = homes_of (value (codes "homes"))
