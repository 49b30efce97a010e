-- What the words of a call ask for, as far as the clauses of a whole call speak of it.
use Rattle.std.specs.Prelude.{ℕ, List, [], ◌∷◌, ◌++◌, Option, Some, None}
use Rattle.std.specs.Option.{option_to_list}
use Rattle.cmd_words.specs.declared.command.{Command.Command, RunWords.RunWords}
use Rattle.cmd_words.specs.declared.command.Command.TheVariants as command

-- the files of a design, of a design on a machine, and of one with its stimulus
abbrev pub design_files : RunWords → List (List ℕ)
design_files words = words.netlist ∷ option_to_list words.last

abbrev pub machine_files : RunWords → List (List ℕ)
machine_files words = option_to_list words.machine ++ design_files words

abbrev pub ready_files : RunWords → List (List ℕ)
ready_files words = machine_files words ++ (words.stimulus ∷ [])

-- the files that a command reads, in the order in which it does
abbrev pub files_of : Command → List (List ℕ)
files_of (command.Run words) = ready_files words
files_of (command.Refer words) = design_files words ++ (words.stimulus ∷ [])
files_of (command.Order words) = ready_files words ++ option_to_list words.order
files_of (command.Plan words) = machine_files words
files_of (command.Compile words) = machine_files words
files_of (command.Exec words image) = design_files words ++ (image ∷ words.stimulus ∷ [])
files_of (command.Pack words) = ready_files words
files_of (command.Fault words) = design_files words ++ (option_to_list words.faults ++ (words.stimulus ∷ []))
files_of (command.Cover words) = design_files words ++ (words.stimulus ∷ [])
files_of (command.Show netlist) = netlist ∷ []
files_of (command.Large gates cycles workers) = []
files_of (command.Help topic) = []

abbrev pub files_named : Option Command → List (List ℕ)
files_named None = []
files_named (Some asked) = files_of asked

-- the simulation whose trace a command writes
abbrev pub traced_by : Option Command → Option RunWords
traced_by None = None
traced_by (Some (command.Run words)) = Some words
traced_by (Some (command.Refer words)) = Some words
traced_by (Some (command.Order words)) = Some words
traced_by (Some (command.Plan words)) = None
traced_by (Some (command.Compile words)) = None
traced_by (Some (command.Exec words image)) = Some words
traced_by (Some (command.Pack words)) = None
traced_by (Some (command.Fault words)) = None
traced_by (Some (command.Cover words)) = None
traced_by (Some (command.Show netlist)) = None
traced_by (Some (command.Large gates cycles workers)) = None
traced_by (Some (command.Help topic)) = None
