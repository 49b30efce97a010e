-- The command that words ask for, as a function.
use Rattle.std.specs.Prelude.{◌≡◌, ◌⊎◌, ℕ, List, [], ◌∷◌, if◌then◌else◌, Option, Some, None, option_map, option_and_then, Result, MatchResult, codes, bytes_eq}
use Rattle.net_defs.specs.declared.{homes.HomeChoice.HomeChoice, timing.Timing.Timing}
use Rattle.cmd_words.specs.declared.command.Command.TheVariants.{Run, Refer, Order, Plan, Compile, Exec, Pack, Fault, Cover, Show, Large, Help}
use Rattle.cmd_words.specs.Settings.{run_options, refer_options, order_options, plan_options, compile_options, exec_options, pack_options, fault_options, cover_options, show_options, large_options, help_options, timing_by, banks_by, workers_by, homes_by, gates_of, cycles_of}
use Rattle.cmd_words.specs.declared.command.{Command.Command, RunWords.RunWords, WordNo.WordNo, WordNo.TheVariants.Usage, WordNo.TheVariants.Memory}
use Rattle.cmd_words.specs.{Arguments.Word, Arguments.value_given, declared.topic.Topic.Topic, Topics.topic_of, Uses.parsed}

-- the value of each option that is given
abbrev pub Values : Type 0
Values = Word → Option Word

abbrev pub run_with : Word → Word → Values → Option Timing → Option ℕ → Option ℕ → Option HomeChoice → Option RunWords
run_with netlist stimulus value (Some timing) (Some banks) (Some workers) (Some homes) = Some (record {
  netlist = netlist;
  stimulus = stimulus;
  machine = value (codes "machine");
  order = value (codes "order");
  last = value (codes "last");
  timing = timing;
  banks = banks;
  workers = workers;
  homes = homes;
  faults = value (codes "faults");
})
run_with netlist stimulus value _ _ _ _ = None

-- a simulation, by its files and the values of its options
abbrev pub run_by : Word → Word → Values → Option RunWords
run_by netlist stimulus value = run_with netlist stimulus value (timing_by value) (banks_by value) (workers_by value) (homes_by value)

-- a simulation, by its positional arguments
abbrev pub of_two_files : List Word → Values → Option RunWords
of_two_files (netlist ∷ stimulus ∷ []) value = run_by netlist stimulus value
of_two_files _ value = None

-- a plan or an image to be, by its positional argument
abbrev pub of_netlist : List Word → Values → Option RunWords
of_netlist (netlist ∷ []) value = run_by netlist [] value
of_netlist _ value = None

-- a simulation by an image, by its files and the values of its options
abbrev pub image_by : Word → Word → Word → Values → Option Command
image_by netlist image stimulus value = option_map (λ run. Exec run image) (run_by netlist stimulus value)

-- a simulation by an image, by its positional arguments
abbrev pub of_image : List Word → Values → Option Command
of_image (netlist ∷ image ∷ stimulus ∷ []) value = image_by netlist image stimulus value
of_image _ value = None

abbrev pub of_one_file : List Word → Values → Option Word
of_one_file (netlist ∷ []) value = Some netlist
of_one_file _ value = None

abbrev pub large_with : Option ℕ → Option ℕ → Option ℕ → Option Command
large_with (Some gates) (Some cycles) (Some workers) = Some (Large gates cycles workers)
large_with _ _ _ = None

-- a generated design, by its two numbers and the values of its options
abbrev pub large_by : Word → Word → Values → Option Command
large_by gates cycles value = large_with (gates_of gates) (cycles_of cycles) (workers_by value)

-- a generated design, by its positional arguments
abbrev pub of_large : List Word → Values → Option Command
of_large (gates ∷ cycles ∷ []) value = large_by gates cycles value
of_large _ value = None

-- what help is asked of: all commands, or the one of a word
abbrev pub of_topic : List Word → Values → Option (Option Topic)
of_topic [] value = Some None
of_topic (word ∷ []) value = option_map Some (topic_of word)
of_topic _ value = None

-- what the words behind the name of a command say, by what their arguments and values say
abbrev pub says : {T : Type 0} → List Word → (List Word → Values → Option T) → List Word → Option T
says names reading words = option_and_then (λ found. reading found.arguments (value_given found.given)) (parsed names words)

abbrev pub asked_by : Word → List Word → Option Command
asked_by name words =
    if bytes_eq name (codes "run") then option_map Run (says run_options of_two_files words)
    else if bytes_eq name (codes "refer") then option_map Refer (says refer_options of_two_files words)
    else if bytes_eq name (codes "order") then option_map Order (says order_options of_two_files words)
    else if bytes_eq name (codes "plan") then option_map Plan (says plan_options of_netlist words)
    else if bytes_eq name (codes "compile") then option_map Compile (says compile_options of_netlist words)
    else if bytes_eq name (codes "exec") then says exec_options of_image words
    else if bytes_eq name (codes "pack") then option_map Pack (says pack_options of_two_files words)
    else if bytes_eq name (codes "fault") then option_map Fault (says fault_options of_two_files words)
    else if bytes_eq name (codes "cover") then option_map Cover (says cover_options of_two_files words)
    else if bytes_eq name (codes "show") then option_map Show (says show_options of_one_file words)
    else if bytes_eq name (codes "large") then says large_options of_large words
    else if bytes_eq name (codes "help") then option_map Help (says help_options of_topic words)
    else None

-- the command of the words, and none where they are of no form
unfoldable pub asked : List Word → Option Command
asked [] = None
asked (name ∷ words) = asked_by name words

-- memory ran out, or nothing is asked
abbrev pub IsRefusal : {T : Type 0} → Option T → WordNo → Type 0
IsRefusal answer refusal = (refusal ≡ Memory) ⊎ ((refusal ≡ Usage) × (answer ≡ None))

-- the answer, or a refusal
abbrev pub Answers : {T : Type 0} → Result T WordNo → Option T → Type 0
Answers result answer = MatchResult result (λ found. answer ≡ Some found) (IsRefusal answer)
