-- The form of the words of each command.
use Rattle.std.specs.Prelude.{◌≡◌, ◌↔◌, ◌⊎◌, ◌≤◌, ⊤, ℕ, List, [], ◌∷◌, Some, codes}
use Rattle.net_defs.specs.Valid.{IsValidTiming}
use Rattle.cmd_words.specs.declared.command.Command.TheVariants.{Run, Refer, Order, Plan, Compile, Exec, Pack, Fault, Cover, Show, Large, Help}
use Rattle.cmd_words.specs.Settings.{timing_by, banks_by, workers_by, homes_by, gates_of, cycles_of}
use Rattle.cmd_words.specs.Topics.{options_of, topic_for, topic_words, word_of}
use Rattle.cmd_words.specs.declared.command.{Command.Command, RunWords.RunWords, WordNo.WordNo, WordNo.TheVariants.Usage, WordNo.TheVariants.Memory}
use Rattle.cmd_words.specs.{Arguments.Word, Arguments.AreArguments, Arguments.value_given, Asked.asked}
use Rattle.cmd_words.specs.declared.topic.Topic.TheVariants as topic
use Rattle.limits.specs.declared.TheConstants.{MAX_LARGE_CYCLES, MAX_LARGE_GATES, MAX_BANKS, MAX_WORKERS}

-- the name of a command, and behind it these positional arguments and options
pub record IsCall (name : Word) (options words arguments : List Word) (given : List (Word × Word)) : Type 0 where
  pub others : List Word
  pub words_are : words ≡ name ∷ others
  pub arguments_are : AreArguments options others arguments given

-- the call of a simulation. An option that is not given, or that the command does not have, has its default
pub record IsRun (name : Word) (options words arguments : List Word) (run : RunWords) : Type 0 where
  pub given : List (Word × Word)
  pub call : IsCall name options words arguments given
  pub machine : run.machine ≡ value_given given (codes "machine")
  pub order : run.order ≡ value_given given (codes "order")
  pub last : run.last ≡ value_given given (codes "last")
  pub timing : timing_by (value_given given) ≡ Some run.timing
  pub banks : banks_by (value_given given) ≡ Some run.banks
  pub workers : workers_by (value_given given) ≡ Some run.workers
  pub homes : homes_by (value_given given) ≡ Some run.homes
  pub faults : run.faults ≡ value_given given (codes "faults")

-- the call of a generated design: two words that are numbers, and the workers
pub record IsLarge (words : List Word) (gates cycles workers : ℕ) : Type 0 where
  pub gates_word : Word
  pub cycles_word : Word
  pub given : List (Word × Word)
  pub call : IsCall (word_of topic.Large) (options_of topic.Large) words (gates_word ∷ cycles_word ∷ []) given
  pub gates_are : gates_of gates_word ≡ Some gates
  pub cycles_are : cycles_of cycles_word ≡ Some cycles
  pub workers_are : workers_by (value_given given) ≡ Some workers

-- the words are of the form of the command
abbrev pub HasForm : List Word → Command → Type 0
HasForm words (Run run) = IsRun (word_of topic.Run) (options_of topic.Run) words (run.netlist ∷ run.stimulus ∷ []) run
HasForm words (Refer run) = IsRun (word_of topic.Refer) (options_of topic.Refer) words (run.netlist ∷ run.stimulus ∷ []) run
HasForm words (Order run) = IsRun (word_of topic.Order) (options_of topic.Order) words (run.netlist ∷ run.stimulus ∷ []) run
HasForm words (Plan run) = IsRun (word_of topic.Plan) (options_of topic.Plan) words (run.netlist ∷ []) run × (run.stimulus ≡ [])
HasForm words (Compile run) = IsRun (word_of topic.Compile) (options_of topic.Compile) words (run.netlist ∷ []) run × (run.stimulus ≡ [])
HasForm words (Exec run image) = IsRun (word_of topic.Exec) (options_of topic.Exec) words (run.netlist ∷ image ∷ run.stimulus ∷ []) run
HasForm words (Pack run) = IsRun (word_of topic.Pack) (options_of topic.Pack) words (run.netlist ∷ run.stimulus ∷ []) run
HasForm words (Fault run) = IsRun (word_of topic.Fault) (options_of topic.Fault) words (run.netlist ∷ run.stimulus ∷ []) run
HasForm words (Cover run) = IsRun (word_of topic.Cover) (options_of topic.Cover) words (run.netlist ∷ run.stimulus ∷ []) run
HasForm words (Show netlist) = IsCall (word_of topic.Show) (options_of topic.Show) words (netlist ∷ []) []
HasForm words (Large gates cycles workers) = IsLarge words gates cycles workers
HasForm words (Help about) = IsCall (word_of topic.Help) (options_of topic.Help) words (topic_words about) []

-- why words are refused: memory ran out, or they are of the form of no command
abbrev pub HasNoForm : List Word → WordNo → Type 0
HasNoForm words refusal = (refusal ≡ Memory) ⊎ ((refusal ≡ Usage) × ((command : Command) → HasForm words command → ⊥))

-- ---- ranges

pub record IsRunInRange (run : RunWords) : Type 0 where
  pub timing : IsValidTiming run.timing
  -- the timing lists no gate
  pub unlisted : run.timing ≡ record run.timing { listed = [] }
  pub banks_some : 1 ≤ run.banks
  pub banks_few : run.banks ≤ MAX_BANKS
  pub workers_some : 1 ≤ run.workers
  pub workers_few : run.workers ≤ MAX_WORKERS

pub record IsLargeInRange (gates cycles workers : ℕ) : Type 0 where
  pub gates_some : 1 ≤ gates
  pub gates_few : gates ≤ MAX_LARGE_GATES
  pub cycles_some : 1 ≤ cycles
  pub cycles_few : cycles ≤ MAX_LARGE_CYCLES
  pub workers_some : 1 ≤ workers
  pub workers_few : workers ≤ MAX_WORKERS

-- the numbers of the command are in their ranges
abbrev pub IsInRange : Command → Type 0
IsInRange (Run run) = IsRunInRange run
IsInRange (Refer run) = IsRunInRange run
IsInRange (Order run) = IsRunInRange run
IsInRange (Plan run) = IsRunInRange run
IsInRange (Compile run) = IsRunInRange run
IsInRange (Exec run image) = IsRunInRange run
IsInRange (Pack run) = IsRunInRange run
IsInRange (Fault run) = IsRunInRange run
IsInRange (Cover run) = IsRunInRange run
IsInRange (Show netlist) = ⊤
IsInRange (Large gates cycles workers) = IsLargeInRange gates cycles workers
IsInRange (Help topic) = ⊤

-- ---- laws

-- words are of the form of one command at most
abbrev pub HasOneForm : Type 0
HasOneForm = (words : List Word) (one other : Command) → HasForm words one → HasForm words other → one ≡ other

-- the command that words ask for, as a function, is the one whose form they have
abbrev pub AreFormsAsked : Type 0
AreFormsAsked = (words : List Word) (command : Command) → asked words ≡ Some command ↔ HasForm words command

-- what has the form of a command is in range
abbrev pub AreFormsInRange : Type 0
AreFormsInRange = (words : List Word) (command : Command) → HasForm words command → IsInRange command

-- the words begin with the word of a command, and the options among them are of its list
abbrev pub IsOfTopic : List Word → Command → Type 0
IsOfTopic words command =
    (arguments : List Word) × (given : List (Word × Word)) × IsCall (word_of (topic_for command)) (options_of (topic_for command)) words arguments given

-- each form is one of its command's word and options
abbrev pub AreFormsOfTopics : Type 0
AreFormsOfTopics = (words : List Word) (command : Command) → HasForm words command → IsOfTopic words command
