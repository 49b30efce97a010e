-- The commands as what help can be asked of: the word of each, and its options.
use Rattle.std.specs.Prelude.{List, [], ◌∷◌, Option, Some, None, codes, find, bytes_eq}
use Rattle.cmd_words.specs.declared.topic.Topic.TheVariants.{Run, Refer, Order, Plan, Show, Large, Compile, Exec, Pack, Fault, Cover, Help}
use Rattle.cmd_words.specs.Settings.{run_options, refer_options, order_options, plan_options, compile_options, exec_options, pack_options, fault_options, cover_options, show_options, large_options, help_options}
use Rattle.cmd_words.specs.{declared.command.Command.Command, declared.topic.Topic.Topic, Arguments.Word}
use Rattle.cmd_words.specs.declared.command.Command.TheVariants as command

-- all commands
abbrev pub topics : List Topic
topics = Run ∷ Refer ∷ Order ∷ Plan ∷ Show ∷ Large ∷ Compile ∷ Exec ∷ Pack ∷ Fault ∷ Cover ∷ Help ∷ []

-- the word that a call of the command begins with
abbrev pub word_of : Topic → Word
word_of Run = codes "run"
word_of Refer = codes "refer"
word_of Order = codes "order"
word_of Plan = codes "plan"
word_of Show = codes "show"
word_of Large = codes "large"
word_of Compile = codes "compile"
word_of Exec = codes "exec"
word_of Pack = codes "pack"
word_of Fault = codes "fault"
word_of Cover = codes "cover"
word_of Help = codes "help"

-- the command of a word
abbrev pub topic_of : Word → Option Topic
topic_of word = find (λ topic. bytes_eq word (word_of topic)) topics

-- the options of the command, by the list that its form has
abbrev pub options_of : Topic → List Word
options_of Run = run_options
options_of Refer = refer_options
options_of Order = order_options
options_of Plan = plan_options
options_of Show = show_options
options_of Large = large_options
options_of Compile = compile_options
options_of Exec = exec_options
options_of Pack = pack_options
options_of Fault = fault_options
options_of Cover = cover_options
options_of Help = help_options

-- what a command that is asked for is a command of
abbrev pub topic_for : Command → Topic
topic_for (command.Run words) = Run
topic_for (command.Refer words) = Refer
topic_for (command.Order words) = Order
topic_for (command.Plan words) = Plan
topic_for (command.Show netlist) = Show
topic_for (command.Large gates cycles workers) = Large
topic_for (command.Compile words) = Compile
topic_for (command.Exec words image) = Exec
topic_for (command.Pack words) = Pack
topic_for (command.Fault words) = Fault
topic_for (command.Cover words) = Cover
topic_for (command.Help topic) = Help

-- the words behind `help`: none, or that of a command
abbrev pub topic_words : Option Topic → List Word
topic_words None = []
topic_words (Some topic) = word_of topic ∷ []
