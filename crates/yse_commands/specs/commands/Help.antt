-- `help`: the text of a command, or of all. Nothing is refused.
use Rattle.std.specs.Prelude.{◌≡◌, List, Option}
use Rattle.cmd_words.specs.declared.topic.Topic.{Topic}
use Rattle.help_text.specs.Texts.{text_of}
use Rattle.call_steps.specs.{Checks.Writes, Steps.Call, Steps.Ends}

-- the text, without a file
abbrev pub Helps : Option Topic → Call
Helps topic = Ends (Writes (λ output. output ≡ text_of topic))
