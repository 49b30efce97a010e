-- What is said of each command and of each option.
use Rattle.std.specs.Prelude.{ℕ, List, [], if◌then◌else◌, codes, bytes_eq}
use Rattle.cmd_words.specs.{Arguments.Word, declared.topic.Topic.Topic}
use Rattle.cmd_words.specs.declared.topic.Topic.TheVariants as topic
use Rattle.help_text.specs.declared.brief.TheConstants as brief
use Rattle.help_text.specs.declared.detail.TheConstants as detail
use Rattle.help_text.specs.declared.options.TheConstants as options

-- what a command takes
unfoldable pub operands : Topic → List ℕ
operands topic.Run = codes " NETLIST STIMULUS"
operands topic.Refer = codes " NETLIST STIMULUS"
operands topic.Order = codes " NETLIST STIMULUS"
operands topic.Plan = codes " NETLIST"
operands topic.Show = codes " NETLIST"
operands topic.Large = codes " GATES CYCLES"
operands topic.Compile = codes " NETLIST"
operands topic.Exec = codes " NETLIST IMAGE STIMULUS"
operands topic.Pack = codes " NETLIST STIMULI"
operands topic.Fault = codes " NETLIST STIMULUS"
operands topic.Cover = codes " NETLIST STIMULUS"
operands topic.Help = codes " [COMMAND]"

-- what it does
unfoldable pub does : Topic → List ℕ
does topic.Run = brief.RUN.now
does topic.Refer = brief.REFER.now
does topic.Order = brief.ORDER.now
does topic.Plan = brief.PLAN.now
does topic.Show = brief.SHOW.now
does topic.Large = brief.LARGE.now
does topic.Compile = brief.COMPILE.now
does topic.Exec = brief.EXEC.now
does topic.Pack = brief.PACK.now
does topic.Fault = brief.FAULT.now
does topic.Cover = brief.COVER.now
does topic.Help = brief.HELP.now

-- what it prints, and an example
unfoldable pub prints : Topic → List ℕ
prints topic.Run = detail.RUN.now
prints topic.Refer = detail.REFER.now
prints topic.Order = detail.ORDER.now
prints topic.Plan = detail.PLAN.now
prints topic.Show = detail.SHOW.now
prints topic.Large = detail.LARGE.now
prints topic.Compile = detail.COMPILE.now
prints topic.Exec = detail.EXEC.now
prints topic.Pack = detail.PACK.now
prints topic.Fault = detail.FAULT.now
prints topic.Cover = detail.COVER.now
prints topic.Help = detail.HELP.now

-- what stands for the value of an option
unfoldable pub value_word : Word → List ℕ
value_word name =
    if bytes_eq name (codes "machine") then codes "FILE"
    else if bytes_eq name (codes "mode") then codes "rank|unit|mixed"
    else if bytes_eq name (codes "last") then codes "FILE"
    else if bytes_eq name (codes "units") then codes "K"
    else if bytes_eq name (codes "init") then codes "x|0"
    else if bytes_eq name (codes "workers") then codes "N"
    else if bytes_eq name (codes "banks") then codes "B"
    else if bytes_eq name (codes "homes") then codes "plain|better"
    else if bytes_eq name (codes "order") then codes "FILE"
    else if bytes_eq name (codes "faults") then codes "FILE"
    else codes "VALUE"

-- what an option means
unfoldable pub says : Word → List ℕ
says name =
    if bytes_eq name (codes "machine") then options.MACHINE.now
    else if bytes_eq name (codes "mode") then options.MODE.now
    else if bytes_eq name (codes "last") then options.LAST.now
    else if bytes_eq name (codes "units") then options.UNITS.now
    else if bytes_eq name (codes "init") then options.INIT.now
    else if bytes_eq name (codes "workers") then options.WORKERS.now
    else if bytes_eq name (codes "banks") then options.BANKS.now
    else if bytes_eq name (codes "homes") then options.HOMES.now
    else if bytes_eq name (codes "order") then options.ORDER.now
    else if bytes_eq name (codes "faults") then options.FAULTS.now
    else []
