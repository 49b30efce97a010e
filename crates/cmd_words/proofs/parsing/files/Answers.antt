use Rattle.std.proofs.Common.{Some, ap}
use Rattle.clap.specs.{Walk.Rule, declared.builder.action.ArgAction.TheVariants.Append, declared.builder.value_parser.ValueParser.TheVariants.NonEmptyString}
use Rattle.cmd_words.proofs.parsing.files.Goals as goal

pub returns-clause-rule : goal.returns-clause-rule
returns-clause-rule c =
    rw (c.value_parser.ensures.others, c.value_parser.ensures.given.1, c.value_parser.ensures.given.2, c.action.ensures)
    (ap (λ (rule : Rule). record rule { action = Some Append; parser = Some NonEmptyString }) c.new.ensures.rule)
