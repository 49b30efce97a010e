-- Each option is one rule more.
use Rattle.std.proofs.Common.{◌<◌, ◌∙◌, [], length, take_all, ap, arith}
use Rattle.cmd_words.specs.code.Parses.{app_with, texts_in}
use Rattle.cmd_words.proofs.AppLemmas.{app_step}
use Rattle.cmd_words.proofs.parsing.command.Goals as goal

pub loop-name-preserved : goal.loop-name-preserved
loop-name-preserved c =
    let within : c.loop-name.name-index < length c.args.options.now = omega arith in
    c.in_ok-command-2.ensures.shape c.option.ensures.local
    ∙ app_step c.args.options.now c.loop-name.name-index (record { ref_ptr = (0, 0); now = [] }) within _ _ c.loop-name.invariant c.option.ensures.rule

pub returns : goal.returns
returns c =
    c.loop-name.invariant ∙ ap (λ options. app_with (texts_in options)) (take_all c.loop-name.name-index c.args.options.now c.loop-name-test.false)
