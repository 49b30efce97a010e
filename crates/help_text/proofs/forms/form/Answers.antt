-- The options are those of the command's list.
use Rattle.std.proofs.Common.{◌∙◌, ◌-◌, ap}
use Rattle.help_text.proofs.FormLemmas.{form_made}
use Rattle.help_text.proofs.forms.form.Goals as goal

pub returns : goal.returns
returns c =
    form_made c.args.topic.now c.in_ok-form.form c.fill.new.form c.saturating_sub-left.result c.options.result.now c.in_ok-form.ensures
    (c.saturating_sub-left.ensures ∙ ap (λ columns. 80 - columns) c.len.ensures) c.options.ensures c.in_ok-fill.ensures
