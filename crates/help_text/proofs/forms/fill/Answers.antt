-- The options behind those that stand there are still to be filled in.
use Rattle.std.proofs.Common.{◌<◌, ◌∙◌, ◌++◌, [], length, ap, arith}
use Rattle.std.proofs.lemmas.List.{drop_all}
use Rattle.help_text.specs.Forms.{bracketed, left_after, placed}
use Rattle.help_text.proofs.FormLemmas.{filled_all, filled_more}
use Rattle.help_text.proofs.forms.fill.Goals as goal

pub names-preserved : goal.names-preserved
names-preserved c =
    let within : c.names.name-index < length c.args.names.now = omega arith in
    let is = c.as_bytes.ensures ∙ c.in_ok-option.ensures in
    filled_more (λ name. bracketed name.now) c.args.names.now c.names.name-index (record { ref_ptr = (0, 0); now = [] }) within c.names.form c.place.new.form _ c.names.left c.in_ok-left.left
    c.names.invariant
    (c.in_ok-left.ensures.0 ∙ ap (λ part. c.names.form ++ placed c.names.left part) is)
    (c.in_ok-left.ensures.1 ∙ ap (left_after c.names.left) is)

pub returns : goal.returns
returns c =
    filled_all (λ name. bracketed name.now) c.args.names.now c.names.name-index c.names.form _ c.names.left
    (drop_all c.names.name-index c.args.names.now c.names-test.false) c.names.invariant
