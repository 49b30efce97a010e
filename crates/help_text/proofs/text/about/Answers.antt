-- The lines of options are those of the command's list.
use Rattle.std.proofs.lemmas.List.{append_assoc}
use Rattle.help_text.specs.Texts.{about}
use Rattle.help_text.proofs.FormLemmas.{lines_of}
use Rattle.help_text.proofs.text.about.Goals as goal

pub returns : goal.returns
unfolding about
returns c =
    simp (
      c.in_ok-push_bytes-3.ensures.ok,
      c.as_bytes.ensures.value,
      c.prints.ensures,
      c.in_ok-push_bytes-2.ensures.ok,
      c.in_ok-push_options.ensures,
      lines_of c.args.topic.now c.options.result.now c.options.ensures,
      c.in_ok-push_bytes.ensures.ok,
      c.in_ok-text.ensures,
      append_assoc,
    )
