use Rattle.std.proofs.Common.{◌≡◌, OnOk, subst}
use Rattle.image_file.proofs.WritingLemmas.{host_text}
use Rattle.image_file.proofs.writing.push_work.Goals as goal

pub returns-in_ok-push_inputs-in-Host : goal.returns-in_ok-push_inputs-in-Host
returns-in_ok-push_inputs-in-Host c =
    subst (λ text. OnOk c.push_prints.result (c.push_prints.new.text ≡ text))
    (rw (c.in_ok-push_inputs-in-Host.ensures, c.as_slice-in-Host.ensures, c.as_slice-in-Host-2.ensures, c.in-Host.is)
    (host_text c.args.text.now c.in-Host.inputs c.in-Host.printed c.args.items.now))
    c.push_prints.ensures
