use Rattle.std.proofs.Common.{append_assoc}
use Rattle.plan_text.specs.Lines.{port_line}
use Rattle.plan_text.proofs.lines.push_port.Goals as goal

pub returns : goal.returns
unfolding port_line
returns c =
    rw (c.in_ok-push_bytes.ensures.ok, c.in_ok-push_count-2.ensures, c.in_ok-push_port_part.ensures, c.in_ok-push_count.ensures, c.in_ok-push_port_name.ensures)
    (simp (append_assoc, c.as_slice.ensures, c.as_slice-2.ensures))
