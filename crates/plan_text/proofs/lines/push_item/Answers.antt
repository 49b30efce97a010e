use Rattle.std.proofs.lemmas.List.{append_assoc}
use Rattle.plan_text.specs.Lines.{item_line}
use Rattle.plan_text.proofs.lines.push_item.Goals as goal

pub returns : goal.returns
unfolding item_line
returns c =
    rw (c.in_ok-push_bytes-2.ensures.ok, c.in_ok-push_readers.ensures, c.readers_of.ensures, c.in_ok-push_count.ensures, c.in_ok-push_port_name.ensures, c.as_slice.ensures, c.in_ok-push_bytes.ensures.ok, c.in_ok-push_item_name.ensures)
    (simp append_assoc)
