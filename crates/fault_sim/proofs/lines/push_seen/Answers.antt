use Rattle.std.proofs.lemmas.List.{append_assoc}
use Rattle.fault_sim.proofs.lines.push_seen.Goals as goal

pub returns : goal.returns
returns c =
    simp (c.in_ok-push_bytes-2.ensures.ok, c.column_name.ensures, c.in_ok-push_bytes.ensures.ok, c.in_ok-push_decimal.ensures.ok, append_assoc)
