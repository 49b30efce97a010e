use Rattle.std.proofs.{Common.◌∙◌, Common.ap, Common.length, lemmas.List.length-replicate}
use Rattle.net_ops.proofs.ram.make_port.Goals as goal

pub returns : goal.returns
returns c = record {
  address = ap length c.in_ok-filled.ensures ∙ (length-replicate _ _ ∙ c.len.ensures);
  word = ap length c.in_ok-filled-2.ensures ∙ (length-replicate _ _ ∙ c.len-2.ensures);
  outs = ap length c.in_ok-filled-3.ensures ∙ (length-replicate _ _ ∙ c.len-3.ensures);
}
