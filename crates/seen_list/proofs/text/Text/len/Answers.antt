use Rattle.seen_list.proofs.text.Text.len.Goals as goal

pub returns : goal.returns
returns c = cc
