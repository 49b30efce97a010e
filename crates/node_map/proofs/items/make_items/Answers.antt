use Rattle.node_map.proofs.items.make_items.Goals as goal

pub returns : goal.returns
returns c = record { made = c.in_ok-items.ensures; different = c.all_items.new.palette.shelf.different }
