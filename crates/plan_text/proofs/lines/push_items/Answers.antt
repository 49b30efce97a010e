use Rattle.plan_text.specs.Lines.{item_line}
use Rattle.plan_text.proofs.FigureLemmas.{text_more}
use Rattle.plan_text.proofs.lines.push_items.Goals as goal

pub items-preserved : goal.items-preserved
items-preserved c =
    text_more c.args.text.now c.items.text _ (item_line c.args.net.now c.args.nodes.now c.args.homes.now c.args.slots.now c.args.figures.now) c.items.i c.items.invariant c.in_ok-push_item.ensures
