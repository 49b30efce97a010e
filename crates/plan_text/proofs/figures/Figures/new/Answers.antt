use Rattle.std.proofs.{Common.ap, Common.length, Common.◌∙◌, lemmas.List.length-map}
use Rattle.plan_defs.specs.declared.switch.PortLinks.{PortLinks}
use Rattle.plan_text.proofs.FigureLemmas.{counted_takes, read_lists}
use Rattle.plan_text.proofs.figures.Figures.new.Goals as goal

pub returns : goal.returns
returns c =
    record {
      ports = record {
        items = c.in_ok-item_counts.ensures.shape;
        tables = c.in_ok-table_counts.ensures.length_is;
        bits = c.in_ok-bit_counts.ensures.shape;
        takes =
            ap length c.in_ok-receipt_counts.ensures
            ∙ (length-map c.args.switch.now.ports (λ (links : PortLinks). length links.receipts) ∙ c.requires.switch.ports);
      };
      items = c.in_ok-new.ensures.items;
      figures = record {
        items = c.in_ok-item_counts.ensures.counts;
        tables = c.in_ok-table_counts.ensures.uses;
        bits = c.in_ok-bit_counts.ensures.counts;
        takes = counted_takes c.args.nodes.now c.args.homes.now c.args._plan.now.slots c.args.switch.now c.in_ok-receipt_counts.field-0 c.requires.switch c.in_ok-receipt_counts.ensures;
        readers = read_lists c.args.nodes.now c.args.homes.now c.in_ok-new.field-0 c.in_ok-new.ensures;
      };
    }

pub item_counts-requires : goal.item_counts-requires
item_counts-requires c = record { nodes = c.requires.nodes; homes = c.requires.homes }

pub table_counts-requires : goal.table_counts-requires
table_counts-requires c = record { nodes = c.requires.nodes; homes = c.requires.homes }

pub bit_counts-requires : goal.bit_counts-requires
bit_counts-requires c = record { nodes = c.requires.nodes; homes = c.requires.homes }

pub new-requires : goal.new-requires
new-requires c = record { nodes = c.requires.nodes; homes = c.requires.homes }
