use Rattle.std.proofs.{Common.get_or, lemmas.Option.slice_get-get_or}
use Rattle.node_map.specs.declared.keys.Key.{Key}
use Rattle.node_map.proofs.ItemLemmas.{made_more}
use Rattle.node_map.proofs.items.all_items.Goals as goal

abbrev no_key : Key
no_key = record { class = 0; rank = 0; signal = 0; place = 0 }

pub keys-preserved : goal.keys-preserved
keys-preserved c = record {
  made = rw c.in_ok-push.ensures.ok (made_more c.args.net.now c.args.timing.now c.args.numbering.now.names c.keys.palette.shelf.tables c.item.new.palette.shelf.tables c.args.keys.now c.keys.key-index c.keys.items
      (get_or c.args.keys.now c.keys.key-index no_key) c.in_ok-item.field-0 c.keys.invariant.made (slice_get-get_or c.args.keys.now c.keys.key-index no_key c.keys-test.true) c.in_ok-item.ensures.kept c.in_ok-item.ensures.item);
  known = c.in_ok-item.ensures.known;
}
