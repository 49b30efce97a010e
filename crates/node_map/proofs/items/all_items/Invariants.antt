use Rattle.node_map.specs.code.Tables.{AreMadeIn}
use Rattle.node_map.proofs.ItemLemmas.{MadeTo}
use Rattle.node_map.proofs.items.all_items.Given as goal

abbrev pub invariant-keys : goal.invariant-keys
invariant-keys l = record {
  made : MadeTo l.net l.timing l.numbering.names l.palette.shelf.tables l.keys l.key-index l.items;
  known : AreMadeIn l.palette.shelf.tables l.palette.made;
}
