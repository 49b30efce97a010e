use Rattle.std.proofs.lemmas.Option.{slice_get-get_or}
use Rattle.slot_words.proofs.links.find.Goals as goal

pub returns-then-links-hint : goal.returns-then-links-hint
returns-then-links-hint c = record {
  link = _;
  is = slice_get-get_or c.args.links.now c.args.hint _ c.if-hint-links.true;
  slot_is = c.if-links-hint.true;
}
