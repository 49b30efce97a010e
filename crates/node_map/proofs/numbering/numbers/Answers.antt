use Rattle.std.proofs.{Common.get_or, Common.arith, lemmas.Option.slice_get-get_or}
use Rattle.node_map.specs.declared.keys.Key.{Key}
use Rattle.node_map.proofs.NumberLemmas.{numbers_more, numbers_all}
use Rattle.node_map.proofs.numbering.numbers.Goals as goal

abbrev no_key : Key
no_key = record { class = 0; rank = 0; signal = 0; place = 0 }

pub keys-preserved : goal.keys-preserved
keys-preserved c =
    rw c.set.ensures (rw c.place_of-place.ensures
    (numbers_more c.args.starts.now c.args.keys.now c.keys.x c.keys.numbers (get_or c.args.keys.now c.keys.x no_key) c.requires.flat c.keys.invariant
    (slice_get-get_or c.args.keys.now c.keys.x no_key c.keys-test.true)))

pub returns : goal.returns
returns c = numbers_all c.args.starts.now c.args.keys.now c.keys.x c.keys.numbers (omega (arith, c.keys-test.false)) c.keys.invariant
