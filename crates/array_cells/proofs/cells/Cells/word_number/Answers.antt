use Rattle.std.proofs.Common.{◌≡◌, length, sym, ap, ◌∙◌, arith}
use Rattle.logic_four.proofs.lemmas.MemoryLemmas.{bits_number-within}
use Rattle.array_cells.proofs.{AddressLemmas.few_bits, AddressLemmas.address_of-known, AddressLemmas.address_of-unknown, WordLemmas.length-words_of}
use Rattle.array_cells.proofs.cells.Cells.word_number.Goals as goal

pub number_of-requires : goal.number_of-requires
number_of-requires c =
    let count : c.self.inside.words ≡ length c.args.self.now =
    sym (length-words_of c.self.inside.sheet c.self.inside.words c.self.inside.word_bits) ∙ ap length c.self.view_is in
    few_bits (length c.args.address.now) (omega arith)

pub returns-then-all_known : goal.returns-then-all_known
returns-then-all_known c = record {
  address = address_of-known c.args.address.now c.number_of.result (sym c.all_known.ensures ∙ c.if-all_known.true) c.number_of.ensures;
  within = rw (c.number_of.ensures, c.requires) (bits_number-within c.args.address.now);
}

pub returns-else-all_known-clause-address : goal.returns-else-all_known-clause-address
returns-else-all_known-clause-address c = address_of-unknown c.args.address.now (sym c.all_known.ensures ∙ c.if-all_known.false)
