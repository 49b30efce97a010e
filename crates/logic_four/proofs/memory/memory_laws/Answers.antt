use Rattle.logic_four.proofs.lemmas.MemoryLemmas.{bit_zero_first, undefined_bits, address_within, old_word, unknown_address_answers, disabled, reads_what_was_written, undefined_enable, other_words, unknown_address_writes, first_shape, first_words, shape, outputs_fit}
use Rattle.logic_four.proofs.memory.memory_laws.Goals as goal

pub returns : goal.returns
returns c = record {
  bit_zero_first = bit_zero_first;
  undefined_bits = undefined_bits;
  address_within = address_within;
  old_word = old_word;
  unknown_address_answers = unknown_address_answers;
  disabled = disabled;
  reads_what_was_written = reads_what_was_written;
  undefined_enable = undefined_enable;
  other_words = other_words;
  unknown_address_writes = unknown_address_writes;
  first_shape = first_shape;
  first_words = first_words;
  shape = shape;
  outputs_fit = outputs_fit;
}
