use Rattle.std.proofs.Common.{◌≡◌, length, replicate, rules, ap, ◌∙◌, arith}
use Rattle.std.proofs.lemmas.List.{length-replicate}
use Rattle.logic_four.specs.Packed.{packed_value}
use Rattle.logic_four.proofs.lemmas.PackedLemmas.{value-replicate}
use Rattle.array_cells.specs.code.Sheets.{words_after}
use Rattle.array_cells.proofs.SheetLemmas.{length-words_after, words_after-seen}
use Rattle.array_cells.proofs.sheet.Sheet.new.Goals as goal

pub returns : goal.returns
returns c =
    let words : c.in_ok-words.words.items ≡ replicate c.div_ceil-count.result c.filled.result = search rules in
    let seen : c.in_ok-seen.seen.items ≡ replicate c.div_ceil-count.result 0 = search rules in
    let count : length c.in_ok-words.words.items ≡ c.div_ceil-count.result =
    ap length words ∙ length-replicate c.div_ceil-count.result c.filled.result in
    let long = length-words_after c.in_ok-words.words.items c.in_ok-seen.seen.items 0 in
    let reads : words_after c.in_ok-words.words.items c.in_ok-seen.seen.items 0 ≡ replicate c.div_ceil-count.result c.filled.result =
    ap (λ numbers. words_after c.in_ok-words.words.items numbers 0) seen
    ∙ words_after-seen c.in_ok-words.words.items c.div_ceil-count.result 0 count
    ∙ words in
    record {
      room = omega (arith, count, long, c.div_ceil-count.ensures);
      all = λ place within.
          ap (λ now. packed_value now place) reads
          ∙ value-replicate c.div_ceil-count.result c.filled.result place c.args.v c.filled.ensures (omega (arith, c.div_ceil-count.ensures));
    }
