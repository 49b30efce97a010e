use Rattle.std.proofs.Common.{◌≡◌, ◌<◌, length, sym, ap, ◌∙◌, rules}
use Rattle.std.proofs.lemmas.List.{nil_from_length}
use Rattle.text_lines.specs.Words.{words_of}
use Rattle.text_lines.proofs.WordLemmas.{words_of-nil, words_of_skip, words_of_first}
use Rattle.text_lines.proofs.words.next_word.Goals as goal

pub returns-then-not-is_empty : goal.returns-then-not-is_empty
returns-then-not-is_empty c =
    let cut = c.split_at_blank.ensures in
    let some : 0 < length c.split_at_blank.result.0.now = search rules in
    rw (cut.before, cut.after, ← c.loop-rest.invariant) (words_of_first _ (rw cut.before at some))

pub loop-rest-preserved : goal.loop-rest-preserved
loop-rest-preserved c =
    let cut = c.split_at_blank.ensures in
    let none : length c.split_at_blank.result.0.now ≡ 0 = search rules in
    let some : 0 < length c.loop-rest.rest.now = search rules in
    rw cut.after (sym (words_of_skip _ some (rw cut.before at none)) ∙ c.loop-rest.invariant)

pub returns : goal.returns
returns c = sym c.loop-rest.invariant ∙ ap words_of (nil_from_length _ (search rules)) ∙ words_of-nil
