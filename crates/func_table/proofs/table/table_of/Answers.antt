use Rattle.std.proofs.Common.{◌∙◌, arith}
use Rattle.func_table.proofs.EntryLemmas.{entries_more, entries_are_answers}
use Rattle.func_table.specs.{Entries.entry_for, Entries.entry_of, code.Entries.answer_at}
use Rattle.func_table.proofs.table.table_of.Goals as goal

pub entries-preserved : goal.entries-preserved
entries-preserved c = record {
  count = c.put.ensures.as_long ∙ c.entries.invariant.count;
  entries =
      entries_more (answer_at c.args.kind c.args.operands) _ _ c.entries.entry c.entries.invariant.entries
      (c.put.ensures.here ∙ c.answer.ensures) c.put.ensures.others;
}

pub returns : goal.returns
unfolding entry_for entry_of
returns c = record {
  answers = entries_are_answers c.args.kind c.args.operands c.entries.words (λ e h. c.entries.invariant.entries e (omega arith));
  words = c.has_words.ensures;
}
