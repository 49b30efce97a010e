-- The names of other modules that several proofs of this crate cite, passed on from one place. Declares nothing.
pub use Rattle.bench_text.specs.Decoding.{form_of}
pub use Rattle.bench_text.specs.Forms.{Form, all_of}
pub use Rattle.bench_text.specs.Rows.{Row, is_some, row_of, rows_in}
unfoldable pub use Rattle.bench_text.specs.Rows.{rows_of}
pub use Rattle.bench_text.specs.Spelling.{Piece, Sign, Word, commas, listed, spelled}
pub use Rattle.bench_read.specs.code.Drafting.{driven_names, lines_in, placed_in, used_names}
unfoldable pub use Rattle.bench_read.specs.code.Drafts.{lines_by}
pub use Rattle.bench_read.specs.Faults.{is_undriven, row_fault, said_fault}
unfoldable pub use Rattle.bench_read.specs.Faults.{line_fault, many_fault, rows_fault, twice_fault, uses_fault}
pub use Rattle.bench_read.specs.Lines.{Line, Output, driven, operands, used}
unfoldable pub use Rattle.bench_read.specs.Lines.{all_driven, all_used, operand_count}
unfoldable pub use Rattle.bench_read.specs.code.Making.{line_of_use, order_by}
pub use Rattle.bench_read.specs.Netlists.{bit_signals, input_names, input_signal, other_names, printed_names}
unfoldable pub use Rattle.bench_read.specs.Netlists.{netlist_of}
pub use Rattle.bench_read.specs.Placed.{Named, Placed, each_named}
pub use Rattle.bench_read.specs.code.Placed.{lines_at}
unfoldable pub use Rattle.bench_read.specs.Placed.{drivers_of, placed_of, uses_of}
pub use Rattle.bench_read.specs.Reads.{AreOnce, Reads}
pub use Rattle.bench_read.specs.Saying.{Say, Says, allows_memory, is_word, said_by, said_by_form, said_by_gate, said_by_register}
unfoldable pub use Rattle.bench_read.specs.Saying.{said}
pub use Rattle.bench_read.specs.code.Storing.{named_by, names_by}
pub use Rattle.bench_read.specs.Written.{form_by, some_of, written_piece}
unfoldable pub use Rattle.bench_read.specs.Written.{text_of_lines, written}
pub use Rattle.bench_read.specs.declared.draft.Act.{Act}
pub use Rattle.bench_read.specs.declared.draft.DrivenName.{DrivenName}
pub use Rattle.bench_read.specs.declared.refusal.BenchNo.{BenchNo}
pub use Rattle.bench_read.specs.declared.refusal.BenchNo.TheVariants.{Arity, Syntax, Undriven, UnknownKind}
pub use Rattle.bench_text.specs.declared.token.Mark.{Mark}
pub use Rattle.list_laws.proofs.Members.{all_back, all_front, all_of_map}
pub use Rattle.list_laws.proofs.Options.{mapped_none}
pub use Rattle.list_laws.proofs.Tests.{any_not_none, count_none, find_none, list_any-map, none_counted, prefix_len-map}
pub use Rattle.logic_four.specs.Kinds.{AllowsOperands, allows_operands}
unfoldable pub use Rattle.logic_four.specs.Kinds.{kind_of}
pub use Rattle.logic_four.specs.declared.Kind.{Kind}
pub use Rattle.net_defs.specs.Canonical.{canonical_text, name_of}
pub use Rattle.net_defs.specs.Valid.{InputsLead, IsDrivable, IsMemory, IsSignal, IsValid, is_input}
pub use Rattle.net_defs.specs.declared.netlist.Block.{Block}
pub use Rattle.net_defs.specs.declared.netlist.Driver.{Driver}
pub use Rattle.net_defs.specs.declared.netlist.Driver.TheVariants.{BlockBit}
pub use Rattle.net_defs.specs.declared.netlist.Netlist.{Netlist}
pub use Rattle.net_defs.specs.declared.netlist.Signal.{Signal}
pub use Rattle.std.proofs.Math.Seq.{take-append_seam}
pub use Rattle.std.proofs.lemmas.Bool.{both_ways, cases_lt, false_from_ne_true, ne_eqb}
pub use Rattle.std.proofs.lemmas.Grind.{common_steps}
pub use Rattle.std.proofs.lemmas.List.{drop-map, drop_at, get_or-map, length-map, length-take-le, map-append, map-id, map_push, take-append-drop, take_more}
pub use Rattle.std.proofs.lemmas.List.Concat.{flat_map-append}
pub use Rattle.std.proofs.lemmas.List.Elements.{All-append, All-cons, All-from_recursion, All-head, All-map, All-nil, All-tail, All-weaker}
pub use Rattle.std.proofs.lemmas.List.Folds.{list_any_at, list_any_none}
pub use Rattle.std.proofs.lemmas.List.FromFn.{length-enumerate_from}
pub use Rattle.std.proofs.lemmas.List.Sums.{position_or_len_is, sum_by-append, sum_by-cons, sum_by_push}
pub use Rattle.std.proofs.lemmas.Option.{slice_get-get_or, slice_get-map, slice_get_within}
pub use Rattle.std.proofs.lemmas.Result.{err_from_is_err_and}
pub use Rattle.std.proofs.lemmas.Simd.{map-map}
pub use Rattle.std.specs.List.{count_by, enumerate_from, find, flat_map, list_any, position, range_with_len, sum_by}
pub use Rattle.std.specs.Option.{option_map, option_or}
pub use Rattle.std.specs.Prelude.{MatchResult, codes, ◌↔◌}
pub use Rattle.text_lines.proofs.lemmas.AnswerLemmas.{first-zero, or_none}
pub use Rattle.text_lines.specs.Answers.{Answers}
unfoldable pub use Rattle.text_lines.specs.Answers.{first}
pub use Rattle.text_lines.specs.Bytes.{is_line_feed}
unfoldable pub use Rattle.text_lines.specs.Bytes.{is_visible}
unfoldable pub use Rattle.text_lines.specs.Lines.{parts_of}
