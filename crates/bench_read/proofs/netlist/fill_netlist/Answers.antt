use Rattle.std.proofs.Common.{length, sym, ap, ◌∙◌, subst, arith, length-append}
use Rattle.bench_read.proofs.Common.{flat_map, length-map, lines_in, AreOnce}
use Rattle.bench_read.proofs.NumberLemmas.{order_is, names_length}
use Rattle.bench_read.specs.Netlists.{input_names, names_of, numbers, input_signal}
use Rattle.bench_read.proofs.netlist.fill_netlist.Goals as goal

pub signal_numbers-requires-clause-few : goal.signal_numbers-requires-clause-few
unfolding names_of
signal_numbers-requires-clause-few c =
    let draft = c.args.draft.now in
    let inputs = c.len.ensures ∙ ap length c.in_ok-add_inputs.ensures ∙ length-map (flat_map input_names (lines_in draft)) input_signal in
    omega (arith, inputs, simp length-append at (names_length (lines_in draft)), ap length c.requires.whole.drives, c.requires.whole.few_signals)

pub number_uses-requires-clause-order : goal.number_uses-requires-clause-order
number_uses-requires-clause-order c =
    let draft = c.args.draft.now in
    let inputs = c.len.ensures ∙ ap length c.in_ok-add_inputs.ensures ∙ length-map (flat_map input_names (lines_in draft)) input_signal in
    c.as_slice.ensures
    ∙ c.in_ok-order.ensures
    ∙ order_is (lines_in draft) c.len.result (subst AreOnce (sym c.requires.whole.drives) c.requires.whole.once) inputs
    ∙ ap (numbers (names_of (lines_in draft))) c.requires.whole.drives
