use Rattle.std.proofs.Common.{ℕ, ◌∷◌, length, take, ap, arith, length-append}
use Rattle.std.proofs.lemmas.{List.Folds.length-flat_map-take, Grind.common_steps}
use Rattle.std.specs.List.{flat_map}
use Rattle.net_defs.specs.Canonical.{name_of}
use Rattle.seen_list.specs.Filling.{Filling}
use Rattle.trace_text.proofs.line.push_names.Goals as goal

pub push_name-requires : goal.push_name-requires
push_name-requires c =
    let shown = λ (s : ℕ). 32 ∷ name_of c.args.net.now s in
    let numbers = c.as_slice-number-items.result.now in
    let before = flat_map shown (take c.loop-number.number-index numbers) in
    let short = length-flat_map-take shown numbers c.loop-number.number-index 0 c.loop-number-test.true in
    let so_far = c.loop-number.invariant.so_far in
    omega (arith, short, c.requires, ap length c.name_of.ensures, ap (λ (l : Filling). length l.bytes) so_far, ap (λ (l : Filling). l.room) so_far, length-append c.args.line.now.bytes before, ap (λ xs. length (flat_map shown xs)) c.loop-number.invariant.whole)

pub loop-number-preserved : goal.loop-number-preserved
loop-number-preserved c = grind (arith, common_steps)
