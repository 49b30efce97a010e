use Rattle.std.proofs.Common.{◌≡◌, ℕ, ◌+◌, ◌<◌, List, [], ◌∷◌, ◌++◌, append_assoc, map, take, length, get_or, sym, ap, ◌∙◌, refl, arith}
use Rattle.bench_read.proofs.Common.{map_push, take_more, length-map, length-take-le, DrivenName, bit_signals}
use Rattle.list_laws.proofs.Maps.{enumerate_push}
use Rattle.net_defs.specs.declared.netlist.Driver.TheVariants as driver
use Rattle.bench_read.proofs.netlist.push_bits.Goals as goal

-- one bit more of a memory
bits_more : (m i : ℕ) (outs : List DrivenName) (d : DrivenName) → i < length outs
    → bit_signals m (map (λ o. o.name.now) (take (i + 1) outs)) ≡ bit_signals m (map (λ o. o.name.now) (take i outs)) ++ record { name = (get_or outs i d).name.now; driver = driver.BlockBit m i } ∷ []
bits_more m i outs d within =
    let at : 0 + length (take i outs) ≡ i = omega (arith, length-take-le i outs (omega arith)) in
    rw (take_more outs i d within) (simp (map_push, enumerate_push, length-map, at) refl)

pub loop-bit-preserved : goal.loop-bit-preserved
loop-bit-preserved c =
    let more = bits_more c.args.block c.loop-bit.bit c.args.outs.now _ (omega arith) in
    rw (c.in_ok-push_signal.ensures, c.loop-bit.invariant) (append_assoc c.args.signals.now _ _ ∙ ap (λ bits. c.args.signals.now ++ bits) (sym more))
