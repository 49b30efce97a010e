use Rattle.std.proofs.{Common.ap, Common.refl, Common.arith, lemmas.Bool.leb-true}
use Rattle.image_defs.specs.Ports.{View}
use Rattle.port_walk.proofs.MoveLemmas.{may_enter, entered_kept}
use Rattle.port_walk.proofs.walk.Walk.new.Goals as goal

pub enter-value-requires : goal.enter-value-requires
enter-value-requires g c =
    let first = c.requires.first in
    may_enter g.W.Word (g.P.Port.seen c.args.port) c.requires.image c.args.port_image.now c.requires.port_image c.args.slots c.args.stops c.requires.slots c.requires.stops c.as_slice-2.result.now c.as_slice-2.ensures c.args.until c.requires.until
    c.as_slice.result.now _ c.as_slice.ensures (ap (λ (v : View _). v.begun) first) (ap (λ (v : View _). v.executed) first)
    (λ runs. let low = leb-true 1 c.args.until runs in let turn = ap (λ (v : View _). v.turn) first in omega (arith, low, turn))

pub invariant_of-result : goal.invariant_of-result
invariant_of-result g c =
    let first = c.requires.first in
    entered_kept g.W.Word (g.P.Port.seen c.args.port) c.requires.image c.args.port_image.now c.requires.port_image c.args.slots c.args.stops c.requires.slots c.requires.stops c.as_slice-2.result.now c.as_slice-2.ensures c.args.until c.requires.until
    _ _ c.args.readers 0 0 0 c.enter-value.result 1 c.requires.valid c.requires.readers refl refl refl (ap (λ (v : View _). v.turn) first) (ap (λ (v : View _). v.received) first) (omega arith) (omega arith)
    c.enter-value.ensures.entered c.enter-value.ensures.last
