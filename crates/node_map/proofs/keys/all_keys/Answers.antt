use Rattle.std.proofs.Common.{◌≡◌, ◌∙◌, ◌++◌, length, ap, subst, arith}
use Rattle.std.proofs.Math.Numerals.{add-one}
use Rattle.node_map.specs.code.Places.{keys_of, keys_to}
use Rattle.node_map.proofs.keys.all_keys.Goals as goal

pub signals-preserved : goal.signals-preserved
signals-preserved c =
    rw add-one (c.in_ok-push_keys.ensures ∙ ap (λ ks. ks ++ keys_of c.args.net.now c.args.timing.now c.args.own.now c.signals.signal) c.signals.invariant)

pub returns : goal.returns
returns c =
    let whole : c.signals.signal ≡ length c.args.net.now.signals = omega (arith, c.signals-test.false, c.signals.auto.signal-end, c.len-signal-end.ensures) in
    subst (λ n. c.signals.keys.items ≡ keys_to c.args.net.now c.args.timing.now c.args.own.now n) whole c.signals.invariant
