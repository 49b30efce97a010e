use Rattle.std.proofs.{Common.refl, Common.sym, lemmas.Option.cond_some}
use Rattle.machine_text.specs.Quantities.{in_range}
use Rattle.machine_text.proofs.given.take_setting.Goals as goal

pub returns-in_ok-push-in-Some : goal.returns-in_ok-push-in-Some
returns-in_ok-push-in-Some c =
    let allowed = cond_some (in_range c.args.quantity c.args.number.now) _ _ (sym c.in-Some.ensures) in
    (rw (← c.as_slice.ensures, ← c.if-is_set.ensures, allowed.0) refl, rw (c.in_ok-push-in-Some.ensures.ok, allowed.1) refl)
