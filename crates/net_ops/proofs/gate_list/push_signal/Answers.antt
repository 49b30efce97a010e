use Rattle.std.proofs.Common.{◌≡◌, ◌∙◌, sym, ap, get_or, Some}
use Rattle.std.proofs.lemmas.{Option.slice_get-get_or, Result.on_ok_weaker}
use Rattle.std.specs.List.{slice_get}
use Rattle.net_ops.proofs.SequenceLemmas.{driver_adds}
use Rattle.net_ops.proofs.gate_list.push_signal.Goals as goal

pub returns : goal.returns
returns g c =
    let read : get_or c.args.net.now.signals c.args.signal c.index-as_slice-signal.result ≡ c.index-as_slice-signal.result = rw (← c.as_slice.ensures) (sym c.index-as_slice-signal.is) in
    let is : slice_get c.args.net.now.signals c.args.signal ≡ Some c.index-as_slice-signal.result = slice_get-get_or _ _ c.index-as_slice-signal.result c.requires.signal ∙ ap Some read in
    on_ok_weaker c.push_driven.result (driver_adds g.W.Wire.answer g.W.Wire.is_form c.args.net.now c.args.timing.now c.args.signal _ _ _ _ is) c.push_driven.ensures
