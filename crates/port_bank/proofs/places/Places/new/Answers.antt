use Rattle.std.proofs.Common.{◌≡◌}
use Rattle.logic_four.specs.declared.V4.TheVariants.{Undef}
use Rattle.port_bank.proofs.{lemmas.LaneLemmas.in_lane, LanePlaces.blank_right}
use Rattle.port_bank.proofs.places.Places.new.Goals as goal

pub returns : goal.returns
returns g c =
    blank_right g.W.Word.lane g.W.Word.lanes c.args.slots c.of.result c.in_ok-flat.flat c.add_twice.new.flat c.add_twice-2.new.flat c.add_twice-3.new.flat c.add_twice-4.new.flat g.met.W.Word.some
    (in_lane g.W.Word.lanes (λ l. g.W.Word.lane c.of.result l ≡ Undef) c.of.ensures) c.in_ok-flat.ensures
    c.in_ok-add_twice.ensures c.in_ok-add_twice-2.ensures c.in_ok-add_twice-3.ensures c.in_ok-add_twice-4.ensures
