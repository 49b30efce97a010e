use Rattle.std.proofs.Common.{◌≡◌, ◌<◌, set, subst, sym}
use Rattle.port_bank.specs.Places.{count, in_lane}
use Rattle.port_bank.proofs.LanePlaces.{set_value}
use Rattle.port_bank.proofs.places.Places.set.Goals as goal

pub returns-clause-lanes : goal.returns-clause-lanes
returns-clause-lanes g c l low =
    subst (λ t. in_lane g.W.Word.lane l (record { flat = c.set.new.self; second = c.self.inside.second }) ≡ record (in_lane g.W.Word.lane l t) { this = set (in_lane g.W.Word.lane l t).this c.args.place (g.W.Word.lane c.args.v l) }) c.self.view_is
    (rw (c.set.ensures, c.number_of.ensures)
    (set_value g.W.Word.lane l c.self.inside.flat c.self.inside.second c.args.place c.args.v c.self.invariant (subst (λ t. c.args.place < count t) (sym c.self.view_is) c.requires)))
