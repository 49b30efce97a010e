use Rattle.std.proofs.Common.{◌∙◌, ◌*◌, ◌<◌, ap, subst, sym}
use Rattle.port_bank.specs.{code.Places.numbered, Places.count, Places.in_lane}
use Rattle.port_bank.proofs.LanePlaces.{read_value}
use Rattle.port_bank.proofs.places.Places.value.Goals as goal

pub returns : goal.returns
returns g c l low =
    ap (λ w. g.W.Word.lane w l) (rw (c.as_slice.ensures, c.number_of.ensures) at c.index-as_slice-number.is)
    ∙ read_value g.W.Word.lane l c.self.inside.flat c.self.inside.second c.args.number _ c.self.invariant (subst (λ t. c.args.number < 2 * count t) (sym c.self.view_is) c.requires)
    ∙ ap (λ t. numbered (in_lane g.W.Word.lane l t) c.args.number) c.self.view_is
