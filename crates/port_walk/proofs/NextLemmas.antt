-- What comes next of a plain port, whose Puts have values.
use Rattle.std.proofs.Common.{◌≡◌, ◌∙◌, ℕ, List, ap, subst}
use Rattle.logic_four.specs.declared.V4.{V4}
use Rattle.image_defs.specs.{declared.image.LinkOut.LinkOut, Frames.image_value}
use Rattle.event_defs.specs.declared.place.Action.TheVariants as action
use Rattle.port_walk.specs.declared.{any_port.AnyPort.TheInside.Inside, upcoming.Upcoming.Upcoming, upcoming.Upcoming.TheVariants.Put}
use Rattle.port_walk.specs.{Blocks.view_of, Placed.PlacedPort, Placed.IsNextOf, Stands.IsSending, Stands.action_of}
use Rattle.port_walk.specs.Stands as stands

module _ (a : Inside) (view : PlacedPort) (seen : view_of a ≡ view) (known : List ℕ) (banks : ℕ) (result : Upcoming) (next : stands.IsNextOf a.walk.stand known banks result) where
  -- the values that it has in the slots of its turn
  abbrev values : ℕ → V4
  values = image_value a.walk.stand.image a.walk.stimulus a.walk.stand.turn a.walk.stand.port

  pub next_of : (is : Upcoming) → result ≡ is → IsNextOf view known banks (action_of values is)
  next_of is same = subst (λ v. IsNextOf v known banks (action_of values is)) seen (record { each = (subst (stands.IsNextOf a.walk.stand known banks) same next).each values })

  pub next_put : (slot : ℕ) (v : V4) → result ≡ Put slot → ((i : ℕ) (link : LinkOut) → IsSending a.walk.stand i link → v ≡ values link.slot) → IsNextOf view known banks (action.Put slot v)
  next_put slot v same value = subst (λ p. IsNextOf p known banks (action.Put slot v)) seen (record {
    each = λ port_image at.
        let put = (subst (stands.IsNextOf a.walk.stand known banks) same next).each values port_image at in
        (put.0, put.1, value put.1.i put.1.link (record { early = put.0; port_image = port_image; is = at; next = put.1.sends }) ∙ ap values put.1.slot_is);
  })
