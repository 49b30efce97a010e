-- What a walk keeps from call to call.
use Rattle.std.proofs.Common.{◌≡◌, ℕ, ◌*◌, ◌-◌, ◌<◌, ◌≤◌, List, slice_get, Some, sym, ap, ◌∙◌, subst, arith}
use Rattle.std.proofs.Math.Nat.{mul-le-mul}
use Rattle.limits.specs.declared.TheConstants.{MAX_CYCLES, MAX_UNITS}
use Rattle.logic_four.specs.declared.V4.{V4}
use Rattle.net_defs.specs.Valid.{IsValidStimulus}
use Rattle.image_defs.specs.Ports.{View, lane_port, last_turn, value_in}
use Rattle.image_defs.specs.{declared.image.LinkOut.LinkOut, Frames.image_value}
use Rattle.event_defs.specs.Next.{IsNext}
use Rattle.port_bank.specs.declared.word.Word as word
use Rattle.port_bank.specs.Runs.{IsLastValue}
use Rattle.port_bank.proofs.lemmas.LaneLemmas.{in_lane}
use Rattle.port_walk.specs.declared.stops.{Stop.Stop, StopKind.TheVariants.Send, StopKind.TheVariants.Receive, StopKind.TheVariants.End}
use Rattle.port_walk.specs.declared.upcoming.Upcoming.{Upcoming, TheVariants.Take, TheVariants.Tell}
use Rattle.port_walk.specs.{Kept.Parts, Kept.view_of, Kept.IsKept, code.Readers.IsNextOfSend, Stands.place_of, Stands.action_of, Stands.IsNextOf}
use Rattle.port_walk.proofs.WalkLemmas.{end_here, last_here, next_sent, receipt_here, same_port_image}

module _ {W P F S : Type 0} (m : word.Ghosts W P F S) where
  -- its turns can be counted
  pub until_low : 0 < m.lanes → (a : Parts W S) → IsKept m a → a.until ≤ MAX_UNITS * MAX_CYCLES
  until_low some a kept =
      let valid : IsValidStimulus (lane_port m.stimulus 0 a.view).stimulus = in_lane m.lanes (λ l. IsValidStimulus (lane_port m.stimulus l a.view).stimulus) kept.valid 0 some in
      let few : a.until ≤ last_turn (lane_port m.stimulus 0 a.view) = in_lane m.lanes (λ l. a.until ≤ last_turn (lane_port m.stimulus l a.view)) kept.few 0 some in
      let most = mul-le-mul kept.image.units.1 valid.cycles in
      omega (arith, few, most)

  module _ (a : Parts W S) (kept : IsKept m a) (stop : Stop) (at : slice_get a.stops a.at ≡ Some stop) where
    -- ---- the next event

    module _ (known : List ℕ) (banks : ℕ) (early : a.turn ≤ a.until) where
      next_of : (next : Upcoming) → ((value : ℕ → V4) → IsNext a.port_image (place_of (view_of a).stand known) banks a.until value (action_of value next)) → IsNextOf (view_of a).stand known banks next
      next_of next is_next = record {
        each = λ value port_image is. subst (λ s. IsNext s (place_of (view_of a).stand known) banks a.until value (action_of value next)) (same_port_image m kept port_image is) (is_next value);
      }

      pub next_take : stop.kind ≡ Receive → IsNextOf (view_of a).stand known banks (Take stop.slot)
      next_take kind = let next = receipt_here m kept stop at kind in next_of (Take stop.slot) (λ value. (early, record { j = a.took; link = next.0; slot_is = next.2; receives = next.1 }))

      pub next_tell : stop.kind ≡ End → IsNextOf (view_of a).stand known banks Tell
      next_tell kind = next_of Tell (λ value. (early, end_here m kept stop at kind))

      pub next_put : (readers : List ℕ) (turns : ℕ) (link : LinkOut) (next : Upcoming) → stop.kind ≡ Send → turns ≡ a.turn - banks → slice_get a.port_image.outs a.sent ≡ Some link → readers ≡ link.readers
          → IsNextOfSend readers known turns stop.slot next → IsNextOf (view_of a).stand known banks next
      next_put readers turns link next kind bar is same sends = next_of next (λ value.
          next_sent m kept stop at known a.turn banks a.until value early readers turns link next kind bar is same sends)

    -- the value of the last item is that of the item in the stop's slot
    pub holds_value : (early : a.turn ≤ a.until) (link : LinkOut) → slice_get a.port_image.outs a.sent ≡ Some link → link.slot ≡ stop.slot → (l : ℕ) → l < m.lanes
        → m.lane a.value l ≡ image_value a.view.image (m.stimulus a.view.image.columns a.view.stimulus l) a.turn a.view.port stop.slot
    holds_value early link is slot l low =
        let last = last_here m kept stop at link is slot in
        let one : IsLastValue (lane_port m.stimulus l a.view) (m.lane a.value l) = in_lane m.lanes (λ k. IsLastValue (lane_port m.stimulus k a.view) (m.lane a.value k)) kept.value l low in
        one.each a.port_image last.0 stop.slot kept.port_image (last.1 ∙ sym (kept.executed early stop at)) last.2
        ∙ ap (λ (v : View S). value_in (record (lane_port m.stimulus l a.view) { turn = v.turn }) stop.slot) kept.inner
