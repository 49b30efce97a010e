-- A packed port is the walk within, whose last turn is that of the longest lane.
use Rattle.std.proofs.Common.{◌≡◌, ℕ, ◌*◌, ◌<◌, ◌≤◌, List, sym, ap, subst, arith}
use Rattle.std.proofs.Math.Nat.{min-eq_left}
use Rattle.limits.specs.declared.TheConstants.{LANES}
use Rattle.stim_text.specs.{declared.lanes.Lanes.Lanes, Lanes.longest, Lanes.AreLanes}
use Rattle.stim_text.proofs.lemmas.LaneLemmas.{lane_turns, lane_valid}
use Rattle.net_defs.specs.Valid.{IsValidStimulus}
use Rattle.image_defs.specs.{declared.image.Image.Image, declared.image.LinkIn.LinkIn, Ports.at_first, Ports.last_turn, Steps.timing_of}
use Rattle.port_bank.specs.Packed.{PackPortView, lane_port}
use Rattle.port_walk.specs.{declared.upcoming.Upcoming.Upcoming, Stands.Stand, Walks.Walked, Walks.HasRowRoom}
use Rattle.port_walk.specs.Stands as stands
use Rattle.port_walk.specs.Walks as walks
use Rattle.port_walk.proofs.BlockLemmas.{has_room}
use Rattle.pack_walk.specs.Placed.{PlacedPack, placed, stand_of, value_in, HasPut, HasTaken, IsNextOf}
use Rattle.pack_walk.specs.{declared.placed.PackPlaced.TheInside.Inside, Kept.view_of, Kept.IsKept}

-- ---- before the first turn

module _ (image : Image) (lanes : Lanes) (p : ℕ) (view : PackPortView) (is : view ≡ at_first image lanes p) where
  pub all_valid : AreLanes image.columns lanes → (l : ℕ) → l < LANES → IsValidStimulus (lane_port l view).stimulus
  all_valid are l low = subst (λ (v : PackPortView). IsValidStimulus (lane_port l v).stimulus) (sym is) (lane_valid image.columns lanes l are)

  pub all_turns : (until : ℕ) → until ≡ image.units * longest lanes → (l : ℕ) → l < LANES → until ≤ last_turn (lane_port l view)
  all_turns until last l low = subst (λ (v : PackPortView). until ≤ last_turn (lane_port l v)) (sym is) (omega (arith, last, lane_turns image.columns lanes l (timing_of image)))

-- ---- from call to call

module _ (a : Inside) (kept : IsKept a) where
  pub stand_is : stand_of (view_of a) ≡ a.walk.stand
  stand_is = ap (λ n. record a.walk.stand { until = n }) (sym kept.until)

  pub next_of : (known : List ℕ) (next : Upcoming) → stands.IsNextOf a.walk.stand known 1 next → (view : PlacedPack) → view_of a ≡ view → IsNextOf view known next
  next_of known next is view seen = subst (λ v. IsNextOf v known next) seen (record {
    each = λ l low port_image at. (subst (λ s. stands.IsNextOf s known 1 next) (sym stand_is) is).each (value_in (view_of a) l a.walk.stand.port) port_image at;
  })

  -- the host has room for the row of its turn
  pub room_now : a.walk.stand.turn ≤ a.walk.stand.until → HasRowRoom a.walk
  room_now early =
      let most = longest a.walk.stimulus in
      has_room a.walk 0 most most kept.rows (subst (λ n. a.walk.stand.turn ≤ a.walk.stand.image.units * n) (sym (min-eq_left (omega arith))) (omega (arith, early, kept.until)))

  kept_at : (new then : Walked Lanes) → new ≡ then → IsKept (record a { walk = then }) → IsKept (record a { walk = new })
  kept_at new then is = subst (λ w. IsKept (record a { walk = w })) (sym is)

  pub put_kept : stands.CanPut a.walk.stand → (new : Walked Lanes) → walks.HasPut a.walk new → IsKept (record a { walk = new })
  put_kept can new made = kept_at new _ (made.each can.i can.link can.sending) (record { image = kept.image; until = kept.until; rows = kept.rows })

  pub take_kept : (j : ℕ) (link : LinkIn) → stands.IsReceiving a.walk.stand j link → (new : Walked Lanes) → walks.HasTaken a.walk new → IsKept (record a { walk = new })
  take_kept j link receiving new made = kept_at new _ (made.each j link receiving) (record { image = kept.image; until = kept.until; rows = kept.rows })

  pub put_made : (new : Walked Lanes) → walks.HasPut a.walk new → (old : PlacedPack) → view_of a ≡ old → HasPut old (placed new)
  put_made new made old seen = subst (λ o. HasPut o (placed new)) seen (record {
    each = λ i link sending. ap placed (made.each i link (subst (λ s. stands.IsSending s i link) stand_is sending));
  })

  pub take_made : (new : Walked Lanes) → walks.HasTaken a.walk new → (old : PlacedPack) → view_of a ≡ old → HasTaken old (placed new)
  take_made new made old seen = subst (λ o. HasTaken o (placed new)) seen (record {
    each = λ j link receiving. ap placed (made.each j link (subst (λ s. stands.IsReceiving s j link) stand_is receiving));
  })
