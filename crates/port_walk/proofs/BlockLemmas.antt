-- From block to block: where a block ends, what room the host has in it, and how the next one begins.
use Rattle.std.proofs.Common.{◌≡◌, ◌∙◌, inl, inr, ℕ, ◌+◌, ◌-◌, ◌*◌, ◌/◌, ◌<◌, ◌≤◌, min, nat_le, [], ◌∷◌, ◌++◌, length, false, sym, ap, subst, refl, arith}
use Rattle.std.proofs.Math.Nat.{min-eq_left, min-eq_right, min-le_left, min-le_right, mul-le-mul_left, mul-lt-mul_of_pos_left, div-le_of_le-mul}
use Rattle.std.proofs.lemmas.{Bool.cases_lt, Bool.Decides.eqb_tells, Bool.Decides.leb_tells, Nat.div-mul-add}
use Rattle.net_defs.specs.{declared.stimulus.Stimulus.Stimulus, Time.cycle_count, Time.turn_count}
use Rattle.image_defs.specs.{declared.image.Image.Image, declared.image.LinkIn.LinkIn, Steps.timing_of, Ports.View, Ports.at_first}
use Rattle.port_bank.specs.Runs.{HasRoom}
use Rattle.port_walk.specs.Placed.{PlacedPort, CanGoOn, CanPut, HasPut, HasTaken, IsReceiving, block_end}
use Rattle.port_walk.specs.{declared.any_port.AnyPort.TheInside.Inside, Blocks.placed, Blocks.view_of, Blocks.IsKept, Kinds.rows_of}
use Rattle.port_walk.specs.{Walks.Walked, Walks.HasRowRoom, code.Enters.given_up, code.Enters.rests_no_more}
use Rattle.port_walk.specs.Walks as walks

pub le_late : (turn until : ℕ) → until < turn → nat_le turn until ≡ false
le_late turn until late = elim (leb_tells turn until) [
  | inl h ↦ let low = h.1 in absurd (omega arith)
  | inr h ↦ h.0
]

-- ---- the end of a block

module _ (image : Image) (stimulus : Stimulus) (first window : ℕ) where
  pub end_low : block_end image stimulus first window ≤ turn_count (timing_of image) stimulus
  end_low = mul-le-mul_left image.units (min-le_right (first + window) (cycle_count stimulus))

  -- a block after which there are turns has as many cycles as it can
  pub is_whole : block_end image stimulus first window < turn_count (timing_of image) stimulus → first + window < cycle_count stimulus
  is_whole more = elim (cases_lt (first + window) (cycle_count stimulus)) [
    | inl below ↦ below
    | inr past ↦ absurd (omega (arith, more, ap (λ n. image.units * n) (min-eq_right past)))
  ]

  module _ (below : first + window < cycle_count stimulus) where
    pub whole_end : block_end image stimulus first window ≡ (first + window) * image.units
    whole_end = ap (λ n. image.units * n) (min-eq_left (omega (arith, below))) ∙ omega arith

    pub next_is_later : 1 ≤ image.units → 1 ≤ window → block_end image stimulus first window < block_end image stimulus (first + window) window
    next_is_later units some = mul-lt-mul_of_pos_left (omega (arith, below, some)) units

-- ---- the host's rows

room_in : {S : Type 0} (view : View S) (p first window cycles : ℕ) → view.turn ≤ view.image.units * min (first + window) cycles → HasRoom (rows_of view.image p (window, first)) view
room_in view p first window cycles early = elim (eqb_tells (p + 1) (length view.image.ports)) [
  | inl h ↦ rw h.0 room
  | inr h ↦ rw h.0 tt
] where
  room : (view.turn + 1 - 1) / view.image.units ≤ first + window
  room =
      let few : view.turn ≤ view.image.units * (first + window) = omega (arith, early, mul-le-mul_left view.image.units (min-le_left (first + window) cycles)) in
      let done : view.turn / view.image.units ≤ first + window = div-le_of_le-mul view.image.units few in
      let back : view.turn + 1 - 1 ≡ view.turn = omega arith in
      let then : (view.turn + 1 - 1) / view.image.units ≡ view.turn / view.image.units = ap (λ t. t / view.image.units) back in
      omega (arith, done, then)

-- in its block the host has room for the row of its turn
pub has_room : {S : Type 0} (walk : Walked S) (first window cycles : ℕ) → walk.rows ≡ rows_of walk.stand.image walk.stand.port (window, first) → walk.stand.turn ≤ walk.stand.image.units * min (first + window) cycles → HasRowRoom walk
has_room walk first window cycles rows early =
    subst (λ r. HasRowRoom (record walk { rows = r })) (sym rows)
    (room_in (record (at_first walk.stand.image walk.stimulus walk.stand.port) { turn = walk.stand.turn }) walk.stand.port first window cycles early)

-- once a whole block is over the rows of this block are given up
pub given_in : (image : Image) (p first window : ℕ) → given_up (rows_of image p (window, first)) (first + window) ≡ rows_of image p (window, first + window)
given_in image p first window = elim (eqb_tells (p + 1) (length image.ports)) [
  | inl h ↦ rw h.0 refl
  | inr h ↦ rw h.0 refl
]

-- ---- a port at the end of its block

module _ (a : Inside) (kept : IsKept a) (can : CanGoOn (view_of a)) where
  pub block_below : a.first_row + a.window < cycle_count a.walk.stimulus
  block_below = is_whole a.walk.stand.image a.walk.stimulus a.first_row a.window (subst (λ n. n < turn_count (timing_of a.walk.stand.image) a.walk.stimulus) kept.until can.more)

  turn_then : a.walk.stand.turn ≡ (a.first_row + a.window) * a.walk.stand.image.units + 1
  turn_then = can.rests ∙ ap (λ n. n + 1) (kept.until ∙ whole_end a.walk.stand.image a.walk.stimulus a.first_row a.window block_below)

  -- so many cycles are over
  pub rows_over : (a.walk.stand.turn - 1) / a.walk.stand.image.units ≡ a.first_row + a.window
  rows_over =
      let units = a.walk.stand.image.units in
      let before : a.walk.stand.turn - 1 ≡ (a.first_row + a.window) * units + 0 = omega (arith, turn_then) in
      ap (λ n. n / units) before ∙ div-mul-add (a.first_row + a.window) units 0 (omega (arith, kept.image.units.0))

  pub ends_later : a.walk.stand.until < block_end a.walk.stand.image a.walk.stimulus (a.first_row + a.window) a.window
  ends_later = subst (λ n. n < block_end a.walk.stand.image a.walk.stimulus (a.first_row + a.window) a.window) (sym kept.until)
      (next_is_later a.walk.stand.image a.walk.stimulus a.first_row a.window block_below kept.image.units.0 kept.some)

  module _ (until : ℕ) (is : until ≡ a.units * min (a.first_row + a.window + a.window) a.cycles) where
    pub until_next : until ≡ block_end a.walk.stand.image a.walk.stimulus (a.first_row + a.window) a.window
    until_next = is ∙ ap (λ u. u * min (a.first_row + a.window + a.window) a.cycles) kept.units ∙ ap (λ n. a.walk.stand.image.units * min (a.first_row + a.window + a.window) n) kept.cycles

    pub gone_kept : (new : Walked Stimulus) → new ≡ rests_no_more a.walk until → IsKept (record a { walk = new; first_row = a.first_row + a.window })
    gone_kept new gone = subst (λ w. IsKept (record a { walk = w; first_row = a.first_row + a.window })) (sym gone) (record {
      image = kept.image;
      stimulus = kept.stimulus;
      units = kept.units;
      cycles = kept.cycles;
      some = kept.some;
      until = until_next;
      rows =
          ap (λ rows. given_up rows ((a.walk.stand.turn - 1) / a.walk.stand.image.units)) kept.rows
          ∙ ap (given_up (rows_of a.walk.stand.image a.walk.stand.port (a.window, a.first_row))) rows_over
          ∙ given_in a.walk.stand.image a.walk.stand.port a.first_row a.window;
    })

-- ---- a Put or a Take in a block

module _ (a : Inside) where
  pub put_made : (new : Walked Stimulus) → walks.HasPut a.walk new → (old : PlacedPort) → view_of a ≡ old → HasPut old (placed a.window a.first_row new)
  put_made new made old seen = subst (λ o. HasPut o (placed a.window a.first_row new)) seen (record { each = λ i link sending. ap (placed a.window a.first_row) (made.each i link sending) })

  pub take_made : (new : Walked Stimulus) → walks.HasTaken a.walk new → (old : PlacedPort) → view_of a ≡ old → HasTaken old (placed a.window a.first_row new)
  take_made new made old seen = subst (λ o. HasTaken o (placed a.window a.first_row new)) seen (record { each = λ j link receiving. ap (placed a.window a.first_row) (made.each j link receiving) })

  module _ (kept : IsKept a) where
    kept_at : (new then : Walked Stimulus) → new ≡ then → IsKept (record a { walk = then }) → IsKept (record a { walk = new })
    kept_at new then is = subst (λ w. IsKept (record a { walk = w })) (sym is)

    still : (walk : Walked Stimulus) → IsKept (record a { walk = record a.walk { stand = record a.walk.stand { turn = walk.stand.turn; puts = walk.stand.puts; takes = walk.stand.takes } } })
    still walk = record { image = kept.image; stimulus = kept.stimulus; units = kept.units; cycles = kept.cycles; some = kept.some; until = kept.until; rows = kept.rows }

    pub put_kept : CanPut (view_of a) → (new : Walked Stimulus) → walks.HasPut a.walk new → IsKept (record a { walk = new })
    put_kept can new made =
        let is = made.each can.i can.link can.sending in
        kept_at new _ is (still (record a.walk { stand = record a.walk.stand { puts = a.walk.stand.puts ++ can.link.slot ∷ [] } }))

    pub take_kept : (j : ℕ) (link : LinkIn) → IsReceiving (view_of a) j link → (new : Walked Stimulus) → walks.HasTaken a.walk new → IsKept (record a { walk = new })
    take_kept j link receiving new made =
        kept_at new _ (made.each j link receiving) (still (record a.walk { stand = record a.walk.stand { takes = a.walk.stand.takes ++ link.slot ∷ [] } }))
