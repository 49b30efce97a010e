-- The turns that a crew has made, and those that are left.
use Rattle.std.proofs.Common.{ap, arith, ℕ, ◌*◌, ◌+◌, ◌-◌, ◌/◌, ◌^◌, ◌∙◌, ◌≡◌, ◌≤◌}
use Rattle.std.proofs.{Math.Nat.mul-div_cancel_left, Math.Nat.mul-le-mul_left, Math.Nat.mul-zero, lemmas.Nat.mul-le}
use Rattle.image_defs.specs.{WellFormed.IsWellFormed, declared.image.Image.Image}
use Rattle.limits.specs.declared.TheConstants.{MAX_CYCLES, MAX_UNITS}
use Rattle.net_defs.specs.{Time.cycle_count, Valid.IsValidStimulus, declared.stimulus.Stimulus.Stimulus}
use Rattle.slot_words.specs.plain.Words.{turns_of}
use Rattle.machine_run.specs.Crews.{CrewView, at_block_end, at_first, rows_at_end, turns_left, turns_made}

-- a run has few turns
pub turns_few : (image : Image) (stimulus : Stimulus) → IsWellFormed image → IsValidStimulus stimulus → turns_of image stimulus ≤ 2 ^ 62
turns_few image stimulus fits valid = let most : image.units * cycle_count stimulus ≤ MAX_UNITS * MAX_CYCLES = mul-le _ _ _ _ fits.units.1 valid.cycles in omega (arith, most)

-- before its first turn it has made none, and all are left
pub none_made : (image : Image) (stimulus : Stimulus) (workers window : ℕ) → turns_made (at_first image stimulus workers window) ≡ 0
none_made image stimulus workers window = mul-zero image.units

pub all_left : (image : Image) (stimulus : Stimulus) (workers window : ℕ) → turns_left (at_first image stimulus workers window) ≡ turns_of image stimulus
all_left image stimulus workers window = omega (arith, none_made image stimulus workers window)

-- after the last cycle it has made all
pub all_made : (crew : CrewView) → crew.rows ≡ cycle_count crew.stimulus → turns_made crew ≡ turns_of crew.image crew.stimulus
all_made crew all = ap (λ r. crew.image.units * r) all

module _ (crew : CrewView) (few : crew.rows ≤ rows_at_end crew) where
  -- up to the end of the block it makes some more, of all that there are
  pub made_more : turns_made crew ≤ turns_made (at_block_end crew)
  made_more = mul-le-mul_left crew.image.units few

  pub made_few : turns_made (at_block_end crew) ≤ turns_of crew.image crew.stimulus
  made_few = mul-le-mul_left crew.image.units (let end : rows_at_end crew ≤ cycle_count crew.stimulus = omega arith in end)

-- the cycles that are over before a turn
pub rows_before : (units rows turn : ℕ) → 1 ≤ units → turn ≡ units * rows + 1 → (turn - 1) / units ≡ rows
rows_before units rows turn some is = ap (λ t. t / units) (let made : turn - 1 ≡ units * rows = omega (arith, is) in made) ∙ mul-div_cancel_left rows some
