-- Beside specs/Sources.antt, what only private functions and proofs cite.
use Rattle.std.specs.Prelude.{List, Some, length, slice_get, ℕ, ◌+◌, ◌<◌, ◌≡◌, ◌≤◌}
use Rattle.image_defs.specs.declared.image.{Image.Image, LinkOut.LinkOut}
use Rattle.event_defs.specs.{Row.sends_before, Sources.AreFirsts}

-- the link of this slot has this number
pub record IsLinkAt (outs : List LinkOut) (slot i : ℕ) : Type 0 where
  pub link : LinkOut
  pub is : slice_get outs i ≡ Some link
  pub slot_is : link.slot ≡ slot

-- the links of this slot stand from one number on and before another
pub record StandsBetween (outs : List LinkOut) (slot low high : ℕ) : Type 0 where
  pub order : low < high
  pub within : high ≤ length outs
  pub each : (i : ℕ) (link : LinkOut) → slice_get outs i ≡ Some link → link.slot ≡ slot → (low ≤ i) × (i < high)

-- so many sends come before the first n ports and before the next one
pub record CountsSends (image : Image) (n sends : ℕ) (firsts : List ℕ) : Type 0 where
  pub firsts_are : AreFirsts image (n + 1) firsts
  pub sends_are : sends ≡ sends_before image n
