-- The numbers of sends and of sources.
use Rattle.std.specs.Prelude.{List, Some, length, slice_get, ℕ, ◌<◌, ◌≡◌}
use Rattle.image_defs.specs.declared.image.{Image.Image, LinkIn.LinkIn, LinkOut.LinkOut}
use Rattle.event_defs.specs.{Places.IsSend, Row.send_number, Row.sends_before}

-- for each of the first n ports, how many sends come before it
pub record AreFirsts (image : Image) (n : ℕ) (firsts : List ℕ) : Type 0 where
  pub long : length firsts ≡ n
  pub each : (p : ℕ) → p < n → slice_get firsts p ≡ Some (sends_before image p)

-- the number among all sends of the one that a port receives from by this link
pub record IsSource (image : Image) (link : LinkIn) (n : ℕ) : Type 0 where
  pub i : ℕ
  pub sent : LinkOut
  pub send : IsSend image link.sender i sent
  pub same_slot : sent.slot ≡ link.slot
  pub number : n ≡ send_number image link.sender i

-- those of the first so many links
pub record AreSources (image : Image) (ins : List LinkIn) (n : ℕ) (sources : List ℕ) : Type 0 where
  pub long : length sources ≡ n
  pub each : (j : ℕ) (link : LinkIn) → j < n → slice_get ins j ≡ Some link → (s : ℕ) × (slice_get sources j ≡ Some s) × IsSource image link s
