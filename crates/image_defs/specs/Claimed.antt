-- Where the places and the columns of an image match the items that they claim.
use Rattle.std.specs.Prelude.{◌≡◌, ℕ, ◌<◌, ◌⊎◌, List, length, map, Some, slice_get}
use Rattle.net_defs.specs.declared.timing.Timing.{Timing}
use Rattle.node_defs.specs.{declared.items.Tag.TheVariants.This, declared.items.Feed.TheVariants.From, declared.items.NodeNet.NodeNet, WellFormed.column_count}
use Rattle.image_defs.specs.Places.{IsPort, IsItemIn, item_slots, printed_of, host_of}
use Rattle.image_defs.specs.declared.image.{Source.Source, PortImage.PortImage, Image.Image}
use Rattle.image_defs.specs.{Matches.IsClaim, Matches.ImplementsClaim, Matches.Carries, declared.file.PortClaims.PortClaims, declared.file.Claims.Claims}
use Rattle.image_defs.specs.declared.file.ImageFile.{ImageFile}

-- the claims of each port
abbrev pub lists_of : Claims → List (List ℕ)
lists_of claims = map (λ port. port.items) claims.ports

-- there is a claim for each item of each port
pub record HasClaims (file : ImageFile) : Type 0 where
  pub ports : length file.claims.ports ≡ length file.image.ports
  pub items : (p : ℕ) (port : PortImage) (claims : PortClaims) → IsPort file.image p port → slice_get file.claims.ports p ≡ Some claims → length claims.items ≡ length (item_slots port.work)

-- the image has the turns, the initial value and the inputs of the netlist in this timing, and prints as much
pub record HasTiming (image : Image) (nodes : NodeNet) (timing : Timing) : Type 0 where
  pub units : image.units ≡ timing.units
  pub init : image.init ≡ timing.init
  pub columns : image.columns ≡ column_count nodes
  pub printed : (host : PortImage) → IsPort image (host_of image) host → length (printed_of host.work) ≡ length nodes.printed

-- ---- places: an item of a port, by the numbers of the port and of its slot

-- what stands there is as the item that it claims
abbrev pub PlaceMatches : Image → List (List ℕ) → NodeNet → ℕ → ℕ → Type 0
PlaceMatches image claims nodes p slot =
    (i x : ℕ) (port : PortImage) → IsPort image p port → IsItemIn port.work i slot → IsClaim claims p i x → ImplementsClaim image claims nodes p i x port

-- a place before another: of a lower port, or in a lower slot of the same
abbrev pub ComesBefore : ℕ → ℕ → ℕ → ℕ → Type 0
ComesBefore p slot q other = (p < q) ⊎ ((p ≡ q) × (slot < other))

-- it is the first place that doesn't match
pub record IsFirstPlace (image : Image) (claims : List (List ℕ)) (nodes : NodeNet) (p slot : ℕ) : Type 0 where
  pub port : PortImage
  pub is : IsPort image p port
  pub i : ℕ
  pub stands : IsItemIn port.work i slot
  pub differs : PlaceMatches image claims nodes p slot → ⊥
  pub before : (q other : ℕ) → ComesBefore q other p slot → PlaceMatches image claims nodes q other

-- ---- columns: what the host prints

-- the printed source is as the printed item
abbrev pub ColumnMatches : Image → List (List ℕ) → NodeNet → ℕ → Type 0
ColumnMatches image claims nodes j =
    (x : ℕ) (host : PortImage) (source : Source) → IsPort image (host_of image) host → slice_get (printed_of host.work) j ≡ Some source → slice_get nodes.printed j ≡ Some x → Carries image claims (host_of image) host.ins source (From x This)

-- it is the first column that doesn't match
pub record IsFirstColumn (image : Image) (claims : List (List ℕ)) (nodes : NodeNet) (j : ℕ) : Type 0 where
  pub within : j < length nodes.printed
  pub differs : ColumnMatches image claims nodes j → ⊥
  pub before : (k : ℕ) → k < j → ColumnMatches image claims nodes k
