-- The first place of a port, and the first printed source, that isn't as it is claimed.
use Rattle.std.specs.Prelude.{◌≡◌, ℕ, ◌<◌, List, length, Some, slice_get}
use Rattle.node_defs.specs.declared.items.{Tag.TheVariants.This, Feed.TheVariants.From, NodeNet.NodeNet}
use Rattle.image_defs.specs.Places.{IsPort, IsItemIn, printed_of, host_of}
use Rattle.image_defs.specs.{declared.image.Source.Source, declared.image.PortImage.PortImage, declared.image.Image.Image, Matches.ImplementsClaim}
use Rattle.image_defs.specs.Claimed.{lists_of, PlaceMatches}
use Rattle.image_check.specs.{declared.claims.OnePort.OnePort, code.OnePorts.CarriesAt}

-- item number i of the port is as item x
abbrev pub AsClaimed : OnePort → NodeNet → ℕ → ℕ → Type 0
AsClaimed one nodes i x = ImplementsClaim one.file.now.image (lists_of one.file.now.claims) nodes one.number i x one.port.now

-- by these claims each item of the port is as it claims, and item number k is the first that isn't
abbrev pub AllAsClaimed : OnePort → NodeNet → List ℕ → Type 0
AllAsClaimed one nodes claims = (i x : ℕ) → slice_get claims i ≡ Some x → AsClaimed one nodes i x

pub record IsFirstOther (one : OnePort) (nodes : NodeNet) (claims : List ℕ) (k : ℕ) : Type 0 where
  pub x : ℕ
  pub is : slice_get claims k ≡ Some x
  pub differs : AsClaimed one nodes k x → ⊥
  pub before : (i y : ℕ) → i < k → slice_get claims i ≡ Some y → AsClaimed one nodes i y

-- the first slot of port p whose place doesn't match
pub record IsFirstSlot (image : Image) (claims : List (List ℕ)) (nodes : NodeNet) (p slot : ℕ) : Type 0 where
  pub port : PortImage
  pub is : IsPort image p port
  pub i : ℕ
  pub stands : IsItemIn port.work i slot
  pub differs : PlaceMatches image claims nodes p slot → ⊥
  pub before : (other : ℕ) → other < slot → PlaceMatches image claims nodes p other

-- printed source j carries item j of this turn, and source j is the first that doesn't
abbrev pub PrintsAt : OnePort → List Source → List ℕ → ℕ → Type 0
PrintsAt one printed items j = (x : ℕ) (source : Source) → slice_get printed j ≡ Some source → slice_get items j ≡ Some x → CarriesAt one source (From x This)

pub record IsFirstUnprinted (one : OnePort) (printed : List Source) (items : List ℕ) (j : ℕ) : Type 0 where
  pub within : j < length items
  pub differs : PrintsAt one printed items j → ⊥
  pub before : (k : ℕ) → k < j → PrintsAt one printed items k

-- the host prints so many sources
abbrev pub PrintsAsMany : Image → ℕ → Type 0
PrintsAsMany image count = (host : PortImage) → IsPort image (host_of image) host → length (printed_of host.work) ≡ count
