-- One port of an image with claims, as the check sees it.
use Rattle.std.specs.Prelude.{◌≡◌, ℕ, List, Some, slice_get}
use Rattle.func_table.specs.{declared.table.Table.Table, Entries.AreAlike}
use Rattle.node_defs.specs.declared.items.{Feed.Feed, Feeds.Feeds}
use Rattle.image_defs.specs.{declared.image.Source.Source, declared.image.Image.Image, Places.IsPort, Matches.IsClaim, Matches.ClaimsIn, Matches.Carries}
use Rattle.image_defs.specs.Claimed.{lists_of}
use Rattle.image_check.specs.declared.{shapes.Shape.Shape, claims.OnePort.OnePort, nodes.Operands.Operands}
use Rattle.image_check.specs.code.Shapes.{AreShapesOf, AreRising}

-- these are the slots of the image's ports, and they rise
pub record AreLaidOut (image : Image) (shapes : List Shape) : Type 0 where
  pub are : AreShapesOf image.ports shapes
  pub rising : AreRising image.ports

-- the port is that of its number, in an image whose slots are laid out
pub record IsOnePort (one : OnePort) : Type 0 where
  pub laid : AreLaidOut one.file.now.image one.shapes.now
  pub is : IsPort one.file.now.image one.number one.port.now

-- of these slots one is this slot, and its place in port p claims item x
pub record ClaimedIn (claims : List (List ℕ)) (slots : List ℕ) (p slot x : ℕ) : Type 0 where
  pub i : ℕ
  pub stands : slice_get slots i ≡ Some slot
  pub claimed : IsClaim claims p i x

-- what the item of a port in a slot claims, and what a source of the port carries
abbrev pub ClaimsAt : OnePort → ℕ → ℕ → ℕ → Type 0
ClaimsAt one p slot x = ClaimsIn one.file.now.image (lists_of one.file.now.claims) p slot x

abbrev pub CarriesAt : OnePort → Source → Feed → Type 0
CarriesAt one source feed = Carries one.file.now.image (lists_of one.file.now.claims) one.number one.port.now.ins source feed

-- the table of this number is there, and has the same entries
pub record IsLike (table : Table) (others : List Table) (n : ℕ) : Type 0 where
  pub other : Table
  pub is : slice_get others n ≡ Some other
  pub alike : AreAlike table other

-- both tables are there, and have the same entries
pub record AreSame (tables others : List Table) (t n : ℕ) : Type 0 where
  pub table : Table
  pub is : slice_get tables t ≡ Some table
  pub like : IsLike table others n

-- each of four sources carries its operand
pub record CarryFour (one : OnePort) (sources : Operands) (feeds : Feeds) : Type 0 where
  pub a : CarriesAt one sources.a feeds.a
  pub b : CarriesAt one sources.b feeds.b
  pub c : CarriesAt one sources.c feeds.c
  pub d : CarriesAt one sources.d feeds.d
