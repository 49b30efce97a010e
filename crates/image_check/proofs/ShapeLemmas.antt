-- The slots of the ports.
use Rattle.std.proofs.Common.{◌≡◌, ℕ, ◌+◌, ◌<◌, get_or, List, [], ◌∷◌, ◌++◌, length, Some, slice_get, sym, subst, refl, arith}
use Rattle.std.proofs.lemmas.{List.length_push, Option.slice_get_within, Option.slice_get-get_or}
use Rattle.list_laws.proofs.Places.{one_there, indexed}
use Rattle.image_defs.specs.declared.image.PortImage.{PortImage}
use Rattle.image_check.specs.{declared.shapes.Shape.Shape, code.Shapes.IsShapeOf, code.Shapes.AreShapesOf}
use Rattle.image_check.proofs.lemmas.EachLemmas.{each_pushed}

-- the slots of the first n ports
abbrev pub ShapesBelow : List PortImage → ℕ → List Shape → Type 0
ShapesBelow ports n shapes =
    (length shapes ≡ n)
    × ((p : ℕ) (port : PortImage) (shape : Shape) → slice_get ports p ≡ Some port → slice_get shapes p ≡ Some shape → IsShapeOf port shape)

pub shapes_more : (ports : List PortImage) (shapes : List Shape) (n : ℕ) (here : PortImage) (shape : Shape) (grown : List Shape) → ShapesBelow ports n shapes → slice_get ports n ≡ Some here → IsShapeOf here shape
    → grown ≡ shapes ++ shape ∷ [] → ShapesBelow ports (n + 1) grown
shapes_more ports shapes n here shape grown (long, each) is right are = rw are (omega (arith, long, length_push shapes shape), more) where
  Right : ℕ → Shape → Type 0
  Right p other = (port : PortImage) → slice_get ports p ≡ Some port → IsShapeOf port other

  more : (p : ℕ) (port : PortImage) (other : Shape) → slice_get ports p ≡ Some port → slice_get (shapes ++ shape ∷ []) p ≡ Some other → IsShapeOf port other
  more p port other at stands =
      each_pushed Right n shapes shape long (λ q one there port at. each q port one at there) (λ port at. subst (λ q. IsShapeOf q shape) (one_there ports n n here port refl is at) right) p other stands port at

-- the slots of the port at a place, both read there
pub shape_at : (ports : List PortImage) (shapes : List Shape) (p : ℕ) (port : PortImage) (shape : Shape) → AreShapesOf ports shapes → p < length ports → port ≡ get_or ports p port → shape ≡ get_or shapes p shape → IsShapeOf port shape
shape_at ports shapes p port shape are within here there =
    are.each p port shape (indexed ports ports p port refl within here) (indexed shapes shapes p shape refl (omega (arith, within, are.as_many)) there)

-- the same, where the ports are read in a slice of them
pub shape_of_port : (ports slice : List PortImage) (shapes : List Shape) (p : ℕ) (port : PortImage) (shape : Shape) → AreShapesOf ports shapes → slice ≡ ports → p < length slice → port ≡ get_or slice p port → shape ≡ get_or shapes p shape → IsShapeOf port shape
shape_of_port ports slice shapes p port shape are same = shape_at slice shapes p port shape (subst (λ xs. AreShapesOf xs shapes) (sym same) are)

-- the same, where the port is known to stand at the place
pub shape_read : (ports : List PortImage) (shapes : List Shape) (p : ℕ) (port : PortImage) (d : Shape) → AreShapesOf ports shapes → slice_get ports p ≡ Some port → IsShapeOf port (get_or shapes p d)
shape_read ports shapes p port d are is = let low = slice_get_within ports p port is in are.each p port (get_or shapes p d) is (slice_get-get_or shapes p d (omega (arith, low, are.as_many)))

pub shape_found : (ports : List PortImage) (shapes : List Shape) (p : ℕ) (port : PortImage) (shape : Shape) → AreShapesOf ports shapes → slice_get ports p ≡ Some port → shape ≡ get_or shapes p shape → IsShapeOf port shape
shape_found ports shapes p port shape are is there = subst (IsShapeOf port) (sym there) (shape_read ports shapes p port shape are is)
