-- Claims of places that are searched for by their slot.
use Rattle.std.proofs.Common.{◌≡◌, ◌↔◌, IsTrue, Bool, false, ℕ, ◌<◌, List, [], length, Option, Some, None, slice_get, refl, sym, ap, ◌∙◌, subst, arith}
use Rattle.std.proofs.lemmas.Option.{slice_get-map, slice_get_within, get_or_from_slice_get, unwrap_or-slice_get}
use Rattle.std.specs.{List.Sorted.IsStrictlyIncreasing, Option.option_map, Option.unwrap_or}
use Rattle.list_laws.proofs.Places.{one_there, within_some}
use Rattle.image_defs.specs.{declared.image.PortImage.PortImage, declared.image.Image.Image, Places.IsPort, Places.item_slots}
use Rattle.image_defs.specs.{Matches.IsClaim, Matches.ClaimsIn, Matches.claims_of, declared.file.PortClaims.PortClaims, declared.file.Claims.Claims}
use Rattle.image_defs.specs.Claimed.{lists_of}
use Rattle.image_check.specs.{declared.shapes.Shape.Shape, code.OnePorts.AreLaidOut, code.OnePorts.ClaimedIn, code.Shapes.IsShapeOf, code.Shapes.IsRising}
use Rattle.image_check.proofs.SearchLemmas.{one_place}

-- the claims of a port
pub claims_there : (claims : Claims) (p : ℕ) (port : PortClaims) → Some port ≡ slice_get claims.ports p → claims_of (lists_of claims) p ≡ port.items
claims_there claims p port there =
    get_or_from_slice_get (lists_of claims) p port.items [] (slice_get-map (λ (q : PortClaims). q.items) claims.ports p ∙ ap (option_map (λ (q : PortClaims). q.items)) (sym there))

-- past the last port there are none
pub claims_none : (claims : Claims) (p place x : ℕ) → None ≡ slice_get claims.ports p → IsTrue false ↔ IsClaim (lists_of claims) p place x
claims_none claims p place x none = (λ f. cc, λ is. absurd (empty is)) where
  gone : slice_get (lists_of claims) p ≡ None
  gone = slice_get-map (λ (q : PortClaims). q.items) claims.ports p ∙ ap (option_map (λ (q : PortClaims). q.items)) (sym none)

  is_nil : claims_of (lists_of claims) p ≡ []
  is_nil = sym (unwrap_or-slice_get (lists_of claims) p []) ∙ ap (λ o. unwrap_or o []) gone

  empty : IsClaim (lists_of claims) p place x → ⊥
  empty is =
      let e : slice_get [] place ≡ Some x = subst (λ (xs : List ℕ). slice_get xs place ≡ Some x) is_nil is in
      let low = slice_get_within {A = ℕ} [] place x e in
      omega (arith, low)

-- the place of a slot is the one that was found
pub claimed_by_place : (claims : List (List ℕ)) (slots found : List ℕ) (p place slot x : ℕ) (r : Bool) → IsStrictlyIncreasing slots → found ≡ slots → slice_get found place ≡ Some slot → IsTrue r ↔ IsClaim claims p place x → IsTrue r ↔ ClaimedIn claims slots p slot x
claimed_by_place claims slots found p place slot x r up same here said = (λ is. record { i = place; stands = at; claimed = said.0 is }, back) where
  at : slice_get slots place ≡ Some slot
  at = subst (λ (xs : List ℕ). slice_get xs place ≡ Some slot) same here

  back : ClaimedIn claims slots p slot x → IsTrue r
  back w = said.1 (subst (λ i. IsClaim claims p i x) (one_place slots w.i place slot up w.stands at) w.claimed)

-- the port of a shape
pub laid_at : (image : Image) (shapes : List Shape) (p : ℕ) (shape : Shape) → AreLaidOut image shapes → Some shape ≡ slice_get shapes p → (port : PortImage) × IsPort image p port × IsShapeOf port shape × IsRising port
laid_at image shapes p shape laid there = of_option (slice_get image.ports p) refl where
  within : p < length image.ports
  within = let low = slice_get_within shapes p shape (sym there) in omega (arith, low, laid.are.as_many)

  of_option : (o : Option PortImage) → slice_get image.ports p ≡ o → (port : PortImage) × IsPort image p port × IsShapeOf port shape × IsRising port
  of_option None none = absurd (within_some image.ports p within none)
  of_option (Some port) is = (port, is, laid.are.each p port shape is (sym there), laid.rising p port is)

pub items_rise : (image : Image) (shapes : List Shape) (p : ℕ) (shape : Shape) → AreLaidOut image shapes → Some shape ≡ slice_get shapes p → IsStrictlyIncreasing shape.items
items_rise image shapes p shape laid there = let at = laid_at image shapes p shape laid there in subst IsStrictlyIncreasing (sym at.2.items) at.3.items

pub claims_by_shape : (image : Image) (claims : List (List ℕ)) (shapes : List Shape) (p slot x : ℕ) (shape : Shape) (r : Bool) → AreLaidOut image shapes → Some shape ≡ slice_get shapes p → IsTrue r ↔ ClaimedIn claims shape.items p slot x → IsTrue r ↔ ClaimsIn image claims p slot x
claims_by_shape image claims shapes p slot x shape r laid there said = (out, back) where
  at : (port : PortImage) × IsPort image p port × IsShapeOf port shape × IsRising port
  at = laid_at image shapes p shape laid there

  out : IsTrue r → ClaimsIn image claims p slot x
  out is = let w = said.0 is in record { i = w.i; port = at.0; is = at.1; stands = subst (λ (xs : List ℕ). slice_get xs w.i ≡ Some slot) at.2.items w.stands; claimed = w.claimed }

  back : ClaimsIn image claims p slot x → IsTrue r
  back w =
      let one : w.port ≡ at.0 = one_there image.ports p p w.port at.0 refl w.is at.1 in
      let slots : item_slots w.port.work ≡ shape.items = ap (λ (q : PortImage). item_slots q.work) one ∙ sym at.2.items in
      said.1 (record { i = w.i; stands = subst (λ (xs : List ℕ). slice_get xs w.i ≡ Some slot) slots w.stands; claimed = w.claimed })

pub claims_no_shape : (image : Image) (claims : List (List ℕ)) (shapes : List Shape) (p slot x : ℕ) → AreLaidOut image shapes → None ≡ slice_get shapes p → IsTrue false ↔ ClaimsIn image claims p slot x
claims_no_shape image claims shapes p slot x laid none = (λ f. cc, λ w. absurd (past w)) where
  past : ClaimsIn image claims p slot x → ⊥
  past w = let low = slice_get_within image.ports p w.port w.is in within_some shapes p (omega (arith, low, laid.are.as_many)) (sym none)
