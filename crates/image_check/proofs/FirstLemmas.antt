-- The first slot that doesn't match, and an image all of whose places and columns match.
use Rattle.std.proofs.Common.{◌≡◌, ◌↔◌, IsTrue, false, ℕ, ◌+◌, ◌-◌, ◌<◌, ◌≤◌, List, length, get_or, slice_index_or, Some, None, slice_get, Option, inl, inr, refl, sym, ap, ◌∙◌, subst, arith}
use Rattle.std.proofs.lemmas.{Bool.cases_lt, List.length-map, Option.slice_get_within, Option.slice_get-get_or, Option.get_or_from_slice_get}
use Rattle.std.specs.List.Sorted.{IsStrictlyIncreasing}
use Rattle.list_laws.proofs.{Places.one_there, Places.within_some, Places.indexed, Ranges.last_or}
use Rattle.net_defs.specs.declared.timing.Timing.{Timing}
use Rattle.node_defs.specs.declared.items.{Feed.TheVariants.From, NodeNet.NodeNet, Tag.TheVariants.This}
use Rattle.image_defs.specs.Places.{IsPort, IsItemIn, item_slots, host_of}
use Rattle.image_defs.specs.Matches.{IsClaim, ImplementsClaim, PrintsItems, Matches, claims_of}
use Rattle.image_defs.specs.Claimed.{lists_of, HasClaims, HasTiming, PlaceMatches, ColumnMatches, IsFirstPlace}
use Rattle.image_defs.specs.declared.{image.Image.Image, image.PortImage.PortImage, image.Source.Source, file.PortClaims.PortClaims, file.ImageFile.ImageFile}
use Rattle.image_check.specs.code.Differences.{AsClaimed, AllAsClaimed, IsFirstOther, IsFirstSlot, PrintsAt, IsFirstUnprinted}
use Rattle.image_check.specs.declared.{claims.OnePort.OnePort, shapes.Shape.Shape}
use Rattle.image_check.specs.code.{OnePorts.IsOnePort, OnePorts.AreLaidOut, OnePorts.CarriesAt, Shapes.IsShapeOf}
use Rattle.image_check.proofs.{ClaimLemmas.claims_there, lemmas.EachLemmas.EachAtBelow, lemmas.EachLemmas.each_at_more, SearchLemmas.rises_far}
use Rattle.image_check.proofs.ShapeLemmas.{shape_found}

-- slots rise, so the least slot is that of the first item
pub first_slot_by : (one : OnePort) (nodes : NodeNet) (claims slots : List ℕ) (k : ℕ) → IsOnePort one → claims ≡ claims_of (lists_of one.file.now.claims) one.number → slots ≡ item_slots one.port.now.work → length claims ≡ length slots → IsFirstOther one nodes claims k
    → IsFirstSlot one.file.now.image (lists_of one.file.now.claims) nodes one.number (slice_index_or slots k 0)
first_slot_by one nodes claims slots k is-one claims-are slots-are as_many first = record { port = one.port.now; is = is-one.is; i = k; stands = stands; differs = differs; before = before } where
  here : slice_get slots k ≡ Some (get_or slots k 0)
  here = let low = slice_get_within claims k first.x first.is in slice_get-get_or slots k 0 (omega (arith, low, as_many))

  stands : IsItemIn one.port.now.work k (get_or slots k 0)
  stands = subst (λ (xs : List ℕ). slice_get xs k ≡ Some (get_or slots k 0)) slots-are here

  claim : IsClaim (lists_of one.file.now.claims) one.number k first.x
  claim = subst (λ (xs : List ℕ). slice_get xs k ≡ Some first.x) claims-are first.is

  differs : PlaceMatches one.file.now.image (lists_of one.file.now.claims) nodes one.number (get_or slots k 0) → ⊥
  differs all = first.differs (all k first.x one.port.now is-one.is stands claim)

  up : IsStrictlyIncreasing slots
  up = subst IsStrictlyIncreasing (sym slots-are) ((is-one.laid.rising one.number one.port.now is-one.is).items)

  same : (port : PortImage) → IsPort one.file.now.image one.number port → port ≡ one.port.now
  same port is = one_there one.file.now.image.ports one.number one.number port one.port.now refl is is-one.is

  earlier : (other i : ℕ) → other < get_or slots k 0 → slice_get slots i ≡ Some other → i < k
  earlier other i low at = elim (cases_lt i k) [
    | inl less ↦ less
    | inr more ↦
        let within = slice_get_within slots i other at in
        let far = rises_far slots up k i (omega (arith, more)) within in
        let read = get_or_from_slice_get slots i other 0 at in
        absurd (omega (arith, far, read, low))
  ]

  before : (other : ℕ) → other < get_or slots k 0 → PlaceMatches one.file.now.image (lists_of one.file.now.claims) nodes one.number other
  before other low i y port is at claimed =
      let e = same port is in
      let there : slice_get slots i ≡ Some other = ap (λ (xs : List ℕ). slice_get xs i) (slots-are ∙ ap (λ (q : PortImage). item_slots q.work) (sym e)) ∙ at in
      let kept = first.before i y (earlier other i low there) (subst (λ (xs : List ℕ). slice_get xs i ≡ Some y) (sym claims-are) claimed) in
      subst (λ (q : PortImage). ImplementsClaim one.file.now.image (lists_of one.file.now.claims) nodes one.number i y q) (sym e) kept

-- where all items of a port are as they claim, all of its places match
pub no_slot_by : (one : OnePort) (nodes : NodeNet) (claims : List ℕ) → IsOnePort one → claims ≡ claims_of (lists_of one.file.now.claims) one.number → AllAsClaimed one nodes claims → (slot : ℕ) → PlaceMatches one.file.now.image (lists_of one.file.now.claims) nodes one.number slot
no_slot_by one nodes claims is-one claims-are all slot i x port is at claimed =
    let same : one.port.now ≡ port = one_there one.file.now.image.ports one.number one.number one.port.now port refl is-one.is is in
    subst (λ (q : PortImage). ImplementsClaim one.file.now.image (lists_of one.file.now.claims) nodes one.number i x q) same (all i x (subst (λ (xs : List ℕ). slice_get xs i ≡ Some x) (sym claims-are) claimed))

-- a port, its claims and its slots, each read at the port's place
pub port_read : (file : ImageFile) (shapes : List Shape) (p : ℕ) (ports : List PortImage) (port : PortImage) (lists : List PortClaims) (claims : PortClaims) (shape : Shape) → AreLaidOut file.image shapes → HasClaims file → p < length shapes
    → ports ≡ file.image.ports → port ≡ get_or ports p port → lists ≡ file.claims.ports → claims ≡ get_or lists p claims → shape ≡ get_or shapes p shape
    → IsPort file.image p port × (slice_get file.claims.ports p ≡ Some claims) × IsShapeOf port shape
port_read file shapes p ports port lists claims shape laid has within ports-are port-is lists-are claims-are shape-is = (at, there, shape_found file.image.ports shapes p port shape laid.are at shape-is) where
  at : IsPort file.image p port
  at = let long = ap length ports-are in indexed ports file.image.ports p port ports-are (omega (arith, within, laid.are.as_many, long)) port-is

  there : slice_get file.claims.ports p ≡ Some claims
  there = let long = ap length lists-are in indexed lists file.claims.ports p claims lists-are (omega (arith, within, laid.are.as_many, has.ports, long)) claims-are

-- the host is the last port
pub host_there : (image : Image) (ports : List PortImage) (host : PortImage) → ports ≡ image.ports → 1 ≤ length image.ports → host ≡ get_or ports (length ports - 1) host → IsPort image (host_of image) host
host_there image ports host same some is =
    let long = ap length same in
    subst (λ n. slice_get image.ports n ≡ Some host) (ap (λ (xs : List PortImage). length xs - 1) same) (indexed ports image.ports (length ports - 1) host same (omega (arith, some, long)) is)

-- the claims of a port are as many as its items
claims_as_many : (file : ImageFile) → HasClaims file → (p : ℕ) (port : PortImage) → IsPort file.image p port → length (claims_of (lists_of file.claims) p) ≡ length (item_slots port.work)
claims_as_many file has p port is = of_option (slice_get file.claims.ports p) refl where
  within : p < length file.claims.ports
  within = let low = slice_get_within file.image.ports p port is in omega (arith, low, has.ports)

  of_option : (o : Option PortClaims) → slice_get file.claims.ports p ≡ o → length (claims_of (lists_of file.claims) p) ≡ length (item_slots port.work)
  of_option None none = absurd (within_some file.claims.ports p within none)
  of_option (Some claims) there = ap length (claims_there file.claims p claims (sym there)) ∙ has.items p port claims is there

-- all places and all columns match
pub all_match : (file : ImageFile) (nodes : NodeNet) (timing : Timing) → HasClaims file → HasTiming file.image nodes timing → ((p slot : ℕ) → PlaceMatches file.image (lists_of file.claims) nodes p slot)
    → ((j : ℕ) → ColumnMatches file.image (lists_of file.claims) nodes j) → Matches file.image (lists_of file.claims) nodes timing
all_match file nodes timing has times places columns = record {
  units = times.units;
  init = times.init;
  columns = times.columns;
  ports = length-map file.claims.ports (λ (q : PortClaims). q.items) ∙ has.ports;
  as_many = claims_as_many file has;
  items = items;
  printed = printed;
} where
  items : (p i x : ℕ) (port : PortImage) → IsPort file.image p port → IsClaim (lists_of file.claims) p i x → ImplementsClaim file.image (lists_of file.claims) nodes p i x port
  items p i x port is claim =
      let low = slice_get_within (claims_of (lists_of file.claims) p) i x claim in
      let many = claims_as_many file has p port is in
      places p (get_or (item_slots port.work) i 0) i x port is (slice_get-get_or (item_slots port.work) i 0 (omega (arith, low, many))) claim

  printed : (host : PortImage) → IsPort file.image (host_of file.image) host → PrintsItems file.image (lists_of file.claims) nodes.printed host
  printed host is = record { as_many = times.printed host is; each = λ j x source at there. columns j x host source is at there }

-- ---- the ports, looked at one after another

-- all places of the first n ports match
abbrev pub PlacesMatch : Image → List (List ℕ) → NodeNet → ℕ → Type 0
PlacesMatch image claims nodes n = (p slot : ℕ) → p < n → PlaceMatches image claims nodes p slot

pub places_more : (image : Image) (claims : List (List ℕ)) (nodes : NodeNet) (n : ℕ) → PlacesMatch image claims nodes n → ((slot : ℕ) → PlaceMatches image claims nodes n slot) → PlacesMatch image claims nodes (n + 1)
places_more image claims nodes n before here p slot low = elim (last_or p n low) [
  | inl less ↦ before p slot less
  | inr same ↦ subst (λ q. PlaceMatches image claims nodes q slot) (sym same) (here slot)
]

pub places_all : (image : Image) (claims : List (List ℕ)) (nodes : NodeNet) (n : ℕ) → length image.ports ≤ n → PlacesMatch image claims nodes n → (p slot : ℕ) → PlaceMatches image claims nodes p slot
places_all image claims nodes n all so_far p slot i x port is = let low = slice_get_within image.ports p port is in so_far p slot (omega (arith, low, all)) i x port is

pub first_place_at : (image : Image) (claims : List (List ℕ)) (nodes : NodeNet) (p slot : ℕ) → PlacesMatch image claims nodes p → IsFirstSlot image claims nodes p slot → IsFirstPlace image claims nodes p slot
first_place_at image claims nodes p slot earlier first = record {
  port = first.port;
  is = first.is;
  i = first.i;
  stands = first.stands;
  differs = first.differs;
  before = λ q other comes. elim comes [
    | inl low ↦ earlier q other low
    | inr here ↦ subst (λ r. PlaceMatches image claims nodes r other) (sym here.0) (first.before other here.1)
  ];
}

-- ---- the items of a port, looked at one after another

pub claimed_more : (one : OnePort) (nodes : NodeNet) (claims : List ℕ) (k : ℕ) → k < length claims → EachAtBelow (AsClaimed one nodes) k claims → AsClaimed one nodes k (get_or claims k 0) → EachAtBelow (AsClaimed one nodes) (k + 1) claims
claimed_more one nodes claims k within before here = each_at_more (AsClaimed one nodes) k claims (get_or claims k 0) before (slice_get-get_or claims k 0 within) here

pub first_other_at : (one : OnePort) (nodes : NodeNet) (claims : List ℕ) (k : ℕ) → k < length claims → EachAtBelow (AsClaimed one nodes) k claims → IsTrue false ↔ AsClaimed one nodes k (get_or claims k 0) → IsFirstOther one nodes claims k
first_other_at one nodes claims k within before said = record {
  x = get_or claims k 0;
  is = slice_get-get_or claims k 0 within;
  differs = λ is. (let f : IsTrue false = said.1 is in cc);
  before = before;
}

-- ---- the printed sources, looked at one after another

pub prints_more : (one : OnePort) (printed : List Source) (items : List ℕ) (j : ℕ) (d : Source) → j < length items → length printed ≡ length items → ((k : ℕ) → k < j → PrintsAt one printed items k) → CarriesAt one (get_or printed j d) (From (get_or items j 0) This)
    → (k : ℕ) → k < j + 1 → PrintsAt one printed items k
prints_more one printed items j d within as_many before here k low x source at there = elim (last_or k j low) [
  | inl less ↦ before k less x source at there
  | inr same ↦
      let s : get_or printed j d ≡ source = one_there printed j k (get_or printed j d) source (sym same) (slice_get-get_or printed j d (omega (arith, within, as_many))) at in
      let n : get_or items j 0 ≡ x = one_there items j k (get_or items j 0) x (sym same) (slice_get-get_or items j 0 within) there in
      subst (λ (y : ℕ). CarriesAt one source (From y This)) n (subst (λ (z : Source). CarriesAt one z (From (get_or items j 0) This)) s here)
]

pub first_unprinted_at : (one : OnePort) (printed : List Source) (items : List ℕ) (j : ℕ) (d : Source) → j < length items → length printed ≡ length items → ((k : ℕ) → k < j → PrintsAt one printed items k)
    → IsTrue false ↔ CarriesAt one (get_or printed j d) (From (get_or items j 0) This) → IsFirstUnprinted one printed items j
first_unprinted_at one printed items j d within as_many before said = record {
  within = within;
  differs = λ at. (let f : IsTrue false = said.1 (at (get_or items j 0) (get_or printed j d) (slice_get-get_or printed j d (omega (arith, within, as_many))) (slice_get-get_or items j 0 within)) in cc);
  before = before;
}

pub all_printed : (one : OnePort) (printed : List Source) (items : List ℕ) (n : ℕ) → length items ≤ n → ((k : ℕ) → k < n → PrintsAt one printed items k) → (j : ℕ) → PrintsAt one printed items j
all_printed one printed items n all so_far j x source at there = let low = slice_get_within items j x there in so_far j (omega (arith, low, all)) x source at there
