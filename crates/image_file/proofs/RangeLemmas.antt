-- What a file in range is, port by port.
use Rattle.std.proofs.Common.{◌≡◌, ℕ, zero, suc, ◌≤◌, List, [], ◌∷◌, length, Some, slice_get, subst, refl, All, arith}
use Rattle.std.proofs.lemmas.List.Elements.{All-nil, All-cons, All-head, All-tail}
use Rattle.limits.specs.declared.TheConstants.{MAX_FUNCTIONS, MAX_ARRAY_BITS, MAX_ARRAY}
use Rattle.image_defs.specs.{declared.image.PortImage.PortImage, Places.item_slots, declared.file.PortClaims.PortClaims, declared.file.ImageFile.ImageFile}
use Rattle.image_lines.specs.Ranges.{IsInRange}
use Rattle.image_file.specs.{Files.file_lines, Ranges.tables_of, Ranges.bits_of, Ranges.IsInRanges}
use Rattle.image_file.proofs.DraftLemmas.{AreClosed, closed_lengths, arrays_in}

abbrev HasFewTables : PortImage → Type 0
HasFewTables port = length (tables_of port.work) ≤ MAX_FUNCTIONS

abbrev HasFewBits : PortImage → Type 0
HasFewBits port = bits_of port.work ≤ MAX_ARRAY_BITS

-- there is a claim for each item of each port
abbrev AreClaimed : List PortImage → List PortClaims → Type 0
AreClaimed ports claims =
    (p : ℕ) (port : PortImage) (claim : PortClaims) → slice_get ports p ≡ Some port → slice_get claims p ≡ Some claim → length claim.items ≡ length (item_slots port.work)

claimed_at : (ports : List PortImage) (claims : List PortClaims) → AreClosed ports claims → AreClaimed ports claims
claimed_at [] claims closed p port claim is at = cc
claimed_at (first ∷ ports) [] closed p port claim is at = cc
claimed_at (first ∷ ports) (own ∷ claims) closed zero port claim is at =
    let port_is : first ≡ port = cc in
    let claim_is : own ≡ claim = cc in
    subst (λ (c : PortClaims). length c.items ≡ length (item_slots port.work)) claim_is
    (subst (λ (p : PortImage). length own.items ≡ length (item_slots p.work)) port_is closed.0.items)
claimed_at (first ∷ ports) (own ∷ claims) closed (suc p) port claim is at = claimed_at ports claims closed.1 p port claim is at

few_tables : (ports : List PortImage) (claims : List PortClaims) → AreClosed ports claims → All HasFewTables ports
few_tables [] claims closed = All-nil HasFewTables
few_tables (port ∷ ports) [] closed = absurd closed
few_tables (port ∷ ports) (claim ∷ claims) closed = All-cons HasFewTables port ports closed.0.tables (few_tables ports claims closed.1)

few_bits : (ports : List PortImage) (claims : List PortClaims) → AreClosed ports claims → All HasFewBits ports
few_bits [] claims closed = All-nil HasFewBits
few_bits (port ∷ ports) [] closed = absurd closed
few_bits (port ∷ ports) (claim ∷ claims) closed = All-cons HasFewBits port ports closed.0.bits (few_bits ports claims closed.1)

pub in_ranges : (file : ImageFile) → AreClosed file.image.ports file.claims.ports → arrays_in file.image.ports ≤ MAX_ARRAY → All IsInRange (file_lines file) → IsInRanges file
in_ranges file closed arrays lines = record {
  claims = record {
    ports = closed_lengths file.image.ports file.claims.ports closed;
    items = claimed_at file.image.ports file.claims.ports closed;
  };
  lines = lines;
  arrays = arrays;
  tables = few_tables file.image.ports file.claims.ports closed;
  bits = few_bits file.image.ports file.claims.ports closed;
}

are_closed : (ports : List PortImage) (claims : List PortClaims) → length claims ≡ length ports → AreClaimed ports claims → All HasFewTables ports → All HasFewBits ports → AreClosed ports claims
are_closed [] [] many items tables bits = tt
are_closed [] (claim ∷ claims) many items tables bits = absurd (omega (arith, many))
are_closed (port ∷ ports) [] many items tables bits = absurd (omega (arith, many))
are_closed (port ∷ ports) (claim ∷ claims) many items tables bits = (
  record { items = items zero port claim refl refl; tables = All-head HasFewTables port ports tables; bits = All-head HasFewBits port ports bits },
  are_closed ports claims (omega (arith, many)) (λ p. items (suc p)) (All-tail HasFewTables port ports tables) (All-tail HasFewBits port ports bits),
)

pub closed_from : (file : ImageFile) → IsInRanges file → AreClosed file.image.ports file.claims.ports
closed_from file is = are_closed file.image.ports file.claims.ports is.claims.ports is.claims.items is.tables is.bits
