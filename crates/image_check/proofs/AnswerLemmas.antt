-- Each image matches, or the check has a refusal of it.
use Rattle.std.proofs.Common.{◌⊎◌, inl, inr, ℕ, length}
use Rattle.std.proofs.lemmas.{Bool.cases_eq, Option.slice_get_within}
use Rattle.std.specs.Prelude.{slice_get}
use Rattle.net_defs.specs.declared.timing.Timing.{Timing}
use Rattle.node_defs.specs.declared.items.NodeNet.{NodeNet}
use Rattle.image_defs.specs.Claimed.{lists_of, HasClaims, HasTiming, PlaceMatches, ColumnMatches}
use Rattle.image_defs.specs.{declared.image.PortImage.PortImage, Places.IsPort, Places.IsItemIn, Places.item_slots, WellFormed.IsWellFormed}
use Rattle.image_defs.specs.declared.file.ImageFile.{ImageFile}
use Rattle.image_check.specs.declared.check.CheckNo.TheVariants as no
use Rattle.image_check.specs.{Check.HasAnswer, code.Differences.IsFirstSlot}
use Rattle.image_check.proofs.{FirstLemmas.all_match, FirstLemmas.first_place_at, FormKnown.form_known, FormKnown.stands_known}
use Rattle.list_laws.proofs.Decidable.{decide_some, first_or_all}
use Rattle.image_check.proofs.lemmas.MatchKnown.{place_known, column_known, timing_known}

module _ (file : ImageFile) (nodes : NodeNet) (timing : Timing) where
  -- what stands in a slot of a port
  item_there : (p slot : ℕ) → (PlaceMatches file.image (lists_of file.claims) nodes p slot → ⊥) → (port : PortImage) × IsPort file.image p port × ((i : ℕ) × IsItemIn port.work i slot)
  item_there p slot differs = elim (decide_some (λ (port : PortImage). (i : ℕ) × IsItemIn port.work i slot) (λ port. stands_known cases_eq (item_slots port.work) slot) (slice_get file.image.ports p)) [
    | inl found ↦ found
    | inr none ↦ absurd (differs (λ i x port is stands claimed. absurd (none (port, is, (i, stands)))))
  ]

  -- the first slot of a port that doesn't match, or all match
  slot_or_all : IsWellFormed file.image → (p : ℕ) → ((slot : ℕ) → PlaceMatches file.image (lists_of file.claims) nodes p slot) ⊎ ((slot : ℕ) × IsFirstSlot file.image (lists_of file.claims) nodes p slot)
  slot_or_all formed p = elim (first_or_all Matching (λ slot. Matching slot → ⊥) (place_known file.image (lists_of file.claims) nodes p) file.image.slots) [
    | inl found ↦ (
        let there = item_there p found.0 found.2 in
        inr (found.0, record { port = there.0; is = there.1; i = there.2.0; stands = there.2.1; differs = found.2; before = found.3 }))
    | inr all ↦ inl (λ slot i x port is stands claimed. all slot ((formed.ports p port is).item_slots_within i slot stands) i x port is stands claimed)
  ] where
    Matching : ℕ → Type 0
    Matching = PlaceMatches file.image (lists_of file.claims) nodes p

  -- the first column that doesn't match, or all do
  columns_answer : HasClaims file → IsWellFormed file.image → HasTiming file.image nodes timing → ((p slot : ℕ) → PlaceMatches file.image (lists_of file.claims) nodes p slot) → HasAnswer file nodes timing
  columns_answer has formed times places = elim (first_or_all Matching (λ j. Matching j → ⊥) (column_known file.image (lists_of file.claims) nodes) (length nodes.printed)) [
    | inl found ↦ inr (no.Column found.0, (λ same. cc), (formed, times, places, record { within = found.1; differs = found.2; before = found.3 }))
    | inr all ↦ inl (formed, all_match file nodes timing has times places (λ j x host source is at there. all j (slice_get_within nodes.printed j x there) x host source is at there))
  ] where
    Matching : ℕ → Type 0
    Matching = ColumnMatches file.image (lists_of file.claims) nodes

  -- the first place that doesn't match, or all do
  places_answer : HasClaims file → IsWellFormed file.image → HasTiming file.image nodes timing → HasAnswer file nodes timing
  places_answer has formed times = elim (first_or_all Matching Differing (slot_or_all formed) (length file.image.ports)) [
    | inl found ↦ inr (no.Place found.0 found.2.0, (λ same. cc), (formed, times, first_place_at file.image (lists_of file.claims) nodes found.0 found.2.0 (λ q slot low. found.3 q low slot) found.2.1))
    | inr all ↦ columns_answer has formed times (λ p slot i x port is. all p (slice_get_within file.image.ports p port is) slot i x port is)
  ] where
    Matching : ℕ → Type 0
    Matching p = (slot : ℕ) → PlaceMatches file.image (lists_of file.claims) nodes p slot

    Differing : ℕ → Type 0
    Differing p = (slot : ℕ) × IsFirstSlot file.image (lists_of file.claims) nodes p slot

  pub answered : HasClaims file → HasAnswer file nodes timing
  answered has = elim (form_known file.image) [
    | inr none ↦ inr (no.Form, (λ same. cc), none)
    | inl formed ↦ elim (timing_known file.image nodes timing) [
      | inr none ↦ inr (no.Timing, (λ same. cc), (formed, none))
      | inl times ↦ places_answer has formed times
    ]
  ]
