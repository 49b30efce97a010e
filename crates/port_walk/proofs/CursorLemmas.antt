-- What comes next, by how often a port has sent and received in its turn.
use Rattle.std.proofs.Common.{◌≡◌, inl, inr, ℕ, zero, suc, ◌+◌, ◌<◌, ◌≤◌, Bool, true, false, List, [], ◌∷◌, take, ◌==◌, slice_get, Some, None, sym, ap, ◌∙◌, refl, arith}
use Rattle.std.proofs.lemmas.{Bool.cases_lt, Bool.eqb-true, Option.slice_get_within, Option.slice_get_cases}
use Rattle.list_laws.proofs.Ranges.{last_or}
use Rattle.image_defs.specs.declared.image.{LinkIn.LinkIn, LinkOut.LinkOut, PortImage.PortImage}
use Rattle.image_defs.specs.Places.{in_slots, out_slots}
use Rattle.image_defs.proofs.lemmas.PlaceLemmas.{Rises, at_map}
use Rattle.event_defs.specs.Next.{IsDoneBelow, SendsNext, ReceivesNext, EndsNext}
use Rattle.event_defs.specs.Places.{is_in}
use Rattle.event_defs.proofs.lemmas.SlotLemmas.{any_at, in_at, same_index, to_map}
use Rattle.port_walk.specs.declared.stops.StopKind.{StopKind, TheVariants.Send, TheVariants.Receive, TheVariants.End}
use Rattle.port_walk.specs.Stops.{kind_at, slot_at}
use Rattle.port_walk.proofs.StopLemmas.{tells}

-- ---- the first of a list

pub taken_at : {X : Type 0} (xs : List X) (n i : ℕ) (x : X) → i < n → slice_get xs i ≡ Some x → slice_get (take n xs) i ≡ Some x
taken_at [] n i x low at = cc
taken_at (y ∷ ys) zero i x low at = absurd (omega arith)
taken_at (y ∷ ys) (suc n) zero x low at = at
taken_at (y ∷ ys) (suc n) (suc i) x low at = taken_at ys n i x (omega arith) at

pub from_taken : {X : Type 0} (xs : List X) (n i : ℕ) (x : X) → slice_get (take n xs) i ≡ Some x → (i < n) × (slice_get xs i ≡ Some x)
from_taken [] zero i x at = cc
from_taken [] (suc n) i x at = cc
from_taken (y ∷ ys) zero i x at = cc
from_taken (y ∷ ys) (suc n) zero x at = (omega arith, at)
from_taken (y ∷ ys) (suc n) (suc i) x at = let rest = from_taken ys n i x at in (omega (arith, rest.0), rest.1)

pub in_taken : (xs : List ℕ) (n i s : ℕ) → i < n → slice_get xs i ≡ Some s → is_in s (take n xs) ≡ true
in_taken xs n i s low at = in_at s (take n xs) i (taken_at xs n i s low at)

pub not_in_taken : (xs : List ℕ) (n i s : ℕ) → Rises xs → n ≤ i → slice_get xs i ≡ Some s → is_in s (take n xs) ≡ false
not_in_taken xs n i s up high at = of_test (is_in s (take n xs)) refl where
  of_test : (b : Bool) → is_in s (take n xs) ≡ b → is_in s (take n xs) ≡ false
  of_test false e = e
  of_test true e =
      let found = any_at (λ t. t == s) (take n xs) e in
      let from = from_taken xs n found.0 found.1 found.2 in
      let same : found.1 ≡ s = eqb-true found.1 s found.3 in
      let place : i ≡ found.0 = same_index xs i found.0 s up at (from.1 ∙ ap Some same) in
      absurd (omega (arith, from.0, place))

-- what comes from a place on is not before what stands there
pub from_next : (xs : List ℕ) (n bound : ℕ) → Rises xs → ((s : ℕ) → slice_get xs n ≡ Some s → bound ≤ s) → (i s : ℕ) → slice_get xs i ≡ Some s → n ≤ i → bound ≤ s
from_next xs n bound up next i s at high = elim (last_or n i (omega arith)) [
  | inl less ↦ elim (slice_get_cases xs n).1 [
    | inl h ↦ let later = up n i h.0 s less h.2 at in let first = next h.0 h.2 in omega arith
    | inr h ↦ let within = slice_get_within xs i s at in let past = h.0 in absurd (omega arith)
  ]
  | inr same ↦ next s (ap (slice_get xs) same ∙ at)
]

-- ---- the next event

module _ (port_image : PortImage) (slots sent took : ℕ) (out_up : Rises (out_slots port_image.outs)) (in_up : Rises (in_slots port_image.ins)) where
  abbrev outs : List ℕ
  outs = out_slots port_image.outs

  abbrev ins : List ℕ
  ins = in_slots port_image.ins

  abbrev puts : List ℕ
  puts = take sent outs

  abbrev takes : List ℕ
  takes = take took ins

  sent_below : (bound i : ℕ) (link : LinkOut) → ((s : ℕ) → slice_get outs sent ≡ Some s → bound ≤ s) → slice_get port_image.outs i ≡ Some link → link.slot < bound → is_in link.slot puts ≡ true
  sent_below bound i link next at low = elim (cases_lt i sent) [
    | inl less ↦ in_taken outs sent i link.slot less (to_map (λ (l : LinkOut). l.slot) port_image.outs i link at)
    | inr more ↦ let high = from_next outs sent bound out_up next i link.slot (to_map (λ (l : LinkOut). l.slot) port_image.outs i link at) more in absurd (omega arith)
  ]

  took_below : (bound j : ℕ) (link : LinkIn) → ((t : ℕ) → slice_get ins took ≡ Some t → bound ≤ t) → slice_get port_image.ins j ≡ Some link → link.slot < bound → is_in link.slot takes ≡ true
  took_below bound j link next at low = elim (cases_lt j took) [
    | inl less ↦ in_taken ins took j link.slot less (to_map (λ (l : LinkIn). l.slot) port_image.ins j link at)
    | inr more ↦ let high = from_next ins took bound in_up next j link.slot (to_map (λ (l : LinkIn). l.slot) port_image.ins j link at) more in absurd (omega arith)
  ]

  done_below : (bound : ℕ) → ((s : ℕ) → slice_get outs sent ≡ Some s → bound ≤ s) → ((t : ℕ) → slice_get ins took ≡ Some t → bound ≤ t) → IsDoneBelow port_image puts takes bound
  done_below bound next_out next_in = record {
    all_put = λ i link at low. sent_below bound i link next_out at low;
    all_taken = λ j link at low. took_below bound j link next_in at low;
  }

  pub next_send : kind_at outs ins sent took ≡ Send → (link : LinkOut) × SendsNext port_image puts takes sent link × (link.slot ≡ slot_at outs ins slots sent took)
  next_send is =
      let next = (tells outs ins slots sent took).send is in
      let found = at_map (λ (l : LinkOut). l.slot) port_image.outs sent next.0 next.1.here in
      let slot : found.0.slot ≡ next.0 = found.2 in (
        found.0,
        record {
          is = found.1;
          missing = not_in_taken outs sent sent found.0.slot out_up (omega arith) (next.1.here ∙ ap Some (sym slot));
          below = done_below found.0.slot
              (λ s at. let e : Some next.0 ≡ Some s = sym next.1.here ∙ at in let same : next.0 ≡ s = cc in omega arith)
              (λ t at. let first = next.1.first t at in omega arith);
        },
        slot ∙ sym next.1.slot,
      )

  pub next_receipt : kind_at outs ins sent took ≡ Receive → (link : LinkIn) × ReceivesNext port_image puts takes took link × (link.slot ≡ slot_at outs ins slots sent took)
  next_receipt is =
      let next = (tells outs ins slots sent took).receipt is in
      let found = at_map (λ (l : LinkIn). l.slot) port_image.ins took next.0 next.1.here in
      let slot : found.0.slot ≡ next.0 = found.2 in (
        found.0,
        record {
          is = found.1;
          missing = not_in_taken ins took took found.0.slot in_up (omega arith) (next.1.here ∙ ap Some (sym slot));
          below = done_below found.0.slot
              (λ s at. let first = next.1.first s at in omega arith)
              (λ t at. let e : Some next.0 ≡ Some t = sym next.1.here ∙ at in let same : next.0 ≡ t = cc in omega arith);
          put_there = λ i link at same. sent_below (next.0 + 1) i link (λ s there. let first = next.1.first s there in omega arith) at (omega arith);
        },
        slot ∙ sym next.1.slot,
      )

  pub next_end : kind_at outs ins sent took ≡ End → EndsNext port_image puts takes
  next_end is =
      let next = (tells outs ins slots sent took).end is in
      record {
        all_put = λ i link at. sent_below (link.slot + 1) i link (λ s there. let e : None ≡ Some s = sym next.no_send ∙ there in cc) at (omega arith);
        all_taken = λ j link at. took_below (link.slot + 1) j link (λ t there. let e : None ≡ Some t = sym next.no_receipt ∙ there in cc) at (omega arith);
      }

  -- what the port receives before the stop's slot it has received
  pub received_before : (i : ℕ) (link : LinkIn) → slice_get port_image.ins i ≡ Some link → link.slot < slot_at outs ins slots sent took → i < took
  received_before i link at low = elim (cases_lt i took) [
    | inl less ↦ less
    | inr more ↦ let high = from_next ins took (slot_at outs ins slots sent took) in_up up_to i link.slot (to_map (λ (l : LinkIn). l.slot) port_image.ins i link at) more in absurd (omega arith)
  ] where
    up_to : (t : ℕ) → slice_get ins took ≡ Some t → slot_at outs ins slots sent took ≤ t
    up_to t there = of_kind (kind_at outs ins sent took) refl where
      of_kind : (kind : StopKind) → kind_at outs ins sent took ≡ kind → slot_at outs ins slots sent took ≤ t
      of_kind Send is = let next = (tells outs ins slots sent took).send is in let first = next.1.first t there in let slot = next.1.slot in omega arith
      of_kind Receive is = let next = (tells outs ins slots sent took).receipt is in let e : Some next.0 ≡ Some t = sym next.1.here ∙ there in let same : next.0 ≡ t = cc in let slot = next.1.slot in omega arith
      of_kind End is = let next = (tells outs ins slots sent took).end is in let e : None ≡ Some t = sym next.no_receipt ∙ there in cc
