-- The stops of a turn.
use Rattle.std.proofs.Common.{◌≡◌, inl, inr, ℕ, ◌+◌, ◌-◌, ◌<◌, ◌≤◌, Bool, if◌then◌else◌, List, [], ◌∷◌, ◌++◌, length, slice_get, Option, Some, None, sym, ap, ◌∙◌, subst, refl, arith, add-one}
use Rattle.std.proofs.lemmas.{Bool.cases_lt, Bool.Decides.leb_tells, List.length_push, Option.slice_get_cases, Option.slice_get_within}
use Rattle.std.specs.List.Sorted.{IsStrictlyIncreasing}
use Rattle.list_laws.proofs.Places.{one_there, past_end, at_front, seam_at}
use Rattle.list_laws.proofs.Ranges.{last_or}
use Rattle.image_defs.proofs.lemmas.PlaceLemmas.{rises}
use Rattle.port_bank.proofs.BankLemmas.{place_low}
use Rattle.port_walk.specs.Stops.{IsFront, kind_of, slot_of, counted, kind_at, slot_at, counts, IsStop, AreFirstStops, AreStops}
use Rattle.port_walk.specs.declared.stops.{Stop.Stop, StopKind.StopKind, StopKind.TheVariants.Send, StopKind.TheVariants.Receive, StopKind.TheVariants.End}
use Rattle.port_walk.specs.code.Stops.{ArePlaces, AreAllBefore, IsOnTheWay}

-- ---- ascending slots up to a bound

-- there are no more of them than slots
pub places_few : (slots : ℕ) (xs : List ℕ) → ArePlaces slots xs → length xs ≤ slots
places_few slots xs places = elim (cases_lt 0 (length xs)) [
  | inl some ↦ elim (slice_get_cases xs (length xs - 1)).1 [
    | inl h ↦
        let high = place_low xs (length xs - 1) h.0 (rises xs places.rising) h.2 in
        let low = places.low (length xs - 1) h.0 h.2 in
        omega arith
    | inr h ↦ let past = h.0 in absurd (omega arith)
  ]
  | inr none ↦ omega arith
]

-- the next one is not before the bound
pub front_at : (slots : List ℕ) (bound n s : ℕ) → IsStrictlyIncreasing slots → AreAllBefore slots bound n → slice_get slots n ≡ Some s → bound ≤ s → IsFront slots bound n
front_at slots bound n s up all here high = record {
  within = all.within;
  before = all.before;
  rest = λ i slot there more. elim (last_or n i (omega (arith, more))) [
    | inl less ↦ let later = rises slots up n i s slot less here there in omega arith
    | inr same ↦ let e : s ≡ slot = one_there slots n i s slot same here there in omega arith
  ];
}

-- there is none
pub front_end : (slots : List ℕ) (bound : ℕ) → AreAllBefore slots bound (length slots) → IsFront slots bound (length slots)
front_end slots bound all = record {
  within = all.within;
  before = all.before;
  rest = λ i slot there more. let within = slice_get_within slots i slot there in absurd (omega arith);
}

pub all_before : (slots : List ℕ) (bound n : ℕ) → IsFront slots bound n → AreAllBefore slots bound n
all_before slots bound n front = record { within = front.within; before = front.before }

pub all_later : (slots : List ℕ) (bound later n : ℕ) → bound ≤ later → AreAllBefore slots bound n → AreAllBefore slots later n
all_later slots bound later n more all = record { within = all.within; before = λ i slot there low. let h = all.before i slot there low in omega arith }

-- ---- kinds of stops

send_not_receipt : ◌≡◌ {A = StopKind} Send Receive → ⊥
send_not_receipt e = cc

send_not_end : ◌≡◌ {A = StopKind} Send End → ⊥
send_not_end e = cc

receipt_not_end : ◌≡◌ {A = StopKind} Receive End → ⊥
receipt_not_end e = cc

receipt_not_send : ◌≡◌ {A = StopKind} Receive Send → ⊥
receipt_not_send e = cc

module _ (outs ins : List ℕ) (slots sent took : ℕ) where
  -- the port sends before it receives
  pub record IsSend (s : ℕ) : Type 0 where
    pub here : slice_get outs sent ≡ Some s
    pub slot : slot_at outs ins slots sent took ≡ s
    pub first : (t : ℕ) → slice_get ins took ≡ Some t → s ≤ t

  pub record IsReceipt (t : ℕ) : Type 0 where
    pub here : slice_get ins took ≡ Some t
    pub slot : slot_at outs ins slots sent took ≡ t
    pub first : (s : ℕ) → slice_get outs sent ≡ Some s → t < s

  pub record IsEnd : Type 0 where
    pub no_send : slice_get outs sent ≡ None
    pub no_receipt : slice_get ins took ≡ None
    pub slot : slot_at outs ins slots sent took ≡ slots

  -- a kind of stop, and what that says of what comes next
  pub record Tells (kind : StopKind) : Type 0 where
    pub send : kind ≡ Send → (s : ℕ) × IsSend s
    pub receipt : kind ≡ Receive → (t : ℕ) × IsReceipt t
    pub end : kind ≡ End → IsEnd

  pub tells : Tells (kind_at outs ins sent took)
  tells = of_next (slice_get outs sent) (slice_get ins took) refl refl where
    kind_is : (o r : Option ℕ) → slice_get outs sent ≡ o → slice_get ins took ≡ r → kind_at outs ins sent took ≡ kind_of o r
    kind_is o r here there = ap (λ x. kind_of x (slice_get ins took)) here ∙ ap (kind_of o) there

    slot_is : (o r : Option ℕ) → slice_get outs sent ≡ o → slice_get ins took ≡ r → slot_at outs ins slots sent took ≡ slot_of slots o r
    slot_is o r here there = ap (λ x. slot_of slots x (slice_get ins took)) here ∙ ap (slot_of slots o) there

    of_both : (s t : ℕ) → slice_get outs sent ≡ Some s → slice_get ins took ≡ Some t → Tells (kind_at outs ins sent took)
    of_both s t here there = elim (leb_tells s t) [
      | inl (e, low) ↦
          let kind : kind_at outs ins sent took ≡ Send = kind_is (Some s) (Some t) here there ∙ ap {A = Bool} {B = StopKind} (λ b. if b then Send else Receive) e in
          let slot : slot_at outs ins slots sent took ≡ s = slot_is (Some s) (Some t) here there ∙ ap {A = Bool} {B = ℕ} (λ b. if b then s else t) e in
          record {
            send = λ _. (s, record { here = here; slot = slot; first = λ u at. let same : Some t ≡ Some u = sym there ∙ at in let is : t ≡ u = cc in omega arith });
            receipt = λ h. absurd (send_not_receipt (sym kind ∙ h));
            end = λ h. absurd (send_not_end (sym kind ∙ h));
          }
      | inr (e, low) ↦
          let kind : kind_at outs ins sent took ≡ Receive = kind_is (Some s) (Some t) here there ∙ ap {A = Bool} {B = StopKind} (λ b. if b then Send else Receive) e in
          let slot : slot_at outs ins slots sent took ≡ t = slot_is (Some s) (Some t) here there ∙ ap {A = Bool} {B = ℕ} (λ b. if b then s else t) e in
          record {
            send = λ h. absurd (receipt_not_send (sym kind ∙ h));
            receipt = λ _. (t, record { here = there; slot = slot; first = λ u at. let same : Some s ≡ Some u = sym here ∙ at in let is : s ≡ u = cc in omega arith });
            end = λ h. absurd (receipt_not_end (sym kind ∙ h));
          }
    ]

    of_next : (o r : Option ℕ) → slice_get outs sent ≡ o → slice_get ins took ≡ r → Tells (kind_at outs ins sent took)
    of_next None None here there =
        let kind : kind_at outs ins sent took ≡ End = kind_is None None here there in
        record {
          send = λ h. absurd (send_not_end (sym h ∙ kind));
          receipt = λ h. absurd (receipt_not_end (sym h ∙ kind));
          end = λ _. record { no_send = here; no_receipt = there; slot = slot_is None None here there };
        }
    of_next None (Some t) here there =
        let kind : kind_at outs ins sent took ≡ Receive = kind_is None (Some t) here there in
        record {
          send = λ h. absurd (receipt_not_send (sym kind ∙ h));
          receipt = λ _. (t, record { here = there; slot = slot_is None (Some t) here there; first = λ u at. let clash : None ≡ Some u = sym here ∙ at in cc });
          end = λ h. absurd (receipt_not_end (sym kind ∙ h));
        }
    of_next (Some s) None here there =
        let kind : kind_at outs ins sent took ≡ Send = kind_is (Some s) None here there in
        record {
          send = λ _. (s, record { here = here; slot = slot_is (Some s) None here there; first = λ u at. let clash : None ≡ Some u = sym there ∙ at in cc });
          receipt = λ h. absurd (send_not_receipt (sym kind ∙ h));
          end = λ h. absurd (send_not_end (sym kind ∙ h));
        }
    of_next (Some s) (Some t) here there = of_both s t here there

  -- what is up to all that comes next is up to the stop's slot
  pub slot_above : (n : ℕ) → n ≤ slots → ((s : ℕ) → slice_get outs sent ≡ Some s → n ≤ s) → ((t : ℕ) → slice_get ins took ≡ Some t → n ≤ t) → n ≤ slot_at outs ins slots sent took
  slot_above n low out_high in_high = of_kind (kind_at outs ins sent took) refl where
    of_kind : (kind : StopKind) → kind_at outs ins sent took ≡ kind → n ≤ slot_at outs ins slots sent took
    of_kind Send is = let next = tells.send is in subst (λ x. n ≤ x) (sym next.1.slot) (out_high next.0 next.1.here)
    of_kind Receive is = let next = tells.receipt is in subst (λ x. n ≤ x) (sym next.1.slot) (in_high next.0 next.1.here)
    of_kind End is = let next = tells.end is in subst (λ x. n ≤ x) (sym next.slot) low

-- ---- from stop to stop

module _ (outs ins : List ℕ) (slots : ℕ) (out_places : ArePlaces slots outs) (in_places : ArePlaces slots ins) (sent took : ℕ) where
  -- after a send, and after a receipt, the next stop is not before
  pub send_grows : kind_at outs ins sent took ≡ Send → slot_at outs ins slots sent took ≤ slot_at outs ins slots (sent + 1) took
  send_grows is =
      let next = (tells outs ins slots sent took).send is in
      let low = out_places.low sent next.0 next.1.here in
      subst (λ x. x ≤ slot_at outs ins slots (sent + 1) took) (sym next.1.slot)
      (slot_above outs ins slots (sent + 1) took next.0 (omega arith)
      (λ s at. let later = rises outs out_places.rising sent (sent + 1) next.0 s (omega arith) next.1.here at in omega arith)
      next.1.first)

  pub receipt_grows : kind_at outs ins sent took ≡ Receive → slot_at outs ins slots sent took ≤ slot_at outs ins slots sent (took + 1)
  receipt_grows is =
      let next = (tells outs ins slots sent took).receipt is in
      let low = in_places.low took next.0 next.1.here in
      subst (λ x. x ≤ slot_at outs ins slots sent (took + 1)) (sym next.1.slot)
      (slot_above outs ins slots sent (took + 1) next.0 (omega arith)
      (λ s at. let later = next.1.first s at in omega arith)
      (λ t at. let later = rises ins in_places.rising took (took + 1) next.0 t (omega arith) next.1.here at in omega arith))

module _ (outs ins : List ℕ) where
  -- the counts after one stop more
  pub counts_more : (n sent took : ℕ) (kind : StopKind) → counts outs ins n ≡ (sent, took) → kind_at outs ins sent took ≡ kind → counts outs ins (n + 1) ≡ counted kind (sent, took)
  unfolding counts
  counts_more n sent took kind come is =
      rw (add-one, come) (ap (λ k. counted k (sent, took)) is)

  -- one stop more
  pub stops_more : (slots : ℕ) (items : List ℕ) (stops : List Stop) (sent took : ℕ) (stop : Stop) → AreFirstStops outs ins slots items stops → counts outs ins (length stops) ≡ (sent, took) → IsStop outs ins slots items sent took stop
      → AreFirstStops outs ins slots items (stops ++ stop ∷ [])
  stops_more slots items stops sent took stop all come is n x there = elim (last_or n (length stops) (omega (arith, length_push stops stop, slice_get_within (stops ++ stop ∷ []) n x there))) [
    | inl low ↦ all n x (sym (at_front stops (stop ∷ []) n low) ∙ there)
    | inr last ↦
        let same : stop ≡ x = one_there (stops ++ stop ∷ []) (length stops) n stop x (sym last) (seam_at stops stop []) there in
        rw (last, come, ← same) is
  ]

-- ---- the list of stops

module _ (outs ins : List ℕ) (slots : ℕ) (items : List ℕ) where
  pub way_begins : (stops : List Stop) → stops ≡ [] → IsOnTheWay outs ins slots items stops 0 0 0
  unfolding counts
  way_begins stops none = record {
    each = λ n stop there. let e : slice_get {X = Stop} [] n ≡ Some stop = subst (λ xs. slice_get xs n ≡ Some stop) none there in absurd (nothing_there n stop e);
    come = ap (λ xs. counts outs ins (length xs)) none;
    count = ap length none;
    sent_within = omega arith;
    took_within = omega arith;
    items_before = record { within = omega arith; before = λ i slot there low. absurd (omega arith) };
  } where
    nothing_there : (n : ℕ) (stop : Stop) → slice_get [] n ≡ Some stop → ⊥
    nothing_there n stop e = let h = slice_get_within [] n stop e in omega arith

  -- a stop by what comes next
  pub stop_is : (sent took : ℕ) (stop : Stop) (out receipt : Option ℕ) → out ≡ slice_get outs sent → receipt ≡ slice_get ins took → stop.kind ≡ kind_of out receipt → stop.slot ≡ slot_of slots out receipt
      → IsFront items (stop.slot + 1) stop.items → IsStop outs ins slots items sent took stop
  stop_is sent took stop out receipt out_is receipt_is kind slot front = record {
    kind = kind ∙ (ap (λ o. kind_of o receipt) out_is ∙ ap (kind_of (slice_get outs sent)) receipt_is);
    slot = slot ∙ (ap (λ o. slot_of slots o receipt) out_is ∙ ap (slot_of slots (slice_get outs sent)) receipt_is);
    front = front;
  }

  module _ (stops : List Stop) (sent took from : ℕ) (way : IsOnTheWay outs ins slots items stops sent took from) (stop : Stop) (is : IsStop outs ins slots items sent took stop) where
    with_one : length (stops ++ stop ∷ []) ≡ length stops + 1
    with_one = length_push stops stop

    come_more : (kind : StopKind) → stop.kind ≡ kind → counts outs ins (length (stops ++ stop ∷ [])) ≡ counted kind (sent, took)
    come_more kind k = ap (counts outs ins) with_one ∙ counts_more outs ins (length stops) sent took kind way.come (sym is.kind ∙ k)

    pub send_within : stop.kind ≡ Send → sent < length outs
    send_within k = let next = (tells outs ins slots sent took).send (sym is.kind ∙ k) in slice_get_within outs sent next.0 next.1.here

    pub receipt_within : stop.kind ≡ Receive → took < length ins
    receipt_within k = let next = (tells outs ins slots sent took).receipt (sym is.kind ∙ k) in slice_get_within ins took next.0 next.1.here

    front_up : (later : ℕ) → slot_at outs ins slots sent took ≤ later → AreAllBefore items (later + 1) stop.items
    front_up later more = let slot = is.slot in all_later items (stop.slot + 1) (later + 1) stop.items (omega arith) (all_before items (stop.slot + 1) stop.items is.front)

    pub way_sends : ArePlaces slots outs → ArePlaces slots ins → stop.kind ≡ Send → IsOnTheWay outs ins slots items (stops ++ stop ∷ []) (sent + 1) took stop.items
    way_sends out_places in_places k = record {
      each = stops_more outs ins slots items stops sent took stop way.each way.come is;
      come = come_more Send k;
      count = let one = with_one in let count = way.count in omega arith;
      sent_within = let h = send_within k in omega arith;
      took_within = way.took_within;
      items_before = front_up (slot_at outs ins slots (sent + 1) took) (send_grows outs ins slots out_places in_places sent took (sym is.kind ∙ k));
    }

    pub way_receives : ArePlaces slots outs → ArePlaces slots ins → stop.kind ≡ Receive → IsOnTheWay outs ins slots items (stops ++ stop ∷ []) sent (took + 1) stop.items
    way_receives out_places in_places k = record {
      each = stops_more outs ins slots items stops sent took stop way.each way.come is;
      come = come_more Receive k;
      count = let one = with_one in let count = way.count in omega arith;
      sent_within = way.sent_within;
      took_within = let h = receipt_within k in omega arith;
      items_before = front_up (slot_at outs ins slots sent (took + 1)) (receipt_grows outs ins slots out_places in_places sent took (sym is.kind ∙ k));
    }

    pub way_ends : stop.kind ≡ End → AreStops outs ins slots items (stops ++ stop ∷ [])
    way_ends k =
        let end = (tells outs ins slots sent took).end (sym is.kind ∙ k) in
        record {
          count = omega (arith, with_one, way.count, way.sent_within, way.took_within, past_end outs sent end.no_send, past_end ins took end.no_receipt);
          each = stops_more outs ins slots items stops sent took stop way.each way.come is;
        }
