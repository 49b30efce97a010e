-- There is a next event, and a step of each port.
use Rattle.std.proofs.Common.{List, None, Some, [], ap, arith, false, inl, inr, le_of_eq, length, map, refl, slice_get, slice_index_or, subst, suc, sym, true, zero, ℕ, ◌%◌, ◌*◌, ◌+◌, ◌<◌, ◌∙◌, ◌∷◌, ◌≡◌, ◌≢◌, ◌≤◌, ◌⊎◌}
use Rattle.std.proofs.lemmas.{Bool.cases_Bool, Bool.cases_eq, Bool.cases_lt, Option.slice_get_cases}
use Rattle.std.specs.List.Sorted.{IsStrictlyIncreasing}
use Rattle.logic_four.specs.{Values.code_of, declared.V4.V4}
use Rattle.net_defs.specs.declared.stimulus.Stimulus.{Stimulus}
use Rattle.image_defs.proofs.lemmas.PlaceLemmas.{at_map, rises}
use Rattle.image_defs.specs.{Frames.image_value, Places.Each, Places.IsPort, Places.Stands, WellFormed.IsWellFormed, declared.image.Image.Image}
use Rattle.image_defs.specs.declared.image.{LinkIn.LinkIn, LinkOut.LinkOut, PortImage.PortImage}
use Rattle.event_defs.proofs.lemmas.{KeptLemmas.read_stamp, KeptLemmas.step_sound, PaceLemmas.inside, PaceLemmas.source, SlotLemmas.to_map}
use Rattle.event_defs.specs.Next.{EndsNext, IsDoneBelow, IsNext, ReceivesNext, SendsNext}
use Rattle.event_defs.specs.Places.{after_ask, after_put, after_take, after_tell, is_in, known_of}
use Rattle.event_defs.specs.Steps.{AreSteps, CoreState, IsStep, Reads, updated, written}
use Rattle.event_defs.specs.{Counts.missing, Sound.IsSound, declared.place.Action.Action, declared.place.CoreStep.CoreStep, declared.place.Place.Place}
use Rattle.event_defs.specs.declared.place.CoreStep.TheVariants.{Moved, NotYet, Done}
use Rattle.event_defs.specs.declared.place.Action.TheVariants as action
use Rattle.event_defs.specs.declared.place.Event.TheVariants as event

-- a number stands in a list, or differs from each of its members
find_slot : (slots : List ℕ) (s : ℕ) → (Stands slots s) ⊎ ((i t : ℕ) → slice_get slots i ≡ Some t → t ≢ s)
find_slot [] s = inr (λ i t at. cc)
find_slot (x ∷ slots) s = elim (cases_eq x s) [
  | inl same ↦ inl (0, ap Some same)
  | inr other ↦ elim (find_slot slots s) [
    | inl there ↦ inl (suc there.0, there.1)
    | inr none ↦ inr (differs other none)
  ]
] where
  differs : (x ≡ s → ⊥) → ((i t : ℕ) → slice_get slots i ≡ Some t → t ≢ s) → (i t : ℕ) → slice_get (x ∷ slots) i ≡ Some t → t ≢ s
  differs other none zero t at e = let same : x ≡ t = cc in other (same ∙ e)
  differs other none (suc i) t at e = none i t at e

-- of the links of a slot one is not done, or each is
missing_in : {L : Type 0} (slot : L → ℕ) (links : List L) (done : List ℕ) (n : ℕ)
    → ((i : ℕ) × (link : L) × (slice_get links i ≡ Some link) × (slot link ≡ n) × (is_in (slot link) done ≡ false)) ⊎ Each (λ link. slot link ≡ n → is_in (slot link) done ≡ true) links
missing_in slot links done n = elim (cases_Bool (is_in n done)) [
  | inl made ↦ inr (λ i link at same. ap (λ s. is_in s done) same ∙ made)
  | inr missing ↦ elim (find_slot (map slot links) n) [
    | inr none ↦ inr (λ i link at same. absurd (none i (slot link) (to_map slot links i link at) same))
    | inl there ↦ (let link = at_map slot links there.0 n there.1 in inl (there.0, link.0, link.1, link.2, ap (λ s. is_in s done) link.2 ∙ missing))
  ]
]

-- the first of these numbers that lies too low, or none does
first_low : (readers : List ℕ) (known : ℕ → ℕ) (banks turn : ℕ)
    → ((k r : ℕ) × (slice_get readers k ≡ Some r) × (known r + banks < turn) × ((m s : ℕ) → m < k → slice_get readers m ≡ Some s → turn ≤ known s + banks))
    ⊎ ((m s : ℕ) → slice_get readers m ≡ Some s → turn ≤ known s + banks)
first_low [] known banks turn = inr (λ m s at. cc)
first_low (x ∷ readers) known banks turn = elim (cases_lt (known x + banks) turn) [
  | inl low ↦ inl (0, x, refl, low, λ m s less at. absurd (omega arith))
  | inr near ↦ elim (first_low readers known banks turn) [
    | inl found ↦ inl (suc found.0, found.1, found.2, found.3, before near found.0 found.4)
    | inr none ↦ inr (all near none)
  ]
] where
  before : turn ≤ known x + banks → (k : ℕ) → ((m s : ℕ) → m < k → slice_get readers m ≡ Some s → turn ≤ known s + banks) → (m s : ℕ) → m < suc k → slice_get (x ∷ readers) m ≡ Some s → turn ≤ known s + banks
  before near k rest zero s less at = let same : x ≡ s = cc in subst (λ r. turn ≤ known r + banks) same near
  before near k rest (suc m) s less at = rest m s (omega arith) at

  all : turn ≤ known x + banks → ((m s : ℕ) → slice_get readers m ≡ Some s → turn ≤ known s + banks) → (m s : ℕ) → slice_get (x ∷ readers) m ≡ Some s → turn ≤ known s + banks
  all near rest zero s at = let same : x ≡ s = cc in subst (λ r. turn ≤ known r + banks) same near
  all near rest (suc m) s at = rest m s at

module _ (image : Image) (fits : IsWellFormed image) (p : ℕ) (port : PortImage) (is : IsPort image p port) where
  -- ---- the next event

  module _ (puts takes : List ℕ) where
    abbrev pub SendsSome : Type 0
    SendsSome = (i : ℕ) × (link : LinkOut) × SendsNext port puts takes i link

    abbrev pub ReceivesSome : Type 0
    ReceivesSome = (j : ℕ) × (link : LinkIn) × ReceivesNext port puts takes j link

    -- in a slot a Put is missing, or each is made there
    put_in : (n : ℕ) → IsDoneBelow port puts takes n → SendsSome ⊎ Each (λ (link : LinkOut). link.slot ≡ n → is_in link.slot puts ≡ true) port.outs
    put_in n done = elim (missing_in (λ (l : LinkOut). l.slot) port.outs puts n) [
      | inr made ↦ inr made
      | inl (i, link, at, same, missing) ↦ inl (i, link, record { is = at; missing = missing; below = subst (λ s. IsDoneBelow port puts takes s) (sym same) done })
    ]

    -- and likewise a Take
    taken_in : (n : ℕ) → IsDoneBelow port puts takes n → Each (λ (link : LinkOut). link.slot ≡ n → is_in link.slot puts ≡ true) port.outs
        → ReceivesSome ⊎ Each (λ (link : LinkIn). link.slot ≡ n → is_in link.slot takes ≡ true) port.ins
    taken_in n done put = elim (missing_in (λ (l : LinkIn). l.slot) port.ins takes n) [
      | inr made ↦ inr made
      | inl (j, link, at, same, missing) ↦ inl (j, link, record { is = at; missing = missing; below = subst (λ s. IsDoneBelow port puts takes s) (sym same) done; put_there = λ i out is at_slot. put i out is (at_slot ∙ same) })
    ]

    up_to : (n : ℕ) → IsDoneBelow port puts takes n ⊎ (SendsSome ⊎ ReceivesSome)
    up_to zero = inl (record { all_put = λ i link at less. absurd (omega arith); all_taken = λ i link at less. absurd (omega arith) })
    up_to (suc n) = elim (up_to n) [
      | inr found ↦ inr found
      | inl done ↦ elim (put_in n done) [
        | inl sends ↦ inr (inl sends)
        | inr put ↦ elim (taken_in n done put) [
          | inl receives ↦ inr (inr receives)
          | inr taken ↦ inl (more n done put taken)
        ]
      ]
    ] where
      more : (n : ℕ) → IsDoneBelow port puts takes n → Each (λ (link : LinkOut). link.slot ≡ n → is_in link.slot puts ≡ true) port.outs → Each (λ (link : LinkIn). link.slot ≡ n → is_in link.slot takes ≡ true) port.ins → IsDoneBelow port puts takes (suc n)
      more n done put taken = record {
        all_put = λ i link at less. elim (cases_lt link.slot n) [
          | inl before ↦ done.all_put i link at before
          | inr last ↦ put i link at (omega arith)
        ];
        all_taken = λ i link at less. elim (cases_lt link.slot n) [
          | inl before ↦ done.all_taken i link at before
          | inr last ↦ taken i link at (omega arith)
        ];
      }

    -- something is missing first, or nothing is
    pub whole : EndsNext port puts takes ⊎ (SendsSome ⊎ ReceivesSome)
    whole = elim (up_to image.slots) [
      | inr found ↦ inr found
      | inl done ↦
          let own = fits.ports p port is in
          inl (record {
            all_put = λ i link at. let item = (own.sends i link at).item in done.all_put i link at (own.item_slots_within item.0 link.slot item.1);
            all_taken = λ i link at. done.all_taken i link at (own.in_slots_within i link.slot (to_map (λ (l : LinkIn). l.slot) port.ins i link at));
          })
    ]

  pub next_exists : (place : Place) (banks until : ℕ) (value : ℕ → V4) → place.turn ≤ until + 1 → (action : Action) × IsNext port place banks until value action
  next_exists place banks until value ends = elim (cases_lt until place.turn) [
    | inl over ↦ (action.Done, omega arith)
    | inr early ↦ elim (whole place.puts place.takes) [
      | inl over ↦ (action.Tell, (early, over))
      | inr found ↦ elim found [
        | inr receives ↦ (action.Take receives.1.slot, (early, record { j = receives.0; link = receives.1; slot_is = refl; receives = receives.2 }))
        | inl sends ↦ elim (first_low sends.1.readers (known_of place) banks place.turn) [
          | inr near ↦ (action.Put sends.1.slot (value sends.1.slot), (early, record { i = sends.0; link = sends.1; slot_is = refl; sends = sends.2; ready = λ r stands. near stands.0 r stands.1 }, refl))
          | inl lags ↦ (
            action.Ask lags.1,
            (
              early,
              record {
                i = sends.0;
                link = sends.1;
                sends = sends.2;
                reads = (lags.0, lags.2);
                lags = lags.3;
                least = λ s stands less. elim (cases_lt stands.0 lags.0) [
                  | inl before ↦ lags.4 stands.0 s before stands.1
                  | inr after ↦
                      let own = (fits.ports p port is).sends sends.0 sends.1 sends.2.is in
                      let wrong : lags.1 ≤ s = later sends.1.readers own.rising lags.0 stands.0 lags.1 s after lags.2 stands.1 in
                      absurd (omega arith)
                ];
              },
            ),
          )
        ]
      ]
    ]
  ] where
    later : (readers : List ℕ) → IsStrictlyIncreasing readers → (k m r s : ℕ) → k ≤ m → slice_get readers k ≡ Some r → slice_get readers m ≡ Some s → r ≤ s
    later readers up k m r s order at_k at_m = elim (cases_eq k m) [
      | inl same ↦ let twice : Some r ≡ Some s = sym at_k ∙ (ap (slice_get readers) same ∙ at_m) in let equal : r ≡ s = cc in le_of_eq equal
      | inr other ↦ let less = rises readers up k m r s (omega arith) at_k at_m in omega arith
    ]

-- ---- a step of each port

module _ (image : Image) (stimulus : Stimulus) (banks until : ℕ) (fits : IsWellFormed image) (some : 1 ≤ banks) where
  pub step_exists : (old : CoreState) → IsSound image stimulus banks until old → (p : ℕ) (port : PortImage) → IsPort image p port → (answer : CoreStep) × (new : CoreState) × IsStep image stimulus banks until p port old answer new
  step_exists old sound p port is =
      let next = next_exists image fits p port is (old.place p) banks until (image_value image stimulus (old.place p).turn p) (sound.paced.places p port is).ends in
      by_action next.0 next.1
    where
      by_action : (act : Action) → IsNext port (old.place p) banks until (image_value image stimulus (old.place p).turn p) act → (answer : CoreStep) × (new : CoreState) × IsStep image stimulus banks until p port old answer new
      by_action (action.Ask r) next = elim (cases_lt (old.finished r + banks) (old.place p).turn) [
        | inl less ↦ (NotYet, old, (next.0, inl (r, record { next = next.1; less = less }), refl))
        | inr enough ↦ (Moved (event.Ask r), record old { place = updated old.place p (after_ask (old.place p) r (old.finished r)) }, (next.0, record { next = next.1; moves = enough; is = refl }))
      ]
      by_action (action.Put slot v) next = (
        Moved (event.Put slot),
        record old { place = updated old.place p (after_put (old.place p) slot); word = written old.word p next.1.i ((old.place p).turn % banks) (4 * (old.place p).turn + code_of (image_value image stimulus (old.place p).turn p slot)) },
        (next.0, record { next = next.1; is = refl }),
      )
      by_action (action.Take slot) next =
          let from = source image fits p port next.1.j next.1.link is next.1.receives.is in
          let reads : Reads image banks p port old slot (old.word next.1.link.sender from.0 ((old.place p).turn % banks)) = record {
            j = next.1.j;
            link = next.1.link;
            slot_is = next.1.slot_is;
            receives = next.1.receives;
            i = from.0;
            sent = from.1;
            send = from.2;
            same_slot = from.3 ∙ next.1.slot_is;
            word = refl;
          } in
          elim (read_stamp image stimulus banks until fits some old sound p port is slot (old.word next.1.link.sender from.0 ((old.place p).turn % banks)) reads) [
            | inl now ↦ (Moved (event.Take slot), record old { place = updated old.place p (after_take (old.place p) slot) }, (next.0, record { x = old.word next.1.link.sender from.0 ((old.place p).turn % banks); reads = reads; moves = now.1; is = refl }))
            | inr older ↦ (NotYet, old, (next.0, inr (slot, record { x = old.word next.1.link.sender from.0 ((old.place p).turn % banks); reads = reads; less = older.1 }), refl))
          ]
      by_action action.Tell next = (
        Moved event.Tell,
        record old { place = updated old.place p (after_tell (old.place p)); finished = updated old.finished p (old.place p).turn },
        (next.0, record { next = next.1; is = refl }),
      )
      by_action action.Done next = (Done, old, (next, refl))

  pub steps_exist : (order : List ℕ) → Each (λ p. p < length image.ports) order → (old : CoreState) → IsSound image stimulus banks until old → (answers : List CoreStep) × (new : CoreState) × AreSteps image stimulus banks until order old answers new
  unfolding AreSteps
  steps_exist [] low old sound = ([], old, (refl, refl))
  steps_exist (p ∷ order) low old sound =
      let port = port_at (slice_get_cases image.ports p).1 (low 0 p refl) in
      let first = step_exists old sound p port.0 port.1 in
      let rest = steps_exist order (λ i q at. low (suc i) q at) first.1 (step_sound image stimulus banks until fits some old sound p port.0 port.1 first.0 first.1 first.2) in
      (first.0 ∷ rest.0, rest.1, (port.0, first.0, rest.0, first.1, port.1, refl, first.2, rest.2))
    where
      port_at : (((x : PortImage) × (p < length image.ports) × (slice_get image.ports p ≡ Some x) × (slice_index_or image.ports p x ≡ x)) ⊎ ((length image.ports ≤ p) × (slice_get image.ports p ≡ None))) → p < length image.ports → (port : PortImage) × IsPort image p port
      port_at (inl there) inside = (there.0, there.2)
      port_at (inr past) inside = let far = past.0 in absurd (omega arith)
