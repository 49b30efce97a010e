-- The foremost port moves, so some port does, unless all are done.
use Rattle.std.proofs.Common.{None, Some, ap, arith, false, inl, inr, le_of_eq, length, refl, slice_get, slice_index_or, subst, suc, sym, true≢false, zero, ℕ, ◌*◌, ◌+◌, ◌<◌, ◌∙◌, ◌≡◌, ◌≤◌, ◌⊎◌}
use Rattle.std.proofs.lemmas.Bool.{cases_Bool, cases_eq, cases_lt, cases_order}
use Rattle.std.proofs.lemmas.Option.{slice_get_cases, slice_get_within}
use Rattle.net_defs.specs.declared.stimulus.Stimulus.{Stimulus}
use Rattle.image_defs.specs.{Places.IsPort, WellFormed.IsWellFormed, declared.image.Image.Image, declared.image.LinkIn.LinkIn, declared.image.LinkOut.LinkOut}
use Rattle.image_defs.specs.declared.image.PortImage.{PortImage}
use Rattle.event_defs.proofs.lemmas.NextLemmas.{receives_not_ends, receives_one, sends_not_ends, sends_not_receives, sends_one}
use Rattle.event_defs.proofs.{ExistLemmas.step_exists, ExistLemmas.whole, lemmas.KeptLemmas.read_stamp, lemmas.KeptLemmas.reads_send}
use Rattle.event_defs.proofs.lemmas.{PaceLemmas.latest_missing, PaceLemmas.latest_put, PaceLemmas.reader_port, SlotLemmas.to_map}
use Rattle.event_defs.specs.Steps.{AllDone, AllIdle, AskWaits, CoreState, IsStep, Reads, TakeWaits, Waits}
use Rattle.event_defs.specs.{Foremost.ComesBefore, Foremost.IsForemost, Foremost.SendsAt, Next.AsksNext, Next.TakesNext, Next.TellsNext}
use Rattle.event_defs.specs.{Places.IsSend, Places.is_in, Places.latest, Sound.IsSound, declared.place.CoreStep.CoreStep}
use Rattle.event_defs.specs.declared.place.{CoreStep.TheVariants.Done, CoreStep.TheVariants.Moved, CoreStep.TheVariants.NotYet, Event.Event, Place.Place}

-- of so many pairs of numbers the least, by the first and then by the second
least_of : (n : ℕ) (f g : ℕ → ℕ) → 1 ≤ n → (p : ℕ) × (p < n) × ((q : ℕ) → q < n → (f p < f q) ⊎ ((f p ≡ f q) × (g p ≤ g q)))
least_of zero f g some = absurd (omega arith)
least_of (suc zero) f g some = (0, omega arith, λ q low. let same : 0 ≡ q = omega arith in inr (ap f same, le_of_eq (ap g same)))
least_of (suc (suc n)) f g some = next (least_of (suc n) f g (omega arith)) where
  next : ((p : ℕ) × (p < suc n) × ((q : ℕ) → q < suc n → (f p < f q) ⊎ ((f p ≡ f q) × (g p ≤ g q)))) → (p : ℕ) × (p < suc (suc n)) × ((q : ℕ) → q < suc (suc n) → (f p < f q) ⊎ ((f p ≡ f q) × (g p ≤ g q)))
  next found = elim (cases_order (f found.0) (f (suc n))) [
    | inl same ↦ elim (cases_lt (g (suc n)) (g found.0)) [
      | inl less ↦ last (λ q low. elim (found.2 q low) [
        | inl more ↦ inl (omega arith)
        | inr level ↦ let e = level.0 in let h = level.1 in inr (omega arith, omega arith)
      ])
      | inr more ↦ stays (inr (same, more))
    ]
    | inr h ↦ elim h [
      | inl less ↦ stays (inl less)
      | inr more ↦ last (λ q low. elim (found.2 q low) [
        | inl higher ↦ inl (omega arith)
        | inr level ↦ let e = level.0 in inl (omega arith)
      ])
    ]
  ] where
    stays : (f found.0 < f (suc n)) ⊎ ((f found.0 ≡ f (suc n)) × (g found.0 ≤ g (suc n))) → (p : ℕ) × (p < suc (suc n)) × ((q : ℕ) → q < suc (suc n) → (f p < f q) ⊎ ((f p ≡ f q) × (g p ≤ g q)))
    stays here = let low = found.1 in (
      found.0,
      omega arith,
      λ q inside. elim (cases_eq q (suc n)) [
        | inl same ↦ subst (λ q. (f found.0 < f q) ⊎ ((f found.0 ≡ f q) × (g found.0 ≤ g q))) (sym same) here
        | inr other ↦ found.2 q (omega arith)
      ],
    )

    last : ((q : ℕ) → q < suc n → (f (suc n) < f q) ⊎ ((f (suc n) ≡ f q) × (g (suc n) ≤ g q))) → (p : ℕ) × (p < suc (suc n)) × ((q : ℕ) → q < suc (suc n) → (f p < f q) ⊎ ((f p ≡ f q) × (g p ≤ g q)))
    last others = (
      suc n,
      omega arith,
      λ q inside. elim (cases_eq q (suc n)) [
        | inl same ↦ subst (λ q. (f (suc n) < f q) ⊎ ((f (suc n) ≡ f q) × (g (suc n) ≤ g q))) (sym same) (inr (refl, le_of_eq refl))
        | inr other ↦ others q (omega arith)
      ],
    )

-- ---- when in a turn an event comes, as a number: two for each slot, and the Tell behind all slots

abbrev ComesWhen : Image → PortImage → Place → ℕ → Type 0
ComesWhen image port place k = ((slot : ℕ) × SendsAt port place slot × (k ≡ 2 * slot)) ⊎ (((slot : ℕ) × TakesNext port place slot × (k ≡ 2 * slot + 1)) ⊎ (TellsNext port place × (k ≡ 2 * image.slots)))

module _ (image : Image) (fits : IsWellFormed image) (p : ℕ) (port : PortImage) (is : IsPort image p port) (place : Place) where
  comes_when : (k : ℕ) × ComesWhen image port place k
  comes_when = elim (whole image fits p port is place.puts place.takes) [
    | inl ends ↦ (2 * image.slots, inr (inr (ends, refl)))
    | inr found ↦ elim found [
      | inl sends ↦ (2 * sends.1.slot, inl (sends.1.slot, record { i = sends.0; link = sends.1; slot_is = refl; sends = sends.2 }, refl))
      | inr receives ↦ (2 * receives.1.slot + 1, inr (inl (receives.1.slot, record { j = receives.0; link = receives.1; slot_is = refl; receives = receives.2 }, refl)))
    ]
  ]

  -- a slot in which something is next is one of the image
  sends_within : (slot : ℕ) → SendsAt port place slot → slot < image.slots
  sends_within slot a =
      let own = fits.ports p port is in
      let item = (own.sends a.i a.link a.sends.is).item in
      subst (λ s. s < image.slots) a.slot_is (own.item_slots_within item.0 a.link.slot item.1)

  takes_within : (slot : ℕ) → TakesNext port place slot → slot < image.slots
  takes_within slot a = subst (λ s. s < image.slots) a.slot_is ((fits.ports p port is).in_slots_within a.j a.link.slot (to_map (λ (l : LinkIn). l.slot) port.ins a.j a.link a.receives.is))

  -- the number is one
  sends_when : (slot k : ℕ) → SendsAt port place slot → ComesWhen image port place k → k ≡ 2 * slot
  sends_when slot k a (inl b) =
      let same = ap (λ (l : LinkOut). l.slot) (sends_one image fits p port is place.puts place.takes a.i b.1.i a.link b.1.link a.sends b.1.sends).1 in
      b.2 ∙ ap (λ s. 2 * s) (sym b.1.slot_is ∙ (sym same ∙ a.slot_is))
  sends_when slot k a (inr (inl b)) = absurd (sends_not_receives image fits p port is place.puts place.takes a.i b.1.j a.link b.1.link a.sends b.1.receives)
  sends_when slot k a (inr (inr b)) = absurd (sends_not_ends image fits p port is place.puts place.takes a.i a.link a.sends b.0)

  takes_when : (slot k : ℕ) → TakesNext port place slot → ComesWhen image port place k → k ≡ 2 * slot + 1
  takes_when slot k a (inl b) = absurd (sends_not_receives image fits p port is place.puts place.takes b.1.i a.j b.1.link a.link b.1.sends a.receives)
  takes_when slot k a (inr (inl b)) =
      let same = ap (λ (l : LinkIn). l.slot) (receives_one image fits p port is place.puts place.takes a.j b.1.j a.link b.1.link a.receives b.1.receives).1 in
      b.2 ∙ ap (λ s. 2 * s + 1) (sym b.1.slot_is ∙ (sym same ∙ a.slot_is))
  takes_when slot k a (inr (inr b)) = absurd (receives_not_ends image fits p port is place.puts place.takes a.j a.link a.receives b.0)

  tells_when : (k : ℕ) → TellsNext port place → ComesWhen image port place k → k ≡ 2 * image.slots
  tells_when k a (inl b) = absurd (sends_not_ends image fits p port is place.puts place.takes b.1.i b.1.link b.1.sends a)
  tells_when k a (inr (inl b)) = absurd (receives_not_ends image fits p port is place.puts place.takes b.1.j b.1.link b.1.receives a)
  tells_when k a (inr (inr b)) = b.1

  -- in its slot
  slot_when : (slot k : ℕ) → SendsAt port place slot ⊎ TakesNext port place slot → ComesWhen image port place k → (slot < image.slots) × (2 * slot ≤ k) × (k ≤ 2 * slot + 1)
  slot_when slot k (inl a) b = let e = sends_when slot k a b in (sends_within slot a, omega arith, omega arith)
  slot_when slot k (inr a) b = let e = takes_when slot k a b in (takes_within slot a, omega arith, omega arith)

-- what comes before has the lesser number
before_when : (image : Image) (fits : IsWellFormed image) (p q : ℕ) (port other : PortImage) (is : IsPort image p port) (there : IsPort image q other) (place twin : Place) (k m : ℕ)
    → ComesWhen image port place k → ComesWhen image other twin m → ComesBefore port place other twin → k < m
before_when image fits p q port other is there place twin k m a b (inl before) =
    let one = slot_when image fits p port is place before.0 k before.2 a in
    let two = slot_when image fits q other there twin before.1 m before.3 b in
    let less = before.4 in let x = one.2 in let y = two.1 in
    omega arith
before_when image fits p q port other is there place twin k m a b (inr (inl before)) =
    let one = sends_when image fits p port is place before.0 k before.1 a in
    let two = takes_when image fits q other there twin before.0 m before.2 b in
    omega arith
before_when image fits p q port other is there place twin k m a b (inr (inr before)) =
    let one = slot_when image fits p port is place before.0 k before.1 a in
    let two = tells_when image fits q other there twin m before.2 b in
    let low = one.0 in let x = one.2 in
    omega arith

module _ (image : Image) (stimulus : Stimulus) (banks until : ℕ) (fits : IsWellFormed image) (some : 1 ≤ banks) (state : CoreState) (sound : IsSound image stimulus banks until state) where
  abbrev turn : ℕ → ℕ
  turn p = (state.place p).turn

  -- an Ask waits for a port of a lesser turn
  asks_lower : (p : ℕ) (port : PortImage) → IsPort image p port → (r : ℕ) → AskWaits image banks p port state r → (reader : PortImage) × IsPort image r reader × (turn r < turn p)
  asks_lower p port is r waits =
      let next : AsksNext port (state.place p) banks r = waits.next in
      let got = reader_port image fits p next.i r next.link (record { port = port; is = is; link_is = next.sends.is }) next.reads in
      let e = sound.finished r (slice_get_within image.ports r got.0 got.1) in
      let less = waits.less in
      (got.0, got.1, omega arith)

  -- a Take waits for a port of a lesser turn, or for one of this turn that has not put yet
  takes_lower : (p : ℕ) (port : PortImage) (is : IsPort image p port) (slot : ℕ) → TakeWaits image banks p port state slot
      → (q i : ℕ) × (sent : LinkOut) × (s : IsSend image q i sent) × (sent.slot ≡ slot) × ((turn q < turn p) ⊎ ((turn q ≡ turn p) × (is_in sent.slot (state.place q).puts ≡ false)))
  takes_lower p port is slot waits =
      let r : Reads image banks p port state slot waits.x = waits.reads in
      let q = r.link.sender in
      let k = sound.paced.pace q r.i p r.sent r.send (reads_send image stimulus banks until fits some state sound p port is slot waits.x r) in
      let old_stamp : latest (state.place q) r.sent.slot < turn p = subst (λ s. latest (state.place q) s < turn p) (sym r.same_slot) (elim (read_stamp image stimulus banks until fits some state sound p port is slot waits.x r) [
        | inr older ↦ older.0
        | inl now ↦ let less = waits.less in let stamp = now.1 in absurd (omega arith)
      ]) in
      let first = (sound.paced.places q r.send.port r.send.is).begun in
      let behind = k.behind in (
        q,
        r.i,
        r.sent,
        r.send,
        r.same_slot,
        elim (cases_Bool (is_in r.sent.slot (state.place q).puts)) [
          | inl there ↦ let e = latest_put (state.place q) r.sent.slot there in inl (omega arith)
          | inr missing ↦ let e = latest_missing (state.place q) r.sent.slot missing in elim (cases_lt (turn q) (turn p)) [
            | inl less ↦ inl less
            | inr more ↦ inr (omega arith, missing)
          ]
        ],
      )

  -- a Put that is missing comes before the Take in its slot
  sender_before : (q i : ℕ) (sent : LinkOut) (s : IsSend image q i sent) → is_in sent.slot (state.place q).puts ≡ false
      → (port : PortImage) (place : Place) (slot : ℕ) → sent.slot ≡ slot → TakesNext port place slot → ComesBefore s.port (state.place q) port place
  sender_before q i sent s missing port place slot slot_is takes = elim (whole image fits q s.port s.is (state.place q).puts (state.place q).takes) [
    | inl ends ↦ absurd (true≢false (sym (ends.all_put i sent s.link_is) ∙ missing))
    | inr found ↦ elim found [
      | inl sends ↦ elim (cases_order sends.1.slot sent.slot) [
        | inl same ↦ inr (inl (slot, record { i = sends.0; link = sends.1; slot_is = same ∙ slot_is; sends = sends.2 }, takes))
        | inr h ↦ elim h [
          | inl less ↦ inl (sends.1.slot, slot, inl (record { i = sends.0; link = sends.1; slot_is = refl; sends = sends.2 }), inr takes, omega arith)
          | inr more ↦ absurd (true≢false (sym (sends.2.below.all_put i sent s.link_is more) ∙ missing))
        ]
      ]
      | inr receives ↦ elim (cases_order receives.1.slot sent.slot) [
        | inl same ↦ absurd (true≢false (sym (receives.2.put_there i sent s.link_is (sym same)) ∙ missing))
        | inr h ↦ elim h [
          | inl less ↦ inl (receives.1.slot, slot, inr (record { j = receives.0; link = receives.1; slot_is = refl; receives = receives.2 }), inr takes, omega arith)
          | inr more ↦ absurd (true≢false (sym (receives.2.below.all_put i sent s.link_is more) ∙ missing))
        ]
      ]
    ]
  ]

  -- a foremost port doesn't wait
  none_waits : (p : ℕ) (port : PortImage) → IsForemost image until state p port → Waits image banks p port state → ⊥
  none_waits p port front (inl waits) =
      let to = asks_lower p port front.is waits.0 waits.1 in
      let less = to.2 in
      let least = front.least waits.0 to.0 to.1 in
      omega arith
  none_waits p port front (inr waits) =
      let from = takes_lower p port front.is waits.0 waits.1 in
      let s : IsSend image from.0 from.1 from.2 = from.3 in
      let least = front.least from.0 s.port s.is in
      let takes : TakesNext port (state.place p) waits.0 = record { j = waits.1.reads.j; link = waits.1.reads.link; slot_is = waits.1.reads.slot_is; receives = waits.1.reads.receives } in
      elim from.5 [
        | inl before ↦ omega arith
        | inr same ↦ front.first from.0 s.port s.is same.0 (sender_before from.0 from.1 from.2 s same.1 port (state.place p) waits.0 from.4 takes)
      ]

  -- so each of its steps moves
  pub foremost_moves : (p : ℕ) (port : PortImage) (answer : CoreStep) (new : CoreState) → IsForemost image until state p port → IsStep image stimulus banks until p port state answer new → (event : Event) × (answer ≡ Moved event)
  foremost_moves p port (Moved event) new front moved = (event, refl)
  foremost_moves p port NotYet new front waits = absurd (none_waits p port front waits.1)
  foremost_moves p port Done new front done = let e = done.0 in let runs = front.runs in absurd (omega arith)

  -- ---- a foremost port exists

  port_at : (q : ℕ) → q < length image.ports → (port : PortImage) × IsPort image q port
  port_at q inside = found (slice_get_cases image.ports q).1 where
    found : (((x : PortImage) × (q < length image.ports) × (slice_get image.ports q ≡ Some x) × (slice_index_or image.ports q x ≡ x)) ⊎ ((length image.ports ≤ q) × (slice_get image.ports q ≡ None))) → (port : PortImage) × IsPort image q port
    found (inl there) = (there.0, there.2)
    found (inr past) = let far = past.0 in absurd (omega arith)

  -- when the next event of each port comes
  when : (q : ℕ) → (k : ℕ) × ((port : PortImage) (is : IsPort image q port) → ComesWhen image port (state.place q) k)
  when q = found (slice_get_cases image.ports q).1 where
    found : (((x : PortImage) × (q < length image.ports) × (slice_get image.ports q ≡ Some x) × (slice_index_or image.ports q x ≡ x)) ⊎ ((length image.ports ≤ q) × (slice_get image.ports q ≡ None))) → (k : ℕ) × ((port : PortImage) (is : IsPort image q port) → ComesWhen image port (state.place q) k)
    found (inl there) =
        let at = comes_when image fits q there.0 there.2 (state.place q) in
        (at.0, λ port is. let both : Some there.0 ≡ Some port = sym there.2 ∙ is in let same : there.0 ≡ port = cc in subst (λ (x : PortImage). ComesWhen image x (state.place q) at.0) same at.1)
    found (inr past) = (0, λ port is. let low = slice_get_within image.ports q port is in let far = past.0 in absurd (omega arith))

  front_of : AllDone image until state ⊎ ((p : ℕ) × (port : PortImage) × IsForemost image until state p port)
  front_of = elim (cases_lt 0 (length image.ports)) [
    | inr none ↦ inl (record { each = λ p port is. let low = slice_get_within image.ports p port is in absurd (omega arith) })
    | inl some_port ↦ from (least_of (length image.ports) turn (λ q. (when q).0) some_port)
  ] where
    from : ((p : ℕ) × (p < length image.ports) × ((q : ℕ) → q < length image.ports → (turn p < turn q) ⊎ ((turn p ≡ turn q) × ((when p).0 ≤ (when q).0)))) → AllDone image until state ⊎ ((p : ℕ) × (port : PortImage) × IsForemost image until state p port)
    from found =
        let p = found.0 in
        let port = port_at p found.1 in
        let least : (q : ℕ) (other : PortImage) → IsPort image q other → turn p ≤ turn q = λ q other is. elim (found.2 q (slice_get_within image.ports q other is)) [
          | inl less ↦ omega arith
          | inr level ↦ let e = level.0 in omega arith
        ] in
        elim (cases_lt until (turn p)) [
          | inl over ↦ inl (record { each = λ q other is. let low = least q other is in let high = (sound.paced.places q other is).ends in omega arith })
          | inr early ↦ inr (
            p,
            port.0,
            record {
              is = port.1;
              runs = early;
              least = least;
              first = λ q other is level before.
                  let less = before_when image fits q p other port.0 is port.1 (state.place q) (state.place p) (when q).0 (when p).0 ((when q).1 other is) ((when p).1 port.0 port.1) before in
                  elim (found.2 q (slice_get_within image.ports q other is)) [
                    | inl higher ↦ omega arith
                    | inr same ↦ let h = same.1 in omega arith
                  ];
            },
          )
        ]

  pub foremost_steps : AllDone image until state ⊎ ((p : ℕ) × (port : PortImage) × (event : Event) × (new : CoreState) × IsForemost image until state p port × IsStep image stimulus banks until p port state (Moved event) new)
  foremost_steps = elim front_of [
    | inl done ↦ inl done
    | inr found ↦
        let step = step_exists image stimulus banks until fits some state sound found.0 found.1 found.2.is in
        let moves = foremost_moves found.0 found.1 step.0 step.1 found.2 step.2 in
        inr (found.0, found.1, moves.0, step.1, found.2, subst (λ (a : CoreStep). IsStep image stimulus banks until found.0 found.1 state a step.1) moves.1 step.2)
  ]

  pub all_done : AllIdle image banks until state → AllDone image until state
  all_done idle = elim front_of [
    | inl done ↦ done
    | inr found ↦ elim (idle.each found.0 found.1 found.2.is) [
      | inl over ↦ let runs = found.2.runs in absurd (omega arith)
      | inr waiting ↦ absurd (none_waits found.0 found.1 found.2 waiting)
    ]
  ]
