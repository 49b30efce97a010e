-- The number of events of a run: at most its number, and with one bank exactly so many.
use Rattle.std.proofs.Common.{Bool, List, None, Option, Some, [], ap, ap₂, arith, eqb-true, false, get_or, get_or-set_other, get_or-set_same, if◌then◌else◌, inl, inr, le-leb, le_of_eq, length, mul-one, mul-zero, nat_le, refl, replicate, set, slice_get, subst, suc, sym, true, zero, zero-add, zero-mul, ℕ, ◌*◌, ◌+◌, ◌-◌, ◌<◌, ◌==◌, ◌∙◌, ◌∷◌, ◌≡◌, ◌≤◌, ◌⊎◌}
use Rattle.std.proofs.lemmas.Bool.{cases_eq, cases_lt, false≢true, lt-leb}
use Rattle.std.proofs.lemmas.{List.get_or-replicate, List.length-map, List.Folds.list_any_at, Option.get_or_from_slice_get, Option.slice_get_within}
use Rattle.std.specs.List.{range_with_len}
use Rattle.list_laws.proofs.Ranges.{range_get}
use Rattle.net_defs.specs.declared.stimulus.Stimulus.{Stimulus}
use Rattle.image_defs.proofs.lemmas.PlaceLemmas.{rises}
use Rattle.image_defs.specs.Places.{IsPort, Stands, in_slots, out_slots}
use Rattle.image_defs.specs.{WellFormed.IsWellFormed, declared.image.Image.Image, declared.image.LinkIn.LinkIn, declared.image.LinkOut.LinkOut}
use Rattle.image_defs.specs.declared.image.PortImage.{PortImage}
use Rattle.event_defs.proofs.CountLemmas.{ask_falls, from_other, from_test, product, put_falls, take_falls, tell_falls}
use Rattle.event_defs.proofs.lemmas.PaceLemmas.{latest_missing, reader_in, same_port, same_send, send_at, stands}
use Rattle.event_defs.proofs.lemmas.SlotLemmas.{any_at, each_updated, in_at, in_other, updated_here, updated_there}
use Rattle.event_defs.proofs.SumLemmas.{all_missing, sum_add, sum_falls, sum_same, sum_times, sum_zero}
use Rattle.event_defs.proofs.lemmas.{KeptLemmas.starts_sound, KeptLemmas.step_sound, KeptLemmas.steps_sound, RowLemmas.sum_grows}
use Rattle.event_defs.proofs.StuckLemmas.{all_done}
use Rattle.event_defs.specs.Counts.{asks_left, events, events_left, is_read_by, missing, moved_in, moves, of_port, port_left, readers_of, work_left, work_of}
use Rattle.event_defs.specs.Places.{IsSend, after_ask, after_put, after_take, after_tell, is_in, known_of, start}
use Rattle.event_defs.specs.Steps.{AllDone, AreFirstSteps, AreRounds, AreSteps, Asks, CoreState, IsRound, IsStep, Moves, Puts, Takes, Tells, Waits, first_state, updated}
use Rattle.event_defs.specs.declared.place.Event.TheVariants.{Ask, Put, Take, Tell}
use Rattle.event_defs.specs.{Sound.IsSound, declared.place.CoreStep.CoreStep}
use Rattle.event_defs.specs.declared.place.{CoreStep.TheVariants.Done, CoreStep.TheVariants.Moved, CoreStep.TheVariants.NotYet, Event.Event, Place.Place}

-- what a port knows of its readers: all turns but this one and the last few, as many as banks; and of those to
-- which it has put in this turn one turn more
pub record HasAsked (image : Image) (banks p : ℕ) (place : Place) : Type 0 where
  pub before : (i r : ℕ) (link : LinkOut) → IsSend image p i link → Stands link.readers r → place.turn ≤ known_of place r + banks + 1
  pub put_ones : (i r : ℕ) (link : LinkOut) → IsSend image p i link → Stands link.readers r → is_in link.slot place.puts ≡ true → place.turn ≤ known_of place r + banks

-- a port that reads is one of a link's readers
reads_link : (port : PortImage) (q : ℕ) → is_read_by port q ≡ true → (i : ℕ) × (link : LinkOut) × (slice_get port.outs i ≡ Some link) × Stands link.readers q
reads_link port q reads =
    let l = any_at (λ (link : LinkOut). is_in q link.readers) port.outs reads in
    let r = any_at (λ s. s == q) l.1.readers l.3 in
    (l.0, l.1, l.2, (r.0, subst (λ s. slice_get l.1.readers r.0 ≡ Some s) (eqb-true r.1 q r.3) r.2))

link_reads : (port : PortImage) (i : ℕ) (link : LinkOut) (q : ℕ) → slice_get port.outs i ≡ Some link → Stands link.readers q → is_read_by port q ≡ true
link_reads port i link q at (k, stands) =
    list_any_at (λ (l : LinkOut). is_in q l.readers) port.outs i link (slice_get_within port.outs i link at)
    (rw (get_or_from_slice_get port.outs i link link at) (in_at q link.readers k stands))

module _ (image : Image) (stimulus : Stimulus) (banks until : ℕ) (fits : IsWellFormed image) (some : 1 ≤ banks) where
  abbrev count : ℕ
  count = length image.ports

  -- where one port has another place, what is left falls as that of the port does
  left_falls : (place : ℕ → Place) (p : ℕ) (port : PortImage) (x : Place) (d : ℕ) → IsPort image p port → port_left count banks until x port + d ≡ port_left count banks until (place p) port
      → events_left image banks until (updated place p x) + d ≡ events_left image banks until place
  left_falls place p port x d is falls =
      sum_falls count p d (λ q. of_port (port_left count banks until (place q)) (slice_get image.ports q)) (λ q. of_port (port_left count banks until (updated place p x q)) (slice_get image.ports q))
      (slice_get_within image.ports p port is)
      (λ q _ other. ap (λ (a : Place). of_port (port_left count banks until a) (slice_get image.ports q)) (sym (updated_there place p q x other)))
      (subst (λ (o : Option PortImage). of_port (port_left count banks until (updated place p x p)) o + d ≡ of_port (port_left count banks until (place p)) o) (sym is)
      (subst (λ (a : Place). port_left count banks until a port + d ≡ port_left count banks until (place p) port) (sym (updated_here place p x)) falls))

  module _ (old : CoreState) (sound : IsSound image stimulus banks until old) (p : ℕ) (port : PortImage) (is : IsPort image p port) (early : (old.place p).turn ≤ until) where
    abbrev here : Place
    here = old.place p

    moves_down : (x : Place) (new : CoreState) (d : ℕ) → new.place ≡ updated old.place p x → port_left count banks until x port + d ≡ port_left count banks until here port → events_left image banks until new.place + d ≡ events_left image banks until old.place
    moves_down x new d same falls = subst (λ (f : ℕ → Place). events_left image banks until f + d ≡ events_left image banks until old.place) (sym same) (left_falls old.place p port x d is falls)

    -- by how much an Ask falls
    asks_down : (r : ℕ) (new : CoreState) → Asks image banks p port old r new → events_left image banks until new.place + ((until - banks - known_of here r) - (until - banks - old.finished r)) ≡ events_left image banks until old.place
    asks_down r new a =
        let mine : IsSend image p a.next.i a.next.link = record { port = port; is = is; link_is = a.next.sends.is } in
        let r_in = reader_in image fits p a.next.i r a.next.link mine a.next.reads in
        let wide = sound.paced.wide p (slice_get_within image.ports p port is) in
        let lags = a.next.lags in
        let moved = a.moves in
        moves_down (after_ask here r (old.finished r)) new ((until - banks - known_of here r) - (until - banks - old.finished r)) (ap (λ (s : CoreState). s.place) a.is)
        (ask_falls count banks until port here early r (old.finished r) r_in (omega arith) (link_reads port a.next.i a.next.link r a.next.sends.is a.next.reads) (omega arith))

    -- the other events fall by one
    puts_down : (slot : ℕ) (new : CoreState) → Puts image banks p port old stimulus slot new → events_left image banks until new.place + 1 ≡ events_left image banks until old.place
    puts_down slot new t = moves_down (after_put here slot) new 1 (ap (λ (s : CoreState). s.place) t.is)
        (subst (λ s. port_left count banks until (after_put here s) port + 1 ≡ port_left count banks until here port) t.next.slot_is
        (put_falls count banks until port here early (rises (out_slots port.outs) (fits.ports p port is).outs) t.next.i t.next.link t.next.sends.is t.next.sends.missing))

    takes_down : (slot : ℕ) (new : CoreState) → Takes image banks p port old slot new → events_left image banks until new.place + 1 ≡ events_left image banks until old.place
    takes_down slot new t = moves_down (after_take here slot) new 1 (ap (λ (s : CoreState). s.place) t.is)
        (subst (λ s. port_left count banks until (after_take here s) port + 1 ≡ port_left count banks until here port) t.reads.slot_is
        (take_falls count banks until port here early (rises (in_slots port.ins) (fits.ports p port is).ins) t.reads.j t.reads.link t.reads.receives.is t.reads.receives.missing))

    tells_down : (new : CoreState) → Tells image banks p port old new → events_left image banks until new.place + 1 ≡ events_left image banks until old.place
    tells_down new t = moves_down (after_tell here) new 1 (ap (λ (s : CoreState). s.place) t.is) (tell_falls count banks until port here early t.next)

    -- each event that moves leaves at least one fewer
    pub moves_fall : (e : Event) (new : CoreState) → Moves image banks p port old stimulus e new → events_left image banks until new.place + 1 ≤ events_left image banks until old.place
    moves_fall (Ask r) new a =
        let down = asks_down r new a in
        let lags : known_of here r + banks < here.turn = a.next.lags in
        let moved : here.turn ≤ old.finished r + banks = a.moves in
        let few : events_left image banks until new.place + 1 ≤ events_left image banks until new.place + ((until - banks - known_of here r) - (until - banks - old.finished r)) = omega arith in
        omega arith
    moves_fall (Put slot) new t = le_of_eq (puts_down slot new t)
    moves_fall (Take slot) new t = le_of_eq (takes_down slot new t)
    moves_fall Tell new t = le_of_eq (tells_down new t)

    -- what is asked stays so
    asked_new : (x : Place) (new : CoreState) → new.place ≡ updated old.place p x → ((q : ℕ) → HasAsked image banks q (old.place q)) → HasAsked image banks p x → (q : ℕ) → HasAsked image banks q (new.place q)
    asked_new x new same asked mine q = subst (λ (f : ℕ → Place). HasAsked image banks q (f q)) (sym same) (each_updated (HasAsked image banks) old.place p x mine (λ o _. asked o) q)

    pub moves_asked : ((q : ℕ) → HasAsked image banks q (old.place q)) → (e : Event) (new : CoreState) → Moves image banks p port old stimulus e new → (q : ℕ) → HasAsked image banks q (new.place q)
    moves_asked asked (Ask r) new a =
        let known_now : (o : ℕ) → known_of here o ≤ known_of (after_ask here r (old.finished r)) o = λ o. elim (cases_eq o r) [
          | inl same ↦
              let r_in = reader_in image fits p a.next.i r a.next.link (record { port = port; is = is; link_is = a.next.sends.is }) a.next.reads in
              let wide = sound.paced.wide p (slice_get_within image.ports p port is) in
              let e = get_or-set_same here.known r (old.finished r) 0 (omega arith) in
              let lags = a.next.lags in
              let moved = a.moves in
              let more : known_of here r ≤ get_or (set here.known r (old.finished r)) r 0 = omega arith in
              subst (λ n. known_of here n ≤ get_or (set here.known r (old.finished r)) n 0) (sym same) more
          | inr other ↦ let e = get_or-set_other here.known r o (old.finished r) 0 other in le_of_eq (sym e)
        ] in
        asked_new (after_ask here r (old.finished r)) new (ap (λ (s : CoreState). s.place) a.is) asked (record {
          before = λ i o link s reads. let was = (asked p).before i o link s reads in let more = known_now o in omega arith;
          put_ones = λ i o link s reads put. let was = (asked p).put_ones i o link s reads put in let more = known_now o in omega arith;
        })
    moves_asked asked (Put slot) new t =
        let mine : IsSend image p t.next.i t.next.link = record { port = port; is = is; link_is = t.next.sends.is } in
        asked_new (after_put here slot) new (ap (λ (s : CoreState). s.place) t.is) asked (record {
          before = λ i o link s reads. (asked p).before i o link s reads;
          put_ones = λ i o link s reads put. elim (cases_eq link.slot slot) [
            | inl same ↦
                let found = same_send image fits p i t.next.i link t.next.link s mine (same ∙ sym t.next.slot_is) in
                t.next.ready o (subst (λ (l : LinkOut). Stands l.readers o) found.1 reads)
            | inr other ↦ (asked p).put_ones i o link s reads (sym (in_other link.slot slot here.puts other) ∙ put)
          ];
        })
    moves_asked asked (Take slot) new t = asked_new (after_take here slot) new (ap (λ (s : CoreState). s.place) t.is) asked (record { before = λ i o link s reads. (asked p).before i o link s reads; put_ones = λ i o link s reads put. (asked p).put_ones i o link s reads put })
    moves_asked asked Tell new t = asked_new (after_tell here) new (ap (λ (s : CoreState). s.place) t.is) asked (record {
      before = λ i o link s reads.
          let put : is_in link.slot here.puts ≡ true = t.next.all_put i link (send_at image p i link port s is) in
          let was = (asked p).put_ones i o link s reads put in
          omega arith;
      put_ones = λ i o link s reads put. absurd (false≢true put);
    })

    -- with one bank, each event that moves leaves exactly one fewer
    pub moves_exactly : banks ≡ 1 → ((q : ℕ) → HasAsked image banks q (old.place q)) → (e : Event) (new : CoreState) → Moves image banks p port old stimulus e new → events_left image banks until new.place + 1 ≡ events_left image banks until old.place
    moves_exactly one asked (Ask r) new a =
        let mine : IsSend image p a.next.i a.next.link = record { port = port; is = is; link_is = a.next.sends.is } in
        let down = asks_down r new a in
        let lags : known_of here r + banks < here.turn = a.next.lags in
        let moved : here.turn ≤ old.finished r + banks = a.moves in
        let was = (asked p).before a.next.i r a.next.link mine a.next.reads in
        let pace = sound.paced.pace p a.next.i r a.next.link mine a.next.reads in
        let behind = pace.behind in
        let latest_is = latest_missing here a.next.link.slot a.next.sends.missing in
        let has = sound.finished r (reader_in image fits p a.next.i r a.next.link mine a.next.reads) in
        let fall : (until - banks - known_of here r) - (until - banks - old.finished r) ≡ 1 = omega arith in
        ap (λ d. events_left image banks until new.place + d) (sym fall) ∙ down
    moves_exactly one asked (Put slot) new t = puts_down slot new t
    moves_exactly one asked (Take slot) new t = takes_down slot new t
    moves_exactly one asked Tell new t = tells_down new t

  -- ---- the beginning and the end of a run

  pub starts_asked : (q : ℕ) → HasAsked image banks q (start count)
  starts_asked q = record { before = λ i r link s reads. omega arith; put_ones = λ i r link s reads put. absurd (false≢true put) }

  abbrev no_port : (PortImage → ℕ) → (PortImage → ℕ) → PortImage → ℕ
  no_port f g port = f port + g port

  split_of_port : (f g : PortImage → ℕ) (o : Option PortImage) → of_port (λ port. f port + g port) o ≡ of_port f o + of_port g o
  split_of_port f g None = refl
  split_of_port f g (Some port) = refl

  times_of_port : (k : ℕ) (f : PortImage → ℕ) (o : Option PortImage) → of_port (λ port. k * f port) o ≡ k * of_port f o
  times_of_port k f None = sym (mul-zero k)
  times_of_port k f (Some port) = refl

  same_of_port : (f g : PortImage → ℕ) → ((port : PortImage) → f port ≡ g port) → (o : Option PortImage) → of_port f o ≡ of_port g o
  same_of_port f g same None = refl
  same_of_port f g same (Some port) = same port

  start_work : (port : PortImage) → work_left count banks until port (start count) ≡ until * work_of port
  start_work port = elim (cases_lt 0 until) [
    | inl more ↦
        let now = from_test (nat_le 1 until) ((until - 1) * work_of port + missing [] (out_slots port.outs) + missing [] (in_slots port.ins) + 1) 0 (le-leb 1 until more) in
        let outs : missing [] (out_slots port.outs) ≡ length port.outs = all_missing (out_slots port.outs) ∙ length-map port.outs (λ (l : LinkOut). l.slot) in
        let ins : missing [] (in_slots port.ins) ≡ length port.ins = all_missing (in_slots port.ins) ∙ length-map port.ins (λ (l : LinkIn). l.slot) in
        let p = product (until - 1) until (work_of port) (omega arith) in
        let u : ℕ = missing [] (out_slots port.outs) in
        let v : ℕ = missing [] (in_slots port.ins) in
        let m : ℕ = (until - 1) * work_of port in
        let n : ℕ = until * work_of port in
        let p' : n ≡ m + work_of port = p in
        let o : u ≡ length port.outs = outs in
        let i : v ≡ length port.ins = ins in
        let sums : m + u + v + 1 ≡ n = omega arith in
        now ∙ sums
    | inr none ↦
        let zero_is : until ≡ 0 = omega arith in
        from_other (nat_le 1 until) ((until - 1) * work_of port + missing [] (out_slots port.outs) + missing [] (in_slots port.ins) + 1) 0 (lt-leb 1 until (omega arith)) ∙ sym (ap (λ n. n * work_of port) zero_is ∙ zero-mul (work_of port))
  ]

  start_asks : (port : PortImage) → asks_left count banks until port (start count) ≡ (until - banks) * readers_of count port
  start_asks port = sum_same count (λ q. if is_read_by port q then until - banks - get_or (replicate count 0) q 0 else 0) (λ q. (until - banks) * (if is_read_by port q then 1 else 0))
      (λ q inside. let e : get_or {A = ℕ} (replicate count 0) q 0 ≡ 0 = get_or-replicate count q 0 0 inside in ap (λ n. if is_read_by port q then until - banks - n else 0) e ∙ by_test (is_read_by port q)) ∙ sum_times count (until - banks) (λ q. if is_read_by port q then 1 else 0) where
        by_test : (b : Bool) → (if b then until - banks - 0 else 0) ≡ (until - banks) * (if b then 1 else 0)
        by_test true = let e : until - banks - 0 ≡ until - banks = omega arith in e ∙ sym (mul-one (until - banks))
        by_test false = sym (mul-zero (until - banks))

  pub starts_left : events_left image banks until (λ p. start count) ≡ events image banks until
  starts_left =
      sum_same count (λ p. of_port (port_left count banks until (start count)) (slice_get image.ports p)) (λ p. until * of_port work_of (slice_get image.ports p) + (until - banks) * of_port (readers_of count) (slice_get image.ports p))
      (λ p _. same_of_port (port_left count banks until (start count)) (λ port. until * work_of port + (until - banks) * readers_of count port) (λ port. ap₂ (λ x y. x + y) (start_work port) (start_asks port)) (slice_get image.ports p)
      ∙ (split_of_port (λ port. until * work_of port) (λ port. (until - banks) * readers_of count port) (slice_get image.ports p)
      ∙ ap₂ (λ x y. x + y) (times_of_port until work_of (slice_get image.ports p)) (times_of_port (until - banks) (readers_of count) (slice_get image.ports p))))
      ∙ (sum_add count (λ p. until * of_port work_of (slice_get image.ports p)) (λ p. (until - banks) * of_port (readers_of count) (slice_get image.ports p))
      ∙ ap₂ (λ x y. x + y) (sum_times count until (λ p. of_port work_of (slice_get image.ports p))) (sum_times count (until - banks) (λ p. of_port (readers_of count) (slice_get image.ports p))))

  -- with one bank nothing is left where all are done
  pub ends_left : banks ≡ 1 → (state : CoreState) → ((q : ℕ) → HasAsked image banks q (state.place q)) → AllDone image until state → events_left image banks until state.place ≡ 0
  ends_left one state asked done = sum_zero count (λ p. of_port (port_left count banks until (state.place p)) (slice_get image.ports p)) (λ p _. by_port p (slice_get image.ports p) refl) where
    none_to_ask : (p : ℕ) (port : PortImage) → IsPort image p port → (q : ℕ) → (b : Bool) → is_read_by port q ≡ b → (if b then until - banks - known_of (state.place p) q else 0) ≡ 0
    none_to_ask p port is q false reads = refl
    none_to_ask p port is q true reads =
        let l = reads_link port q reads in
        let known = (asked p).before l.0 q l.1 (record { port = port; is = is; link_is = l.2 }) l.3 in
        let last = done.each p port is in
        omega arith

    by_port : (p : ℕ) (o : Option PortImage) → slice_get image.ports p ≡ o → of_port (port_left count banks until (state.place p)) o ≡ 0
    by_port p None is = refl
    by_port p (Some port) is =
        let last = done.each p port is in
        let work = from_other (nat_le (state.place p).turn until) ((until - (state.place p).turn) * work_of port + missing (state.place p).puts (out_slots port.outs) + missing (state.place p).takes (in_slots port.ins) + 1) 0 (lt-leb (state.place p).turn until (omega arith)) in
        let asks = sum_zero count (λ q. if is_read_by port q then until - banks - known_of (state.place p) q else 0) (λ q _. none_to_ask p port is q (is_read_by port q) refl) in
        ap₂ (λ x y. x + y) work asks

  -- ---- runs

  pub run_falls : (order : List ℕ) (old : CoreState) (answers : List CoreStep) (new : CoreState) → IsSound image stimulus banks until old → AreSteps image stimulus banks until order old answers new
      → moved_in answers + events_left image banks until new.place ≤ events_left image banks until old.place
  unfolding AreSteps moved_in
  run_falls [] old answers new sound steps =
      let none : moved_in answers ≡ 0 = ap moved_in steps.0 in
      let same : events_left image banks until new.place ≡ events_left image banks until old.place = ap (λ (s : CoreState). events_left image banks until s.place) steps.1 in
      omega arith
  run_falls (p ∷ order) old answers new sound steps =
      let port : PortImage = steps.0 in
      let answer : CoreStep = steps.1 in
      let middle : CoreState = steps.3 in
      let rest = run_falls order middle steps.2 new (step_sound image stimulus banks until fits some old sound p port steps.4 answer middle steps.6) steps.7 in
      let all : moved_in answers ≡ moves answer + moved_in steps.2 = ap moved_in steps.5 in
      let first = by_answer answer steps.6 in
      omega arith
    where
      by_answer : (answer : CoreStep) → IsStep image stimulus banks until p steps.0 old answer steps.3 → moves answer + events_left image banks until steps.3.place ≤ events_left image banks until old.place
      by_answer (Moved e) step = let falls = moves_fall old sound p steps.0 steps.4 step.0 e steps.3 step.1 in omega arith
      by_answer NotYet step = let same : events_left image banks until steps.3.place ≡ events_left image banks until old.place = ap (λ (s : CoreState). events_left image banks until s.place) step.2 in omega arith
      by_answer Done step = let same : events_left image banks until steps.3.place ≡ events_left image banks until old.place = ap (λ (s : CoreState). events_left image banks until s.place) step.1 in omega arith

  pub step_asked : (old : CoreState) → IsSound image stimulus banks until old → (p : ℕ) (port : PortImage) → IsPort image p port → (answer : CoreStep) (new : CoreState) → IsStep image stimulus banks until p port old answer new
      → ((q : ℕ) → HasAsked image banks q (old.place q)) → (q : ℕ) → HasAsked image banks q (new.place q)
  step_asked old sound p port is (Moved e) new step asked = moves_asked old sound p port is step.0 asked e new step.1
  step_asked old sound p port is NotYet new step asked = subst (λ (s : CoreState). (q : ℕ) → HasAsked image banks q (s.place q)) (sym step.2) asked
  step_asked old sound p port is Done new step asked = subst (λ (s : CoreState). (q : ℕ) → HasAsked image banks q (s.place q)) (sym step.1) asked

  pub step_exactly : banks ≡ 1 → (old : CoreState) → IsSound image stimulus banks until old → (p : ℕ) (port : PortImage) → IsPort image p port → (answer : CoreStep) (new : CoreState) → IsStep image stimulus banks until p port old answer new
      → ((q : ℕ) → HasAsked image banks q (old.place q)) → moves answer + events_left image banks until new.place ≡ events_left image banks until old.place
  step_exactly one old sound p port is (Moved e) new step asked = let falls = moves_exactly old sound p port is step.0 one asked e new step.1 in omega arith
  step_exactly one old sound p port is NotYet new step asked = let same : events_left image banks until new.place ≡ events_left image banks until old.place = ap (λ (s : CoreState). events_left image banks until s.place) step.2 in omega arith
  step_exactly one old sound p port is Done new step asked = let same : events_left image banks until new.place ≡ events_left image banks until old.place = ap (λ (s : CoreState). events_left image banks until s.place) step.1 in omega arith

  -- with one bank
  pub run_exactly : banks ≡ 1 → (order : List ℕ) (old : CoreState) (answers : List CoreStep) (new : CoreState) → IsSound image stimulus banks until old → ((q : ℕ) → HasAsked image banks q (old.place q)) → AreSteps image stimulus banks until order old answers new
      → (moved_in answers + events_left image banks until new.place ≡ events_left image banks until old.place) × ((q : ℕ) → HasAsked image banks q (new.place q))
  unfolding AreSteps moved_in
  run_exactly one [] old answers new sound asked steps =
      let none : moved_in answers ≡ 0 = ap moved_in steps.0 in
      let same : events_left image banks until new.place ≡ events_left image banks until old.place = ap (λ (s : CoreState). events_left image banks until s.place) steps.1 in
      (omega arith, subst (λ (s : CoreState). (q : ℕ) → HasAsked image banks q (s.place q)) (sym steps.1) asked)
  run_exactly one (p ∷ order) old answers new sound asked steps =
      let port : PortImage = steps.0 in
      let answer : CoreStep = steps.1 in
      let middle : CoreState = steps.3 in
      let first = step_exactly one old sound p port steps.4 answer middle steps.6 asked in
      let rest = run_exactly one order middle steps.2 new (step_sound image stimulus banks until fits some old sound p port steps.4 answer middle steps.6) (step_asked old sound p port steps.4 answer middle steps.6 asked) steps.7 in
      let all : moved_in answers ≡ moves answer + moved_in steps.2 = ap moved_in steps.5 in
      let left_rest = rest.0 in
      (omega arith, rest.1)

  -- a run from its start
  pub at_most : (order : List ℕ) (answers : List CoreStep) (new : CoreState) → AreFirstSteps image stimulus banks until order answers new → moved_in answers ≤ events image banks until
  at_most order answers new steps =
      let falls = run_falls order (first_state count) answers new (starts_sound image stimulus banks until fits some) steps in
      let all = starts_left in
      omega arith

  pub exactly : banks ≡ 1 → (order : List ℕ) (answers : List CoreStep) (new : CoreState) → AreFirstSteps image stimulus banks until order answers new → AllDone image until new → moved_in answers ≡ events image banks until
  exactly one order answers new steps done =
      let falls = run_exactly one order (first_state count) answers new (starts_sound image stimulus banks until fits some) (λ q. starts_asked q) steps in
      let all = starts_left in
      let none = ends_left one new falls.1 done in
      let all_left = falls.0 in
      omega arith

  -- ---- rounds

  -- a port that doesn't move in a round that moves nothing is idle in the state before, since the state stays
  none_moves : (answer : CoreStep) (rest : List CoreStep) (answers : List CoreStep) → answers ≡ answer ∷ rest → moved_in answers ≡ 0 → (moves answer ≡ 0) × (moved_in rest ≡ 0)
  unfolding moved_in
  none_moves answer rest answers is none = let all : moved_in answers ≡ moves answer + moved_in rest = ap moved_in is in (omega arith, omega arith)

  still : (p : ℕ) (port : PortImage) (old new : CoreState) (answer : CoreStep) → IsStep image stimulus banks until p port old answer new → moves answer ≡ 0 → (new ≡ old) × (((old.place p).turn ≡ until + 1) ⊎ Waits image banks p port old)
  still p port old new (Moved e) step none = absurd (omega arith)
  still p port old new NotYet step none = (step.2, inr step.1)
  still p port old new Done step none = (step.1, inl step.0)

  -- steps that move nothing leave the state, and each port that made one is done or waits
  pub steps_still : (order : List ℕ) (old : CoreState) (answers : List CoreStep) (new : CoreState) → AreSteps image stimulus banks until order old answers new → moved_in answers ≡ 0
      → (new ≡ old) × ((k p : ℕ) (port : PortImage) → slice_get order k ≡ Some p → IsPort image p port → ((old.place p).turn ≡ until + 1) ⊎ Waits image banks p port old)
  unfolding AreSteps
  steps_still [] old answers new steps none = (steps.1, λ k p port at is. cc)
  steps_still (q ∷ order) old answers new steps none =
      let parts = none_moves steps.1 steps.2 answers steps.5 none in
      let first = still q steps.0 old steps.3 steps.1 steps.6 parts.0 in
      let rest = steps_still order steps.3 steps.2 new steps.7 parts.1 in
      (rest.0 ∙ first.0, idle first rest.1)
    where
      idle : (steps.3 ≡ old) × (((old.place q).turn ≡ until + 1) ⊎ Waits image banks q steps.0 old)
          → ((k p : ℕ) (port : PortImage) → slice_get order k ≡ Some p → IsPort image p port → ((steps.3.place p).turn ≡ until + 1) ⊎ Waits image banks p port steps.3)
          → (k p : ℕ) (port : PortImage) → slice_get (q ∷ order) k ≡ Some p → IsPort image p port → ((old.place p).turn ≡ until + 1) ⊎ Waits image banks p port old
      idle first rest zero p port at is =
          let same : q ≡ p = cc in
          subst (λ (s : PortImage). ((old.place p).turn ≡ until + 1) ⊎ Waits image banks p s old) (same_port image p steps.0 port (subst (λ n. IsPort image n steps.0) same steps.4) is)
          (subst (λ n. ((old.place n).turn ≡ until + 1) ⊎ Waits image banks n steps.0 old) same first.1)
      idle first rest (suc k) p port at is = subst (λ (s : CoreState). ((s.place p).turn ≡ until + 1) ⊎ Waits image banks p port s) first.0 (rest k p port at is)

  -- a round in which nothing moves is one of ports that are done
  pub round_done : (old : CoreState) (answers : List CoreStep) (new : CoreState) → IsSound image stimulus banks until old → IsRound image stimulus banks until old answers new → moved_in answers ≡ 0 → AllDone image until old
  round_done old answers new sound round none =
      let parts = steps_still (range_with_len 0 count) old answers new round none in
      all_done image stimulus banks until fits some old sound (record {
        each = λ p port is. parts.1 p p port (range_get 0 count p (slice_get_within image.ports p port is) ∙ ap Some (zero-add p)) is;
      })

  -- ports that are done don't move
  done_step : (p : ℕ) (port : PortImage) (old new : CoreState) (answer : CoreStep) → (old.place p).turn ≡ until + 1 → IsStep image stimulus banks until p port old answer new → (moves answer ≡ 0) × (new ≡ old)
  done_step p port old new (Moved e) done step = let early = step.0 in absurd (omega arith)
  done_step p port old new NotYet done step = let early = step.0 in absurd (omega arith)
  done_step p port old new Done done step = (refl, step.1)

  pub done_still : (order : List ℕ) (old : CoreState) (answers : List CoreStep) (new : CoreState) → AllDone image until old → AreSteps image stimulus banks until order old answers new → (moved_in answers ≡ 0) × (new ≡ old)
  unfolding AreSteps moved_in
  done_still [] old answers new done steps = (ap moved_in steps.0, steps.1)
  done_still (p ∷ order) old answers new done steps =
      let first = done_step p steps.0 old steps.3 steps.1 (done.each p steps.0 steps.4) steps.6 in
      let rest = done_still order steps.3 steps.2 new (subst (AllDone image until) (sym first.1) done) steps.7 in
      let all : moved_in answers ≡ moves steps.1 + moved_in steps.2 = ap moved_in steps.5 in
      let one = first.0 in
      let others = rest.0 in
      (omega arith, rest.1 ∙ first.1)

  -- so many rounds leave so many events fewer, or all are done
  pub rounds_fall : (n : ℕ) (old new : CoreState) → IsSound image stimulus banks until old → AreRounds image stimulus banks until n old new
      → IsSound image stimulus banks until new × (AllDone image until new ⊎ (n + events_left image banks until new.place ≤ events_left image banks until old.place))
  unfolding AreRounds
  rounds_fall zero old new sound rounds = (
    subst (IsSound image stimulus banks until) (sym rounds) sound,
    inr (let e : events_left image banks until new.place ≡ events_left image banks until old.place = ap (λ (s : CoreState). events_left image banks until s.place) rounds in omega arith),
  )
  rounds_fall (suc n) old new sound rounds =
      let before = rounds_fall n old rounds.1 sound rounds.2 in
      let falls = run_falls (range_with_len 0 count) rounds.1 rounds.0 new before.0 rounds.3 in
      let now = steps_sound image stimulus banks until fits some (range_with_len 0 count) rounds.1 rounds.0 new before.0 rounds.3 in (
        now,
        elim before.1 [
          | inl done ↦ inl (subst (AllDone image until) (sym (done_still (range_with_len 0 count) rounds.1 rounds.0 new done rounds.3).1) done)
          | inr more ↦ elim (cases_eq (moved_in rounds.0) 0) [
            | inl none ↦ let done = round_done rounds.1 rounds.0 new before.0 rounds.3 none in inl (subst (AllDone image until) (sym (done_still (range_with_len 0 count) rounds.1 rounds.0 new done rounds.3).1) done)
            | inr one ↦ inr (omega arith)
          ]
        ],
      )

  -- a state in which nothing is left is one in which all are done
  pub none_left : (state : CoreState) → IsSound image stimulus banks until state → events_left image banks until state.place ≡ 0 → AllDone image until state
  none_left state sound none = record {
    each = λ p port is.
        let inside = slice_get_within image.ports p port is in
        let grows = sum_grows (λ q. of_port (port_left count banks until (state.place q)) (slice_get image.ports q)) p count inside in
        let mine : of_port (port_left count banks until (state.place p)) (slice_get image.ports p) ≡ port_left count banks until (state.place p) port = ap (of_port (port_left count banks until (state.place p))) is in
        let ends = (sound.paced.places p port is).ends in
        elim (cases_lt until (state.place p).turn) [
          | inl done ↦ omega arith
          | inr early ↦
              let work = from_test (nat_le (state.place p).turn until) ((until - (state.place p).turn) * work_of port + missing (state.place p).puts (out_slots port.outs) + missing (state.place p).takes (in_slots port.ins) + 1) 0 (le-leb (state.place p).turn until early) in
              absurd (omega arith)
        ];
  }

  pub rounds_suffice : (state : CoreState) → AreRounds image stimulus banks until (events image banks until) (first_state count) state → AllDone image until state
  rounds_suffice state rounds =
      let falls = rounds_fall (events image banks until) (first_state count) state (starts_sound image stimulus banks until fits some) rounds in
      elim falls.1 [
        | inl done ↦ done
        | inr more ↦ let all = starts_left in none_left state falls.0 (omega arith)
      ]
