-- Images that are linked alike make the same places and answers, whatever they compute.
use Rattle.std.proofs.Common.{Bool, List, Some, ap, arith, eq-eqb, false, if◌then◌else◌, inl, inr, le-leb, nat_le, ne_eqb, refl, slice_get, subst, sym, true, ℕ, ◌%◌, ◌*◌, ◌+◌, ◌<◌, ◌==◌, ◌∙◌, ◌≡◌, ◌≤◌}
use Rattle.std.proofs.lemmas.Bool.{cases_eq, false≢true, lt-leb}
use Rattle.logic_four.specs.{Values.code_of, declared.V4.V4, declared.V4.TheVariants.Undef}
use Rattle.net_defs.specs.declared.stimulus.Stimulus.{Stimulus}
use Rattle.image_defs.specs.{Frames.image_value, Places.Each, Places.IsPort, WellFormed.IsWellFormed, declared.image.Image.Image, declared.image.LinkIn.LinkIn}
use Rattle.image_defs.specs.declared.image.{LinkOut.LinkOut, PortImage.PortImage}
use Rattle.event_defs.proofs.lemmas.SlotLemmas.{updated_here, updated_same, updated_there}
use Rattle.event_defs.proofs.lemmas.{StampLemmas.written_here, StampLemmas.written_there, WordLemmas.stamp_in}
use Rattle.event_defs.specs.Next.{EndsNext, IsDoneBelow, IsNext, ReceivesNext, SendsNext}
use Rattle.event_defs.specs.Places.{after_ask, after_put, after_take, after_tell, is_in}
use Rattle.event_defs.specs.Steps.{CoreState, IsStep, Reads, stamp_of, updated, written}
use Rattle.event_defs.specs.{Linked.ArePortsAlike, Sound.IsSound, declared.place.Action.Action, declared.place.CoreStep.CoreStep, declared.place.Place.Place}
use Rattle.event_defs.specs.declared.place.CoreStep.TheVariants.{Moved, NotYet, Done}
use Rattle.event_defs.specs.declared.place.Action.TheVariants as action
use Rattle.event_defs.specs.declared.place.Event.TheVariants as event

-- ---- what is next, by links alone

module _ (one other : PortImage) (alike : ArePortsAlike one other) (puts takes : List ℕ) where
  done_alike : (slot : ℕ) → IsDoneBelow one puts takes slot → IsDoneBelow other puts takes slot
  done_alike slot done = record {
    all_put = subst (λ outs. Each (λ (link : LinkOut). link.slot < slot → is_in link.slot puts ≡ true) outs) alike.outs done.all_put;
    all_taken = subst (λ ins. Each (λ (link : LinkIn). link.slot < slot → is_in link.slot takes ≡ true) ins) alike.ins done.all_taken;
  }

  pub sends_alike : (i : ℕ) (link : LinkOut) → SendsNext one puts takes i link → SendsNext other puts takes i link
  sends_alike i link next = record { is = subst (λ outs. slice_get outs i ≡ Some link) alike.outs next.is; missing = next.missing; below = done_alike link.slot next.below }

  pub receives_alike : (j : ℕ) (link : LinkIn) → ReceivesNext one puts takes j link → ReceivesNext other puts takes j link
  receives_alike j link next = record {
    is = subst (λ ins. slice_get ins j ≡ Some link) alike.ins next.is;
    missing = next.missing;
    below = done_alike link.slot next.below;
    put_there = subst (λ outs. Each (λ (out : LinkOut). out.slot ≡ link.slot → is_in out.slot puts ≡ true) outs) alike.outs next.put_there;
  }

  pub ends_alike : EndsNext one puts takes → EndsNext other puts takes
  ends_alike next = record {
    all_put = subst (λ outs. Each (λ (link : LinkOut). is_in link.slot puts ≡ true) outs) alike.outs next.all_put;
    all_taken = subst (λ ins. Each (λ (link : LinkIn). is_in link.slot takes ≡ true) ins) alike.ins next.all_taken;
  }

module _ (one other : PortImage) (alike : ArePortsAlike one other) (place : Place) (banks until : ℕ) (value : ℕ → V4) where
  pub next_alike : (action : Action) → IsNext one place banks until value action → IsNext other place banks until value action
  next_alike (action.Ask r) next = (next.0, record { i = next.1.i; link = next.1.link; sends = sends_alike one other alike place.puts place.takes next.1.i next.1.link next.1.sends; reads = next.1.reads; lags = next.1.lags; least = next.1.least })
  next_alike (action.Put slot v) next = (next.0, record { i = next.1.i; link = next.1.link; slot_is = next.1.slot_is; sends = sends_alike one other alike place.puts place.takes next.1.i next.1.link next.1.sends; ready = next.1.ready }, next.2)
  next_alike (action.Take slot) next = (next.0, record { j = next.1.j; link = next.1.link; slot_is = next.1.slot_is; receives = receives_alike one other alike place.puts place.takes next.1.j next.1.link next.1.receives })
  next_alike action.Tell next = (next.0, ends_alike one other alike place.puts place.takes next.1)
  next_alike action.Done next = next

-- ---- what a step makes, by its action alone

-- what comes of an action, by the finished turns and the turn of the word that is read
abbrev pub answered : ℕ → ℕ → (ℕ → ℕ) → ℕ → Action → CoreStep
answered banks turn finished stamp (action.Ask r) = if nat_le turn (finished r + banks) then Moved (event.Ask r) else NotYet
answered banks turn finished stamp (action.Put slot v) = Moved (event.Put slot)
answered banks turn finished stamp (action.Take slot) = if stamp == turn then Moved (event.Take slot) else NotYet
answered banks turn finished stamp action.Tell = Moved event.Tell
answered banks turn finished stamp action.Done = Done

-- and the place after it
abbrev pub placed : (ℕ → ℕ) → Place → CoreStep → Place
placed finished place (Moved (event.Ask r)) = after_ask place r (finished r)
placed finished place (Moved (event.Put slot)) = after_put place slot
placed finished place (Moved (event.Take slot)) = after_take place slot
placed finished place (Moved event.Tell) = after_tell place
placed finished place NotYet = place
placed finished place Done = place

-- and the finished turns
abbrev pub told : (ℕ → ℕ) → ℕ → ℕ → CoreStep → ℕ → ℕ
told finished p turn (Moved (event.Ask r)) = finished
told finished p turn (Moved (event.Put slot)) = finished
told finished p turn (Moved (event.Take slot)) = finished
told finished p turn (Moved event.Tell) = updated finished p turn
told finished p turn NotYet = finished
told finished p turn Done = finished

-- and the turns of all words, by the send that is put
abbrev pub stamped : (ℕ → ℕ → ℕ → ℕ) → ℕ → ℕ → ℕ → ℕ → CoreStep → ℕ → ℕ → ℕ → ℕ
stamped stamps p i b turn (Moved (event.Ask r)) = stamps
stamped stamps p i b turn (Moved (event.Put slot)) = written stamps p i b turn
stamped stamps p i b turn (Moved (event.Take slot)) = stamps
stamped stamps p i b turn (Moved event.Tell) = stamps
stamped stamps p i b turn NotYet = stamps
stamped stamps p i b turn Done = stamps

updated_stamp : (f : ℕ → ℕ) (b x c : ℕ) → stamp_of (updated f b x c) ≡ updated (λ n. stamp_of (f n)) b (stamp_of x) c
updated_stamp f b x c = elim (cases_eq c b) [
  | inl same ↦ subst (λ c. stamp_of (updated f b x c) ≡ updated (λ n. stamp_of (f n)) b (stamp_of x) c) (sym same) (ap stamp_of (updated_here f b x) ∙ sym (updated_here (λ n. stamp_of (f n)) b (stamp_of x)))
  | inr other ↦ ap stamp_of (updated_there f b c x other) ∙ sym (updated_there (λ n. stamp_of (f n)) b c (stamp_of x) other)
]

written_stamp : (word : ℕ → ℕ → ℕ → ℕ) (p i b x q j c : ℕ) → stamp_of (written word p i b x q j c) ≡ written (λ q i b. stamp_of (word q i b)) p i b (stamp_of x) q j c
written_stamp word p i b x q j c = elim (cases_eq q p) [
  | inl same ↦ elim (cases_eq j i) [
    | inl same_i ↦
        subst (λ q. stamp_of (written word p i b x q j c) ≡ written (λ q i b. stamp_of (word q i b)) p i b (stamp_of x) q j c) (sym same)
        (subst (λ j. stamp_of (written word p i b x p j c) ≡ written (λ q i b. stamp_of (word q i b)) p i b (stamp_of x) p j c) (sym same_i)
        (ap (λ w. stamp_of (w c)) (written_here word p i b x) ∙ (updated_stamp (word p i) b x c ∙ sym (ap (λ w. w c) (written_here (λ q i b. stamp_of (word q i b)) p i b (stamp_of x))))))
    | inr other ↦ ap (λ w. stamp_of (w c)) (written_there word p i b x q j (λ e. other e.1)) ∙ sym (ap (λ w. w c) (written_there (λ q i b. stamp_of (word q i b)) p i b (stamp_of x) q j (λ e. other e.1)))
  ]
  | inr away ↦ ap (λ w. stamp_of (w c)) (written_there word p i b x q j (λ e. away e.0)) ∙ sym (ap (λ w. w c) (written_there (λ q i b. stamp_of (word q i b)) p i b (stamp_of x) q j (λ e. away e.0)))
]

no_put : {A : Type 0} (slot : ℕ) (a : CoreStep) → (puts : CoreStep → Bool) → puts a ≡ false → puts (Moved (event.Put slot)) ≡ true → a ≡ Moved (event.Put slot) → A
no_put slot a puts not_a is_put same = absurd (false≢true (sym not_a ∙ (ap puts same ∙ is_put)))

abbrev puts_test : CoreStep → Bool
puts_test (Moved (event.Ask r)) = false
puts_test (Moved (event.Put slot)) = true
puts_test (Moved (event.Take slot)) = false
puts_test (Moved event.Tell) = false
puts_test NotYet = false
puts_test Done = false

module _ (image : Image) (stimulus : Stimulus) (banks until : ℕ) (fits : IsWellFormed image) (some : 1 ≤ banks) (old : CoreState) (sound : IsSound image stimulus banks until old) (p : ℕ) (port : PortImage) (is : IsPort image p port) where
  abbrev turn : ℕ
  turn = (old.place p).turn

  -- a step by its action: the send that it puts, and the turn of the word that it reads
  pub record Summed (answer : CoreStep) (new : CoreState) : Type 0 where
    pub act : Action
    pub next : IsNext port (old.place p) banks until (λ slot. Undef) act
    pub stamp : ℕ
    pub reads : (slot : ℕ) → act ≡ action.Take slot → (x : ℕ) × Reads image banks p port old slot x × (stamp_of x ≡ stamp)
    pub answer_is : answer ≡ answered banks (old.place p).turn old.finished stamp act
    pub place : new.place ≡ updated old.place p (placed old.finished (old.place p) answer)
    pub finished : new.finished ≡ told old.finished p (old.place p).turn answer
    pub send : ℕ
    pub sent : (slot : ℕ) → answer ≡ Moved (event.Put slot) → (link : LinkOut) × (slice_get port.outs send ≡ Some link) × (link.slot ≡ slot)
    pub stamps : (q i b : ℕ) → stamp_of (new.word q i b) ≡ stamped (λ q i b. stamp_of (old.word q i b)) p send ((old.place p).turn % banks) (old.place p).turn answer q i b

  no_take : {A : Type 0} (slot : ℕ) (a : Action) → (takes : Action → Bool) → takes a ≡ false → takes (action.Take slot) ≡ true → a ≡ action.Take slot → A
  no_take slot a takes not_a is_take same = absurd (false≢true (sym not_a ∙ (ap takes same ∙ is_take)))

  abbrev takes_test : Action → Bool
  takes_test (action.Ask r) = false
  takes_test (action.Put slot v) = false
  takes_test (action.Take slot) = true
  takes_test action.Tell = false
  takes_test action.Done = false

  pub summed : (answer : CoreStep) (new : CoreState) → IsStep image stimulus banks until p port old answer new → Summed answer new
  summed (Moved (event.Ask r)) new step = record {
    act = action.Ask r;
    next = (step.0, step.1.next);
    stamp = 0;
    reads = λ slot same. no_take slot (action.Ask r) takes_test refl refl same;
    answer_is = sym (ap {A = Bool} {B = CoreStep} (λ b. if b then Moved (event.Ask r) else NotYet) (le-leb turn (old.finished r + banks) step.1.moves));
    place = ap (λ (s : CoreState). s.place) step.1.is;
    finished = ap (λ (s : CoreState). s.finished) step.1.is;
    send = 0;
    sent = λ slot_t same. no_put slot_t (Moved (event.Ask r)) puts_test refl refl same;
    stamps = λ q i b. ap (λ (s : CoreState). stamp_of (s.word q i b)) step.1.is;
  }
  summed (Moved (event.Put slot)) new step = record {
    act = action.Put slot Undef;
    next = (step.0, step.1.next, refl);
    stamp = 0;
    reads = λ slot_t same. no_take slot_t (action.Put slot Undef) takes_test refl refl same;
    answer_is = refl;
    place = ap (λ (s : CoreState). s.place) step.1.is;
    finished = ap (λ (s : CoreState). s.finished) step.1.is;
    send = step.1.next.i;
    sent = λ slot_t same. let e : slot ≡ slot_t = cc in (step.1.next.link, step.1.next.sends.is, step.1.next.slot_is ∙ e);
    stamps = λ q i b. ap (λ (s : CoreState). stamp_of (s.word q i b)) step.1.is
        ∙ (written_stamp old.word p step.1.next.i (turn % banks) (4 * turn + code_of (image_value image stimulus turn p slot)) q i b
        ∙ ap (λ t. written (λ q i b. stamp_of (old.word q i b)) p step.1.next.i (turn % banks) t q i b) (stamp_in turn (image_value image stimulus turn p slot)));
  }
  summed (Moved (event.Take slot)) new step = record {
    act = action.Take slot;
    next = (step.0, record { j = step.1.reads.j; link = step.1.reads.link; slot_is = step.1.reads.slot_is; receives = step.1.reads.receives });
    stamp = stamp_of step.1.x;
    reads = λ slot_t same. let e : slot ≡ slot_t = cc in subst (λ s. (x : ℕ) × Reads image banks p port old s x × (stamp_of x ≡ stamp_of step.1.x)) e (step.1.x, step.1.reads, refl);
    answer_is = sym (ap {A = Bool} {B = CoreStep} (λ b. if b then Moved (event.Take slot) else NotYet) (eq-eqb (stamp_of step.1.x) turn step.1.moves));
    place = ap (λ (s : CoreState). s.place) step.1.is;
    finished = ap (λ (s : CoreState). s.finished) step.1.is;
    send = 0;
    sent = λ slot_t same. no_put slot_t (Moved (event.Take slot)) puts_test refl refl same;
    stamps = λ q i b. ap (λ (s : CoreState). stamp_of (s.word q i b)) step.1.is;
  }
  summed (Moved event.Tell) new step = record {
    act = action.Tell;
    next = (step.0, step.1.next);
    stamp = 0;
    reads = λ slot same. no_take slot action.Tell takes_test refl refl same;
    answer_is = refl;
    place = ap (λ (s : CoreState). s.place) step.1.is;
    finished = ap (λ (s : CoreState). s.finished) step.1.is;
    send = 0;
    sent = λ slot_t same. no_put slot_t (Moved event.Tell) puts_test refl refl same;
    stamps = λ q i b. ap (λ (s : CoreState). stamp_of (s.word q i b)) step.1.is;
  }
  summed NotYet new step = elim step.1 [
    | inl waits ↦ record {
      act = action.Ask waits.0;
      next = (step.0, waits.1.next);
      stamp = 0;
      reads = λ slot same. no_take slot (action.Ask waits.0) takes_test refl refl same;
      answer_is = sym (ap {A = Bool} {B = CoreStep} (λ b. if b then Moved (event.Ask waits.0) else NotYet) (lt-leb turn (old.finished waits.0 + banks) waits.1.less));
      place = ap (λ (s : CoreState). s.place) step.2 ∙ sym (updated_same old.place p);
      finished = ap (λ (s : CoreState). s.finished) step.2;
      send = 0;
      sent = λ slot_t same. no_put slot_t NotYet puts_test refl refl same;
      stamps = λ q i b. ap (λ (s : CoreState). stamp_of (s.word q i b)) step.2;
    }
    | inr waits ↦ record {
      act = action.Take waits.0;
      next = (step.0, record { j = waits.1.reads.j; link = waits.1.reads.link; slot_is = waits.1.reads.slot_is; receives = waits.1.reads.receives });
      stamp = stamp_of waits.1.x;
      reads = λ slot_t same. let e : waits.0 ≡ slot_t = cc in subst (λ s. (x : ℕ) × Reads image banks p port old s x × (stamp_of x ≡ stamp_of waits.1.x)) e (waits.1.x, waits.1.reads, refl);
      answer_is = sym (ap {A = Bool} {B = CoreStep} (λ b. if b then Moved (event.Take waits.0) else NotYet) (ne_eqb (stamp_of waits.1.x) turn (λ same. let less = waits.1.less in omega arith)));
      place = ap (λ (s : CoreState). s.place) step.2 ∙ sym (updated_same old.place p);
      finished = ap (λ (s : CoreState). s.finished) step.2;
      send = 0;
      sent = λ slot_t same. no_put slot_t NotYet puts_test refl refl same;
      stamps = λ q i b. ap (λ (s : CoreState). stamp_of (s.word q i b)) step.2;
    }
  ]
  summed Done new step = record {
    act = action.Done;
    next = step.0;
    stamp = 0;
    reads = λ slot same. no_take slot action.Done takes_test refl refl same;
    answer_is = refl;
    place = ap (λ (s : CoreState). s.place) step.1 ∙ sym (updated_same old.place p);
    finished = ap (λ (s : CoreState). s.finished) step.1;
    send = 0;
    sent = λ slot_t same. no_put slot_t Done puts_test refl refl same;
    stamps = λ q i b. ap (λ (s : CoreState). stamp_of (s.word q i b)) step.1;
  }
