-- What phases come to that follow one another.
use Rattle.std.proofs.Common.{◌≡◌, ◌≢◌, ◌∙◌, ℕ, ◌+◌, List, length, slice_get, Some, inl, inr, sym, ap, subst, arith}
use Rattle.std.proofs.lemmas.{Bool.cases_lt, Option.slice_get_within}
use Rattle.std.specs.List.{refill}
use Rattle.list_laws.proofs.{Places.one_there, Ranges.last_or, Members.beside, Members.refill_whole, Options.one_some}
use Rattle.crew_run.specs.declared.gate.Gate as gate
use Rattle.crew_run.specs.declared.stepper.Stepper as stepper
use Rattle.crew_run.specs.Crews.{AreReady, CanRun, HasRoomToRun, HasRun}
use Rattle.crew_run.specs.code.Phases.{AreBegun, AreDone, AreStepped, CanResume, CanStep, HasBegun, IsBegun, IsResumed, begun}
use Rattle.crew_run.specs.{declared.worker.Worker.Worker, Visits.AreVisits, Visits.IsTold, Visits.IsUntold}
use Rattle.crew_run.proofs.StepLemmas.{can_step_kept, stepped_more, untold_more, untold_none}

module _ {S G : Type 0} (m : stepper.Ghosts S) (p : gate.Ghosts G) where
  pub begun_none : (members : List S) (g : G) → AreBegun m p 0 members g g
  begun_none members g = record {
    told = λ k a low at. absurd (omega arith);
    untold = λ k a high at. untold_none p (m.port a) g;
    elsewhere = λ q away. untold_none p q g;
  }

  -- the gate was told of one member more: no other has its port
  pub begun_more : (n : ℕ) (members : List S) (a : S) (g g' g'' : G) → AreReady m members → slice_get members n ≡ Some a → AreBegun m p n members g g' → IsBegun m p a g' g'' → ((q : ℕ) → q ≢ m.port a → IsUntold p q g' g'') → AreBegun m p (n + 1) members g g''
  begun_more n members a g g' g'' ready at h now others = record {
    told = λ k b low here. elim (last_or k n low) [
      | inl before ↦ kept b (h.told k b before here) (others (m.port b) (ready.apart k n b a here at (λ same. absurd (omega (arith, same, before)))))
      | inr last ↦ subst (λ c. IsBegun m p c g g'') (one_there members n k a b (sym last) at here) (first (h.untold n a (omega arith) at))
    ];
    untold = λ k b high here. untold_more p (m.port b) g g' g'' (h.untold k b (omega (arith, high)) here) (others (m.port b) (ready.apart k n b a here at (λ same. absurd (omega (arith, same, high)))));
    elsewhere = λ q away. untold_more p q g g' g'' (h.elsewhere q away) (others q (λ is. away n a at (sym is)));
  } where
    kept : (b : S) → IsBegun m p b g g' → IsUntold p (m.port b) g' g'' → IsBegun m p b g g''
    kept b i quiet = record {
      times = ap (λ t. t + m.turn b) quiet.times ∙ i.times;
      latest = λ low. quiet.latest ∙ i.latest low;
      quiet = λ high. quiet.latest ∙ i.quiet high;
    }

    first : IsUntold p (m.port a) g g' → IsBegun m p a g g''
    first quiet = record {
      times = now.times ∙ ap (λ t. t + (begun m a + 1)) quiet.times;
      latest = now.latest;
      quiet = λ high. now.quiet high ∙ quiet.latest;
    }

  -- the count of a port that was not told leaves as much room as before
  pub untold_room : (n : ℕ) (members : List S) (a : S) (g g' : G) → slice_get members n ≡ Some a → AreBegun m p n members g g' → HasRoomToRun m p a g → HasRoomToRun m p a g'
  untold_room n members a g g' at h room = omega (arith, (h.untold n a (omega arith) at).times, room)

  -- once the gate was told of all, they can be stepped
  pub begun_can_step : (members : List S) (g g' : G) → AreReady m members → ((k : ℕ) (a : S) → slice_get members k ≡ Some a → HasRoomToRun m p a g) → AreBegun m p (length members) members g g' → CanStep m p members g'
  begun_can_step members g g' ready room h = record {
    ready = ready;
    room = λ k a at.
        let told = h.told k a (slice_get_within members k a at) at in
        omega (arith, told.times, room k a at, ready.within k a at);
  }

  -- what the gate was told once all members are done
  pub visits : (members members' : List S) (g g' g'' : G) → AreBegun m p (length members) members g g' → AreStepped m p members g' members' g'' → AreReady m members → AreDone m members' → AreVisits m p members g g''
  visits members members' g g' g'' first then ready done = record {
    told = told;
    elsewhere = λ q away. untold_more p q g g' g'' (first.elsewhere q away) (then.elsewhere q away);
  } where
    told : (k : ℕ) (a : S) → slice_get members k ≡ Some a → IsTold m p a g g''
    told k a at =
        let (b, at') = beside members members' k a then.count at in
        let opened = first.told k a (slice_get_within members k a at) at in
        let passed = then.passes k a b at at' in
        let same_last = (then.follows k a b at at').last_turn in
        let ended = done k b at' in
        let within = ready.within k a at in
        record {
          times = omega (arith, opened.times, passed.times, same_last, ended, within);
          latest = λ low. elim (cases_lt (begun m a) (begun m b)) [
            | inl later ↦ passed.latest later ∙ omega (arith, same_last, ended)
            | inr past ↦ passed.quiet (omega (arith, past, same_last, ended, low)) ∙ (opened.latest low ∙ omega (arith, past, same_last, ended, low))
          ];
          before = λ high. passed.quiet (omega (arith, high, same_last, ended)) ∙ opened.quiet high;
        }

  -- the gate of a worker that can run has room for its members
  pub room_of : (w : Worker S G) (g : G) → CanRun m p w → w.gate ≡ Some g → (k : ℕ) (a : S) → slice_get w.members k ≡ Some a → HasRoomToRun m p a g
  room_of w g can is k a at = subst (HasRoomToRun m p a) (one_some can.gate.told g (sym can.gate.is ∙ is)) (can.gate.room k a at)

  -- the gate of a worker between two phases leaves room for the turns of its members
  pub can_step_with : (w : Worker S G) (g : G) → CanResume m p w → w.gate ≡ Some g → CanStep m p w.members g
  can_step_with w g can is = subst (CanStep m p w.members) (one_some can.gate g (sym can.gate_is ∙ is)) can.can

  -- members that were lent out for their steps
  pub stepped_back : (members lent_out now : List S) (g g' : G) → lent_out ≡ members → AreStepped m p lent_out g now g' → AreStepped m p members g (refill (length members) members now) g'
  stepped_back members lent_out now g g' is h = rw (refill_whole members now (h.count ∙ ap length is)) (subst (λ xs. AreStepped m p xs g now g') is h)

  -- a worker that has begun can resume
  pub can_resume : (w w' : Worker S G) → CanRun m p w → HasBegun m p w w' → CanResume m p w'
  can_resume w w' can h = record {
    gate = h.gate';
    gate_is = h.gate'_is;
    can = can_step_kept m p w.members w'.members h.told h.gate' h.stepped (begun_can_step w.members h.gate h.told can.members (room_of w h.gate can h.gate_is) h.begun);
  }

  -- a worker that has begun and is done has run
  pub has_run : (w w' : Worker S G) → CanRun m p w → HasBegun m p w w' → AreDone m w'.members → HasRun m p w w'
  has_run w w' can h done = record {
    count = h.stepped.count;
    done = done;
    same = λ k a b at at'. (h.stepped.follows k a b at at').same;
    visits = λ g is. (h.gate', h.gate'_is, subst (λ x. AreVisits m p w.members x h.gate') (one_some h.gate g (sym h.gate_is ∙ is)) (visits w.members w'.members h.gate h.told h.gate' h.begun h.stepped can.members done));
  }

module _ {S G : Type 0} (m : stepper.Ghosts S) (p : gate.Ghosts G) (transitive : (a b c : S) → m.same a b → m.same b c → m.same a c) where
  -- after a later phase it has begun as before
  pub begun_resumed : (w w' w'' : Worker S G) → HasBegun m p w w' → IsResumed m p w' w'' → HasBegun m p w w''
  begun_resumed w w' w'' h i = record {
    gate = h.gate;
    gate_is = h.gate_is;
    told = h.told;
    begun = h.begun;
    gate' = i.gate';
    gate'_is = i.gate'_is;
    stepped = stepped_more m p transitive w.members w'.members w''.members h.told h.gate' i.gate' h.stepped again;
  } where
    again : AreStepped m p w'.members h.gate' w''.members i.gate'
    again = subst (λ g. AreStepped m p w'.members g w''.members i.gate') (one_some i.gate h.gate' (sym i.gate_is ∙ h.gate'_is)) i.stepped
