-- What steps come to that are made one after another.
use Rattle.std.proofs.Common.{◌≡◌, ◌≢◌, ◌∙◌, ℕ, ◌+◌, ◌<◌, ◌≤◌, List, set, slice_get, slice_index, Some, inl, inr, sym, ap, subst, refl, arith}
use Rattle.std.proofs.lemmas.{Bool.cases_eq, Bool.cases_lt, List.length-set, Option.slice_get_within}
use Rattle.limits.specs.declared.TheConstants.{MAX_PORTS}
use Rattle.list_laws.proofs.{Places.one_there, Members.beside, Members.set_same, Members.set_other}
use Rattle.crew_run.specs.declared.gate.Gate as gate
use Rattle.crew_run.specs.declared.stepper.Stepper as stepper
use Rattle.crew_run.specs.code.Phases.{AreStepped, CanStep, Follows, HasRoomFor, IsStepped, Passes, begun}
use Rattle.crew_run.specs.{Crews.AreReady, Visits.IsElsewhere, Visits.IsUntold}

module _ {G : Type 0} (p : gate.Ghosts G) where
  pub untold_none : (q : ℕ) (g : G) → IsUntold p q g g
  untold_none q g = record { times = refl; latest = refl }

  pub untold_more : (q : ℕ) (g g' g'' : G) → IsUntold p q g g' → IsUntold p q g' g'' → IsUntold p q g g''
  untold_more q g g' g'' h i = record { times = i.times ∙ h.times; latest = i.latest ∙ h.latest }

module _ {S : Type 0} (m : stepper.Ghosts S) where
  -- the turn that was begun last never falls
  pub begun_later : (a b : S) → Follows m a b → begun m a ≤ begun m b
  begun_later a b h = omega (arith, h.later, h.last_turn)

module _ {S G : Type 0} (m : stepper.Ghosts S) (p : gate.Ghosts G) where
  -- a gate that was not told of a member that made no step
  pub passes_none : (a : S) (g g' : G) → IsUntold p (m.port a) g g' → Passes m p a a g g'
  passes_none a g g' h = record {
    times = ap (λ n. n + begun m a) h.times;
    latest = λ less. absurd (omega (arith, less));
    quiet = λ same. h.latest;
  }

  pub passes_more : (a b c : S) (g g' g'' : G) → Follows m a b → Follows m b c → Passes m p a b g g' → Passes m p b c g' g'' → Passes m p a c g g''
  passes_more a b c g g' g'' ab bc h i = record {
    times = omega (arith, h.times, times);
    latest = λ less. elim (cases_lt (begun m b) (begun m c)) [
      | inl later ↦ latest later
      | inr past ↦
          let same : begun m c ≡ begun m b = omega (arith, past, begun_later m b c bc) in
          quiet same ∙ (h.latest (omega (arith, less, same)) ∙ sym same)
    ];
    quiet = λ same. quiet (omega (arith, same, begun_later m a b ab, begun_later m b c bc)) ∙ h.quiet (omega (arith, same, begun_later m a b ab, begun_later m b c bc));
  } where
    times : slice_index (p.times g'') (m.port a) + begun m b ≡ slice_index (p.times g') (m.port a) + begun m c
    times = subst (λ q. slice_index (p.times g'') q + begun m b ≡ slice_index (p.times g') q + begun m c) ab.port i.times

    latest : begun m b < begun m c → slice_index (p.latest g'') (m.port a) ≡ begun m c
    latest less = subst (λ q. slice_index (p.latest g'') q ≡ begun m c) ab.port (i.latest less)

    quiet : begun m c ≡ begun m b → slice_index (p.latest g'') (m.port a) ≡ slice_index (p.latest g') (m.port a)
    quiet same = subst (λ q. slice_index (p.latest g'') q ≡ slice_index (p.latest g') q) ab.port (i.quiet same)

  -- the ports of members stay, and so do those that are none of theirs
  pub elsewhere_kept : (members members' : List S) (g g' : G) (q : ℕ) → AreStepped m p members g members' g' → IsElsewhere m members q → IsElsewhere m members' q
  elsewhere_kept members members' g g' q h away k b at =
      let (a, before) = beside members' members k b (sym h.count) at in
      λ is. away k a before (sym (h.follows k a b before at).port ∙ is)

  -- the members stay ready
  pub ready_kept : (members members' : List S) (g g' : G) → AreStepped m p members g members' g' → AreReady m members → AreReady m members'
  ready_kept members members' g g' h ready = record {
    port = λ k b at. subst (λ q. q < MAX_PORTS) (sym (follows k b at).port) (ready.port k (old k b at).0 (old k b at).1);
    apart = λ j k a b at at' away is. ready.apart j k (old j a at).0 (old k b at').0 (old j a at).1 (old k b at').1 away (sym (follows j a at).port ∙ (is ∙ (follows k b at').port));
    begun = λ k b at. omega (arith, (follows k b at).later, ready.begun k (old k b at).0 (old k b at).1);
    within = λ k b at. omega (arith, (follows k b at).within (ready.within k (old k b at).0 (old k b at).1), (follows k b at).last_turn);
    small = λ k b at. omega (arith, (follows k b at).last_turn, ready.small k (old k b at).0 (old k b at).1);
  } where
    old : (k : ℕ) (b : S) → slice_get members' k ≡ Some b → (a : S) × (slice_get members k ≡ Some a)
    old k b at = beside members' members k b (sym h.count) at

    follows : (k : ℕ) (b : S) (at : slice_get members' k ≡ Some b) → Follows m (old k b at).0 b
    follows k b at = h.follows k (old k b at).0 b (old k b at).1 at

  -- and so does the room for their turns
  pub can_step_kept : (members members' : List S) (g g' : G) → AreStepped m p members g members' g' → CanStep m p members g → CanStep m p members' g'
  can_step_kept members members' g g' h can = record { ready = ready_kept members members' g g' h can.ready; room = room } where
    room : (k : ℕ) (b : S) → slice_get members' k ≡ Some b → HasRoomFor m p b g'
    room k b at =
        let (a, before) = beside members' members k b (sym h.count) at in
        let follows = h.follows k a b before at in
        let told : slice_index (p.times g') (m.port b) + begun m a ≡ slice_index (p.times g) (m.port a) + begun m b = subst (λ q. slice_index (p.times g') q + begun m a ≡ slice_index (p.times g) (m.port a) + begun m b) (sym follows.port) (h.passes k a b before at).times in
        omega (arith, told, can.room k a before, follows.last_turn, begun_later m a b follows)

  -- so does the room for those of one
  pub room_once : (a b : S) (g g' : G) → IsStepped m p a g b g' → HasRoomFor m p a g → HasRoomFor m p b g'
  room_once a b g g' h room =
      let told : slice_index (p.times g') (m.port b) + begun m a ≡ slice_index (p.times g) (m.port a) + begun m b = subst (λ q. slice_index (p.times g') q + begun m a ≡ slice_index (p.times g) (m.port a) + begun m b) (sym h.follows.port) h.passes.times in
      omega (arith, told, room, h.follows.last_turn, begun_later m a b h.follows)

module _ {S G : Type 0} (m : stepper.Ghosts S) (p : gate.Ghosts G) (reflexive : (a : S) → m.same a a) where
  pub follows_none : (a : S) → Follows m a a
  follows_none a = record { same = reflexive a; port = refl; last_turn = refl; later = omega arith; within = λ h. h }

  pub stepped_none : (members : List S) (g : G) → AreStepped m p members g members g
  stepped_none members g = record {
    count = refl;
    follows = λ k a b at at'. subst (Follows m a) (one_there members k k a b refl at at') (follows_none a);
    passes = λ k a b at at'. subst (λ c. Passes m p a c g g) (one_there members k k a b refl at at') (passes_none m p a g g (untold_none p (m.port a) g));
    elsewhere = λ q away. untold_none p q g;
  }

  -- one member of them is stepped: no other has its port
  pub one_stepped : (members : List S) (j : ℕ) (a b : S) (g g' : G) → AreReady m members → slice_get members j ≡ Some a → IsStepped m p a g b g' → AreStepped m p members g (set members j b) g'
  one_stepped members j a b g g' ready at h = record {
    count = length-set members j b;
    follows = λ k c d here there. elim (cases_eq k j) [
      | inl same ↦ subst (λ e. Follows m e d) (is_old k c same here) (subst (Follows m a) (is_new k d same there) h.follows)
      | inr away ↦ subst (Follows m c) (is_kept k c d away here there) (follows_none c)
    ];
    passes = λ k c d here there. elim (cases_eq k j) [
      | inl same ↦ subst (λ e. Passes m p e d g g') (is_old k c same here) (subst (λ e. Passes m p a e g g') (is_new k d same there) h.passes)
      | inr away ↦ subst (λ e. Passes m p c e g g') (is_kept k c d away here there) (passes_none m p c g g' (h.others (m.port c) (ready.apart k j c a here at away)))
    ];
    elsewhere = λ q away. h.others q (λ is. away j a at (sym is));
  } where
    is_old : (k : ℕ) (c : S) → k ≡ j → slice_get members k ≡ Some c → a ≡ c
    is_old k c same here = one_there members j k a c (sym same) at here

    is_new : (k : ℕ) (d : S) → k ≡ j → slice_get (set members j b) k ≡ Some d → b ≡ d
    is_new k d same there = one_there (set members j b) j k b d (sym same) (set_same members j b (slice_get_within members j a at)) there

    is_kept : (k : ℕ) (c d : S) → k ≢ j → slice_get members k ≡ Some c → slice_get (set members j b) k ≡ Some d → c ≡ d
    is_kept k c d away here there = one_there members k k c d refl here (sym (set_other members j k b away) ∙ there)

module _ {S G : Type 0} (m : stepper.Ghosts S) (p : gate.Ghosts G) (transitive : (a b c : S) → m.same a b → m.same b c → m.same a c) where
  pub follows_more : (a b c : S) → Follows m a b → Follows m b c → Follows m a c
  follows_more a b c h i = record {
    same = transitive a b c h.same i.same;
    port = i.port ∙ h.port;
    last_turn = i.last_turn ∙ h.last_turn;
    later = omega (arith, h.later, i.later);
    within = λ low. let mid = i.within (omega (arith, h.within low, h.last_turn)) in omega (arith, mid, h.last_turn);
  }

  -- one member, stepped and stepped again
  pub once_more : (a b c : S) (g g' g'' : G) → IsStepped m p a g b g' → IsStepped m p b g' c g'' → IsStepped m p a g c g''
  once_more a b c g g' g'' h i = record {
    follows = follows_more a b c h.follows i.follows;
    passes = passes_more m p a b c g g' g'' h.follows i.follows h.passes i.passes;
    others = λ q away. untold_more p q g g' g'' (h.others q away) (i.others q (subst (λ r. q ≢ r) (sym h.follows.port) away));
  }

  pub stepped_more : (xs ys zs : List S) (g g' g'' : G) → AreStepped m p xs g ys g' → AreStepped m p ys g' zs g'' → AreStepped m p xs g zs g''
  stepped_more xs ys zs g g' g'' h i = record {
    count = i.count ∙ h.count;
    follows = λ k a c at at'. let (b, mid) = beside xs ys k a h.count at in follows_more a b c (h.follows k a b at mid) (i.follows k b c mid at');
    passes = λ k a c at at'. let (b, mid) = beside xs ys k a h.count at in passes_more m p a b c g g' g'' (h.follows k a b at mid) (i.follows k b c mid at') (h.passes k a b at mid) (i.passes k b c mid at');
    elsewhere = λ q away. untold_more p q g g' g'' (h.elsewhere q away) (i.elsewhere q (elsewhere_kept m p xs ys g g' q h away));
  }
