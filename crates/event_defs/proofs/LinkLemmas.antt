-- Images that are linked alike make the same steps.
use Rattle.std.proofs.Common.{List, Some, [], ap, ap₂, arith, inl, inr, length, refl, slice_get, subst, sym, ℕ, ◌%◌, ◌-◌, ◌/◌, ◌∙◌, ◌∷◌, ◌≡◌, ◌≤◌}
use Rattle.std.proofs.{Math.Path.fun_ext, lemmas.Option.slice_get_cases, lemmas.Option.slice_get_within}
use Rattle.logic_four.specs.declared.V4.TheVariants.{Undef}
use Rattle.net_defs.specs.declared.stimulus.Stimulus.{Stimulus}
use Rattle.image_defs.specs.{Places.IsPort, WellFormed.IsWellFormed, declared.image.Image.Image, declared.image.LinkIn.LinkIn, declared.image.LinkOut.LinkOut}
use Rattle.image_defs.specs.declared.image.PortImage.{PortImage}
use Rattle.event_defs.proofs.lemmas.AlikeLemmas.{Summed, answered, next_alike, placed, receives_alike, stamped, summed, told}
use Rattle.event_defs.proofs.lemmas.{KeptLemmas.starts_sound, KeptLemmas.step_sound, NextLemmas.one_next, NextLemmas.receives_one, PaceLemmas.same_send}
use Rattle.event_defs.specs.Steps.{AreFirstSteps, AreSteps, CoreState, Reads, first_state, rows_done, stamp_of, updated}
use Rattle.event_defs.specs.{Linked.AreLinkedAlike, Linked.ArePortsAlike, code.Linked.AreAlike, Next.IsNext, Next.ReceivesNext, Places.IsSend, Places.start}
use Rattle.event_defs.specs.{Sound.IsSound, declared.place.Action.Action, declared.place.CoreStep.CoreStep, declared.place.Place.Place}
use Rattle.event_defs.specs.declared.place.CoreStep.TheVariants.{Moved, NotYet, Done}
use Rattle.event_defs.specs.declared.place.Action.TheVariants as action
use Rattle.event_defs.specs.declared.place.Event.TheVariants as event

flip : (one other : PortImage) → ArePortsAlike one other → ArePortsAlike other one
flip one other alike = record { outs = sym alike.outs; ins = sym alike.ins }

module _ (one other : Image) (linked : AreLinkedAlike one other) (fits : IsWellFormed one) where
  -- a send of one is a send of the other
  send_alike : (q i : ℕ) (link : LinkOut) → IsSend other q i link → IsSend one q i link
  send_alike q i link send =
      let low = slice_get_within other.ports q send.port send.is in
      let count = linked.count in
      let port = (slice_get_cases one.ports q).1 in
      elim port [
        | inl there ↦ record {
          port = there.0;
          is = there.2;
          link_is = subst (λ outs. slice_get outs i ≡ Some link) (sym (linked.ports q there.0 send.port there.2 send.is).outs) send.link_is;
        }
        | inr past ↦ let far = past.0 in absurd (omega arith)
      ]

  module _ (banks until : ℕ) (some : 1 ≤ banks) (s t : CoreState) (alike : AreAlike s t) (p : ℕ) (port twin : PortImage) (is : IsPort one p port) (is_twin : IsPort other p twin) where
    twins : ArePortsAlike port twin
    twins = linked.ports p port twin is is_twin

    -- the words that they read are of the same turn
    same_stamp : (slot x y : ℕ) → Reads one banks p port s slot x → Reads other banks p twin t slot y → stamp_of x ≡ stamp_of y
    same_stamp slot x y a b =
        let b_there : ReceivesNext twin (s.place p).puts (s.place p).takes b.j b.link = subst (λ (f : ℕ → Place). ReceivesNext twin (f p).puts (f p).takes b.j b.link) (sym alike.place) b.receives in
        let b_next : ReceivesNext port (s.place p).puts (s.place p).takes b.j b.link = receives_alike twin port (flip port twin twins) (s.place p).puts (s.place p).takes b.j b.link b_there in
        let link_is : a.link ≡ b.link = (receives_one one fits p port is (s.place p).puts (s.place p).takes a.j b.j a.link b.link a.receives b_next).1 in
        let sender_is : a.link.sender ≡ b.link.sender = ap (λ (l : LinkIn). l.sender) link_is in
        let b_send : IsSend one b.link.sender b.i b.sent = send_alike b.link.sender b.i b.sent b.send in
        let number : a.i ≡ b.i = (same_send one fits b.link.sender a.i b.i a.sent b.sent (subst (λ q. IsSend one q a.i a.sent) sender_is a.send) b_send (a.same_slot ∙ sym b.same_slot)).0 in
        let turn_is : (s.place p).turn ≡ (t.place p).turn = ap (λ (f : ℕ → Place). (f p).turn) alike.place in
        ap stamp_of (a.word ∙ (ap₂ (λ q i. s.word q i ((s.place p).turn % banks)) sender_is number ∙ ap (λ n. s.word b.link.sender b.i (n % banks)) turn_is))
        ∙ (alike.stamps b.link.sender b.i ((t.place p).turn % banks) ∙ ap stamp_of (sym b.word))

    module _ (one_stimulus other_stimulus : Stimulus) (fits_other : IsWellFormed other) (sound : IsSound one one_stimulus banks until s) (sound_other : IsSound other other_stimulus banks until t)
        (a b : CoreStep) (new_s new_t : CoreState)
        (x : Summed one one_stimulus banks until fits some s sound p port is a new_s) (y : Summed other other_stimulus banks until fits_other some t sound_other p twin is_twin b new_t) where
      same_act : x.act ≡ y.act
      same_act =
          let there : IsNext twin (s.place p) banks until (λ slot. Undef) y.act = subst (λ (f : ℕ → Place). IsNext twin (f p) banks until (λ slot. Undef) y.act) (sym alike.place) y.next in
          one_next one fits p port is (s.place p) banks until (λ slot. Undef) x.act y.act x.next (next_alike twin port (flip port twin twins) (s.place p) banks until (λ slot. Undef) y.act there)

      by_act : (act : Action) → x.act ≡ act → answered banks (s.place p).turn s.finished x.stamp act ≡ answered banks (s.place p).turn s.finished y.stamp act
      by_act (action.Ask r) e = refl
      by_act (action.Put slot v) e = refl
      by_act (action.Take slot) e =
          let read = x.reads slot e in
          let other_read = y.reads slot (sym same_act ∙ e) in
          let stamps : x.stamp ≡ y.stamp = sym read.2 ∙ (same_stamp slot read.0 other_read.0 read.1 other_read.1 ∙ other_read.2) in
          ap (λ n. answered banks (s.place p).turn s.finished n (action.Take slot)) stamps
      by_act action.Tell e = refl
      by_act action.Done e = refl

      pub same_answer : a ≡ b
      same_answer =
          x.answer_is
          ∙ (by_act x.act refl
          ∙ (ap (λ act. answered banks (s.place p).turn s.finished y.stamp act) same_act
          ∙ (ap₂ (λ (f : ℕ → Place) (g : ℕ → ℕ). answered banks (f p).turn g y.stamp y.act) alike.place alike.finished
          ∙ sym y.answer_is)))

      same_stamps : ◌≡◌ {A = ℕ → ℕ → ℕ → ℕ} (λ q i b. stamp_of (s.word q i b)) (λ q i b. stamp_of (t.word q i b))
      same_stamps = fun_ext (λ q. fun_ext (λ i. fun_ext (λ b. alike.stamps q i b)))

      by_send : (answer : CoreStep) → a ≡ answer → (stamps : ℕ → ℕ → ℕ → ℕ) (bank turn : ℕ) → stamped stamps p x.send bank turn answer ≡ stamped stamps p y.send bank turn answer
      by_send (Moved (event.Ask r)) e stamps bank turn = refl
      by_send (Moved (event.Put slot)) e stamps bank turn =
          let sent = x.sent slot e in
          let other_sent = y.sent slot (sym same_answer ∙ e) in
          let mine : IsSend one p x.send sent.0 = record { port = port; is = is; link_is = sent.1 } in
          let its : IsSend one p y.send other_sent.0 = record { port = port; is = is; link_is = subst (λ outs. slice_get outs y.send ≡ Some other_sent.0) (sym twins.outs) other_sent.1 } in
          ap (λ n. stamped stamps p n bank turn (Moved (event.Put slot))) (same_send one fits p x.send y.send sent.0 other_sent.0 mine its (sent.2 ∙ sym other_sent.2)).0
      by_send (Moved (event.Take slot)) e stamps bank turn = refl
      by_send (Moved event.Tell) e stamps bank turn = refl
      by_send NotYet e stamps bank turn = refl
      by_send Done e stamps bank turn = refl

      pub same_after : AreAlike new_s new_t
      same_after = record {
        place =
            x.place
            ∙ (ap₂ (λ (f : ℕ → Place) (g : ℕ → ℕ). updated f p (placed g (f p) a)) alike.place alike.finished
            ∙ (ap (λ answer. updated t.place p (placed t.finished (t.place p) answer)) same_answer
            ∙ sym y.place));
        finished =
            x.finished
            ∙ (ap₂ (λ (f : ℕ → Place) (g : ℕ → ℕ). told g p (f p).turn a) alike.place alike.finished
            ∙ (ap (λ answer. told t.finished p (t.place p).turn answer) same_answer
            ∙ sym y.finished));
        stamps = λ q i n.
            x.stamps q i n
            ∙ (ap (λ w. w q i n) (by_send a refl (λ q i b. stamp_of (s.word q i b)) ((s.place p).turn % banks) (s.place p).turn)
            ∙ (ap₂ (λ (w : ℕ → ℕ → ℕ → ℕ) (f : ℕ → Place). stamped w p y.send ((f p).turn % banks) (f p).turn a q i n) same_stamps alike.place
            ∙ (ap (λ answer. stamped (λ q i b. stamp_of (t.word q i b)) p y.send ((t.place p).turn % banks) (t.place p).turn answer q i n) same_answer
            ∙ sym (y.stamps q i n))));
      }

  -- ---- steps

  module _ (banks until : ℕ) (some : 1 ≤ banks) (one_stimulus other_stimulus : Stimulus) (fits_other : IsWellFormed other) where
    pub steps_alike : (order : List ℕ) (s t : CoreState) (xs ys : List CoreStep) (new_s new_t : CoreState) → AreAlike s t
        → IsSound one one_stimulus banks until s → IsSound other other_stimulus banks until t
        → AreSteps one one_stimulus banks until order s xs new_s → AreSteps other other_stimulus banks until order t ys new_t → (xs ≡ ys) × AreAlike new_s new_t
    unfolding AreSteps
    steps_alike [] s t xs ys new_s new_t alike sound sound_other a b =
        (a.0 ∙ sym b.0, subst (λ (u : CoreState). AreAlike u new_t) (sym a.1) (subst (λ (u : CoreState). AreAlike s u) (sym b.1) alike))
    steps_alike (p ∷ order) s t xs ys new_s new_t alike sound sound_other a b =
        let x = summed one one_stimulus banks until fits some s sound p a.0 a.4 a.1 a.3 a.6 in
        let y = summed other other_stimulus banks until fits_other some t sound_other p b.0 b.4 b.1 b.3 b.6 in
        let first = same_answer banks until some s t alike p a.0 b.0 a.4 b.4 one_stimulus other_stimulus fits_other sound sound_other a.1 b.1 a.3 b.3 x y in
        let middle = same_after banks until some s t alike p a.0 b.0 a.4 b.4 one_stimulus other_stimulus fits_other sound sound_other a.1 b.1 a.3 b.3 x y in
        let rest = steps_alike order a.3 b.3 a.2 b.2 new_s new_t middle
        (step_sound one one_stimulus banks until fits some s sound p a.0 a.4 a.1 a.3 a.6)
        (step_sound other other_stimulus banks until fits_other some t sound_other p b.0 b.4 b.1 b.3 b.6) a.7 b.7 in
        (a.5 ∙ (ap₂ (λ answer answers. answer ∷ answers) first rest.0 ∙ sym b.5), rest.1)

    pub first_alike : AreAlike (first_state (length one.ports)) (first_state (length other.ports))
    first_alike = record { place = ap (λ n. λ p. start n) linked.count; finished = refl; stamps = λ p i b. refl }

    pub links_decide : (order : List ℕ) (xs ys : List CoreStep) (s t : CoreState)
        → AreFirstSteps one one_stimulus banks until order xs s → AreFirstSteps other other_stimulus banks until order ys t
        → (xs ≡ ys) × (s.place ≡ t.place) × (rows_done one s ≡ rows_done other t)
    links_decide order xs ys s t a b =
        let all = steps_alike order (first_state (length one.ports)) (first_state (length other.ports)) xs ys s t first_alike
        (starts_sound one one_stimulus banks until fits some) (starts_sound other other_stimulus banks until fits_other some) a b in
        (all.0, all.1.place, ap₂ (λ (f : ℕ → ℕ) n. f (n - 1) / one.units) all.1.finished linked.count ∙ ap (λ u. t.finished (length other.ports - 1) / u) linked.units)
