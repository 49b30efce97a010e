-- What the table asks of each kind of step.
use Rattle.std.proofs.Common.{List, None, Some, [], ap, arith, eq-eqb, eqb, false, get_or, inl, inr, length, mod-lt, ne_eqb, refl, set, slice_get, subst, sym, true, ℕ, ◌%◌, ◌++◌, ◌+◌, ◌<◌, ◌∙◌, ◌∷◌, ◌≡◌, ◌≤◌}
use Rattle.std.proofs.lemmas.{Bool.cases_eq, List.set-get_or}
use mathlib.Core.Option.{none}
use prog.Atomic.{either}
use lib.ListN.{get_elem?}
use mathlib.Core.Option.{some}
use Rattle.atomic_table.proofs.Lists.{set_again}
use Rattle.atomic_table.specs.Table.{Act, Allows, Splits, State, Valid, carried_after, keeps, step, stepped}
use Rattle.image_defs.specs.{Places.IsPort, Places.Stands, declared.image.Image.Image, declared.image.LinkIn.LinkIn, declared.image.LinkOut.LinkOut}
use Rattle.image_defs.specs.declared.image.PortImage.{PortImage}
use Rattle.event_defs.proofs.lemmas.PaceLemmas.{reader_in}
use Rattle.event_defs.specs.Places.{IsSend, after_ask, after_put, after_take, after_tell, is_in, known_of}
use Rattle.event_defs.specs.Next.{EndsNext}
use Rattle.slot_words.proofs.StepLemmas.{ask_kept, claim_kept, kept_here, kept_there, put_kept, same_word, split_kept, stepped_view, take_finds, take_kept, tell_kept, told_more, wait_kept}
use Rattle.slot_words.specs.code.Plays.{Claims, Ends, FindsIn, Learns, Reads, Seated, Writes, after_step, claimed_by}
use Rattle.slot_words.specs.{Feeds.AreFew, Feeds.TellsTurns, Layout.progress_in, Layout.send_word, Layout.turns_told, Passes.WasSentBefore}
use Rattle.slot_words.specs.{Rule.IsKept, Rule.Kept, Rule.steps_in, declared.feed.Feed.Ghosts, declared.rule.Key.Key, declared.rule.TheConstants.UNCLAIMED}
use Rattle.slot_words.specs.declared.rule.View.{View}

true-ne-false : true ≡ false → ⊥
true-ne-false e = cc

-- a pass that may put knows each reader of the send to be near enough, and so it is
pub put_spares : {F D : Type 0} (g : Ghosts F D) (key : Key D) (s : State (Unit {0}) (View D)) → Kept g key s → (id p i r : ℕ) (v : View D) (link : LinkOut) → get_elem? s.views id ≡ some v → v.port ≡ Some p
    → IsSend v.image p i link → Stands link.readers r → v.place.turn ≤ known_of v.place r + v.banks → v.place.turn ≤ turns_told (progress_in s.words r) + v.banks
put_spares g key s kept id p i r v link at port_is send reads ready =
    let here = kept_here g key s.words s.views id v kept at in
    let r_in = reader_in v.image here.runs.image_fits p i r link send reads in
    let more = told_more g s.words s.views id p v here at port_is r r_in in
    omega arith

-- ---- what the table asks of each kind of step

-- a word that is read stays
loaded : {F D : Type 0} (g : Ghosts F D) (image : Image) (feed : D) (banks : ℕ) (words : List ℕ) (views : List (View D)) (word : ℕ) → IsKept g image feed banks words views → IsKept g image feed banks (set words word (get_or words word 0)) views
loaded g image feed banks words views word kept = subst (λ ws. IsKept g image feed banks ws views) (sym (set-get_or words word 0)) kept

module _ {F D : Type 0} (g : Ghosts F D) (key : Key D) (slots id : ℕ) (me : Seated D) where
  pub ask_allowed : (p r : ℕ) → me.0.port ≡ Some p → r < length me.0.image.ports → Allows (Kept g key) slots id me r (λ n. n) (Learns (step slots r 0 0 none) me)
  ask_allowed p r port_is r_in s kept _ at _ =
      let v : View D = me.0 in
      let x : ℕ = turns_told (get_or s.words r 0) in
      let w : View D = after_step v (steps_in s.views + 1) (after_ask v.place r x) r x in
      let here = kept_here g key s.words s.views id v kept at in (
        w,
        keeps,
        tt,
        kept_there g key s.words s.views id v kept at (set s.words r (get_or s.words r 0)) (set s.views id w)
            (loaded g v.image v.feed v.banks s.words (set s.views id w) r (ask_kept g s.words s.views id p v here at port_is r r_in)),
        record { at = steps_in s.views + 1; is = refl; more = told_more g s.words s.views id p v here at port_is r r_in },
      )

  pub put_allowed : (p i x : ℕ) (link : LinkOut) → me.0.port ≡ Some p → IsSend me.0.image p i link → is_in link.slot me.0.place.puts ≡ false → me.0.place.turn ≤ g.turns me.0.image me.0.feed
      → ((r : ℕ) → Stands link.readers r → me.0.place.turn ≤ known_of me.0.place r + me.0.banks) → g.sent me.0.image me.0.feed p link.slot me.0.place.turn x
      → (word : ℕ) → word ≡ send_word me.0.image me.0.banks p i (me.0.place.turn % me.0.banks)
      → Allows (Kept g key) slots id me word (λ _. x) (λ _. Writes (step slots word x 0 none) me x)
  put_allowed p i x link port_is send missing early ready put word word_is s kept _ at _ =
      let v : View D = me.0 in
      let here = kept_here g key s.words s.views id v kept at in
      let at_word : ℕ → Type 0 = λ k. IsKept g v.image v.feed v.banks (set s.words k x) (set s.views id (after_step v (steps_in s.views + 1) (after_put v.place link.slot) k x)) in (
        after_step v (steps_in s.views + 1) (after_put v.place link.slot) word x,
        keeps,
        tt,
        kept_there g key s.words s.views id v kept at (set s.words word x) (set s.views id (after_step v (steps_in s.views + 1) (after_put v.place link.slot) word x))
            (subst at_word (sym word_is) (put_kept g s.words s.views id p v here at port_is i x link send missing early ready put)),
        record {
          at = steps_in s.views + 1;
          each = λ q k other q_is word_of.
              let bank = mod-lt v.place.turn here.runs.some in
              let twin = same_word v.image v.banks p i q k (v.place.turn % v.banks) (v.place.turn % v.banks) link other send word_of.send bank bank (sym word_is ∙ word_of.is) in
              ap (λ (l : LinkOut). after_step v (steps_in s.views + 1) (after_put v.place l.slot) word x) twin.1;
        },
      )

  pub take_allowed : TellsTurns g.sent g.of_turn g.most_banks → (p : ℕ) (port : PortImage) (j i : ℕ) (link : LinkIn) (sent : LinkOut) → me.0.port ≡ Some p → IsPort me.0.image p port → slice_get port.ins j ≡ Some link → IsSend me.0.image link.sender i sent → sent.slot ≡ link.slot
      → is_in link.slot me.0.place.takes ≡ false → me.0.place.turn ≤ g.turns me.0.image me.0.feed
      → (word : ℕ) → word ≡ send_word me.0.image me.0.banks link.sender i (me.0.place.turn % me.0.banks)
      → Allows (Kept g key) slots id me word (λ n. n) (Reads g (step slots word 0 0 none) me)
  take_allowed turns p port j i link sent port_is is at_link send same_slot missing early word word_is s kept _ at _ =
      subst Allowed (sym word_is) (elim (take_finds g s.words s.views id p v here at port_is port is j link i sent at_link send same_slot turns) [
        | inl now ↦
            let w : View D = stepped_view g s.words s.views id p v here at port_is (after_take v.place link.slot) at_bank found in (
              w,
              keeps,
              tt,
              kept_there g key s.words s.views id v kept at (set s.words at_bank found) (set s.views id w)
                  (loaded g v.image v.feed v.banks s.words (set s.views id w) at_bank (take_kept g s.words s.views id p v here at port_is port is j link i sent at_link send same_slot missing early now.0)),
              tells w refl refl (record {
                at = w.at;
                takes = λ _. (
                  ap (λ t. after_step v w.at (after_take v.place t) at_bank found) (sym same_slot),
                  subst (λ t. g.sent v.image v.feed link.sender t v.place.turn found) (sym same_slot) now.2,
                );
                waits = λ other. absurd (true-ne-false (sym now.1 ∙ other));
              }),
            )
        | inr older ↦
            let w : View D = stepped_view g s.words s.views id p v here at port_is v.place at_bank found in (
              w,
              keeps,
              tt,
              kept_there g key s.words s.views id v kept at (set s.words at_bank found) (set s.views id w)
                  (loaded g v.image v.feed v.banks s.words (set s.views id w) at_bank (wait_kept g s.words s.views id p v here at port_is port is j link i sent at_link send same_slot)),
              tells w refl refl (record {
                at = w.at;
                takes = λ now. absurd (true-ne-false (sym now ∙ older.0));
                waits = λ _. (refl, subst (λ t. WasSentBefore g v.image v.feed link.sender t v.place.turn found) (sym same_slot) older.1);
              }),
            )
      ]) where
        v : View D
        v = me.0

        here : IsKept g v.image v.feed v.banks s.words s.views
        here = kept_here g key s.words s.views id v kept at

        at_bank : ℕ
        at_bank = send_word v.image v.banks link.sender i (v.place.turn % v.banks)

        found : ℕ
        found = get_or s.words at_bank 0

        Allowed : ℕ → Type 0
        Allowed k = (w : View D) × (a : Act (Unit {0})) × Valid s.homes me.1 a × Kept g key (stepped s k (get_or s.words k 0) id me.1 w a) × Reads g (step slots k 0 0 none) me (get_or s.words k 0) (w, carried_after me.1 a)

        -- no other send has this word
        tells : (w : View D) → w.steps ≡ v.steps + 1 → w.last ≡ record { word = at_bank; number = get_or s.words at_bank 0 } → FindsIn g v link.sender sent.slot at_bank (get_or s.words at_bank 0) w
            → Reads g (step slots at_bank 0 0 none) me (get_or s.words at_bank 0) (w, me.1)
        tells w counted seen finds = record {
          counted = counted;
          seen = seen;
          each = λ q k other word_of.
              let bank = mod-lt v.place.turn here.runs.some in
              let twin = same_word v.image v.banks link.sender i q k (v.place.turn % v.banks) (v.place.turn % v.banks) sent other send word_of.send bank bank word_of.is in
              subst (λ q. FindsIn g v q other.slot at_bank (get_or s.words at_bank 0) w) twin.0
              (subst (λ (l : LinkOut). FindsIn g v link.sender l.slot at_bank (get_or s.words at_bank 0) w) twin.1 finds);
        }

  pub tell_allowed : AreFew g.runs g.turns g.most_banks → (p x : ℕ) → me.0.port ≡ Some p → x ≡ me.0.place.turn → ((port : PortImage) → IsPort me.0.image p port → EndsNext port me.0.place.puts me.0.place.takes) → me.0.place.turn ≤ g.turns me.0.image me.0.feed
      → Allows (Kept g key) slots id me p (λ _. x) (λ _. Ends (step slots p x 0 none) me x)
  tell_allowed few p x port_is x_is next early s kept _ at _ =
      let v : View D = me.0 in
      let here = kept_here g key s.words s.views id v kept at in
      let at_turn : ℕ → Type 0 = λ x. IsKept g v.image v.feed v.banks (set s.words p x) (set s.views id (after_step v (steps_in s.views + 1) (after_tell v.place) p x)) in (
        after_step v (steps_in s.views + 1) (after_tell v.place) p x,
        keeps,
        tt,
        kept_there g key s.words s.views id v kept at (set s.words p x) (set s.views id (after_step v (steps_in s.views + 1) (after_tell v.place) p x))
            (subst at_turn (sym x_is) (tell_kept g s.words s.views id p v here at port_is few next early)),
        record { at = steps_in s.views + 1; is = refl },
      )

  pub claim_allowed : (p : ℕ) → me.0.port ≡ None → p < length me.0.image.ports
      → Allows (Kept g key) slots id me p (λ n. either (eqb n UNCLAIMED) 0 n) (Claims (step slots p UNCLAIMED 0 none) me)
  claim_allowed p no_port p_in s kept _ at _ = elim (cases_eq (get_or s.words p 0) UNCLAIMED) [
    | inl free ↦
        let v : View D = me.0 in
        let w : View D = claimed_by v p in
        let here = kept_here g key s.words s.views id v kept at in (
          w,
          keeps,
          tt,
          subst (λ b. Kept g key (stepped s p (either b 0 (get_or s.words p 0)) id me.1 w keeps)) (sym (eq-eqb (get_or s.words p 0) UNCLAIMED free))
              (kept_there g key s.words s.views id v kept at (set s.words p 0) (set s.views id w) (claim_kept g s.words s.views id v here at no_port p p_in free)),
          record { free = no_port; wins = λ _. refl; loses = λ other. absurd (other free) },
        )
    | inr taken ↦ (
      me.0,
      keeps,
      tt,
      subst (λ b. Kept g key (stepped s p (either b 0 (get_or s.words p 0)) id me.1 me.0 keeps)) (sym (ne_eqb (get_or s.words p 0) UNCLAIMED taken))
          (subst (λ vs. IsKept g key.image.value key.feed.value key.banks (set s.words p (get_or s.words p 0)) vs) (sym (set_again s.views id me.0 at))
          (loaded g key.image.value key.feed.value key.banks s.words s.views p kept)),
      record { free = no_port; wins = λ free. absurd (taken free); loses = λ _. refl },
    )
  ]

  pub split_allowed : me.0.port ≡ None → Splits (Kept g key) id me.0 me.0 me.0
  split_allowed no_port s kept at =
      let v : View D = me.0 in
      kept_there g key s.words s.views id v kept at s.words (set s.views id v ++ v ∷ []) (split_kept g s.words s.views id v (kept_here g key s.words s.views id v kept at) at no_port)
