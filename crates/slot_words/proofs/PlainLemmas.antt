-- What the rule of words says of plain ones.
use Rattle.std.proofs.Common.{None, Option, Some, ap, arith, inl, inr, subst, sym, ℕ, ◌%◌, ◌*◌, ◌+◌, ◌<◌, ◌∙◌, ◌≡◌}
use Rattle.std.proofs.lemmas.Bool.{cases_eq, eqb-true}
use Rattle.logic_four.specs.{Values.code_of, declared.V4.V4}
use Rattle.net_defs.specs.declared.stimulus.Stimulus.{Stimulus}
use Rattle.image_defs.specs.{Frames.image_value, declared.image.Image.Image}
use Rattle.event_defs.proofs.lemmas.WordLemmas.{decoded, first_coded, put_coded, stamp_in}
use Rattle.event_defs.specs.{Places.after_put, Sound.AreStamps, Sound.IsCoded, Steps.stamp_of}
use Rattle.atomic_table.specs.Table.{State}
use Rattle.slot_words.proofs.{BankLemmas.turn_in, lemmas.SoundLemmas.counts, lemmas.SoundLemmas.unclaimed_is}
use Rattle.slot_words.specs.Passes.{HasPut, HasTaken, IsNumber, WasSentBefore}
use Rattle.slot_words.specs.plain.Passes.{IsFound, IsPut, IsTake, PassView, one_step}
use Rattle.slot_words.specs.plain.Sound.{ArePassesSound, Kept, PlainKey, PlainView}
use Rattle.slot_words.specs.{Layout.send_word, Rule.AreBanked, code.PlainWords.IsTakenOf, declared.crossbar.Taken.Taken}
use Rattle.slot_words.specs.{declared.crossbar.Taken.TheVariants.NotYet, declared.crossbar.Taken.TheVariants.Value, plain.Words.plain, plain.Words.turns_of}

-- ---- what a put and a take do, by the values

pub put_seen : (old new : PassView) (slot turn number : ℕ) (v : V4) → turn ≡ old.place.turn → number ≡ 4 * turn + code_of v → HasPut old slot number new → IsPut old slot v new
put_seen old new slot turn number v turn_is number_is has = record {
  each = λ i link send slot_is. has.each i link send slot_is
      ∙ ap (one_step old (after_put old.place slot) (send_word old.image old.banks old.port i (old.place.turn % old.banks))) (number_is ∙ ap (λ t. 4 * t + code_of v) turn_is);
}

-- a number of a turn before has its stamp
older : (image : Image) (stimulus : Stimulus) (p slot turn number : ℕ) → WasSentBefore plain image stimulus p slot turn number → stamp_of number < turn
older image stimulus p slot turn number was = elim (cases_eq was.before 0) [
  | inl none ↦ let less = was.less in let stamp : stamp_of number ≡ 0 = ap stamp_of (was.sent.fresh none) in omega arith
  | inr some ↦
      let less = was.less in
      let stamp : stamp_of number ≡ was.before = ap stamp_of (was.sent.put (omega arith)) ∙ stamp_in was.before (image_value image stimulus was.before p slot) in
      omega arith
]

found_seen : (old new : PassView) (sender slot word number : ℕ) (found : Option ℕ) (taken : Taken) → IsTakenOf found taken → IsNumber plain old sender slot word number found new → IsFound old sender slot word number taken new
found_seen old new sender slot word number (Some n) (Value v) v_is is = (
  eqb-true (stamp_of number) old.place.turn is.1,
  v_is ∙ decoded n old.place.turn (image_value old.image old.feed old.place.turn sender slot) (is.0 ∙ is.2),
  is.3,
)
found_seen old new sender slot word number (Some n) NotYet wrong is = absurd wrong
found_seen old new sender slot word number None (Value v) wrong is = absurd wrong
found_seen old new sender slot word number None NotYet _ is = (older old.image old.feed sender slot old.place.turn number is.1, is.2)

pub take_seen : (old new : PassView) (slot : ℕ) (found : Option ℕ) (taken : Taken) → IsTakenOf found taken → HasTaken plain old slot found new → IsTake old slot taken new
take_seen old new slot found taken taken_is has = record {
  each = λ port j link is at slot_is.
      let read = has.each port j link is at slot_is in
      record {
        i = read.i;
        sent = read.sent;
        send = read.send;
        same_slot = read.same_slot;
        found = found_seen old new link.sender link.slot (send_word old.image old.banks link.sender read.i (old.place.turn % old.banks)) new.last.number found taken taken_is read.found;
      };
}

-- ---- turns and codes of the words

module _ (image : Image) (stimulus : Stimulus) (banks p slot last : ℕ) (word : ℕ → ℕ) (are : AreBanked plain image stimulus banks p slot last word) where
  abbrev value : ℕ → V4
  value k = image_value image stimulus k p slot

  banked_stamps : AreStamps banks last word
  banked_stamps = record {
    written = λ k first upto near. ap stamp_of (are.written k first upto near) ∙ stamp_in k (value k);
    fresh = λ k later few. ap stamp_of (are.fresh k later few);
  }

  banked_coded : (b : ℕ) → b < banks → IsCoded value (word b)
  banked_coded b within =
      let turn = turn_in banks last b within in
      subst (λ b. IsCoded value (word b)) turn.1 (elim turn.2 [
        | inl had ↦ subst (IsCoded value) (sym (are.written turn.0 had.0 had.1 had.2)) (put_coded value turn.0 had.0)
        | inr none ↦ subst (IsCoded value) (sym (are.fresh turn.0 none.0 none.1)) (first_coded value)
      ])

pub rule_sound : (key : PlainKey) (s : State (Unit {0}) PlainView) → Kept key s → ArePassesSound key s
rule_sound key s kept = record {
  same = kept.owned.same;
  place = kept.place;
  places = λ id p v at port_is. let m = kept.owned.mine id p v at port_is in (m.inside, m.place_is);
  unclaimed = unclaimed_is plain key s kept;
  fresh = kept.owned.fresh;
  sound = record {
    finished = counts key.image.value key.feed.value key.banks (turns_of key.image.value key.feed.value) s.words s.views kept.place kept.owner kept.owned kept.timed;
    paced = kept.timed.paced;
    stamps = record { each = λ p i link send. banked_stamps _ _ _ _ _ _ _ (kept.sent.each p i link send) };
    codes = record { each = λ p i b link send within. banked_coded _ _ _ _ _ _ _ (kept.sent.each p i link send) b within };
  };
}
