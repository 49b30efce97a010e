-- What the rule of words says of packed ones.
use Rattle.std.proofs.Common.{List, None, Option, Some, ap, ap₂, arith, eq-eqb, false, if◌then◌else◌, inl, inr, ne_eqb, slice_get, subst, sym, true, ℕ, ◌%◌, ◌*◌, ◌+◌, ◌∙◌, ◌≡◌, ◌≢◌, ◌≤◌}
use Rattle.std.proofs.lemmas.Bool.{cases_eq, eqb-true}
use Rattle.std.specs.Prelude.{◌==◌}
use mathlib.Core.Option.{some}
use lib.ListN.{get_elem?}
use Rattle.logic_four.specs.{Values.code_of, declared.V4.V4}
use Rattle.lane_planes.specs.declared.planes.Planes.{Planes}
use Rattle.stim_text.specs.declared.lanes.Lanes.{Lanes}
use Rattle.image_defs.specs.{Frames.image_value, Places.Stands, declared.image.Image.Image, declared.image.LinkOut.LinkOut, declared.image.PortImage.PortImage}
use Rattle.event_defs.proofs.lemmas.WordLemmas.{first_coded, put_coded}
use Rattle.event_defs.proofs.lemmas.WordLemmas as plain
use Rattle.event_defs.specs.Places.{IsSend, after_put, known_of, latest}
use Rattle.event_defs.specs.Sound.{AreCoded, AreStamped, AreStamps, IsCoded}
use Rattle.event_defs.specs.Steps as plain_stamp
use Rattle.atomic_table.specs.Table.{State}
use Rattle.slot_words.proofs.AllowLemmas as bank
use Rattle.slot_words.proofs.{lemmas.SoundLemmas.counts, lemmas.SoundLemmas.unclaimed_is, WordLemmas.read_back}
use Rattle.slot_words.specs.Layout.{progress_in, send_word, sent_in, turns_told}
use Rattle.slot_words.specs.Passes.{CanPutIn, HasPut, HasTaken, IsNumber}
use Rattle.slot_words.specs.packed.Passes.{AreValues, CanPut, IsFit, IsFound, IsPut, IsTake, PackPassView, one_step}
use Rattle.slot_words.specs.packed.Sound.{ArePassesSound, IsPackOf, Kept, PackKey, PackView}
use Rattle.slot_words.specs.packed.Words.{HasPlanes, packed, packs, stamp_in, packed_stamp_of, stimulus_of, turns_of}
use Rattle.slot_words.specs.{Rule.AreBanked, Rule.IsKept, Rule.IsRunnable, code.PackedWords.IsTakenOf, declared.pack_words.words.PackTaken.PackTaken}
use Rattle.slot_words.specs.declared.pack_words.words.PackTaken.TheVariants.{NotYet, Value}

-- ---- one bank

pub one_bank : (turn : ℕ) → turn % 1 ≡ 0
one_bank turn = omega arith

pub banks_one : (image : Image) (lanes : Lanes) (banks : ℕ) → IsRunnable packs image lanes banks → banks ≡ 1
banks_one image lanes banks runs = let some = runs.some in let few = runs.few in omega arith

pub bank_word : (image : Image) (banks p i turn : ℕ) → banks ≡ 1 → send_word image banks p i (turn % banks) ≡ send_word image 1 p i 0
bank_word image banks p i turn one = ap (λ b. send_word image b p i (turn % b)) one ∙ ap (send_word image 1 p i) (one_bank turn)

-- ---- what a put and a take do, by the planes

module _ (old : PackPassView) (fit : IsFit old) where
  one : old.banks ≡ 1
  one = banks_one old.image old.feed old.banks fit.runs

  pub can_put : (slot : ℕ) (planes : Planes) → CanPut old slot planes → CanPutIn old slot
  can_put slot planes can = record {
    i = can.i;
    link = can.link;
    send = can.send;
    slot_is = can.slot_is;
    missing = can.missing;
    ready = λ r reads. subst (λ b. old.place.turn ≤ known_of old.place r + b) (sym one) (can.ready r reads);
  }

  pub put_seen : (new : PackPassView) (slot turn number : ℕ) (planes : Planes) → turn ≡ old.place.turn → number ≡ packed turn planes → HasPut old slot number new → IsPut old slot planes new
  put_seen new slot turn number planes turn_is number_is has = record {
    each = λ i link send slot_is. has.each i link send slot_is
        ∙ ap₂ (one_step old (after_put old.place slot)) (bank_word old.image old.banks old.port i old.place.turn one) (number_is ∙ ap (λ t. packed t planes) turn_is);
  }

  found_seen : (new : PackPassView) (sender slot word number : ℕ) (found : Option ℕ) (taken : PackTaken) → IsTakenOf found taken → IsNumber packs old sender slot word number found new → IsFound old sender slot word number taken new
  found_seen new sender slot word number (Some n) (Value planes) planes_are is =
      let turn : ℕ = old.place.turn in
      let has : HasPlanes old.image old.feed sender slot turn number = is.2 in
      let now : packed_stamp_of number ≡ stamp_in turn = eqb-true (packed_stamp_of number) (stamp_in turn) is.1 in
      let same : planes ≡ has.planes = read_back turn n planes has.planes (is.0 ∙ has.is) planes_are in
      (now, has.is ∙ ap (packed turn) (sym same), subst (AreValues old.image old.feed turn sender slot) (sym same) has.values, is.3)
  found_seen new sender slot word number (Some n) NotYet wrong is = absurd wrong
  found_seen new sender slot word number None (Value planes) wrong is = absurd wrong
  found_seen new sender slot word number None NotYet _ is = (other, is.1, is.2) where
    other : packed_stamp_of number ≢ stamp_in old.place.turn
    other same = let yes : true ≡ false = sym (eq-eqb (packed_stamp_of number) (stamp_in old.place.turn) same) ∙ is.0 in cc

  pub take_seen : (new : PackPassView) (slot : ℕ) (found : Option ℕ) (taken : PackTaken) → IsTakenOf found taken → HasTaken packs old slot found new → IsTake old slot taken new
  take_seen new slot found taken taken_is has = record {
    each = λ port j link is at slot_is.
        let read = has.each port j link is at slot_is in
        record {
          i = read.i;
          sent = read.sent;
          send = read.send;
          same_slot = read.same_slot;
          found = subst (λ w. IsFound old link.sender link.slot w new.last.number taken new) (bank_word old.image old.banks link.sender read.i old.place.turn one)
              (found_seen new link.sender link.slot (send_word old.image old.banks link.sender read.i (old.place.turn % old.banks)) new.last.number found taken taken_is read.found);
        };
  }

-- ---- the word that a send has in a lane

-- the word of what was put last in this turn
word_for : (ℕ → V4) → ℕ → ℕ
word_for value k = if k == 0 then 0 else 4 * k + code_of (value k)

word_none : (value : ℕ → V4) (k : ℕ) → k ≡ 0 → word_for value k ≡ 0
unfolding word_for
word_none value k none = ap (λ b. if b then 0 else 4 * k + code_of (value k)) (eq-eqb k 0 none)

word_some : (value : ℕ → V4) (k : ℕ) → 1 ≤ k → word_for value k ≡ 4 * k + code_of (value k)
unfolding word_for
word_some value k first = ap (λ b. if b then 0 else 4 * k + code_of (value k)) (ne_eqb k 0 (λ e. omega arith))

word_stamps : (value : ℕ → V4) (k : ℕ) → AreStamps 1 k (λ b. word_for value k)
word_stamps value k = record {
  written = λ j first upto near.
      let same : j ≡ k = omega arith in
      subst (λ n. plain_stamp.stamp_of (word_for value k) ≡ n) (sym same) (ap plain_stamp.stamp_of (word_some value k (omega arith)) ∙ plain.stamp_in k (value k));
  fresh = λ j later few. ap plain_stamp.stamp_of (word_none value k (omega arith));
}

word_coded : (value : ℕ → V4) (k : ℕ) → IsCoded value (word_for value k)
word_coded value k = elim (cases_eq k 0) [
  | inl none ↦ subst (IsCoded value) (sym (word_none value k none)) (first_coded value)
  | inr some_turn ↦ let first : 1 ≤ k = omega arith in subst (IsCoded value) (sym (word_some value k first)) (put_coded value k first)
]

-- the slot of send number i of port p
slot_of_link : Option LinkOut → ℕ
slot_of_link (Some link) = link.slot
slot_of_link None = 0

slot_in : Option PortImage → ℕ → ℕ
slot_in (Some port) i = slot_of_link (slice_get port.outs i)
slot_in None i = 0

slot_at : Image → ℕ → ℕ → ℕ
slot_at image p i = slot_in (slice_get image.ports p) i

slot_is : (image : Image) (p i : ℕ) (link : LinkOut) → IsSend image p i link → slot_at image p i ≡ link.slot
unfolding slot_at slot_in slot_of_link
slot_is image p i link send = ap (λ o. slot_in o i) send.is ∙ ap slot_of_link send.link_is

module _ (image : Image) (lanes : Lanes) (words : List ℕ) (views : List PackView) (kept : IsKept packs image lanes 1 words views) where
  abbrev value : ℕ → ℕ → ℕ → ℕ → V4
  value l p slot k = image_value image (stimulus_of image lanes l) k p slot

  abbrev put_in : ℕ → ℕ → ℕ
  put_in p slot = latest (kept.place p) slot

  -- the words of a lane
  abbrev word : ℕ → ℕ → ℕ → ℕ → ℕ
  word l p i b = word_for (value l p (slot_at image p i)) (put_in p (slot_at image p i))

  lane_stamped : (l : ℕ) → AreStamped image 1 kept.place (word l)
  lane_stamped l = record {
    each = λ p i link send. subst (λ s. AreStamps 1 (put_in p s) (word l p i)) (slot_is image p i link send) (word_stamps (value l p (slot_at image p i)) (put_in p (slot_at image p i)));
  }

  lane_coded : (l : ℕ) → AreCoded image (stimulus_of image lanes l) 1 (word l)
  lane_coded l = record {
    each = λ p i b link send low. subst (λ s. IsCoded (value l p s) (word l p i b)) (slot_is image p i link send) (word_coded (value l p (slot_at image p i)) (put_in p (slot_at image p i)));
  }

  -- they are those that the packed words have
  lane_packs : (p i : ℕ) (link : LinkOut) → IsSend image p i link → IsPackOf (put_in p link.slot) (sent_in image 1 words p i 0) (λ l. word l p i 0)
  lane_packs p i link send = subst (λ s. IsPackOf (put_in p link.slot) (sent_in image 1 words p i 0) (λ l. word_for (value l p s) (put_in p s))) (sym (slot_is image p i link send)) (record {
    fresh = λ none. (sent.fresh 1 (omega arith) (omega arith), (λ l. word_none (value l p link.slot) (put_in p link.slot) none));
    put = λ first.
        let has : HasPlanes image lanes p link.slot (put_in p link.slot) (sent_in image 1 words p i 0) = subst (λ b. HasPlanes image lanes p link.slot (put_in p link.slot) (sent_in image 1 words p i b)) (one_bank (put_in p link.slot)) (sent.written (put_in p link.slot) first (omega arith) (omega arith)) in
        record {
          planes = has.planes;
          is = has.is;
          lanes = λ l low. word_some (value l p link.slot) (put_in p link.slot) first ∙ ap (λ v. 4 * put_in p link.slot + code_of v) (sym (has.values l low));
        };
  }) where
    sent : AreBanked packs image lanes 1 p link.slot (put_in p link.slot) (sent_in image 1 words p i)
    sent = kept.sent.each p i link send

-- ---- what the rule implies

-- the rule speaks of one bank
pub one_kept : (key : PackKey) (s : State (Unit {0}) PackView) → Kept key s → IsKept packs key.image.value key.feed.value 1 s.words s.views
one_kept key s kept = subst (λ b. IsKept packs key.image.value key.feed.value b s.words s.views) (banks_one key.image.value key.feed.value key.banks kept.runs) kept

pub rule_sound : (key : PackKey) (s : State (Unit {0}) PackView) → Kept key s → ArePassesSound key s
rule_sound key s every = record {
  same = kept.owned.same;
  place = kept.place;
  places = λ id p v at port_is. let m = kept.owned.mine id p v at port_is in (m.inside, m.place_is);
  unclaimed = unclaimed_is packs key s every;
  fresh = kept.owned.fresh;
  word = word key.image.value key.feed.value s.words s.views kept;
  sound = λ l. record {
    finished = counts key.image.value key.feed.value 1 (turns_of key.image.value key.feed.value) s.words s.views kept.place kept.owner kept.owned kept.timed;
    paced = kept.timed.paced;
    stamps = lane_stamped key.image.value key.feed.value s.words s.views kept l;
    codes = lane_coded key.image.value key.feed.value s.words s.views kept l;
  };
  packs = lane_packs key.image.value key.feed.value s.words s.views kept;
} where
  kept : IsKept packs key.image.value key.feed.value 1 s.words s.views
  kept = one_kept key s every

pub put_spares : (key : PackKey) (s : State (Unit {0}) PackView) → Kept key s → (id p i r : ℕ) (v : PackView) (link : LinkOut) → get_elem? s.views id ≡ some v → v.port ≡ Some p
    → IsSend v.image p i link → Stands link.readers r → v.place.turn ≤ known_of v.place r + 1 → v.place.turn ≤ turns_told (progress_in s.words r) + 1
put_spares key s kept id p i r v link at port_is send reads =
    subst (λ b. v.place.turn ≤ known_of v.place r + b → v.place.turn ≤ turns_told (progress_in s.words r) + b) ((kept.owned.same id v at).2 ∙ banks_one key.image.value key.feed.value key.banks kept.runs)
    (bank.put_spares packs key s kept id p i r v link at port_is send reads)
