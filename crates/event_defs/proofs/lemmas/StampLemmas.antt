-- What each event makes of the words of all sends: first of the turns that they name, without a value, and then
-- of their codes, without a place.
use Rattle.std.proofs.Common.{ap, arith, false, inl, inr, length, refl, subst, sym, ℕ, ◌%◌, ◌*◌, ◌+◌, ◌-◌, ◌<◌, ◌∙◌, ◌≡◌, ◌≤◌}
use Rattle.std.proofs.lemmas.Bool.{cases_eq}
use Rattle.logic_four.specs.{Values.code_of, declared.V4.V4}
use Rattle.net_defs.specs.declared.stimulus.Stimulus.{Stimulus}
use Rattle.image_defs.specs.{Frames.image_value, WellFormed.IsWellFormed, declared.image.Image.Image, declared.image.LinkOut.LinkOut}
use Rattle.event_defs.proofs.lemmas.PaceLemmas.{latest_here, latest_missing, latest_there, one_send, same_send}
use Rattle.event_defs.proofs.lemmas.WordLemmas.{first_coded, first_stamps, put_coded, put_stamps}
use Rattle.event_defs.proofs.lemmas.SlotLemmas.{each_updated, updated_here, updated_there}
use Rattle.event_defs.specs.Places.{IsSend, after_put, is_in, latest, start}
use Rattle.event_defs.specs.Sound.{AreCoded, AreStamped, AreStamps, IsCoded}
use Rattle.event_defs.specs.{Steps.stamp_of, Steps.updated, Steps.written, declared.place.Place.Place}

-- the words of one send, where a word of some send has been written
pub written_there : (word : ℕ → ℕ → ℕ → ℕ) (p i b x q j : ℕ) → ((q ≡ p) × (j ≡ i) → ⊥) → written word p i b x q j ≡ word q j
written_there word p i b x q j other = elim (cases_eq q p) [
  | inl same ↦ elim (cases_eq j i) [
    | inl same_i ↦ absurd (other (same, same_i))
    | inr differs ↦ subst (λ q. written word p i b x q j ≡ word q j) (sym same)
        (ap (λ w. w j) (updated_here word p (updated (word p) i (updated (word p i) b x))) ∙ updated_there (word p) i j (updated (word p i) b x) differs)
  ]
  | inr away ↦ ap (λ w. w j) (updated_there word p q (updated (word p) i (updated (word p i) b x)) away)
]

pub written_here : (word : ℕ → ℕ → ℕ → ℕ) (p i b x : ℕ) → written word p i b x p i ≡ updated (word p i) b x
written_here word p i b x = ap (λ w. w i) (updated_here word p (updated (word p) i (updated (word p i) b x))) ∙ updated_here (word p) i (updated (word p i) b x)

module _ (image : Image) (fits : IsWellFormed image) (banks : ℕ) where
  -- ---- turns

  -- a port has another place, with the same latest turn of each of its slots
  pub stamped_still : (place : ℕ → Place) (word : ℕ → ℕ → ℕ → ℕ) (p : ℕ) (x : Place) → AreStamped image banks place word
      → ((i : ℕ) (link : LinkOut) → IsSend image p i link → latest x link.slot ≡ latest (place p) link.slot) → AreStamped image banks (updated place p x) word
  stamped_still place word p x stamped same = record {
    each = λ q i link send. each_updated (λ q (a : Place). IsSend image q i link → AreStamps banks (latest a link.slot) (word q i)) place p x
        (λ s. subst (λ j. AreStamps banks j (word p i)) (sym (same i link s)) (stamped.each p i link s))
        (λ q _ s. stamped.each q i link s) q send;
  }

  -- a port puts in this turn's bank
  pub stamped_put : (place : ℕ → Place) (word : ℕ → ℕ → ℕ → ℕ) (p i x : ℕ) (link : LinkOut) → AreStamped image banks place word
      → IsSend image p i link → 1 ≤ (place p).turn → is_in link.slot (place p).puts ≡ false → stamp_of x ≡ (place p).turn
      → AreStamped image banks (updated place p (after_put (place p) link.slot)) (written word p i ((place p).turn % banks) x)
  stamped_put place word p i x link stamped mine begun missing stamp = record {
    each = λ q j other send. elim (cases_eq q p) [
      | inl same ↦ subst (λ q. AreStamps banks (latest (updated place p now q) other.slot) (written word p i bank x q j)) (sym same)
          (subst (λ (a : Place). AreStamps banks (latest a other.slot) (written word p i bank x p j)) (sym (updated_here place p now)) (at_here j other (subst (λ q. IsSend image q j other) same send)))
      | inr away ↦ subst (λ (a : Place). AreStamps banks (latest a other.slot) (written word p i bank x q j)) (sym (updated_there place p q now away))
          (subst (λ w. AreStamps banks (latest (place q) other.slot) w) (sym (written_there word p i bank x q j (λ e. away e.0))) (stamped.each q j other send))
    ];
  } where
    now : Place
    now = after_put (place p) link.slot

    bank : ℕ
    bank = (place p).turn % banks

    before : (place p).turn - 1 + 1 ≡ (place p).turn
    before = omega arith

    was : AreStamps banks ((place p).turn - 1) (word p i)
    was = subst (λ j. AreStamps banks j (word p i)) (latest_missing (place p) link.slot missing) (stamped.each p i link mine)

    words_now : AreStamps banks (place p).turn (updated (word p i) ((place p).turn % banks) x)
    words_now = subst (λ k. AreStamps banks k (updated (word p i) (k % banks) x)) before (put_stamps banks ((place p).turn - 1) (word p i) x (stamp ∙ sym before) was)

    at_here : (j : ℕ) (other : LinkOut) → IsSend image p j other → AreStamps banks (latest (after_put (place p) link.slot) other.slot) (written word p i ((place p).turn % banks) x p j)
    at_here j other send = elim (cases_eq other.slot link.slot) [
      | inl same ↦
          let found = same_send image fits p j i other link send mine same in
          let turn_is : latest (after_put (place p) link.slot) other.slot ≡ (place p).turn = ap (latest (after_put (place p) link.slot)) same ∙ latest_here (place p) link.slot in
          subst (λ k. AreStamps banks k (written word p i ((place p).turn % banks) x p j)) (sym turn_is)
          (subst (λ k. AreStamps banks (place p).turn (written word p i ((place p).turn % banks) x p k)) (sym found.0)
          (subst (λ w. AreStamps banks (place p).turn w) (sym (written_here word p i ((place p).turn % banks) x)) words_now))
      | inr differs ↦
          subst (λ k. AreStamps banks k (written word p i ((place p).turn % banks) x p j)) (sym (latest_there (place p) link.slot other.slot differs))
          (subst (λ w. AreStamps banks (latest (place p) other.slot) w) (sym (written_there word p i ((place p).turn % banks) x p j (λ e. differs (ap (λ (l : LinkOut). l.slot) (one_send image p j i other link send mine e.1))))) (stamped.each p j other send))
    ]

  pub starts_stamped : AreStamped image banks (λ p. start (length image.ports)) (λ p i b. 0)
  starts_stamped = record { each = λ p i link send. first_stamps banks }

  -- ---- codes

  module _ (stimulus : Stimulus) where
    abbrev pub value_of_send : ℕ → LinkOut → ℕ → V4
    value_of_send p link k = image_value image stimulus k p link.slot

    -- a bank gets a turn and the code of its value
    pub coded_put : (word : ℕ → ℕ → ℕ → ℕ) (p i b k : ℕ) (link : LinkOut) → AreCoded image stimulus banks word → IsSend image p i link → 1 ≤ k
        → AreCoded image stimulus banks (written word p i b (4 * k + code_of (image_value image stimulus k p link.slot)))
    coded_put word p i b k link coded mine first = record {
      each = λ q j c other send within. elim (cases_eq q p) [
        | inl same ↦ elim (cases_eq j i) [
          | inl same_i ↦ subst (λ q. IsCoded (value_of_send q other) (written word p i b x q j c)) (sym same)
              (subst (λ j. IsCoded (value_of_send p other) (written word p i b x p j c)) (sym same_i)
              (at_here c other (subst (λ j. IsSend image p j other) same_i (subst (λ q. IsSend image q j other) same send)) within))
          | inr differs ↦ subst (λ w. IsCoded (value_of_send q other) (w c)) (sym (written_there word p i b x q j (λ e. differs e.1))) (coded.each q j c other send within)
        ]
        | inr away ↦ subst (λ w. IsCoded (value_of_send q other) (w c)) (sym (written_there word p i b x q j (λ e. away e.0))) (coded.each q j c other send within)
      ];
    } where
      x : ℕ
      x = 4 * k + code_of (image_value image stimulus k p link.slot)

      at_here : (c : ℕ) (other : LinkOut) → IsSend image p i other → c < banks → IsCoded (value_of_send p other) (written word p i b (4 * k + code_of (image_value image stimulus k p link.slot)) p i c)
      at_here c other send within =
          let link_is = one_send image p i i link other mine send refl in
          let row = written_here word p i b (4 * k + code_of (image_value image stimulus k p link.slot)) in
          elim (cases_eq c b) [
            | inl same ↦ subst (λ (l : LinkOut). IsCoded (value_of_send p l) (written word p i b (4 * k + code_of (image_value image stimulus k p link.slot)) p i c)) link_is
                (subst (λ w. IsCoded (value_of_send p link) w) (sym (ap (λ w. w c) row ∙ subst (λ c. updated (word p i) b (4 * k + code_of (image_value image stimulus k p link.slot)) c ≡ 4 * k + code_of (image_value image stimulus k p link.slot)) (sym same) (updated_here (word p i) b (4 * k + code_of (image_value image stimulus k p link.slot)))))
                (put_coded (value_of_send p link) k first))
            | inr away ↦ subst (λ w. IsCoded (value_of_send p other) w) (sym (ap (λ w. w c) row ∙ updated_there (word p i) b c (4 * k + code_of (image_value image stimulus k p link.slot)) away)) (coded.each p i c other send within)
          ]

    pub starts_coded : AreCoded image stimulus banks (λ p i b. 0)
    starts_coded = record { each = λ p i b link send within. first_coded (value_of_send p link) }
