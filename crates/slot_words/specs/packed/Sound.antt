-- The rule of packed words, and what it implies: they are thirty crossbars of one bank that step together.
use Rattle.std.specs.Prelude.{◌≡◌, ◌≢◌, ◌↔◌, ℕ, ◌+◌, ◌*◌, ◌<◌, ◌≤◌, length, Some}
use Rattle.limits.specs.declared.TheConstants.{LANES}
use mathlib.Core.Option.{some}
use lib.ListN.{get_elem?}
use Rattle.logic_four.specs.Values.{code_of}
use Rattle.lane_planes.specs.{Lanes.lane_of, declared.planes.Planes.Planes}
use Rattle.stim_text.specs.declared.lanes.Lanes.{Lanes}
use Rattle.image_defs.specs.declared.image.LinkOut.{LinkOut}
use Rattle.event_defs.specs.{Places.IsSend, Places.latest, Places.start, Sound.IsSound, declared.place.Place.Place}
use Rattle.atomic_table.specs.Table.{State}
use Rattle.slot_words.specs.packed.Words.{packed, packs, stimulus_of, turns_of}
use Rattle.slot_words.specs.{Layout.progress_in, Layout.sent_in, Layout.turns_told, declared.rule.TheConstants.UNCLAIMED, declared.rule.Key.Key}
use Rattle.slot_words.specs.declared.rule.View.{View}
use Rattle.slot_words.specs.Rule as rule

abbrev pub PackKey : Type 0
PackKey = Key Lanes

abbrev pub PackView : Type 0
PackView = View Lanes

abbrev pub Kept : PackKey → State (Unit {0}) PackView → Type 0
Kept = rule.Kept packs

-- planes that were put in a turn: the word has them, and each lane's word has the lane's value with the turn
pub record ArePacked (turn word : ℕ) (plain : ℕ → ℕ) : Type 0 where
  pub planes : Planes
  pub is : word ≡ packed turn planes
  pub lanes : (l : ℕ) → l < LANES → plain l ≡ 4 * turn + code_of (lane_of planes l)

-- the word of a send that was put last in this turn, and the words that it has in the lanes: all are 0 before the
-- first Put
pub record IsPackOf (turn word : ℕ) (plain : ℕ → ℕ) : Type 0 where
  pub fresh : turn ≡ 0 → (word ≡ 0) × ((l : ℕ) → plain l ≡ 0)
  pub put : 1 ≤ turn → ArePacked turn word plain

-- all seats have the key's image and lanes, and one bank; the passes stand at places which, in each lane, are sound with words of
-- a crossbar of one bank for the lane's stimulus; and the words are those of the lanes, packed by the turns of
-- their last Puts. A progress word is unclaimed exactly where no seat has its port's pass; and then the port
-- stands at its start
pub record ArePassesSound (key : PackKey) (s : State (Unit {0}) PackView) : Type 0 where
  pub same : (id : ℕ) (v : PackView) → get_elem? s.views id ≡ some v → (v.image ≡ key.image.value) × (v.feed ≡ key.feed.value) × (v.banks ≡ 1)
  pub place : ℕ → Place
  pub places : (id p : ℕ) (v : PackView) → get_elem? s.views id ≡ some v → v.port ≡ Some p → (p < length key.image.value.ports) × (v.place ≡ place p)
  pub unclaimed : (p : ℕ) → p < length key.image.value.ports → (progress_in s.words p ≡ UNCLAIMED) ↔ ((id : ℕ) (v : PackView) → get_elem? s.views id ≡ some v → v.port ≢ Some p)
  pub fresh : (p : ℕ) → p < length key.image.value.ports → progress_in s.words p ≡ UNCLAIMED → place p ≡ start (length key.image.value.ports)
  pub word : ℕ → ℕ → ℕ → ℕ → ℕ
  pub sound : (l : ℕ) → IsSound key.image.value (stimulus_of key.image.value key.feed.value l) 1 (turns_of key.image.value key.feed.value) (record {
    place = place;
    finished = λ p. turns_told (progress_in s.words p);
    word = word l;
  })
  pub packs : (p i : ℕ) (link : LinkOut) → IsSend key.image.value p i link → IsPackOf (latest (place p) link.slot) (sent_in key.image.value 1 s.words p i 0) (λ l. word l p i 0)
