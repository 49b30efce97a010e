-- Steps of a running packed port as steps of cores: of each lane's, which runs the lane's stimulus with one bank.
use Rattle.std.specs.Prelude.{List, Some, length, ℕ, ◌*◌, ◌+◌, ◌<◌, ◌≡◌, ◌≤◌}
use mathlib.Core.Option.{some}
use lib.ListN.{get_elem?}
use Rattle.logic_four.specs.Values.{code_of}
use Rattle.lane_planes.specs.{Lanes.lane_of, declared.planes.Planes.Planes}
use Rattle.stim_text.specs.declared.lanes.Lanes.{Lanes}
use Rattle.image_defs.specs.{Places.IsPort, declared.image.Image.Image, declared.image.LinkOut.LinkOut, declared.image.PortImage.PortImage}
use Rattle.event_defs.specs.{Places.IsSend, Sound.IsSound, Steps.CoreState, Steps.IsStep, Steps.stamp_of, declared.place.CoreStep.CoreStep}
use Rattle.event_defs.specs.declared.place.{CoreStep.TheVariants.Moved, Event.Event}
use Rattle.atomic_table.specs.{Seated.TableId, Table.State}
use Rattle.slot_words.specs.Layout.{progress_in, progress_word, send_word, sent_in, turns_told}
use Rattle.slot_words.specs.{packed.Passes.PackPassView, packed.Words.packed, packed.Words.stimulus_of, packed.Words.turns_of, declared.rule.Look.Look}
use Rattle.slot_words.specs.packed.Sound.{PackKey, PackView}

-- the core's word of a send says in this lane what the packed word says: both are 0 before the first Put, and then
-- the core's has the turn and the value of the lane, and the packed word that turn's stamp and planes with the value
pub record IsLaneWord (l word plain : ℕ) : Type 0 where
  pub fresh : stamp_of plain ≡ 0 → (word ≡ 0) × (plain ≡ 0)
  pub put : 1 ≤ stamp_of plain → (planes : Planes) × (word ≡ packed (stamp_of plain) planes) × (plain ≡ 4 * stamp_of plain + code_of (lane_of planes l))

-- in this state of a lane's core the word of the look says what the look found: a progress word has its number, and a
-- word of a send says in the lane what the number says
pub record ShowsIn (l : ℕ) (pass : PackPassView) (state : CoreState) (look : Look) : Type 0 where
  pub progress : (r : ℕ) → r < length pass.image.ports → look.word ≡ progress_word r → state.finished r ≡ look.number
  pub sent : (p i : ℕ) (link : LinkOut) → IsSend pass.image p i link → look.word ≡ send_word pass.image 1 p i 0 → IsLaneWord l look.number (state.word p i 0)

-- the state of a core is the lane's: it is sound for the lane's stimulus, the turns that ports have finished are those
-- that the words tell, its words of sends say in the lane what the packed words say, and in it each port stands where
-- its pass does
pub record IsStateIn (image : Image) (lanes : Lanes) (words : List ℕ) (views : List PackView) (l : ℕ) (state : CoreState) : Type 0 where
  pub sound : IsSound image (stimulus_of image lanes l) 1 (turns_of image lanes) state
  pub finished : (r : ℕ) → r < length image.ports → state.finished r ≡ turns_told (progress_in words r)
  pub word : (p i : ℕ) (link : LinkOut) → IsSend image p i link → IsLaneWord l (sent_in image 1 words p i 0) (state.word p i 0)
  pub stands : (id p : ℕ) (v : PackView) → get_elem? views id ≡ some v → v.port ≡ Some p → state.place p ≡ v.place

-- the same of a packed crossbar between any two steps
abbrev pub IsStateOf : PackKey → State (Unit {0}) PackView → ℕ → CoreState → Type 0
IsStateOf key s l state = IsStateIn key.image.value key.feed.value s.words s.views l state

-- the pass of port p that a seat has
abbrev pub pass_in : TableId → ℕ → PackView → PackPassView
pass_in table p v = record {
  table = table;
  port = p;
  image = v.image;
  feed = v.feed;
  banks = v.banks;
  place = v.place;
  steps = v.steps;
  last = v.last;
}

-- this is the step of the pass's port by the core of a lane
pub record IsCoreStep (l : ℕ) (pass : PackPassView) (state : CoreState) (answer : CoreStep) (after : CoreState) : Type 0 where
  pub port_image : PortImage
  pub is : IsPort pass.image pass.port port_image
  pub step : IsStep pass.image (stimulus_of pass.image pass.feed l) 1 (turns_of pass.image pass.feed) pass.port port_image state answer after

-- the core of the lane makes the same event; its port stands afterwards where the pass does, and the word of the pass's
-- last step, which the event read or wrote, says there what the pass found or left in it
pub record IsCoreEvent (l : ℕ) (old : PackPassView) (event : Event) (new : PackPassView) (state : CoreState) : Type 0 where
  pub after : CoreState
  pub step : IsCoreStep l old state (Moved event) after
  pub stands : after.place old.port ≡ new.place
  pub shows : ShowsIn l old after new.last
