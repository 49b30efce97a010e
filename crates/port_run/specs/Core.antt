-- Steps of a running port as steps of a core.
use Rattle.std.specs.Prelude.{Bool, false, true, Some, length, ℕ, ◌<◌, ◌≡◌}
use mathlib.Core.Option.{some}
use lib.ListN.{get_elem?}
use Rattle.image_defs.specs.{Places.IsPort, declared.image.LinkOut.LinkOut, declared.image.PortImage.PortImage}
use Rattle.event_defs.specs.declared.place.Event.TheVariants.{Ask, Put, Take, Tell}
use Rattle.event_defs.specs.{Places.IsSend, Sound.IsSound, Steps.CoreState, Steps.IsStep, declared.place.CoreStep.CoreStep}
use Rattle.event_defs.specs.declared.place.{CoreStep.TheVariants.Moved, Event.Event}
use Rattle.atomic_table.specs.{Seated.TableId, Table.State}
use Rattle.slot_words.specs.Layout.{progress_in, progress_word, send_word, sent_in, turns_told}
use Rattle.slot_words.specs.{plain.Passes.PassView, plain.Words.turns_of, plain.Sound.PlainKey, plain.Sound.PlainView, declared.rule.Look.Look}

-- in this state of a core the word of the look has the number that the look found
pub record Shows (pass : PassView) (state : CoreState) (look : Look) : Type 0 where
  pub progress : (r : ℕ) → r < length pass.image.ports → look.word ≡ progress_word r → state.finished r ≡ look.number
  pub sent : (p i b : ℕ) (link : LinkOut) → IsSend pass.image p i link → b < pass.banks → look.word ≡ send_word pass.image pass.banks p i b → state.word p i b ≡ look.number

-- the event looks at a word, and writes none
abbrev pub is_look : Event → Bool
is_look (Ask reader) = true
is_look (Put slot) = false
is_look (Take slot) = true
is_look Tell = false

-- the port of the pass stands in this state where the pass does
abbrev pub StandsIn : PassView → CoreState → Type 0
StandsIn pass state = state.place pass.port ≡ pass.place

-- this is the core's step of the pass's port, in a run that has this last turn
pub record IsCoreStep (turns : ℕ) (pass : PassView) (state : CoreState) (answer : CoreStep) (after : CoreState) : Type 0 where
  pub port_image : PortImage
  pub is : IsPort pass.image pass.port port_image
  pub step : IsStep pass.image pass.feed pass.banks turns pass.port port_image state answer after

-- the core makes the same event; its port stands afterwards where the pass does, and the word of the pass's last
-- step, which the event read or wrote, has the number that it found or left there
pub record IsCoreEvent (turns : ℕ) (old : PassView) (event : Event) (new : PassView) (state : CoreState) : Type 0 where
  pub after : CoreState
  pub step : IsCoreStep turns old state (Moved event) after
  pub stands : StandsIn new after
  pub shows : Shows old after new.last

-- ---- the states of a crossbar

-- the pass of port p that a seat has
abbrev pub pass_in : TableId → ℕ → PlainView → PassView
pass_in table p v = record {
  table = table;
  port = p;
  image = v.image;
  feed = v.feed;
  banks = v.banks;
  place = v.place;
  steps = v.steps;
  last = v.last;
}

-- the state of the core is sound, it has the words of the crossbar, and in it each port stands where its pass does
pub record IsStateOf (key : PlainKey) (s : State (Unit {0}) PlainView) (state : CoreState) : Type 0 where
  pub sound : IsSound key.image.value key.feed.value key.banks (turns_of key.image.value key.feed.value) state
  pub finished : (r : ℕ) → r < length key.image.value.ports → state.finished r ≡ turns_told (progress_in s.words r)
  pub word : state.word ≡ sent_in key.image.value key.banks s.words
  pub stands : (id p : ℕ) (v : PlainView) → get_elem? s.views id ≡ some v → v.port ≡ Some p → state.place p ≡ v.place
