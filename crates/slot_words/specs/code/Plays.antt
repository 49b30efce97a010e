-- What each step tells its pass, by the word and the number that it found or stored there.
use Rattle.std.specs.Prelude.{◌≡◌, ◌≢◌, ℕ, ◌+◌, ◌%◌, ◌≤◌, None, Some, false, length, true}
use mathlib.Core.Option.{none}
use Rattle.image_defs.specs.declared.image.LinkOut.{LinkOut}
use Rattle.event_defs.specs.Places.{IsSend, after_ask, after_put, after_take, after_tell, known_of, start}
use Rattle.event_defs.specs.declared.place.Place.{Place}
use Rattle.atomic_table.specs.Table.{Allows, Me, Step, step}
use Rattle.slot_words.specs.declared.{feed.Feed.Ghosts, rule.Key.Key, rule.TheConstants.UNCLAIMED, rule.View.View}
use Rattle.slot_words.specs.{Layout.send_word, Layout.turns_told, Passes.WasSentBefore, Rule.Kept}

-- the view after one more step, which saw this number in this word, and with which all passes had made so many
abbrev pub after_step : {D : Type 0} → View D → ℕ → Place → ℕ → ℕ → View D
after_step v at place word number = record v { place = place; steps = v.steps + 1; last = record { word = word; number = number }; at = at }

-- the view of the pass of port p
abbrev pub claimed_by : {D : Type 0} → View D → ℕ → View D
claimed_by v p = record v { port = Some p; place = start (length v.image.ports) }

abbrev pub Seated : Type 0 → Type 0
Seated D = Me (Unit {0}) (View D)

abbrev pub OneStep : Type 0
OneStep = Step (Unit {0})

-- of a seat that was no port's: an unclaimed port is the seat's from now on, and else nothing changes
pub record Claims {D : Type 0} (s : OneStep) (me : Seated D) (found : ℕ) (new : Seated D) : Type 0 where
  pub free : me.0.port ≡ None
  pub wins : found ≡ UNCLAIMED → new.0 ≡ claimed_by me.0 s.word
  pub loses : found ≢ UNCLAIMED → new.0 ≡ me.0

-- it has learnt how many turns the reader has finished, which are no fewer than it knew
pub record Learns {D : Type 0} (s : OneStep) (me : Seated D) (found : ℕ) (new : Seated D) : Type 0 where
  pub at : ℕ
  pub is : new.0 ≡ after_step me.0 at (after_ask me.0.place s.word (turns_told found)) s.word (turns_told found)
  pub more : known_of me.0.place s.word ≤ turns_told found

-- the word is this turn's of send number i of port p
pub record IsWordOf {D : Type 0} (v : View D) (word p i : ℕ) (link : LinkOut) : Type 0 where
  pub send : IsSend v.image p i link
  pub is : word ≡ send_word v.image v.banks p i (v.place.turn % v.banks)

-- it has put what it sends there
pub record Writes {D : Type 0} (s : OneStep) (me : Seated D) (stored : ℕ) (new : Seated D) : Type 0 where
  pub at : ℕ
  pub each : (p i : ℕ) (link : LinkOut) → me.0.port ≡ Some p → IsWordOf me.0 s.word p i link
      → new.0 ≡ after_step me.0 at (after_put me.0.place link.slot) s.word stored

-- a number of this turn is taken, and is the one that was sent in it; else it is of a turn before
pub record FindsIn {F D : Type 0} (g : Ghosts F D) (old : View D) (sender slot word found : ℕ) (new : View D) : Type 0 where
  pub at : ℕ
  pub takes : g.of_turn found old.place.turn ≡ true
      → (new ≡ after_step old at (after_take old.place slot) word found)
      × g.sent old.image old.feed sender slot old.place.turn found
  pub waits : g.of_turn found old.place.turn ≡ false
      → (new ≡ after_step old at old.place word found)
      × WasSentBefore g old.image old.feed sender slot old.place.turn found

-- it has read this number in this word
pub record Reads {F D : Type 0} (g : Ghosts F D) (s : OneStep) (me : Seated D) (found : ℕ) (new : Seated D) : Type 0 where
  pub counted : new.0.steps ≡ me.0.steps + 1
  pub seen : new.0.last ≡ record { word = s.word; number = found }
  pub each : (p i : ℕ) (link : LinkOut) → IsWordOf me.0 s.word p i link → FindsIn g me.0 p link.slot s.word found new.0

-- the next turn has begun
pub record Ends {D : Type 0} (s : OneStep) (me : Seated D) (stored : ℕ) (new : Seated D) : Type 0 where
  pub at : ℕ
  pub is : new.0 ≡ after_step me.0 at (after_tell me.0.place) s.word stored

-- ---- what the rule allows the seat with this number

module _ {F D : Type 0} (g : Ghosts F D) (key : Key D) (slots id : ℕ) (me : Seated D) where
  -- to load this word for an Ask, or for a Take
  abbrev pub MayAsk : ℕ → Type 0
  MayAsk word = Allows (Kept g key) slots id me word (λ n. n) (Learns (step slots word 0 0 none) me)

  abbrev pub MayTake : ℕ → Type 0
  MayTake word = Allows (Kept g key) slots id me word (λ n. n) (Reads g (step slots word 0 0 none) me)

  -- to store this number in this word for a Put, or for a Tell
  abbrev pub MayPut : ℕ → ℕ → Type 0
  MayPut word number = Allows (Kept g key) slots id me word (λ _. number) (λ _. Writes (step slots word number 0 none) me number)

  abbrev pub MayTell : ℕ → ℕ → Type 0
  MayTell word number = Allows (Kept g key) slots id me word (λ _. number) (λ _. Ends (step slots word number 0 none) me number)
