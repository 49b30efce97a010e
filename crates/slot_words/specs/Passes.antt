-- Words and a pass as contracts see them, and what each call does.
use Rattle.std.specs.Prelude.{◌≡◌, ℕ, ◌+◌, ◌%◌, ◌<◌, ◌≤◌, false, true, List, None, Option, Some, length, slice_get}
use Rattle.image_defs.specs.{Places.IsPort, Places.Stands, declared.image.Image.Image, declared.image.LinkIn.LinkIn, declared.image.LinkOut.LinkOut}
use Rattle.image_defs.specs.declared.image.PortImage.{PortImage}
use Rattle.event_defs.specs.Places.{IsSend, after_put, after_take, is_in, known_of, start}
use Rattle.event_defs.specs.{Next.EndsNext, declared.place.Place.Place}
use Rattle.atomic_table.specs.Seated.{TableId}
use Rattle.slot_words.specs.{declared.feed.Feed.Ghosts, declared.rule.Key.Key, declared.rule.Look.Look, Layout.send_word, Rule.IsRunnable}

-- a crossbar: which words, the key of their rule, and what they are made for
pub record WordsView (D : Type 0) : Type 0 where
  pub table : TableId
  pub key : Key D
  pub image : Image
  pub feed : D
  pub banks : ℕ

-- a pass: whose words, its port, where it stands, how many steps it has made, and the word and the number of
-- the last of them
pub record PassView (D : Type 0) : Type 0 where
  pub table : TableId
  pub port : ℕ
  pub image : Image
  pub feed : D
  pub banks : ℕ
  pub place : Place
  pub steps : ℕ
  pub last : Look

-- the crossbar gave the pass
pub record IsOf {D : Type 0} (bar : WordsView D) (pass : PassView D) : Type 0 where
  pub table : pass.table ≡ bar.table
  pub image : pass.image ≡ bar.image
  pub feed : pass.feed ≡ bar.feed
  pub banks : pass.banks ≡ bar.banks

-- what holds of each pass: it is of a port of a well-formed image, and knows something of each port
pub record IsFit {F D : Type 0} (g : Ghosts F D) (pass : PassView D) : Type 0 where
  pub runs : IsRunnable g pass.image pass.feed pass.banks
  pub inside : pass.port < length pass.image.ports
  pub wide : length pass.place.known ≡ length pass.image.ports

-- its turn is one of the run's
abbrev pub IsRunning : {F D : Type 0} → Ghosts F D → PassView D → Type 0
IsRunning g pass = pass.place.turn ≤ g.turns pass.image pass.feed

-- the pass after exactly one step, which saw this number in this word
abbrev pub one_step : {D : Type 0} → PassView D → Place → ℕ → ℕ → PassView D
one_step pass place word number = record pass { place = place; steps = pass.steps + 1; last = record { word = word; number = number } }

-- ---- making

-- the pass of port p before its first event
pub record IsFirstPass {D : Type 0} (bar : WordsView D) (p : ℕ) (pass : PassView D) : Type 0 where
  pub of : IsOf bar pass
  pub port_is : pass.port ≡ p
  pub place_is : pass.place ≡ start (length bar.image.ports)
  pub steps_none : pass.steps ≡ 0

-- the passes of the first n ports, in their order
pub record AreFirstPasses {D : Type 0} (bar : WordsView D) (n : ℕ) (passes : List (PassView D)) : Type 0 where
  pub long : length passes ≡ n
  pub each : (p : ℕ) (pass : PassView D) → slice_get passes p ≡ Some pass → IsFirstPass bar p pass

-- the rule is that of this image, feed and number of banks
pub record IsKeyOf {D : Type 0} (image : Image) (feed : D) (banks : ℕ) (key : Key D) : Type 0 where
  pub image_is : key.image.value ≡ image
  pub feed_is : key.feed.value ≡ feed
  pub banks_are : key.banks ≡ banks

-- a new crossbar, with one pass for each port
pub record IsMade {D : Type 0} (image : Image) (feed : D) (banks : ℕ) (bar : WordsView D) (passes : List (PassView D)) : Type 0 where
  pub key : IsKeyOf image feed banks bar.key
  pub image_is : bar.image ≡ image
  pub feed_is : bar.feed ≡ feed
  pub banks_are : bar.banks ≡ banks
  pub all : AreFirstPasses bar (length image.ports) passes

-- ---- Put

-- the pass may put in this slot: it sends there and hasn't put yet in this turn, and knows of each reader that it
-- has finished the turn whose word is overwritten
pub record CanPutIn {D : Type 0} (pass : PassView D) (slot : ℕ) : Type 0 where
  pub i : ℕ
  pub link : LinkOut
  pub send : IsSend pass.image pass.port i link
  pub slot_is : link.slot ≡ slot
  pub missing : is_in slot pass.place.puts ≡ false
  pub ready : (r : ℕ) → Stands link.readers r → pass.place.turn ≤ known_of pass.place r + pass.banks

-- it did: this turn's word of the send has this number
pub record HasPut {D : Type 0} (old : PassView D) (slot number : ℕ) (new : PassView D) : Type 0 where
  pub each : (i : ℕ) (link : LinkOut) → IsSend old.image old.port i link → link.slot ≡ slot
      → new ≡ one_step old (after_put old.place slot) (send_word old.image old.banks old.port i (old.place.turn % old.banks)) number

-- ---- Take

-- the pass may take in this slot: it receives there and hasn't taken yet in this turn
pub record CanTake {D : Type 0} (pass : PassView D) (slot : ℕ) : Type 0 where
  pub port : PortImage
  pub is : IsPort pass.image pass.port port
  pub j : ℕ
  pub link : LinkIn
  pub receives : slice_get port.ins j ≡ Some link
  pub slot_is : link.slot ≡ slot
  pub missing : is_in slot pass.place.takes ≡ false

-- the number is the one that was sent in this turn, which is 0 before the first
pub record IsSentIn {F D : Type 0} (g : Ghosts F D) (image : Image) (feed : D) (p slot turn number : ℕ) : Type 0 where
  pub fresh : turn ≡ 0 → number ≡ 0
  pub put : 1 ≤ turn → g.sent image feed p slot turn number

-- the number is one that the sender put in a turn before this one, or it has not put yet
pub record WasSentBefore {F D : Type 0} (g : Ghosts F D) (image : Image) (feed : D) (p slot turn number : ℕ) : Type 0 where
  pub before : ℕ
  pub less : before < turn
  pub sent : IsSentIn g image feed p slot before number

-- what comes of reading this word: the number that was sent in this turn where it is one of this turn, and else one
-- of a turn before
abbrev pub IsNumber : {F D : Type 0} → Ghosts F D → PassView D → ℕ → ℕ → ℕ → ℕ → Option ℕ → PassView D → Type 0
IsNumber g old sender slot word number (Some n) new =
    (n ≡ number) × (g.of_turn number old.place.turn ≡ true) × g.sent old.image old.feed sender slot old.place.turn number
    × (new ≡ one_step old (after_take old.place slot) word number)
IsNumber g old sender slot word number None new =
    (g.of_turn number old.place.turn ≡ false) × WasSentBefore g old.image old.feed sender slot old.place.turn number
    × (new ≡ one_step old old.place word number)

-- it read this turn's word of the send that comes by this link
pub record HasRead {F D : Type 0} (g : Ghosts F D) (old : PassView D) (link : LinkIn) (taken : Option ℕ) (new : PassView D) : Type 0 where
  pub i : ℕ
  pub sent : LinkOut
  pub send : IsSend old.image link.sender i sent
  pub same_slot : sent.slot ≡ link.slot
  pub found : IsNumber g old link.sender link.slot (send_word old.image old.banks link.sender i (old.place.turn % old.banks)) new.last.number taken new

-- it read what it receives in this slot
pub record HasTaken {F D : Type 0} (g : Ghosts F D) (old : PassView D) (slot : ℕ) (taken : Option ℕ) (new : PassView D) : Type 0 where
  pub each : (port : PortImage) (j : ℕ) (link : LinkIn) → IsPort old.image old.port port → slice_get port.ins j ≡ Some link → link.slot ≡ slot
      → HasRead g old link taken new

-- ---- Tell

-- the pass may end its turn: all is put and taken
pub record CanTell {D : Type 0} (pass : PassView D) : Type 0 where
  pub each : (port : PortImage) → IsPort pass.image pass.port port → EndsNext port pass.place.puts pass.place.takes
