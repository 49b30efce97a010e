-- The rule: what holds of the words and of all passes between any two steps. It has four parts. The first says
-- which pass is which port's, the second speaks of turns alone, the third of the numbers in words of sends, by the turn of the last Put,
-- and the fourth of what passes saw at their last steps. What a send's number may be is the feed's.
use Rattle.std.specs.Prelude.{◌≡◌, ◌≢◌, ℕ, ◌+◌, ◌%◌, ◌<◌, ◌≤◌, List, length, None, Some}
use Rattle.std.specs.List.{sum_by}
use mathlib.Core.Option.{some}
use lib.ListN.{get_elem?}
use Rattle.image_defs.specs.{WellFormed.IsWellFormed, declared.image.Image.Image, declared.image.LinkOut.LinkOut}
use Rattle.event_defs.specs.{Places.IsSend, Places.latest, Places.start, Sound.ArePaced, declared.place.Place.Place}
use Rattle.atomic_table.specs.Table.{State}
use Rattle.slot_words.specs.Layout.{progress_in, sent_in, told_in, word_count}
use Rattle.slot_words.specs.declared.{feed.Feed.Ghosts, rule.Key.Key, rule.TheConstants.UNCLAIMED, rule.View.View}

-- the view of a seat that is no port's
abbrev pub unseated : {D : Type 0} → Image → D → ℕ → View D
unseated image feed banks = record {
  port = None;
  image = image;
  feed = feed;
  banks = banks;
  place = start (length image.ports);
  steps = 0;
  last = record { word = 0; number = 0 };
  at = 0;
}

abbrev pub nobody : {D : Type 0} → Key D → View D
nobody key = unseated key.image.value key.feed.value key.banks

-- what words are made for
pub record IsRunnable {F D : Type 0} (g : Ghosts F D) (image : Image) (feed : D) (banks : ℕ) : Type 0 where
  pub image_fits : IsWellFormed image
  pub feed_fits : g.runs image feed
  pub some : 1 ≤ banks
  pub few : banks ≤ g.most_banks

-- ---- ownership

-- a pass of port p, which has seat number id: its place is the port's, and the progress word is claimed
pub record IsPassOf {D : Type 0} (image : Image) (words : List ℕ) (place : ℕ → Place) (owner : ℕ → ℕ) (id p : ℕ) (v : View D) : Type 0 where
  pub inside : p < length image.ports
  pub owner_is : id ≡ owner p
  pub place_is : v.place ≡ place p
  pub claimed : progress_in words p ≢ UNCLAIMED

-- some seat has the pass of port p
pub record HasPass {D : Type 0} (views : List (View D)) (owner : ℕ → ℕ) (p : ℕ) : Type 0 where
  pub view : View D
  pub at : get_elem? views (owner p) ≡ some view
  pub port_is : view.port ≡ Some p

-- a seat is of this image, with this feed and so many banks
abbrev pub IsSeatOf : {D : Type 0} → Image → D → ℕ → View D → Type 0
IsSeatOf image feed banks v = (v.image ≡ image) × (v.feed ≡ feed) × (v.banks ≡ banks)

-- all seats have one image, one feed and one number of banks. Each port has one owner at most, and one exactly where
-- its progress word is claimed. A port without one stands at its start
pub record AreOwned {D : Type 0} (image : Image) (feed : D) (banks : ℕ) (words : List ℕ) (views : List (View D)) (place : ℕ → Place) (owner : ℕ → ℕ) : Type 0 where
  pub same : (id : ℕ) (v : View D) → get_elem? views id ≡ some v → IsSeatOf image feed banks v
  pub mine : (id p : ℕ) (v : View D) → get_elem? views id ≡ some v → v.port ≡ Some p → IsPassOf image words place owner id p v
  pub seen : (p : ℕ) → p < length image.ports → progress_in words p ≢ UNCLAIMED → HasPass views owner p
  pub fresh : (p : ℕ) → p < length image.ports → progress_in words p ≡ UNCLAIMED → place p ≡ start (length image.ports)

-- ---- turns

-- a claimed progress word holds the turns before its port's, and all places are in pace
pub record AreInTurn (image : Image) (banks until : ℕ) (words : List ℕ) (place : ℕ → Place) : Type 0 where
  pub progress : (p : ℕ) → p < length image.ports → progress_in words p ≢ UNCLAIMED → progress_in words p + 1 ≡ (place p).turn
  pub paced : ArePaced image banks until place

-- ---- words of sends

-- the words of a send that was last put in turn `last`, one a bank: each has the number of the last turn of its bank,
-- or is 0 where there was none
pub record AreBanked {F D : Type 0} (g : Ghosts F D) (image : Image) (feed : D) (banks p slot last : ℕ) (word : ℕ → ℕ) : Type 0 where
  pub written : (k : ℕ) → 1 ≤ k → k ≤ last → last < k + banks → g.sent image feed p slot k (word (k % banks))
  pub fresh : (k : ℕ) → last < k → k ≤ banks → word (k % banks) ≡ 0

-- the words of all sends, where each port stands at its place
pub record AreSent {F D : Type 0} (g : Ghosts F D) (image : Image) (feed : D) (banks : ℕ) (place : ℕ → Place) (word : ℕ → ℕ → ℕ → ℕ) : Type 0 where
  pub each : (p i : ℕ) (link : LinkOut) → IsSend image p i link → AreBanked g image feed banks p link.slot (latest (place p) link.slot) (word p i)

-- ---- looks

-- how many steps all passes have made
abbrev pub steps_in : {D : Type 0} → List (View D) → ℕ
steps_in views = sum_by (λ v. v.steps) views

-- some seat made the last step of all
pub record HasLast {D : Type 0} (views : List (View D)) : Type 0 where
  pub id : ℕ
  pub view : View D
  pub there : get_elem? views id ≡ some view
  pub last : view.at ≡ steps_in views

-- a seat's last step was one of those that were made, and a seat that is no port's has made none. Some seat made
-- the last of all, and the word that this one saw tells what it saw there
pub record AreLooks {D : Type 0} (image : Image) (words : List ℕ) (views : List (View D)) : Type 0 where
  pub past : (id : ℕ) (v : View D) → get_elem? views id ≡ some v → v.at ≤ steps_in views
  pub idle : (id : ℕ) (v : View D) → get_elem? views id ≡ some v → v.port ≡ None → v.steps ≡ 0
  pub last : 1 ≤ steps_in views → HasLast views
  pub seen : (id : ℕ) (v : View D) → get_elem? views id ≡ some v → 1 ≤ steps_in views → v.at ≡ steps_in views → told_in image words v.last.word ≡ v.last.number

-- ---- the rule

-- there are places and owners, and the words of each send have the numbers of the last turns in which it was put
pub record IsKept {F D : Type 0} (g : Ghosts F D) (image : Image) (feed : D) (banks : ℕ) (words : List ℕ) (views : List (View D)) : Type 0 where
  pub place : ℕ → Place
  pub owner : ℕ → ℕ
  pub runs : IsRunnable g image feed banks
  pub long : length words ≡ word_count image banks
  pub owned : AreOwned image feed banks words views place owner
  pub timed : AreInTurn image banks (g.turns image feed) words place
  pub sent : AreSent g image feed banks place (sent_in image banks words)
  pub looks : AreLooks image words views

abbrev pub Kept : {F D : Type 0} → Ghosts F D → Key D → State (Unit {0}) (View D) → Type 0
Kept g key s = IsKept g key.image.value key.feed.value key.banks s.words s.views

-- no two seats have one port's pass
abbrev pub AreDistinct : {D : Type 0} → List (View D) → Type 0
AreDistinct {D} views = (one other p : ℕ) (v w : View D) → get_elem? views one ≡ some v → get_elem? views other ≡ some w
    → v.port ≡ Some p → w.port ≡ Some p → one ≡ other
