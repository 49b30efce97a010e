-- The rule of plain words, and what it implies.
use Rattle.std.specs.Prelude.{◌≡◌, ◌≢◌, ◌↔◌, ℕ, ◌<◌, length, Some}
use mathlib.Core.Option.{some}
use lib.ListN.{get_elem?}
use Rattle.net_defs.specs.declared.stimulus.Stimulus.{Stimulus}
use Rattle.event_defs.specs.{Places.start, Sound.IsSound, declared.place.Place.Place}
use Rattle.atomic_table.specs.Table.{State}
use Rattle.slot_words.specs.declared.rule.{Key.Key, TheConstants.UNCLAIMED, View.View}
use Rattle.slot_words.specs.{Layout.progress_in, Layout.sent_in, Layout.turns_told, plain.Words.plain, plain.Words.turns_of}
use Rattle.slot_words.specs.Rule as rule

abbrev pub PlainKey : Type 0
PlainKey = Key Stimulus

abbrev pub PlainView : Type 0
PlainView = View Stimulus

abbrev pub Kept : PlainKey → State (Unit {0}) PlainView → Type 0
Kept = rule.Kept plain

-- all seats have the key's image, stimulus and banks; the passes stand at places which, with the words, are
-- sound; a progress word is unclaimed exactly where no seat has its port's pass; and then the port stands at its
-- start
pub record ArePassesSound (key : PlainKey) (s : State (Unit {0}) PlainView) : Type 0 where
  pub same : (id : ℕ) (v : PlainView) → get_elem? s.views id ≡ some v → (v.image ≡ key.image.value) × (v.feed ≡ key.feed.value) × (v.banks ≡ key.banks)
  pub place : ℕ → Place
  pub places : (id p : ℕ) (v : PlainView) → get_elem? s.views id ≡ some v → v.port ≡ Some p → (p < length key.image.value.ports) × (v.place ≡ place p)
  pub unclaimed : (p : ℕ) → p < length key.image.value.ports → (progress_in s.words p ≡ UNCLAIMED) ↔ ((id : ℕ) (v : PlainView) → get_elem? s.views id ≡ some v → v.port ≢ Some p)
  pub fresh : (p : ℕ) → p < length key.image.value.ports → progress_in s.words p ≡ UNCLAIMED → place p ≡ start (length key.image.value.ports)
  pub sound : IsSound key.image.value key.feed.value key.banks (turns_of key.image.value key.feed.value) (record {
    place = place;
    finished = λ p. turns_told (progress_in s.words p);
    word = sent_in key.image.value key.banks s.words;
  })
