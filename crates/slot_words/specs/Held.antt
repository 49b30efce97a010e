-- What holds of the fields of a pass and of words.
use Rattle.std.specs.Prelude.{◌≡◌, ◌<◌, Some, length}
use Rattle.slot_words.specs.{declared.feed.Feed.Ghosts, declared.pass.Pass.TheInside.Inside, Layout.word_count, Links.AreReceiptLinksOf, Links.AreSendLinksOf}
use Rattle.slot_words.specs.{Passes.PassView, Passes.WordsView, Rule.IsRunnable}
use Rattle.slot_words.specs.declared.words.Words.TheInside as bar

module _ {D F : Type 0} where
  abbrev pub pass_of : Inside D F → PassView D
  pass_of a = record {
    table = a.seat.table_id;
    port = a.port;
    image = a.seat.me.0.image;
    feed = a.seat.me.0.feed;
    banks = a.seat.me.0.banks;
    place = a.seat.me.0.place;
    steps = a.seat.me.0.steps;
    last = a.seat.me.0.last;
  }

  abbrev pub words_of : bar.Inside D F → WordsView D
  words_of a = record {
    table = a.table.shared.table_id;
    key = a.table.shared.key;
    image = a.table.shared.key.image.value;
    feed = a.table.shared.key.feed.value;
    banks = a.table.shared.key.banks;
  }

-- the numbers of a pass are those of its view, and its lists lead to its words
pub record IsHeld {D F : Type 0} (g : Ghosts F D) (a : Inside D F) : Type 0 where
  pub runs : IsRunnable g a.seat.me.0.image a.seat.me.0.feed a.seat.me.0.banks
  pub inside : a.port < length a.seat.me.0.image.ports
  pub port : a.seat.me.0.port ≡ Some a.port
  pub banks : a.banks ≡ a.seat.me.0.banks
  pub turn : a.turn ≡ a.seat.me.0.place.turn
  pub known : a.known ≡ a.seat.me.0.place.known
  pub wide : length a.known ≡ length a.seat.me.0.image.ports
  pub sends : AreSendLinksOf a.seat.me.0.image a.seat.me.0.banks a.port a.sends
  pub receipts : AreReceiptLinksOf a.seat.me.0.image a.seat.me.0.banks a.port a.receipts

-- there is a word for each port, and one for each bank of each send
pub record HasWords {D F : Type 0} (g : Ghosts F D) (a : bar.Inside D F) : Type 0 where
  pub words : a.table.shared.table_id.words ≡ word_count a.table.shared.key.image.value a.table.shared.key.banks
  pub runs : IsRunnable g a.table.shared.key.image.value a.table.shared.key.feed.value a.table.shared.key.banks
  pub banks : a.banks ≡ a.table.shared.key.banks
