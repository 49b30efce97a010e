-- A crossbar whose passes are being made.
use Rattle.std.specs.Prelude.{◌≡◌, ℕ, Some}
use Rattle.image_defs.specs.declared.image.Image.{Image}
use Rattle.atomic_table.specs.declared.shared.Seat.{Seat}
use Rattle.slot_words.specs.{declared.feed.Feed.Ghosts, declared.rule.View.View, Passes.IsKeyOf, Passes.WordsView, Rule.IsRunnable, Rule.unseated}

-- a seat of the crossbar that is no port's
pub record IsTemplate {F D : Type 0} (g : Ghosts F D) (bar : WordsView D) (seat : Seat (Unit {0}) (View D)) : Type 0 where
  pub runs : IsRunnable g bar.image bar.feed bar.banks
  pub table : seat.table_id ≡ bar.table
  pub view : seat.me.0 ≡ unseated bar.image bar.feed bar.banks

-- a seat that has claimed port p
pub record IsWinner {D : Type 0} (bar : WordsView D) (p : ℕ) (seat : Seat (Unit {0}) (View D)) : Type 0 where
  pub table : seat.table_id ≡ bar.table
  pub view : seat.me.0 ≡ record (unseated bar.image bar.feed bar.banks) { port = Some p }

-- a new crossbar with its first seat
pub record IsOpened {F D : Type 0} (g : Ghosts F D) (image : Image) (feed : D) (banks : ℕ) (bar : WordsView D) (seat : Seat (Unit {0}) (View D)) : Type 0 where
  pub key : IsKeyOf image feed banks bar.key
  pub image_is : bar.image ≡ image
  pub feed_is : bar.feed ≡ feed
  pub banks_are : bar.banks ≡ banks
  pub template : IsTemplate g bar seat
