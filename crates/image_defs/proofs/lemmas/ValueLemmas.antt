-- The value of a well-formed image meets its equations.
use Rattle.std.proofs.Common.{◌≡◌, ℕ, zero, suc, ◌<◌, ◌+◌, ◌==◌, false, true, List, [], length, slice_get, Some, sym, ap, ◌∙◌, subst, refl, arith, rules, inl, inr}
use Rattle.std.proofs.lemmas.Bool.{cases_lt, cond-true, cond-false}
use Rattle.std.specs.Option.{option_map, unwrap_or}
use Rattle.list_laws.proofs.Members.{mapped_at}
use Rattle.logic_four.specs.declared.V4.{V4}
use Rattle.net_defs.specs.declared.stimulus.Stimulus.{Stimulus}
use Rattle.func_table.specs.declared.table.Table.{Table}
use Rattle.image_defs.specs.Places.{item_slots, task_slot, IsPort, IsItemIn, IsBlockOf}
use Rattle.image_defs.specs.WellFormed.{IsWellFormed, IsPortImage, IsWork, IsBefore, IsTask}
use Rattle.image_defs.specs.Steps.{Frame, Grid, value_of_member, source_value, task_value, item_value, IsImageStep, AreImageValues}
use Rattle.image_defs.specs.Frames.{frame, filled, slot_value, words_by, next_frame}
use Rattle.image_defs.specs.declared.image.{Source.Source, Source.TheVariants.Own, Source.TheVariants.Got, Source.TheVariants.Const, Task.Task}
use Rattle.image_defs.specs.declared.image.{Task.TheVariants.Eval, Task.TheVariants.Hold, BlockWork.BlockWork, Work.Work}
use Rattle.image_defs.specs.declared.image.{Work.TheVariants.Logic, Work.TheVariants.Array, Work.TheVariants.Host, LinkIn.LinkIn, PortImage.PortImage}
use Rattle.image_defs.specs.declared.image.Image.{Image}
use Rattle.image_defs.proofs.lemmas.PlaceLemmas.{rises, place_found, same_number}

-- two grids agree in the slots before n
abbrev AgreeBelow : ℕ → Grid → Grid → Type 0
AgreeBelow n f g = (p s : ℕ) → s < n → f p s ≡ g p s

-- a source takes of this turn only slots before
same_source : (p slot : ℕ) (ins : List LinkIn) (old f g : Grid) (source : Source) → AgreeBelow slot f g → IsBefore slot source → source_value p ins old f source ≡ source_value p ins old g source
same_source p slot ins old f g (Own s true) agree before = refl
same_source p slot ins old f g (Own s false) agree before = agree p s (before refl)
same_source p slot ins old f g (Got s true) agree before = refl
same_source p slot ins old f g (Got s false) agree before = agree _ s (before refl)
same_source p slot ins old f g (Const v) agree before = refl

module _ (image : Image) (stimulus : Stimulus) (turn : ℕ) (old : Frame) where
  same_task : (f g : Grid) (p : ℕ) (port : PortImage) (tables : List Table) (task : Task) → AgreeBelow (task_slot task) f g → IsTask port (length tables) task → task_value image turn p port.ins old f tables task ≡ task_value image turn p port.ins old g tables task
  same_task f g p port tables (Eval s table a b c d) agree right =
      rw (same_source p s port.ins old.value f g a agree right.1.before, same_source p s port.ins old.value f g b agree right.2.before, same_source p s port.ins old.value f g c agree right.3.before, same_source p s port.ins old.value f g d agree right.4.before) refl
  same_task f g p port tables (Hold s from) agree right = refl

  -- an item's value is the same over grids that agree in the slots before
  same_item : (f g : Grid) (columns p : ℕ) (port : PortImage) (work : Work) (i slot : ℕ) → IsWork columns port work → IsItemIn work i slot → AgreeBelow slot f g
      → item_value image stimulus turn old f p port.ins work i ≡ item_value image stimulus turn old g p port.ins work i
  same_item f g columns p port (Logic tables tasks) i slot right stands agree = of_task (mapped_at task_slot tasks i slot stands) where
    of_task : (task : Task) × (slice_get tasks i ≡ Some task) × (task_slot task ≡ slot) → value_of_member (task_value image turn p port.ins old f tables) (slice_get tasks i) ≡ value_of_member (task_value image turn p port.ins old g tables) (slice_get tasks i)
    of_task (task, here, at) = rw here (same_task f g p port tables task (subst (λ n. AgreeBelow n f g) (sym at) agree) (right i task here))
  same_item f g columns p port (Array blocks outs) i slot right stands agree = refl
  same_item f g columns p port (Host inputs printed) i slot right stands agree = refl

  -- the value of a slot stays once it is filled in
  filled_stays : (n p s : ℕ) → s < n → filled image stimulus turn old n p s ≡ filled image stimulus turn old (suc s) p s
  unfolding filled
  filled_stays zero p s before = absurd (omega arith)
  filled_stays (suc n) p s before = elim (cases_lt s n) [
    | inl less ↦ cond-false {A = V4} (s == n) _ _ (search rules) ∙ filled_stays n p s less
    | inr more ↦ let e : s ≡ n = omega arith in ap (λ m. filled image stimulus turn old (suc m) p s) (sym e)
  ]

  -- each item meets its equation
  slot_meets : (p i slot : ℕ) (port : PortImage) → IsPort image p port → IsPortImage image p port → IsItemIn port.work i slot
      → filled image stimulus turn old (suc slot) p slot ≡ item_value image stimulus turn old (λ q s. filled image stimulus turn old (suc s) q s) p port.ins port.work i
  unfolding filled
  slot_meets p i slot port is fits stands =
      cond-true {A = V4} (slot == slot) _ _ (same_number slot)
      ∙ ap (slot_value image stimulus turn old (filled image stimulus turn old slot) p slot) is
      ∙ ap (item_value image stimulus turn old (filled image stimulus turn old slot) p port.ins port.work) (place_found (item_slots port.work) i slot (rises (item_slots port.work) fits.items) stands)
      ∙ same_item (filled image stimulus turn old slot) (λ q s. filled image stimulus turn old (suc s) q s) image.columns p port port.work i slot fits.work stands (λ q s before. filled_stays slot q s before)

-- the words of a memory that is there
words_meet : (image : Image) (stimulus : Stimulus) (words : List LinkIn → BlockWork → List (List V4)) (p b : ℕ) (port : PortImage) (block : BlockWork) → IsBlockOf image p b port block
    → words_by image stimulus words (slice_get image.ports p) b ≡ words port.ins block
words_meet image stimulus words p b port block is =
    ap (λ o. words_by image stimulus words o b) is.port_is ∙ ap (λ o. unwrap_or (option_map (words port.ins) o) []) is.block_is

next_step : (image : Image) (stimulus : Stimulus) (turn : ℕ) (old : Frame) → IsWellFormed image → IsImageStep image stimulus turn old (next_frame image stimulus turn old)
next_step image stimulus turn old fits = record {
  values = λ p i slot port is stands. slot_meets image stimulus turn old p i slot port is (fits.ports p port is) stands;
  words = λ p b port block is. words_meet image stimulus _ p b port block is;
}

pub value_meets : (image : Image) (stimulus : Stimulus) → IsWellFormed image → AreImageValues image stimulus (frame image stimulus)
unfolding frame
value_meets image stimulus fits = record {
  first = λ p slot. refl;
  first_words = λ p b port block is. words_meet image stimulus _ p b port block is;
  steps = λ turn. let e : turn + 1 ≡ suc turn = omega arith in subst (λ n. IsImageStep image stimulus n (frame image stimulus turn) (frame image stimulus n)) (sym e) (next_step image stimulus (suc turn) (frame image stimulus turn) fits);
}
