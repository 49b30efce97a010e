-- One item more of a run.
use Rattle.std.proofs.Common.{◌≡◌, ◌∙◌, ℕ, ◌+◌, ◌<◌, List, Some, slice_get, get_or, ap, subst, sym, refl, arith}
use Rattle.std.proofs.lemmas.Option.{slice_get-get_or}
use Rattle.list_laws.proofs.Places.{one_there}
use Rattle.logic_four.specs.declared.V4.{V4}
use Rattle.image_defs.specs.Ports.{PortView, CanExecute, after_execute, value_in}
use Rattle.image_defs.specs.{declared.image.PortImage.PortImage, Places.IsPort, Places.item_slots}
use Rattle.port_bank.specs.Runs.{CanRun, HasRun, IsLastValue}

module _ (old : PortView) (slots : List ℕ) (from to : ℕ) (can : CanRun old slots from to) (now : PortView) (i : ℕ) (run : HasRun old now i) (below : i < to) where
  there : slice_get slots i ≡ Some (get_or slots i 0)
  there = slice_get-get_or slots i 0 (omega (arith, can.within, below))

  -- it may be executed
  pub can_execute : CanExecute now (get_or slots i 0)
  can_execute = subst (λ (view : PortView). CanExecute view (get_or slots i 0)) (sym run) (record {
    begun = can.begun;
    port = can.port_image;
    is = can.is;
    next = subst (λ xs. slice_get xs i ≡ Some (get_or slots i 0)) can.slots_are there;
    received_before = λ j link at before. can.received_before i (get_or slots i 0) j link below there at before;
  })

  -- its value is then that of the last one
  pub last_executed : (new : PortView) (v : V4) → new ≡ after_execute now → v ≡ value_in now (get_or slots i 0) → IsLastValue new v
  last_executed new v after is = record {
    each = λ port_image k slot at next item.
        let new_is : new ≡ record old { executed = i + 1 } = after ∙ ap after_execute run in
        let port_image_is : can.port_image ≡ port_image = one_there old.image.ports old.port old.port can.port_image port_image refl can.is (subst (λ (v : PortView). IsPort v.image v.port port_image) new_is at) in
        let place : k ≡ i = omega (arith, next, ap (λ (v : PortView). v.executed) new_is) in
        let slot_is : get_or slots i 0 ≡ slot = one_there slots i k (get_or slots i 0) slot (sym place) there (subst (λ xs. slice_get xs k ≡ Some slot) (sym (can.slots_are ∙ ap (λ (s : PortImage). item_slots s.work) port_image_is)) item) in
        is
        ∙ ap (λ (v : PortView). value_in v (get_or slots i 0)) run
        ∙ ap (value_in old) slot_is
        ∙ ap (λ (v : PortView). value_in v slot) (sym new_is);
  }
