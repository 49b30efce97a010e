use Rattle.std.proofs.Common.{inl, inr, arith}
use Rattle.large_run.specs.{Large.large_netlist, Setting.large_machine, Setting.large_timing}
use Rattle.large_run.proofs.{ValidLemmas.no_circle_large, ValidLemmas.valid_large, SettingLemmas.large_room, SettingLemmas.machine_valid}
use Rattle.yse_compile.specs.{declared.compiler.CompNo.CompNo, Compiled.IsOverfull, Compiled.IsRight}
use Rattle.yse_compile.specs.declared.compiler.CompNo.TheVariants as no
use Rattle.large_run.proofs.law.large_fits.Goals as goal

pub returns : goal.returns
returns c gates few = elim (c.order_or_loop.ensures.one (large_netlist gates) large_timing) [
  | inr loop ↦ absurd (no_circle_large gates large_timing loop.0 loop.1.circle)
  | inl order ↦
      let items = c.items_exist.ensures (large_netlist gates) large_timing order.0 (valid_large gates few) order.1 in
      elim (c.fits_or_refused.ensures (large_netlist gates) large_machine large_timing items.0 (valid_large gates few) machine_valid (no_circle_large gates large_timing) items.1) [
        | inl fits ↦ fits
        | inr refused ↦ absurd (never refused.0 refused.1 refused.2)
      ]
] where
  never : (refusal : CompNo) → IsRight (large_netlist gates) large_machine large_timing refusal → IsOverfull refusal → ⊥
  never (no.Loop members) right overfull = overfull
  never no.Memory right overfull = overfull
  never (no.Bits block needed left) right overfull = omega (arith, right.none.there, right.items.items.memories)
  never (no.Nodes needed limit) right overfull =
      let items = c.few_items.ensures gates large_timing right.nodes few right.items.items in
      omega (arith, items, few, right.many.count, right.many.room, right.many.past, large_room)
  never (no.Slots needed limit) right overfull =
      let formed = c.items_are_well_formed.ensures (large_netlist gates) large_timing right.nodes (valid_large gates few) right.items.items in
      let slots = c.few_slots.ensures right.nodes right.homes right.long.plan formed right.long.is in
      let items = c.few_items.ensures gates large_timing right.nodes few right.items.items in
      omega (arith, slots, items, few, right.long.needs, right.long.most, right.long.past)
  never (no.Functions port needed limit) right overfull =
      c.few_tables.ensures.never (large_netlist gates) large_machine large_timing (valid_large gates few) (λ p low. omega arith) port needed limit right
