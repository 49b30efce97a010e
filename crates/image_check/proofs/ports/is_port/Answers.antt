use Rattle.std.proofs.Common.{◌∙◌, ◌<◌, ℕ, subst, sym, rules}
use Rattle.image_defs.specs.{Places.Each, WellFormed.IsPortImage, WellFormed.IsLinkOut}
use Rattle.image_check.proofs.{lemmas.EachLemmas.no_part, PortLemmas.port_by_links}
use Rattle.image_check.proofs.ports.is_port.Goals as goal

pub returns-then-not-all_below : goal.returns-then-not-all_below
returns-then-not-all_below c =
    no_part c.if-not-all_below.ensures (λ (w : IsPortImage c.args.image.now c.args.p c.args.port.now). subst (Each (λ (n : ℕ). n < c.args.image.now.slots)) (sym (c.as_slice.ensures ∙ c.requires.shape.items)) w.item_slots_within)

pub returns-then-not-all_below-2 : goal.returns-then-not-all_below-2
returns-then-not-all_below-2 c =
    no_part c.if-not-all_below-2.ensures (λ (w : IsPortImage c.args.image.now c.args.p c.args.port.now). subst (Each (λ (n : ℕ). n < c.args.image.now.slots)) (sym (c.as_slice-2.ensures ∙ c.requires.shape.ins)) w.in_slots_within)

pub returns-then-not-is_work : goal.returns-then-not-is_work
returns-then-not-is_work c = no_part c.if-not-is_work.ensures (λ (w : IsPortImage c.args.image.now c.args.p c.args.port.now). w.work)

pub returns-then-not-are_links_out : goal.returns-then-not-are_links_out
returns-then-not-are_links_out c =
    no_part c.if-not-are_links_out.ensures (λ (w : IsPortImage c.args.image.now c.args.p c.args.port.now). subst (Each (IsLinkOut c.args.image.now c.args.p c.args.port.now)) (sym c.as_slice-3.ensures) w.sends)

pub returns : goal.returns
returns c =
    port_by_links c.args.image.now c.args.p c.args.port.now c.as_slice.result.now c.as_slice-2.result.now c.as_slice-3.result.now c.as_slice-4.result.now c.are_links_in.result
    (c.as_slice.ensures ∙ c.requires.shape.items) (c.as_slice-2.ensures ∙ c.requires.shape.ins) c.as_slice-3.ensures c.as_slice-4.ensures c.requires.port
    (c.if-not-all_below.ensures.0 (search rules)) (c.if-not-all_below-2.ensures.0 (search rules)) (c.if-not-is_work.ensures.0 (search rules)) (c.if-not-are_links_out.ensures.0 (search rules))
    c.are_links_in.ensures
