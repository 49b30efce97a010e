use Rattle.std.proofs.Common.{subst, sym, rules}
use Rattle.image_defs.specs.WellFormed.{IsWellFormed}
use Rattle.image_check.specs.code.{Shapes.AreRising, Shapes.AreShapesOf, Forms.IsHostLast}
use Rattle.image_check.proofs.{lemmas.EachLemmas.no_part, PortLemmas.rising_of, PortLemmas.image_by_ports}
use Rattle.image_check.proofs.ports.is_well_formed.Goals as goal

pub returns-then-not-has_numbers : goal.returns-then-not-has_numbers
returns-then-not-has_numbers c =
    no_part c.if-not-has_numbers.ensures (λ (w : IsWellFormed c.args.image.now). record { slots = w.slots; units = w.units; some_ports = w.some_ports; most_ports = w.most_ports })

pub returns-then-not-is_host_last : goal.returns-then-not-is_host_last
returns-then-not-is_host_last c = no_part c.if-not-is_host_last.ensures (λ (w : IsWellFormed c.args.image.now). subst IsHostLast (sym c.as_slice-ports.ensures) w.host)

pub all_rise-requires : goal.all_rise-requires
all_rise-requires c = subst (λ ports. AreShapesOf ports c.args.shapes.now) (sym c.as_slice-ports.ensures) c.requires

pub returns-then-not-all_rise : goal.returns-then-not-all_rise
returns-then-not-all_rise c = no_part c.if-not-all_rise.ensures (λ (w : IsWellFormed c.args.image.now). subst AreRising (sym c.as_slice-ports.ensures) (rising_of c.args.image.now w))

pub are_ports-requires-clause-rising : goal.are_ports-requires-clause-rising
are_ports-requires-clause-rising c = subst AreRising c.as_slice-ports.ensures (c.if-not-all_rise.ensures.0 (search rules))

pub returns : goal.returns
returns c =
    image_by_ports c.args.image.now c.as_slice-ports.result.now c.are_ports.result c.as_slice-ports.ensures (c.if-not-has_numbers.ensures.0 (search rules)) (c.if-not-is_host_last.ensures.0 (search rules)) c.are_ports.ensures
