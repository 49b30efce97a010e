use Rattle.std.proofs.Common.{◌∙◌, ◌+◌, ◌<◌, length, get_or, refl, ap, arith, take}
use Rattle.std.proofs.lemmas.List.{length-replicate, length-set, length-take, take_all}
use Rattle.std.proofs.lemmas.List.Sums.{count_by-le-length}
use Rattle.std.specs.{Prelude.◌==◌, List.count_by}
use Rattle.list_laws.proofs.Ranges.{replicate_read}
use Rattle.plan_defs.specs.Homes.{ports_of}
use Rattle.plan_defs.proofs.lemmas.PortLemmas.{home_port}
use Rattle.plan_text.proofs.FigureLemmas.{raised}
use Rattle.plan_text.proofs.figures.item_counts.Goals as goal

pub raise-requires : goal.raise-requires
raise-requires c =
    let port = get_or c.args.homes.now.items c.items.i 0 in
    let low : port < ports_of c.args.homes.now = home_port c.args.nodes.now c.args.homes.now c.items.i c.requires.nodes c.requires.homes (omega arith) in
    let is = c.items.invariant.counts port (rw c.items.invariant.shape low) in
    let most = count_by-le-length (λ home. home == port) (take c.items.i c.args.homes.now.items) in
    rw c.as_slice-ports.ensures (record {
      within = rw c.items.invariant.shape low;
      small = omega (arith, is, most, length-take c.items.i c.args.homes.now.items, c.requires.nodes.few, c.requires.homes.items);
    })

pub items-preserved : goal.items-preserved
items-preserved c =
    let many = ap length c.items.invariant.whole in
    let count = c.requires.homes.items in
    let low : get_or c.args.homes.now.items c.items.i 0 < ports_of c.args.homes.now = home_port c.args.nodes.now c.args.homes.now c.items.i c.requires.nodes c.requires.homes (omega arith) in
    rw c.raise.ensures (rw c.as_slice-ports.ensures (record {
      shape = length-set c.items.counts _ _ ∙ c.items.invariant.shape;
      counts = λ port inside. raised c.args.homes.now.items c.items.counts c.items.i (omega arith) (rw c.items.invariant.shape low) c.items.invariant.counts port (rw (← length-set c.items.counts (get_or c.args.homes.now.items c.items.i 0) (get_or c.items.counts (get_or c.args.homes.now.items c.items.i 0) 0 + 1)) inside);
      whole = refl;
    }))

pub items-init : goal.items-init
items-init c = record {
  shape = ap length c.in_ok-counts.ensures ∙ length-replicate (ports_of c.args.homes.now) 0;
  counts = λ port low. ap (λ counts. get_or counts port 0) c.in_ok-counts.ensures ∙ replicate_read (ports_of c.args.homes.now) port 0;
  whole = c.as_slice-ports.ensures;
}

pub bounds-ports-i : goal.bounds-ports-i
bounds-ports-i c = omega (arith, ap length c.as_slice-ports.ensures, c.requires.homes.items)

pub returns : goal.returns
returns c =
    record {
      shape = c.items.invariant.shape;
      counts = λ port low. c.items.invariant.counts port (rw c.items.invariant.shape low)
          ∙ ap (count_by (λ home. home == port)) (take_all c.items.i c.args.homes.now.items (omega (arith, c.requires.homes.items)));
    }
