use Rattle.std.proofs.Common.{◌∙◌, replicate, ap, arith}
use Rattle.std.proofs.lemmas.Option.{get_or_from_slice_get}
use Rattle.event_defs.specs.Row.{sends_before}
use Rattle.port_walk.specs.Placed.{at_start}
use Rattle.order_run.proofs.core_ports.first_core_port.Goals as goal

pub returns : goal.returns
returns c =
    let there = c.requires.there in
    record {
      port = c.in_ok-port.ensures ∙ ap (at_start c.args.image.now c.args.stim.now c.args.p) c.requires.window;
      known = c.in_ok-known.ensures ∙ ap (λ n. replicate n 0) c.len.ensures;
      bank = c.first_bank.ensures;
      first = get_or_from_slice_get c.args.firsts.now c.args.p (sends_before c.args.image.now c.args.p) 0 (c.requires.firsts.each c.args.p (omega arith));
      sources = c.in_ok-sources.ensures;
    }

pub sources_of-requires : goal.sources_of-requires
sources_of-requires c = record { image = c.requires.image; firsts = c.requires.firsts; there = c.requires.there }

pub new-requires : goal.new-requires
new-requires c = record { image = c.requires.image; stimulus = c.requires.stimulus; columns = c.requires.columns; there = c.requires.there; some = omega (arith, c.requires.window) }

pub bounds-firsts-p : goal.bounds-firsts-p
bounds-firsts-p c = omega (arith, c.requires.firsts.long, c.requires.there)

pub first_bank-requires : goal.first_bank-requires
first_bank-requires c = c.requires.some
