use Rattle.std.proofs.Common.{◌∙◌, List, ap, sym, subst}
use Rattle.home_pick.specs.{declared.bags.Entry.Entry, code.Bags.IsBag, code.Bags.times}
use Rattle.home_pick.proofs.CrossingLemmas.{readers_are}
use Rattle.home_pick.proofs.improve.readers_of.Goals as goal

pub returns : goal.returns
returns c =
    c.away.ensures ∙ readers_are c.args.nodes.now c.args.homes.now c.args.i c.args.home c.bag_of.result.now c.requires.nodes c.requires.homes c.requires.item c.requires.home
    (subst IsBag (sym c.bag_of.ensures) (c.requires.uses.bags.each c.args.i))
    (λ q. ap (λ (bag : List Entry). times bag q) c.bag_of.ensures ∙ c.requires.uses.times c.args.i q c.requires.item)
