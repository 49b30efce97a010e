use Rattle.port_walk.specs.declared.upcoming.Upcoming.TheVariants.{Ask, Take, Tell, Done}
use Rattle.port_walk.proofs.NextLemmas.{next_of, next_put}
use Rattle.port_walk.proofs.any_port.AnyPort.next.Goals as goal

pub returns-in-Ask : goal.returns-in-Ask
returns-in-Ask c = next_of c.self.inside _ c.self.view_is c.args.known.now c.args.banks c.next.result c.next.ensures (Ask c.in-Ask.reader) c.in-Ask.is

pub returns-in-Take : goal.returns-in-Take
returns-in-Take c = next_of c.self.inside _ c.self.view_is c.args.known.now c.args.banks c.next.result c.next.ensures (Take c.in-Take.slot) c.in-Take.is

pub returns-in-Tell : goal.returns-in-Tell
returns-in-Tell c = next_of c.self.inside _ c.self.view_is c.args.known.now c.args.banks c.next.result c.next.ensures Tell c.in-Tell.is

pub returns-in-Done : goal.returns-in-Done
returns-in-Done c = next_of c.self.inside _ c.self.view_is c.args.known.now c.args.banks c.next.result c.next.ensures Done c.in-Done.is

pub returns-in-Put : goal.returns-in-Put
returns-in-Put c = next_put c.self.inside _ c.self.view_is c.args.known.now c.args.banks c.next.result c.next.ensures c.in-Put.slot c.value.result c.in-Put.is c.value.ensures.each
