use Rattle.std.proofs.Common.{rules}
use Rattle.home_pick.proofs.improve.away_one.Goals as goal

pub returns-then-entry-gt0-clause-is : goal.returns-then-entry-gt0-clause-is
returns-then-entry-gt0-clause-is c = search rules
