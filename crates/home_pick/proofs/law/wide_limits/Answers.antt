use Rattle.std.proofs.Common.{arith}
use Rattle.home_pick.proofs.{HomeLemmas.wide_home, TurnLemmas.room_first}
use Rattle.home_pick.proofs.law.wide_limits.Goals as goal

pub returns-clause-turn : goal.returns-clause-turn
returns-clause-turn c nodes machine homes n formed valid wide picked low = wide_home nodes machine homes n formed valid.logic_least wide picked low

pub returns-clause-room : goal.returns-clause-room
returns-clause-room c nodes machine needed limit valid wide many =
    omega (arith, wide 0 valid.logic_least, room_first machine valid.logic_least, many.count, many.room, many.past)
