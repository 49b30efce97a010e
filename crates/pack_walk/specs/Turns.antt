-- The turns and cycles of a packed run.
use Rattle.std.specs.Prelude.{ℕ, ◌-◌, ◌/◌}
use Rattle.port_bank.specs.Packed.{PackPortView}

-- the cycles that are over before a packed port's turn
abbrev pub cycles_done : PackPortView → ℕ
cycles_done view = (view.turn - 1) / view.image.units
