-- What holds of the fields of a running packed port.
use Rattle.std.specs.Prelude.{◌≡◌}
use Rattle.slot_words.specs.packed.Passes.{PackPassView}
use Rattle.pack_run.specs.{Pairs.placed, declared.running.PackRunning.TheInside.Inside}

abbrev pub view_of : Inside → PackPassView
view_of a = a.pass

-- the port is at the place of the pass
pub record IsKept (a : Inside) : Type 0 where
  pub port : a.port ≡ placed a.pass
