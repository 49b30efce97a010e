-- The numbers of the statuses.
use Rattle.std.specs.Prelude.{ℕ}
use Rattle.refusals.specs.declared.status.Status.{Status}
use Rattle.refusals.specs.declared.status.Status.TheVariants as status

abbrev pub status_number : Status → ℕ
status_number status.Done = 0
status_number status.Words = 2
status_number status.ReadFault = 3
status_number status.WriteFault = 4
status_number status.Netlist = 5
status_number status.Machine = 6
status_number status.Loop = 7
status_number status.Overfull = 8
status_number status.Stimulus = 9
status_number status.Limit = 10
status_number status.Unfinished = 11
status_number status.OrderText = 12
status_number status.Memory = 70
status_number status.LastList = 13
status_number status.ImageText = 14
status_number status.ImageMatch = 15
status_number status.FaultList = 16
