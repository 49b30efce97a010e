use Rattle.refusals.proofs.diagnostics.write_line.Goals as goal

pub returns-in-Words : goal.returns-in-Words
returns-in-Words g c = rw c.in-Words.is c.write_usage_line.ensures

pub returns-in-ReadFault : goal.returns-in-ReadFault
returns-in-ReadFault g c = rw c.in-ReadFault.is c.write_read_fault_line.ensures

pub returns-in-TooLong : goal.returns-in-TooLong
returns-in-TooLong g c = rw c.in-TooLong.is c.write_too_long_line.ensures

pub returns-in-Machine : goal.returns-in-Machine
returns-in-Machine g c = rw c.in-Machine.is c.write_machine_line.ensures

pub returns-in-Netlist : goal.returns-in-Netlist
returns-in-Netlist g c = rw c.in-Netlist.is c.write_netlist_line.ensures

pub returns-in-Loop : goal.returns-in-Loop
returns-in-Loop g c = rw c.in-Loop.is (rw c.as_slice.ensures at c.write_loop_line.ensures)

pub returns-in-Overfull : goal.returns-in-Overfull
returns-in-Overfull g c = rw c.in-Overfull.is c.write_overfull_line.ensures

pub returns-in-Stimulus : goal.returns-in-Stimulus
returns-in-Stimulus g c = rw c.in-Stimulus.is c.write_stimulus_line.ensures

pub returns-in-Cells : goal.returns-in-Cells
returns-in-Cells g c = rw c.in-Cells.is c.write_limit_line.ensures

pub returns-in-OrderText : goal.returns-in-OrderText
returns-in-OrderText g c = rw c.in-OrderText.is c.write_order_line.ensures

pub returns-in-LastList : goal.returns-in-LastList
returns-in-LastList g c = rw c.in-LastList.is c.write_list_line.ensures

pub returns-in-FaultList : goal.returns-in-FaultList
returns-in-FaultList g c = rw c.in-FaultList.is c.write_faults_line.ensures

pub returns-in-ImageText : goal.returns-in-ImageText
returns-in-ImageText g c = rw c.in-ImageText.is c.write_image_line.ensures

pub returns-in-ImageMatch : goal.returns-in-ImageMatch
returns-in-ImageMatch g c = rw c.in-ImageMatch.is c.write_match_line.ensures

pub returns-in-Lanes : goal.returns-in-Lanes
returns-in-Lanes g c = rw c.in-Lanes.is c.write_lanes_line.ensures

pub returns-in-MemoryBits : goal.returns-in-MemoryBits
returns-in-MemoryBits g c = rw c.in-MemoryBits.is c.write_limit_line-in-MemoryBits.ensures

pub returns-in-Signals : goal.returns-in-Signals
returns-in-Signals g c = rw c.in-Signals.is c.write_limit_line-in-Signals.ensures

pub returns-in-Memory : goal.returns-in-Memory
returns-in-Memory g c = rw c.in-Memory.is c.write_memory_line.ensures
