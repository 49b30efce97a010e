use Rattle.edge_io.proofs.mem_files.MemFiles.new.Goals as goal

pub returns : goal.returns
returns c = c.by_reads.ensures
