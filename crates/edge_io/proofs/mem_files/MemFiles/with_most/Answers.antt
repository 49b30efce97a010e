use Rattle.edge_io.proofs.mem_files.MemFiles.with_most.Goals as goal

pub returns : goal.returns
returns c = c.by_reads.ensures
