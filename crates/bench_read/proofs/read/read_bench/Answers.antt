use Rattle.bench_read.proofs.{OnlyLemmas.only_from, PlainLemmas.plain_from, ReadLemmas.reads_from, ReadLemmas.one_netlist, ReadLemmas.no_fault_from_reads}
use Rattle.bench_read.proofs.read.read_bench.Goals as goal

pub returns : goal.returns
returns c =
    let text = c.args.bytes.now in
    let answers = reads_from text c.read_text.result c.read_text.ensures in
    record {
      answers = answers;
      only = only_from _ _ _ (one_netlist text) (no_fault_from_reads text) c.read_text.result answers;
      plain = plain_from text c.read_text.result _ c.read_text.ensures;
    }
