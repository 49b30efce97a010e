use Rattle.std.proofs.lemmas.Result.{MatchResult-weaker, err_from_is_err_and}
use Rattle.bench_read.proofs.StuckLemmas.{reads_from_none, none_from_reads, one_list, faults_from_reads}
use Rattle.bench_read.proofs.OnlyLemmas.{only_from}
use Rattle.bench_read.proofs.stuck_reading.read_faults.Goals as goal

pub returns-in_err-names-clause-only : goal.returns-in_err-names-clause-only
returns-in_err-names-clause-only c faults reads =
    let p = err_from_is_err_and c.from_residual.result c.from_residual.ensures.1 in
    (none_from_reads c.args.net.now c.args.bytes.now faults reads, rw p.1 p.2)

pub returns : goal.returns
returns c =
    let net = c.args.net.now in
    let text = c.args.bytes.now in
    let answers = MatchResult-weaker c.read_lines.result c.read_lines.ensures (λ faults read. (read.0, reads_from_none net text faults read.0 read.1)) (λ no refused. refused) in
    record {
      answers = answers;
      stuck = MatchResult-weaker c.read_lines.result answers (λ faults read. faults_from_reads net text faults read.1) (λ no refused. tt);
      only = only_from _ _ _ (one_list net text) (none_from_reads net text) c.read_lines.result answers;
    }
