use Rattle.plan_text.proofs.lemmas.OneLemmas.{reports_agree}
use Rattle.plan_text.proofs.law.one_report.Goals as goal

pub returns : goal.returns
returns c = reports_agree
