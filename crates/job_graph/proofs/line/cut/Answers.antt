use Rattle.job_graph.proofs.Cuts.{cut_result}
use Rattle.job_graph.proofs.line.cut.Goals as goal

pub returns : goal.returns
returns c = cut_result c.args.line.now c.split_once.result c.split_once.ensures.cases
