use Rattle.engine_core.proofs.Once.{answers_once}
use Rattle.engine_core.proofs.laws.one_answer.Goals as goal

pub returns-clause-reply : goal.returns-clause-reply
returns-clause-reply c = λ before message moment a b s t g h. (answers_once before message moment a b s t g h).0

pub returns-clause-engine : goal.returns-clause-engine
returns-clause-engine c = λ before message moment a b s t g h. (answers_once before message moment a b s t g h).1
