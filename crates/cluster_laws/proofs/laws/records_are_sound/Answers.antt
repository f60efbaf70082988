use Rattle.cluster_laws.proofs.RecordsHold.{records_hold, settled_engine}
use Rattle.cluster_laws.proofs.RecordsTell.{records_answer}
use Rattle.cluster_laws.proofs.RecordsPlan.{records_plan}
use Rattle.cluster_laws.proofs.laws.records_are_sound.Goals as goal

pub returns : goal.returns
returns c = record { records = records_hold; engine = settled_engine; answer = records_answer; plan = records_plan }
