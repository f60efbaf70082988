use Rattle.cluster_store.proofs.Led.{step_leads, refusal_stays, flush_leads, fault_stays, take_leads, opening_leads, crashes_join}
use Rattle.cluster_store.proofs.laws.calls_lead_on.Goals as goal

pub returns : goal.returns
returns g c = record {
  step = step_leads;
  refusal = refusal_stays;
  flush = flush_leads;
  fault = fault_stays;
  take = take_leads;
  opening = opening_leads;
  crashes = λ disk w content config moment octets each now behind. crashes_join w (g.D.Disk.image disk) content config moment octets each now behind;
}
