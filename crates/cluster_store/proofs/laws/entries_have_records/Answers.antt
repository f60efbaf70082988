use Rattle.cluster_store.proofs.Names.{known_names}
use Rattle.cluster_store.proofs.Fits.{due_fits, legal_fits, kept_fits, step_fits}
use Rattle.cluster_store.proofs.laws.entries_have_records.Goals as goal

pub returns : goal.returns
returns c = record {
  names = known_names;
  due = due_fits;
  legal = legal_fits;
  kept = kept_fits;
  step = step_fits;
}
