use Rattle.cluster_laws.proofs.ThinLaws.{thin_is_legal, thin_is_kept, thin_is_due, thin_goes_on, thin_sends_same}
use Rattle.cluster_laws.proofs.laws.thin_goes_on.Goals as goal

pub returns : goal.returns
returns c = record { legal = thin_is_legal; kept = thin_is_kept; due = thin_is_due; further = thin_goes_on; outs = thin_sends_same }
