use Rattle.cluster_laws.proofs.Safe.{legal_once, legal_after, legal_follow, legal_targets}
use Rattle.cluster_laws.proofs.Tries.{legal_tries}
use Rattle.cluster_laws.proofs.laws.histories_are_safe.Goals as goal

pub returns : goal.returns
returns c = λ h legal. record {
  once = legal_once h legal;
  after_held = legal_after h legal;
  follow_held = legal_follow h legal;
  targets_held = legal_targets h legal;
  tries = legal_tries h legal;
}
