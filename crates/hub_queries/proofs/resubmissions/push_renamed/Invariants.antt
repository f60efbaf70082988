use Rattle.std.proofs.Common.{◌≡◌, ◌++◌, map, take, string_bytes}
use Rattle.cluster_defs.specs.Texts.{parted, text_member}
use Rattle.resubmission.specs.Plans.{pair_of}
use Rattle.hub_queries.proofs.resubmissions.push_renamed.Given as goal

abbrev pub invariant-loop-place : goal.invariant-loop-place
invariant-loop-place l = string_bytes l.text ≡ string_bytes l.fn.text ++ parted (map (λ r. text_member (pair_of r)) (take l.place l.renamed))
