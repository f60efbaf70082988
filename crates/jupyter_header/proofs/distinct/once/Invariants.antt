use Rattle.std.proofs.Common.{◌≡◌, ℕ, List, take, nat_cmp, is_some}
use Rattle.std.specs.BTreeMap as tree
use Rattle.std.specs.Cmp.Lexicographic.{slice_cmp}
use Rattle.cluster_defs.specs.Submit.{once}
use Rattle.jupyter_header.proofs.Onces.{is_listed}
use Rattle.jupyter_header.proofs.distinct.once.Given as goal

abbrev pub invariant-loop-id : goal.invariant-loop-id
invariant-loop-id l = record {
  so_far : l.found ≡ once (take l.id-index l.ids);
  seen : (q : List ℕ) → is_some (tree.get_by (λ k. slice_cmp nat_cmp q k.now) l.seen) ≡ is_listed q l.found;
}
