use Rattle.std.proofs.Common.{◌≡◌, ℕ, List, take, nat_cmp, is_some}
use Rattle.std.specs.BTreeMap as tree
use Rattle.std.specs.Cmp.Lexicographic.{slice_cmp}
use Rattle.cluster_defs.specs.Words.{is_listed}
use Rattle.cluster_state.proofs.acceptance.set_of.Given as goal

abbrev pub invariant-loop-text : goal.invariant-loop-text
invariant-loop-text l = (q : List ℕ) → is_some (tree.get_by (λ k. slice_cmp nat_cmp q k.now) l.set) ≡ is_listed q (take l.text-index l.texts)
