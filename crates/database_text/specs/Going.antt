-- Which ids are let go.
use Rattle.std.specs.Prelude.{ℕ, List, Bool, not, ◌&&◌}
use Rattle.std.specs.Ordering.{nat_cmp}
use Rattle.std.specs.Option.{is_some}
use Rattle.std.specs.BTreeMap.{BTreeMap, get_by}
use Rattle.std.specs.Cmp.Lexicographic.{slice_cmp}
use denote.Ref.{Bor}
use Rattle.cluster_defs.specs.Words.{Id}
use Rattle.cluster_state.specs.declared.state.State.{State}
use Rattle.cluster_state.specs.Plain.{facts_in}
use Rattle.cluster_state.specs.Stands.{plain}
use Rattle.database_text.specs.declared.going.Going.{Going}

abbrev pub purged_in : State → Id → Bool
purged_in s = (facts_in (plain s)).purged

-- whether an id is among the held ones
abbrev pub holds : {X : Type 0} → BTreeMap (Bor (List ℕ)) X → Id → Bool
holds held id = is_some (get_by (λ k. slice_cmp nat_cmp id k.now) held)

-- what is purged
abbrev pub purged_by : Going → Id → Bool
purged_by g = purged_in g.state.now

-- what is purged and isn't held
abbrev pub gone_by : Going → Id → Bool
gone_by g id = purged_by g id && not (holds g.held id)
