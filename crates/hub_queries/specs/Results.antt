-- What is written of the tasks of a result reply.
use Rattle.std.specs.Prelude.{ℕ, List, ◌++◌, length, map, flat_map, Option, codes}
use Rattle.json.specs.Print.{quoted}
use Rattle.cluster_defs.specs.Texts.{parted, settled_member, engine_or_null, Settled}

pub record Written : Type 0 where
  pub count : ℕ
  pub text : List ℕ
  pub buffers : List (List ℕ)

-- how many tasks, their members parted by commas, and the buffers of their outcomes
abbrev pub written_results : List Settled → Written
written_results rs = record { count = length rs; text = parted (map settled_member rs); buffers = flat_map (λ r. r.outcome.buffers) rs }

-- the beginning of a member: the id, the engine, the verdict and the cause
unfoldable pub head_text : List ℕ → Option ℕ → List ℕ → List ℕ → List ℕ
head_text id engine verdict cause =
    quoted id ++ codes ":{\"engine\":" ++ engine_or_null engine
    ++ codes ",\"verdict\":" ++ quoted verdict ++ codes ",\"cause\":" ++ quoted cause
