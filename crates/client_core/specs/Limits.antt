-- What a request may say.
use Rattle.std.specs.Prelude.{ℕ, Bool, ◌&&◌, not, List, length, nat_le, bytes_eq, codes}
use Rattle.std.specs.List.{list_all}
use Rattle.cluster_types.specs.declared.event.Dep.{Dep}
use Rattle.cluster_defs.specs.declared.content.SubmitMeta.{SubmitMeta}
use Rattle.cluster_defs.specs.Fields.{is_id}

-- ids of 1 to 255 octets
abbrev pub are_ids : List (List ℕ) → Bool
are_ids ids = list_all is_id ids

-- a dependency on at most 4,096 ids, doubles counted
abbrev pub is_dependency : Dep → Bool
is_dependency d = nat_le (length d.ids) 4096 && are_ids d.ids

-- what a reader takes: dependencies and targets as above, at most 1,000,000,000 seconds, and at most 1,000 retries
abbrev pub is_within_limits : SubmitMeta → Bool
is_within_limits meta =
    is_dependency meta.after && is_dependency meta.follow && are_ids meta.targets && nat_le meta.timeout 1000000000 && nat_le meta.retries 1000

-- an engine that an identity frame can name: 1 to 255 octets other than the delimiter behind the identity frames
abbrev pub is_engine : List ℕ → Bool
is_engine engine = is_id engine && not (bytes_eq engine (codes "<IDS|MSG>"))
