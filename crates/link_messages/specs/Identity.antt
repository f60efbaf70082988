-- The identity of a connection.
use Rattle.std.specs.Prelude.{ℕ, ◌==◌, List, ◌++◌, length, decimal, codes, if◌then◌else◌}
use Rattle.cluster_types.specs.declared.config.Channel.{Channel}
use Rattle.cluster_types.specs.declared.entry.Input.{Input}
use Rattle.cluster_types.specs.declared.entry.Input.TheVariants.{Up}

-- a connection without an identity is called after its number
unfoldable pub numbered_identity : ℕ → List ℕ
numbered_identity conn = codes "conn-" ++ decimal conn

abbrev pub identity_or_number : ℕ → List ℕ → List ℕ
identity_or_number conn identity = if length identity == 0 then numbered_identity conn else identity

-- the input of a connection that comes up
abbrev pub up_of : ℕ → Channel → ℕ → ℕ → List ℕ → Input
up_of conn channel moment word identity = Up conn channel moment word (identity_or_number conn identity)
