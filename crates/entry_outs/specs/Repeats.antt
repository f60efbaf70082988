-- Requests that come again.
use Rattle.std.specs.Prelude.{Bool, false}
use Rattle.cluster_defs.specs.declared.acceptance.Acceptance.{Acceptance}
use Rattle.cluster_defs.specs.declared.acceptance.Acceptance.TheVariants.{Again}

-- whether a request is the one that has the id
abbrev pub is_again : Acceptance → Bool
is_again (Again repeat) = repeat
is_again _ = false
