-- The limits of an answer.
use Rattle.std.specs.Prelude.{ℕ, List, Bool, ◌&&◌}
use Rattle.cluster_defs.specs.Queries.{plain, is_too_long}

-- whether a content passes the limits of a reply, where it has to keep to them
abbrev pub is_over : Bool → List ℕ → Bool
is_over is_limited content = is_limited && is_too_long (plain content)
