-- Lists in which no two engines are on one connection.
use Rattle.std.specs.Prelude.{List, [], ◌∷◌, Bool, true, not, ◌==◌, ◌&&◌}
use Rattle.std.specs.List.{list_any}
use Rattle.cluster_defs.specs.declared.engine.Engine.{Engine}

abbrev pub are_apart : List Engine → Bool
are_apart [] = true
are_apart (e ∷ es) = not (list_any (λ f. f.conn == e.conn) es) && are_apart es
