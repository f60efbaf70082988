-- Engines by which is told whether a task may run for good.
use Rattle.std.specs.Prelude.{ℕ, List, [], ◌∷◌}
use Rattle.cluster_defs.specs.declared.engine.Engine.{Engine}
use Rattle.task_table.specs.declared.live.Live.{Live}
use Rattle.task_table.specs.declared.live.Live.TheVariants.{Among, Only, Nobody}

-- an engine of which its number alone matters
abbrev pub lone : ℕ → Engine
lone n = record { number = n; conn = 0; uuid = []; mark = 0 }

abbrev pub live_of : Live → List Engine
live_of (Among engines) = engines.now
live_of (Only n) = lone n ∷ []
live_of Nobody = []
