-- The Submits that run on each engine, by the records and by what is counted.
use Rattle.std.specs.Prelude.{◌≡◌, ℕ, List, length, map, not, ◌&&◌}
use Rattle.cluster_defs.specs.RecordAnswers.{ids_where, runs_in}
use Rattle.task_table.specs.Seen.{Seen}
use Rattle.task_table.specs.Loading.{load_in}

-- an engine's load is how many records tell of a Submit that runs there
abbrev pub LoadsShown : List Seen → Type 0
LoadsShown ts = (n : ℕ) → load_in ts n ≡ length (ids_where (λ r. runs_in n r && not r.direct) (map (λ t. t.row) ts))
