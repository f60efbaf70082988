-- How a task stands.
use Rattle.std.specs.Prelude.{Bool, not, ◌&&◌}
use Rattle.std.specs.Option.{is_some}
use Rattle.cluster_defs.specs.Facts.{Facts, nothing_yet}
use Rattle.cluster_defs.specs.Tasks.{runs}
use Rattle.cluster_defs.specs.Scheduling.{is_final, ready_for}
use Rattle.task_table.specs.Seen.{Seen}

-- what one task tells
abbrev pub alone : Seen → Facts
alone t = record nothing_yet { request_of = λ id. t.request; task = λ id. t.attempts; settled = λ id. t.settled }

-- whether it isn't settled, and its attempts are over
abbrev pub final_at : Seen → Bool
final_at t = is_final (alone t) t.row.id

-- whether it is a direct request that isn't settled and was not handed out
abbrev pub direct_at : Seen → Bool
direct_at t = is_some (ready_for (alone t) t.row.id)

-- whether it isn't settled, and an attempt is current
abbrev pub runs_open : Seen → Bool
runs_open t = not (is_some t.settled) && runs t.attempts.last
