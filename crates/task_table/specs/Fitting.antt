-- Where a task that waits may run, and whether it may run at all: read off the tasks.
use Rattle.std.specs.Prelude.{ℕ, List, [], Option, Some, None, Bool, false, not, ◌&&◌, ◌||◌, if◌then◌else◌, filter_map}
use Rattle.std.specs.Option.{option_and_then}
use Rattle.cluster_defs.specs.declared.engine.Engine.{Engine}
use Rattle.cluster_defs.specs.Words.{is_empty}
use Rattle.cluster_defs.specs.Tasks.{Task}
use Rattle.cluster_defs.specs.Dependencies.{met, unreachable, on_engine}
use Rattle.cluster_defs.specs.Requests.{Request, is_direct, is_bound, is_target, deadline}
use Rattle.cluster_defs.specs.Facts.{Facts, nothing_yet}
use Rattle.cluster_defs.specs.Scheduling.{rests, may_run_as, excludes, is_dead, is_past}
use Rattle.task_table.specs.Seen.{Seen}
use Rattle.task_table.specs.Standing.{alone}
use Rattle.task_table.specs.Waiting.{settled_in}

-- the attempts of one task, the live engines and how all tasks were settled
abbrev pub among : List Seen → List Engine → ℕ → Task → Facts
among ts live now a = record nothing_yet { now = now; engines = record { live = live; next = 0 }; task = λ id. a; settled = settled_in ts }

-- an engine where what it follows is met, that is a target and didn't decline it
abbrev pub takes_as : List Seen → ℕ → Option Request → Bool
takes_as ts n None = false
takes_as ts n (Some r) = met r.follow (λ i. on_engine n (settled_in ts i)) && is_target n r

abbrev pub takes : List Seen → Seen → ℕ → Bool
takes ts t n = takes_as ts n t.request && not (excludes (alone t) t.row.id n)

-- whether a task may run on an engine that is live and has room
abbrev pub fits : List Seen → Seen → ℕ → Bool
fits ts t n = rests (alone t) t.row.id && may_run_as (among ts [] 0 t.attempts) t.row.id n t.request && not (excludes (alone t) t.row.id n)

-- whether a Submit that waits can't run for good, where these engines are live
abbrev pub hopeless_as : List Seen → List Engine → Task → Option Request → Bool
hopeless_as ts live a None = false
hopeless_as ts live a (Some r) = not (is_direct r) && (r.invalid || is_dead (among ts live 0 a) [] r)

abbrev pub hopeless : List Seen → List Engine → Seen → Bool
hopeless ts live t = rests (alone t) t.row.id && hopeless_as ts live t.attempts t.request

-- whether what a task waits for can't be met any more
abbrev pub cut_off : List Seen → Option Request → Bool
cut_off ts None = false
cut_off ts (Some r) = unreachable r.after (settled_in ts)

-- whether a Submit that waits is past its timeout at a moment
abbrev pub late_as : ℕ → Option Request → Bool
late_as now None = false
late_as now (Some r) = not (is_direct r) && is_past now (deadline r)

abbrev pub late : ℕ → Seen → Bool
late now t = rests (alone t) t.row.id && late_as now t.request

-- whether its targets or the engines of what it follows tell where it may run
abbrev pub is_tied : Request → Bool
is_tied r = is_bound r || not (is_empty r.follow.ids)

-- the engines that tell it: its targets, or else those where what it follows finished
abbrev pub tied : List Seen → Request → List ℕ
tied ts r = if is_bound r then r.targets else filter_map (λ i. option_and_then (λ s. s.engine) (settled_in ts i)) r.follow.ids
