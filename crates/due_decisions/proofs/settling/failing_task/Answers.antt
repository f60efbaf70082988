use Rattle.std.proofs.Common.{◌∙◌, subst, ℕ, Bool, not, ◌||◌}
use Rattle.std.specs.Prelude.{nat_le}
use Rattle.std.specs.Option.{is_some}
use Rattle.cluster_defs.specs.Engines.{lists_number}
use Rattle.place_sets.specs.Sets.{has, holds_at}
use Rattle.place_sets.specs.Lanes.{in_some}
use Rattle.place_sets.specs.Least.{IsLeast}
use Rattle.place_sets.proofs.Leasts.{least_is}
use Rattle.task_table.specs.Seen.{Seen}
use Rattle.due_decisions.specs.Table.{failing_in}
use Rattle.due_decisions.proofs.OpenTasks.{fails_covers}
use Rattle.due_decisions.proofs.settling.failing_task.Goals as goal

pub returns : goal.returns
returns c =
    let ts = c.args.tasks.now in
    let live = c.args.engines.now in
    let now = c.args.now in
    let m = c.marks-marks.result.now in
    let gone : ℕ → Bool = λ n. not (lists_number n live) in
    let come : ℕ → Bool = λ n. nat_le n now in
    let test : ℕ → Bool = holds_at (λ (t : Seen). is_some (failing_in ts live now t)) ts in
    let one : IsLeast test (has m.doubtful) c.failing_place-doubtful.result =
    subst (λ xs. IsLeast (holds_at (λ (t : Seen). is_some (failing_in xs live now t)) xs) (has m.doubtful) c.failing_place-doubtful.result) c.table-table.ensures c.failing_place-doubtful.ensures in
    let two : IsLeast test (in_some gone m.watches) c.unwatched_place-unwatched.result =
    subst (λ xs. IsLeast (holds_at (λ (t : Seen). is_some (failing_in xs live now t)) xs) (in_some gone m.watches) c.unwatched_place-unwatched.result) c.table-table.ensures c.unwatched_place-unwatched.ensures in
    let three : IsLeast test (in_some come m.deadlines) c.late_place-late.result =
    subst (λ xs. IsLeast (holds_at (λ (t : Seen). is_some (failing_in xs live now t)) xs) (in_some come m.deadlines) c.late_place-late.result) c.table-table.ensures c.late_place-late.ensures in
    let early = c.lesser-early.ensures test (has m.doubtful) (in_some gone m.watches) one two in
    let all = c.lesser.ensures test (λ i. has m.doubtful i || in_some gone m.watches i) (in_some come m.deadlines) early three in
    c.at.ensures ∙ least_is (λ (t : Seen). is_some (failing_in ts live now t)) ts (λ i. (has m.doubtful i || in_some gone m.watches i) || in_some come m.deadlines i) c.lesser.result all (fails_covers ts live now m c.marks-marks.ensures)
