-- The tasks that are still to come.
use Rattle.std.proofs.Common.{◌≡◌, ℕ, suc, ◌+◌, ◌-◌, ◌<◌, List, [], ◌∷◌, refl, ap, ◌∙◌, add-one, arith}
use Rattle.tape.specs.declared.record.TapeRecord.{TapeRecord}
use Rattle.quick_commands.specs.Draws.{next_draw, draw}
use Rattle.quick_commands.specs.Generated.{task_record, tasks_from}

pub draw_more : (seed k : ℕ) → draw seed (k + 1) ≡ next_draw (draw seed k)
draw_more seed k = ap (draw seed) (add-one k)

none_from : (seed k : ℕ) → tasks_from seed k 0 ≡ []
unfolding tasks_from
none_from seed k = refl

pub no_tasks : (seed k count : ℕ) → count ≡ 0 → tasks_from seed k count ≡ []
no_tasks seed k count none = ap (tasks_from seed k) none ∙ none_from seed k

first_task : (seed k count : ℕ) → tasks_from seed k (suc count) ≡ task_record k (draw seed k) ∷ tasks_from seed (k + 1) count
unfolding tasks_from
first_task seed k count = refl

pub next_task : (seed given tasks drawn : ℕ) → given < tasks → drawn ≡ draw seed given
    → tasks_from seed (given + 1) (tasks - given) ≡ task_record (given + 1) (next_draw drawn) ∷ tasks_from seed (given + 1 + 1) (tasks - (given + 1))
next_task seed given tasks drawn lt is =
    let count : tasks - given ≡ suc (tasks - (given + 1)) = omega arith in
    let rest : List TapeRecord = tasks_from seed (given + 1 + 1) (tasks - (given + 1)) in
    let number : draw seed (given + 1) ≡ next_draw drawn = cc (draw_more seed given) in
    ap (tasks_from seed (given + 1)) count
    ∙ first_task seed (given + 1) (tasks - (given + 1))
    ∙ ap (λ (x : ℕ). task_record (given + 1) x ∷ rest) number
