use Rattle.std.proofs.Common.{◌≡◌, subst, ap, ◌∙◌}
use Rattle.std.specs.Prelude.{filter}
use Rattle.place_sets.specs.Sets.{holds_at}
use Rattle.task_table.specs.Freeing.{newly_met, newly_dead}
use Rattle.task_table.proofs.Freed.{met_places, dead_places}
use Rattle.task_table.proofs.tasks.Tasks.freed.Goals as goal

pub returns-clause-met : goal.returns-clause-met
returns-clause-met c =
    let ts = c.args.self.now in
    let id = c.args.id.now in
    let s = c.args.settled in
    let ps = c.deref.result.now in
    subst (λ us. c.in_ok-freed.freed.met.items ≡ filter (holds_at (newly_met id s us) us) ps) c.self.view_is c.in_ok-freed.ensures.met
    ∙ ap (filter (holds_at (newly_met id s ts) ts)) (c.deref.ensures.value ∙ c.in_ok-waiting.ensures) ∙ met_places id s ts

pub returns-clause-dead : goal.returns-clause-dead
returns-clause-dead c =
    let ts = c.args.self.now in
    let id = c.args.id.now in
    let s = c.args.settled in
    let ps = c.deref.result.now in
    subst (λ us. c.in_ok-freed.freed.dead.items ≡ filter (holds_at (newly_dead id s us) us) ps) c.self.view_is c.in_ok-freed.ensures.dead
    ∙ ap (filter (holds_at (newly_dead id s ts) ts)) (c.deref.ensures.value ∙ c.in_ok-waiting.ensures) ∙ dead_places id s ts
