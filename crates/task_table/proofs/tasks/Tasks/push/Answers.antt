use Rattle.std.proofs.Common.{sym, subst, length}
use Rattle.task_graph.specs.Listing.{is_waiting, lists, Noted, TakenOut}
use Rattle.std.proofs.Common.{◌≡◌, false}
use Rattle.task_graph.proofs.Lists.{noted_same, taken_back}
use Rattle.cluster_defs.specs.Words.{Id}
use Rattle.task_table.specs.Waiting.{ids_of}
use Rattle.task_table.proofs.Tallying.{counted_pushed}
use Rattle.task_table.proofs.Pushing.{beside_unpushed, beside_pushed}
use Rattle.task_table.proofs.Waiting.{fresh_place}
use Rattle.task_table.proofs.tasks.Tasks.push.Goals as goal

pub note_new-requires : goal.note_new-requires
note_new-requires c =
    subst (λ k. (j : Id) → is_waiting c.self.inside.waiters j k ≡ false) (sym c.len-place.ensures) (fresh_place c.self.inside.table c.self.inside.waiters c.self.invariant.indexed)

pub invariant_of-self-2 : goal.invariant_of-self-2
invariant_of-self-2 c =
    let ts = c.self.inside.table in
    let us = c.push_noted.new.table in
    let t = c.args.task in
    let old = c.self.inside.waiters in
    let new = c.push_noted.new.waiters in
    let ids = ids_of t.request in
    let noted : Noted (lists ids) (length ts) old c.note_new.new.waiters = subst (λ k. Noted (lists ids) k old c.note_new.new.waiters) c.len-place.ensures c.in_ok-note_new.ensures.ok in
    beside_pushed ts us c.self.inside.marks c.push_noted.new.marks old new c.self.inside.tallies c.follow.new.tallies c.self.invariant c.push_noted.ensures.marked t c.in_ok-push_noted.ensures.ok c.requires
    (subst (λ ws. Noted (lists ids) (length ts) old ws) (sym c.in_ok-push_noted.ensures.noted) noted)
    (counted_pushed c.follow.result ts us t c.self.inside.tallies c.take-kept.result c.take-kept.new.self c.follow.new.tallies c.no_classes.result c.classes_of-after.result
    c.self.invariant.counted c.take-kept.ensures.value c.take-kept.ensures.after c.in_ok-push_noted.ensures.ok c.no_classes.ensures c.classes_of-after.ensures c.follow.ensures.ok c.follow.ensures.err)

pub invariant_of-self-in_err-push_noted : goal.invariant_of-self-in_err-push_noted
invariant_of-self-in_err-push_noted c =
    let ts = c.self.inside.table in
    let old = c.self.inside.waiters in
    let mid = c.note_new.new.waiters in
    let new = c.push_noted.new.waiters in
    let ids = ids_of c.args.task.request in
    let noted : Noted (lists ids) (length ts) old mid = subst (λ k. Noted (lists ids) k old mid) c.len-place.ensures c.in_ok-note_new.ensures.ok in
    beside_unpushed ts c.push_noted.new.table c.self.inside.marks c.push_noted.new.marks old new c.self.inside.tallies c.take-kept.new.self c.self.invariant c.push_noted.ensures.marked c.in_err-push_noted.ensures.err
    (taken_back ids (length ts) old mid new (fresh_place ts old c.self.invariant.indexed) (noted_same ids (length ts) old mid noted) c.in_err-push_noted.ensures.forgotten) c.take-kept.ensures.after
