use Rattle.std.proofs.Common.{◌≡◌, ℕ, List, Some, None, true, false, String, Global, option_map, if◌then◌else◌, arith, ap, ◌∙◌}
use Rattle.std.specs.Map.{lookup}
use Rattle.std.specs.Option.{option_map_or}
use Rattle.client_core.specs.declared.stand.Stand.TheVariants.{Settled}
use Rattle.client_core.specs.declared.task.Task.{Task}
use Rattle.client_core.specs.Noting.{note_of}
use Rattle.client_core.specs.Clients.{used_in, stand_in, stand_of, with_stand, has_watcher, is_unsettled, unsettled}
use Rattle.client_core.proofs.Entries.{is_text, set_of, lookup_of}
use Rattle.client_core.proofs.Counts.{unsettled_after}
use Rattle.client_core.proofs.used.settle.Goals as goal

-- how the task that is found stands
found : {W : Type 0} (es : List (String Global × Task W)) (id : List ℕ) (task : Task W) → Some task ≡ lookup (is_text id) es → Some (stand_of task) ≡ stand_in (used_in es) id
found es id task h = ap (option_map stand_of) h ∙ lookup_of es id

pub settle_task-requires : goal.settle_task-requires
settle_task-requires g c =
    ap (λ s. option_map_or is_unsettled s false) (found c.args.used.now.entries c.args.id.now c.in-Some.task.now c.in-Some.ensures.value) ∙ c.requires.outstanding

pub overflow_sub-outstanding : goal.overflow_sub-outstanding
overflow_sub-outstanding g c =
    let one = unsettled_after (used_in c.args.used.now.entries) c.args.id.now None c.requires.outstanding in
    omega (arith, one, c.requires.counted)

pub returns-in-Some-clause-settled : goal.returns-in-Some-clause-settled
returns-in-Some-clause-settled g c =
    let used = used_in c.args.used.now.entries in
    let id = c.args.id.now in
    let note = note_of c.args.answered c.args.ok in
    let at = found c.args.used.now.entries id c.in-Some.task.now c.in-Some.ensures.value in
    ap used_in (c.get_mut.follows.holds c.settle_task.new.task).0
    ∙ set_of c.args.used.now.entries id c.settle_task.new.task
    ∙ ap (with_stand used id) (c.settle_task.ensures ∙ ap (λ o. Settled (if option_map_or has_watcher o false then Some note else None)) at)

pub returns-in-Some-clause-counted : goal.returns-in-Some-clause-counted
returns-in-Some-clause-counted g c =
    let used = used_in c.args.used.now.entries in
    let id = c.args.id.now in
    let note = note_of c.args.answered c.args.ok in
    let at = found c.args.used.now.entries id c.in-Some.task.now c.in-Some.ensures.value in
    let same = ap unsettled (ap used_in (c.get_mut.follows.holds c.settle_task.new.task).0
    ∙ set_of c.args.used.now.entries id c.settle_task.new.task
    ∙ ap (with_stand used id) c.settle_task.ensures) in
    let one = unsettled_after used id (if has_watcher (stand_of c.in-Some.task.now) then Some note else None) c.requires.outstanding in
    omega (arith, one, c.requires.counted, same)

pub returns-in_default-clause-settled : goal.returns-in_default-clause-settled
returns-in_default-clause-settled g c =
    let none : false ≡ true = ap (λ s. option_map_or is_unsettled s false) (ap (option_map stand_of) c.in_default.ensures.value ∙ lookup_of c.args.used.now.entries c.args.id.now) ∙ c.requires.outstanding in
    absurd (cc)
