use Rattle.std.proofs.Common.{◌≡◌, length, sym, ap, subst, ◌∙◌}
use Rattle.std.specs.Prelude.{IfOk}
use Rattle.std.proofs.lemmas.List.{length-map}
use Rattle.cluster_defs.specs.Scheduling.{is_kept_as}
use Rattle.task_table.specs.Seen.{Seen}
use Rattle.cluster_state.specs.Plain.{facts_in}
use Rattle.cluster_state.specs.Stands.{plain}
use Rattle.database_text.specs.declared.notes.Note.{Note}
use Rattle.database_text.specs.Notes.{note_as}
use Rattle.database_text.proofs.pass.take_as.Goals as goal

pub returns-clause-note : goal.returns-clause-note
returns-clause-note c =
    let p = plain c.args.state.now in
    let f = facts_in p in
    subst (λ (n : Note). IfOk c.note_of.result (λ note. note ≡ n))
    (ap (λ n. note_as n c.in_ok-kept.kept c.args.event.now) (c.len-known.ensures ∙ sym (length-map p.tasks (λ (t : Seen). t.row.id)))
    ∙ ap (λ b. note_as (length f.known) b c.args.event.now) c.in_ok-kept.ensures.kept
    ∙ ap (λ o. note_as (length f.known) (is_kept_as f c.args.entry.now o) o) c.requires.event)
    c.note_of.ensures
