use Rattle.std.proofs.Common.{◌≡◌, ◌∙◌, length, reverse, sym, ap}
use Rattle.std.proofs.lemmas.List.{length-reverse, reverse-reverse}
use Rattle.cluster_defs.specs.Histories.{facts}
use Rattle.cluster_state.specs.Plain.{plain_of}
use Rattle.cluster_state.specs.Stands.{plain}
use Rattle.database_text.specs.Going.{purged_in, purged_by, gone_by}
use Rattle.database_text.specs.Notes.{notes_of}
use Rattle.database_text.specs.Thinning.{thin_noted, gone_through}
use Rattle.database_text.proofs.Histories.{as_many, thinned_is}
use Rattle.database_text.proofs.thinning.thinned.Goals as goal

pub thin_entries-requires : goal.thin_entries-requires
thin_entries-requires c =
    let entries = c.args.entries.now in
    let notes = c.in_ok-pass.pass.notes.items in
    let noted : reverse notes ≡ notes_of (reverse entries) = c.in_ok-pass.ensures.notes ∙ ap (λ xs. notes_of (reverse xs)) c.as_slice.ensures in
    ap length c.as_slice-3.ensures.value ∙ sym (length-reverse notes) ∙ ap length noted ∙ as_many (reverse entries) ∙ length-reverse entries
    ∙ ap length (sym c.as_slice-4.ensures)

pub returns : goal.returns
returns c =
    let entries = c.args.entries.now in
    let state = c.in_ok-pass.pass.state in
    let notes = c.in_ok-pass.pass.notes.items in
    let gone = gone_by c.in_ok-going.going in
    let purged = purged_by c.in_ok-going.going in
    let stands : plain state ≡ plain_of (facts (reverse entries)) = c.in_ok-pass.ensures.stands ∙ ap (λ xs. plain_of (facts (reverse xs))) c.as_slice.ensures in
    let noted : reverse notes ≡ notes_of (reverse entries) = c.in_ok-pass.ensures.notes ∙ ap (λ xs. notes_of (reverse xs)) c.as_slice.ensures in
    let goes : gone ≡ gone_through (purged_in state) (reverse notes) =
    c.in_ok-going.ensures.gone ∙ ap (λ ns. gone_through (purged_in state) (reverse ns)) c.as_slice-2.ensures.value in
    let thin_ones = c.in_ok-thin.thin.items in
    c.from_vec.ensures ∙ sym (reverse-reverse thin_ones)
    ∙ ap reverse (c.in_ok-thin.ensures
    ∙ ap (λ ns. thin_noted gone purged (reverse ns) (reverse c.as_slice-4.result.now)) c.as_slice-3.ensures.value
    ∙ ap (λ es. thin_noted gone purged (reverse notes) (reverse es)) c.as_slice-4.ensures
    ∙ thinned_is (reverse entries) (plain state) (reverse notes) gone purged c.requires.legal stands noted c.in_ok-going.ensures.purged goes)
