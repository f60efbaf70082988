use Rattle.std.proofs.Common.{◌≤◌, ◌∙◌, length, reverse, sym, ap, subst, arith}
use Rattle.std.proofs.lemmas.List.{take_all}
use Rattle.cluster_types.specs.Limits.{last_moment}
use Rattle.cluster_defs.specs.Histories.{facts}
use Rattle.cluster_state.specs.Plain.{Plain, plain_of, InTime}
use Rattle.cluster_state.specs.Stands.{plain}
use Rattle.database_text.specs.Notes.{notes_of}
use Rattle.database_text.proofs.Passing.{next_at, passed_at}
use Rattle.database_text.proofs.pass.pass_over.Goals as goal

pub take_entry-requires-clause-next : goal.take_entry-requires-clause-next
take_entry-requires-clause-next c =
    next_at c.args.entries.now c.loop-entry.entry-index c.entry-item.result (plain c.loop-entry.state) c.loop-entry.notes.items
    c.loop-entry-test.true c.entry-item.is c.requires.legal c.loop-entry.invariant

pub take_entry-requires-clause-time : goal.take_entry-requires-clause-time
take_entry-requires-clause-time c = subst InTime (sym c.entry-item.is) (c.requires.time c.loop-entry.entry-index c.entry-item.result c.loop-entry-test.true)

pub take_entry-requires-clause-now : goal.take_entry-requires-clause-now
take_entry-requires-clause-now c = c.loop-entry.invariant.time

pub loop-entry-init : goal.loop-entry-init
loop-entry-init c =
    let begins : 0 ≤ last_moment = omega arith in
    record {
      stands = c.new-state.ensures;
      time = subst (λ (p : Plain). p.moment ≤ last_moment) (sym c.new-state.ensures) begins;
      notes_are = ap reverse c.new-notes.ensures.items;
    }

pub loop-entry-preserved : goal.loop-entry-preserved
loop-entry-preserved c =
    let xs = c.args.entries.now in
    let i = c.loop-entry.entry-index in
    let e = c.entry-item.result in
    let more = passed_at xs i e (plain c.loop-entry.state) (plain c.take_entry.new.state) c.loop-entry.notes.items c.in_ok-note.note c.loop-entry-test.true c.entry-item.is c.requires.legal
    (subst InTime (sym c.entry-item.is) (c.requires.time i e c.loop-entry-test.true)) c.loop-entry.invariant c.in_ok-note.ensures.note c.in_ok-note.ensures.after in
    record { stands = more.stands; time = more.time; notes_are = ap reverse c.in_ok-push.ensures.items ∙ more.notes_are }

pub returns-clause-stands : goal.returns-clause-stands
returns-clause-stands c =
    let ends : length c.args.entries.now ≤ c.loop-entry.entry-index = c.loop-entry-test.false in
    c.loop-entry.invariant.stands ∙ ap (λ xs. plain_of (facts (reverse xs))) (take_all c.loop-entry.entry-index c.args.entries.now ends)

pub returns-clause-notes : goal.returns-clause-notes
returns-clause-notes c =
    let ends : length c.args.entries.now ≤ c.loop-entry.entry-index = c.loop-entry-test.false in
    c.loop-entry.invariant.notes_are ∙ ap (λ xs. notes_of (reverse xs)) (take_all c.loop-entry.entry-index c.args.entries.now ends)
