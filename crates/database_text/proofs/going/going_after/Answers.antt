use Rattle.std.proofs.Common.{◌∙◌, ◌≤◌, length, reverse, sym, ap, arith}
use Rattle.std.proofs.lemmas.Iterator.Adapters.{YieldsList-from_rev_slice}
use Rattle.std.proofs.lemmas.Iterator.Consumers.{YieldsList-turn, YieldsList-end}
use Rattle.std.proofs.lemmas.List.{at_drop_all, length_push}
use Rattle.database_text.specs.Going.{gone_by}
use Rattle.database_text.specs.Thinning.{gone_through}
use Rattle.database_text.proofs.Narrowing.{looked_at}
use Rattle.database_text.proofs.going.going_after.Goals as goal

pub loop-note-init : goal.loop-note-init
loop-note-init c = record {
  purged = c.new-going.ensures.purged;
  gone = ap (λ g. gone_through g (reverse c.args.notes.now)) c.new-going.ensures.gone;
}

pub loop-note-preserved : goal.loop-note-preserved
loop-note-preserved c =
    let done = c.loop-note.yielded in
    let turn = YieldsList-turn (YieldsList-from_rev_slice c.args.notes.now cc) done _ c.loop-note.yielded_by _ _ c.in-Some.note c.in-Some.is c.next.ensures.steps in
    record {
      purged = c.in_ok-look_at.ensures.purged ∙ c.loop-note.invariant.purged;
      gone =
          looked_at (gone_by c.loop-note.going) (gone_by c.look_at.new.self) (reverse c.args.notes.now) (length done) _ c.in-Some.note.now (length_push done c.in-Some.note) turn c.in_ok-look_at.ensures.gone
          ∙ c.loop-note.invariant.gone;
    }

pub returns-clause-gone : goal.returns-clause-gone
returns-clause-gone c =
    let done = c.loop-note.yielded in
    let ends = YieldsList-end (YieldsList-from_rev_slice c.args.notes.now cc) done _ c.loop-note.yielded_by _ _ c.in-None.is c.next.ensures.steps in
    let all : length (reverse c.args.notes.now) ≤ length done = omega (arith, ends.1) in
    sym (at_drop_all (gone_through (gone_by c.loop-note.going)) (reverse c.args.notes.now) (length done) all) ∙ c.loop-note.invariant.gone
