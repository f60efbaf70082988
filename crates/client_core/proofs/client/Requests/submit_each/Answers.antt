use Rattle.std.proofs.Common.{◌≡◌, ◌≤◌, ◌+◌, ◌++◌, length, take, drop, Result, Ok, Err, OnErr, arith, sym, ap, subst, ◌∙◌}
use Rattle.client_core.specs.Clients.{Known, is_used}
use Rattle.client_core.specs.Messages.{task_request}
use Rattle.client_core.specs.Numbers.{numbered, numbered_id}
use Rattle.client_core.specs.Sending.{message_of}
use Rattle.client_core.specs.Submissions.{messages_of, AreReadBack}
use Rattle.client_core.proofs.Submitted.{next_new, all_more, reads_more, numbers_more}
use Rattle.client_core.proofs.client.Requests.submit_each.Goals as goal

on_err : {A E : Type 0} (r : Result A E) (P : Type 0) → P → OnErr r P
on_err (Ok a) P h = tt
on_err (Err e) P h = h

pub submit_new-requires-clause-new : goal.submit_new-requires-clause-new
submit_new-requires-clause-new g c =
    let id = numbered_id (c.args.first + c.loop-place.place) in
    ap (λ (k : Known). is_used k.used id) c.loop-place.invariant.noted
    ∙ next_new c.args.self.now.used c.args.first (length c.args.submissions.now) c.loop-place.place c.requires.new c.loop-place-test.true c.requires.numbers

pub loop-place-preserved : goal.loop-place-preserved
loop-place-preserved g c =
    let client = c.args.self.now in
    let submissions = c.args.submissions.now in
    let place = c.loop-place.place in
    let s = c.index-submissions-place.result in
    let message = c.in_ok-message.message in
    let made : message ≡ message_of client (numbered (c.args.first + place)) c.args.moment (task_request s.meta s.code) =
    c.in_ok-message.ensures.message ∙ ap (λ (k : Known). message_of k (numbered (c.args.first + place)) c.args.moment (task_request s.meta s.code)) c.loop-place.invariant.noted in
    let behind = messages_of client c.args.moment (c.args.first + (place + 1)) (drop (place + 1) submissions) in
    record {
      all =
          ap (λ ms. ms ++ behind) c.in_ok-push.ensures.ok
          ∙ all_more client c.args.moment c.args.first place submissions s c.loop-place.messages message (messages_of client c.args.moment c.args.first submissions) c.loop-place-test.true (sym c.index-submissions-place.is) made c.loop-place.invariant.all;
      reads =
          subst (λ ms. AreReadBack ms (take (place + 1) submissions)) (sym c.in_ok-push.ensures.ok)
          (reads_more submissions place s c.loop-place.messages message c.loop-place-test.true (sym c.index-submissions-place.is) c.loop-place.invariant.reads c.in_ok-message.ensures.reads);
      noted = c.in_ok-message.ensures.noted ∙ numbers_more c.loop-place.self client c.args.first place c.loop-place.invariant.noted;
    }

pub returns-in_err-push-clause-front : goal.returns-in_err-push-clause-front
returns-in_err-push-clause-front g c =
    let within : c.loop-place.place + 1 ≤ length c.args.submissions.now = omega (arith, c.loop-place-test.true) in
    on_err c.from_residual-in_err-push.result _ (c.loop-place.place + 1, within, c.in_ok-message.ensures.noted ∙ numbers_more c.loop-place.self c.args.self.now c.args.first c.loop-place.place c.loop-place.invariant.noted)
