use Rattle.std.proofs.Common.{◌≡◌, List, ℕ, [], ◌++◌, ap, sym, subst, ◌∙◌}
use Rattle.std.specs.List.{flat_map}
use Rattle.std.proofs.lemmas.List.{append-nil}
use Rattle.std.proofs.lemmas.Result.{on_ok_weaker, on_err_weaker}
use Rattle.edges.specs.Streams.{Added}
use Rattle.database_text.specs.Compact.{open_batch, batches, closing, compacted}
use Rattle.database_text.specs.Sent.{Sent, SentSome}
use Rattle.database_text.proofs.Found.{stands}
use Rattle.database_text.proofs.WrittenFronts.{sent_none, some_none, sent_more, sent_some, sent_done, whole_is}
use Rattle.database_text.proofs.writing.write_journal.Goals as goal
use Rattle.cluster_types.proofs.Options.{at_err, at_ok}

pub returns-in_err-pending-clause-err : goal.returns-in_err-pending-clause-err
returns-in_err-pending-clause-err g c = at_err _ (some_none _ _)

pub returns-in_err-put_batches-clause-err : goal.returns-in_err-put_batches-clause-err
returns-in_err-put_batches-clause-err g c =
    let es = c.args.entries.now in
    let begun = c.in_ok-pending.pending.items in
    at_err _ (sent_some (sent_none (compacted es) (g.K.Sink.written c.args.output.now)) (begun ++ flat_map open_batch (batches es)) (closing es) (g.K.Sink.written c.put_batches.new.output) (whole_is es begun c.in_ok-pending.ensures) c.in_err-put_batches.ensures.err)

pub returns-in_err-extend_from_slice-clause-err : goal.returns-in_err-extend_from_slice-clause-err
returns-in_err-extend_from_slice-clause-err g c =
    let es = c.args.entries.now in
    let begun = c.in_ok-pending.pending.items in
    let left = c.put_batches.new.pending.items in
    let some : SentSome (compacted es) (g.K.Sink.written c.args.output.now) (g.K.Sink.written c.put_batches.new.output) = (left ++ closing es, sent_more (sent_none (compacted es) (g.K.Sink.written c.args.output.now)) (begun ++ flat_map open_batch (batches es)) left (closing es) (g.K.Sink.written c.put_batches.new.output) (whole_is es begun c.in_ok-pending.ensures) c.in_ok-put_batches.ensures.ok) in
    at_err _ some

pub returns-clause-ok : goal.returns-clause-ok
returns-clause-ok g c =
    let es = c.args.entries.now in
    let begun = c.in_ok-pending.pending.items in
    let left = c.put_batches.new.pending.items in
    let sent : Sent (compacted es) (g.K.Sink.written c.args.output.now) (g.K.Sink.written c.put_batches.new.output) (left ++ closing es) = sent_more (sent_none (compacted es) (g.K.Sink.written c.args.output.now)) (begun ++ flat_map open_batch (batches es)) left (closing es) (g.K.Sink.written c.put_batches.new.output) (whole_is es begun c.in_ok-pending.ensures) c.in_ok-put_batches.ensures.ok in
    let all : c.as_slice.result.now ≡ left ++ closing es = c.as_slice.ensures.value ∙ c.in_ok-extend_from_slice.ensures.items ∙ ap (λ (z : List ℕ). left ++ z) c.closing.ensures in
    on_ok_weaker c.put.result (λ p. sent_done sent (g.K.Sink.written c.put.new.output) (subst (λ (z : List ℕ). Added z (g.K.Sink.written c.put_batches.new.output) (g.K.Sink.written c.put.new.output)) all p)) c.put.ensures.ok

pub returns-clause-stands : goal.returns-clause-stands
returns-clause-stands g c = at_ok _ (stands c.args.entries.now c.requires c.in_ok-put_batches.ensures.short)

pub returns-clause-err : goal.returns-clause-err
returns-clause-err g c =
    let es = c.args.entries.now in
    let begun = c.in_ok-pending.pending.items in
    let left = c.put_batches.new.pending.items in
    let sent : Sent (compacted es) (g.K.Sink.written c.args.output.now) (g.K.Sink.written c.put_batches.new.output) (left ++ closing es) = sent_more (sent_none (compacted es) (g.K.Sink.written c.args.output.now)) (begun ++ flat_map open_batch (batches es)) left (closing es) (g.K.Sink.written c.put_batches.new.output) (whole_is es begun c.in_ok-pending.ensures) c.in_ok-put_batches.ensures.ok in
    let all : c.as_slice.result.now ≡ left ++ closing es = c.as_slice.ensures.value ∙ c.in_ok-extend_from_slice.ensures.items ∙ ap (λ (z : List ℕ). left ++ z) c.closing.ensures in
    on_err_weaker c.put.result (λ p. sent_some sent c.as_slice.result.now [] (g.K.Sink.written c.put.new.output) (sym all ∙ sym (append-nil c.as_slice.result.now)) p) c.put.ensures.err
