use Rattle.std.proofs.Common.{◌≡◌, ◌∙◌, ◌+◌, ℕ, List, length, drop, Option, sym, ap, subst, arith}
use Rattle.edges.specs.Streams.{Added}
use Rattle.history_lock.specs.Names.{known}
use Rattle.run_lines.specs.declared.labels.Labels.{Labels}
use Rattle.run_lines.specs.Lines.{lines_from, known_front}
use Rattle.run_threads.specs.Answering.{ArePrinted}
use Rattle.run_threads.proofs.Gathering.{prints, printed_later, are_later}
use Rattle.run_threads.proofs.shared.RunShared.serve.Goals as goal

pub returns-then-next-awaited-clause-printed : goal.returns-then-next-awaited-clause-printed
returns-then-next-awaited-clause-printed g c =
    let labels = c.args.awaited.now.labels in
    let now = c.take_outcomes.new.awaited in
    let seen = (known c.take_outcomes.new.pass).seen in
    let labels_are = c.take_outcomes.ensures.labels.0 ∙ c.loop.invariant.labels.0 in
    let total_is = c.take_outcomes.ensures.labels.1 ∙ c.loop.invariant.labels.1 in
    let before = printed_later labels (known c.loop.pass).seen seen c.loop.next (g.K.Sink.written c.args.output.now) (g.K.Sink.written c.loop.output) c.take_outcomes.ensures.later c.loop.invariant.printed in
    let added = subst (λ (l : Labels). Added (lines_from l c.loop.next (known_front (drop c.loop.next now.gathered.answers))) (g.K.Sink.written c.loop.output) (g.K.Sink.written c.print.new.output)) labels_are c.in_ok-next.ensures.ok in
    subst (λ (n : ℕ). ArePrinted labels seen.list n (g.K.Sink.written c.args.output.now) (g.K.Sink.written c.print.new.output)) (sym c.in_ok-next.ensures.next ∙ c.if-next-awaited.true ∙ total_is)
    (prints labels seen.list now.gathered c.loop.next (g.K.Sink.written c.args.output.now) (g.K.Sink.written c.loop.output) (g.K.Sink.written c.print.new.output) c.take_outcomes.ensures.counted.first c.take_outcomes.ensures.answered before added)

pub loop-preserved : goal.loop-preserved
loop-preserved g c =
    let labels = c.args.awaited.now.labels in
    let now = c.take_outcomes.new.awaited in
    let seen = (known c.take_outcomes.new.pass).seen in
    let labels_are = c.take_outcomes.ensures.labels.0 ∙ c.loop.invariant.labels.0 in
    let total_is = c.take_outcomes.ensures.labels.1 ∙ c.loop.invariant.labels.1 in
    let before = printed_later labels (known c.loop.pass).seen seen c.loop.next (g.K.Sink.written c.args.output.now) (g.K.Sink.written c.loop.output) c.take_outcomes.ensures.later c.loop.invariant.printed in
    let added = subst (λ (l : Labels). Added (lines_from l c.loop.next (known_front (drop c.loop.next now.gathered.answers))) (g.K.Sink.written c.loop.output) (g.K.Sink.written c.print.new.output)) labels_are c.in_ok-next.ensures.ok in
    let printed = subst (λ (n : ℕ). ArePrinted labels seen.list n (g.K.Sink.written c.args.output.now) (g.K.Sink.written c.print.new.output)) (sym c.in_ok-next.ensures.next)
    (prints labels seen.list now.gathered c.loop.next (g.K.Sink.written c.args.output.now) (g.K.Sink.written c.loop.output) (g.K.Sink.written c.print.new.output) c.take_outcomes.ensures.counted.first c.take_outcomes.ensures.answered before added) in
    let written = c.loop.invariant.writes in
    let later = c.in_ok-next.ensures.later in
    record {
      idle = c.halted.ensures.back.0;
      counted = c.take_outcomes.ensures.counted;
      labels = (labels_are, total_is);
      answered = are_later seen (known c.halted.new.pass).seen now.gathered c.halted.ensures.later c.take_outcomes.ensures.answered;
      within = c.in_ok-next.ensures.within;
      printed = printed_later labels seen (known c.halted.new.pass).seen c.in_ok-next.next (g.K.Sink.written c.args.output.now) (g.K.Sink.written c.print.new.output) c.halted.ensures.later printed;
      writes = omega (arith, written, later);
    }
