use Rattle.std.proofs.Common.{ℕ, List, subst, ◌∙◌}
use Rattle.edges.specs.Streams.{AddedFront}
use Rattle.quick_commands.proofs.generated.print.Goals as goal
use Rattle.database_text.proofs.Fronts.{front_take}

pub returns-clause-ended : goal.returns-clause-ended
returns-clause-ended g c =
    subst (λ (text : List ℕ). AddedFront text (g.K.Sink.written c.args.output.now) (g.K.Sink.written c.write_all.new.sink)) (c.as_bytes.ensures.value ∙ c.in-Ok.ensures)
    (front_take c.as_bytes.result.now c.in-Err.ensures.err.0 (g.K.Sink.written c.args.output.now) (g.K.Sink.written c.write_all.new.sink) c.in-Err.ensures.err.2)
