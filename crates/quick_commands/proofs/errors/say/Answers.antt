use Rattle.std.proofs.Common.{List, ℕ, subst, ◌∙◌, inl, inr}
use Rattle.quick_commands.specs.Written.{Said}
use Rattle.quick_commands.proofs.errors.say.Goals as goal
use Rattle.database_text.proofs.Fronts.{front_take}

pub returns-in-Ok : goal.returns-in-Ok
returns-in-Ok g c =
    subst (λ (xs : List ℕ). Said xs (g.E.Sink.written c.args.errors.now) (g.E.Sink.written c.write_all.new.sink) (g.E.Sink.faults c.args.errors.now) (g.E.Sink.faults c.write_all.new.sink)) (c.as_slice.ensures)
    (inl c.in-Ok.ensures.ok)

pub returns-in-Err : goal.returns-in-Err
returns-in-Err g c =
    subst (λ (xs : List ℕ). Said xs (g.E.Sink.written c.args.errors.now) (g.E.Sink.written c.write_all.new.sink) (g.E.Sink.faults c.args.errors.now) (g.E.Sink.faults c.write_all.new.sink)) (c.as_slice.ensures)
    (inr (front_take c.as_slice.result.now c.in-Err.ensures.err.0 (g.E.Sink.written c.args.errors.now) (g.E.Sink.written c.write_all.new.sink) c.in-Err.ensures.err.2, c.in-Err.ensures.cause))
