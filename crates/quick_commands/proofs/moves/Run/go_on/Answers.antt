use Rattle.std.proofs.Common.{rules, ℤ, subst}
use Rattle.std.specs.Int.{w64}
use Rattle.std.proofs.Common.{of_z, to_z}
use Rattle.quick_commands.specs.Work.{RunView, Moves}
use Rattle.quick_commands.proofs.RecordInputs.{first_fits, rest_fits}
use Rattle.quick_commands.proofs.Takes.{takes}
use Rattle.quick_commands.proofs.moves.Run.go_on.Goals as goal

pub returns-in-Some-pop_front-clause-moves : goal.returns-in-Some-pop_front-clause-moves
returns-in-Some-pop_front-clause-moves g c = λ done.
    let more : ℤ = to_z w64 (of_z w64 c.in_ok-self-inside.field-0) in
    subst
    (λ (v : RunView g.row.D.Denot). Moves v.work (record { history = c.self.inside.drive.stand.history; engines = c.answer.new.engines.items; inputs = c.in_ok-self-inside-2.field-0.items; outs = c.pop_front-2.new.self.items; tape = c.self.inside.tape; sum = more }))
    c.self.view_is
    (takes c.self.inside.drive.stand.history c.self.inside.engines.items c.answer.new.engines.items c.self.inside.inputs.items c.in_ok-self-inside-2.field-0.items c.self.inside.outs.items c.pop_front-2.new.self.items c.self.inside.tape c.self.inside.sum more c.in-Some-pop_front.out c.in_ok-reply.reply
    (search rules) (search rules) c.in_ok-reply.ensures (search rules) (search rules))

pub inputs_of-requires : goal.inputs_of-requires
inputs_of-requires g c = first_fits c.in-Some-2.item c.next.new.self c.self.inside.tape (rw c.in-Some-2.is at c.in_ok-item.ensures.taken) c.self.invariant.2

pub invariant_of-self-in_err-self-inside-3 : goal.invariant_of-self-in_err-self-inside-3
invariant_of-self-in_err-self-inside-3 g c = (search rules, search rules, rest_fits c.in-Some-2.item c.next.new.self c.self.inside.tape (rw c.in-Some-2.is at c.in_ok-item.ensures.taken) c.self.invariant.2)

pub invariant_of-self-2 : goal.invariant_of-self-2
invariant_of-self-2 g c = (search rules, search rules, rest_fits c.in-Some-2.item c.next.new.self c.self.inside.tape (rw c.in-Some-2.is at c.in_ok-item.ensures.taken) c.self.invariant.2)
