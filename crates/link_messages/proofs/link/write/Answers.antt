use Rattle.std.proofs.Common.{refl, sym}
use Rattle.std.proofs.lemmas.List.{take-append-drop}
use Rattle.link_messages.proofs.link.write.Goals as goal

pub returns-in-Err-clause-err : goal.returns-in-Err-clause-err
returns-in-Err-clause-err g c = (refl, record { front = _; rest = _; parts = sym (take-append-drop c.in-Err.ensures.err.0 c.args.octets.now); added = c.in-Err.ensures.err.2 })
