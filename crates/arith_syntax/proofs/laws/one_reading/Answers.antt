use Rattle.arith_syntax.proofs.Writing.{one_program, same_fault, fault_or_program}
use Rattle.arith_syntax.proofs.laws.one_reading.Goals as goal

pub returns-clause-program : goal.returns-clause-program
returns-clause-program c = one_program

pub returns-clause-fault : goal.returns-clause-fault
returns-clause-fault c = same_fault

pub returns-clause-apart : goal.returns-clause-apart
returns-clause-apart c = fault_or_program
