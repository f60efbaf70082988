use Rattle.std.proofs.Common.{◌≡◌, ◌-◌, ℕ, List, length, take, drop, refl, inr, arith, length-drop}
use Rattle.std.proofs.lemmas.List.{take_all}
use Rattle.record_codec.proofs.Found.{stands, rest_fits, none_stands}
use Rattle.record_codec.proofs.reading.read_entry.Goals as goal

-- the octets from a place on, as a slice has them
tail_is : (octets : List ℕ) (at : ℕ) → take (length octets - at) (drop at octets) ≡ drop at octets
tail_is octets at = take_all _ _ (omega (arith, length-drop at octets))

pub overflow_sub-result : goal.overflow_sub-result
overflow_sub-result c = let read = rw (tail_is c.args.from.now c.args.at) at c.in-Ok.ensures in rest_fits c.args.from.now c.args.at c.in-Ok.entry c.in-Ok.rest.now (λ i. omega (arith, c.type_inv.from i)) read

pub returns-in-Ok-clause-ok : goal.returns-in-Ok-clause-ok
returns-in-Ok-clause-ok c = let read = rw (tail_is c.args.from.now c.args.at) at c.in-Ok.ensures in stands c.args.from.now c.args.at c.in-Ok.entry c.in-Ok.rest.now (λ i. omega (arith, c.type_inv.from i)) (omega arith) read

pub returns-in-Err-Stop-clause-err : goal.returns-in-Err-Stop-clause-err
returns-in-Err-Stop-clause-err c =
    let read = rw (c.in-Err-Stop.field-0-is, tail_is c.args.from.now c.args.at) at c.in-Err-Stop.ensures in
    inr (refl, λ e next it. none_stands c.args.from.now c.args.at c.in-Err-Stop.field-0-0 e next read it)
