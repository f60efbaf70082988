-- What the engines are called is a uuid.
use Rattle.std.proofs.Common.{◌≡◌, ℕ, ◌-◌, ◌^◌, ◌<◌, ◌≤◌, true, ◌&&◌, nat_lt, nat_le, List, ◌++◌, length, codes, decimal, length-append, arith}
use Rattle.std.proofs.lemmas.Bool.Decides.{nat_tests}
use Rattle.std.proofs.lemmas.Fmt.{length-decimal-le}
use Rattle.engine_core.specs.State.{is_uuid}
use Rattle.quick_commands.specs.Generated.{engine_uuid}

in_range : (n : ℕ) → 0 < n → n ≤ 200 → (nat_lt 0 n && nat_le n 200) ≡ true
in_range n some few = grind (arith, nat_tests)

named : (number : List ℕ) → length number ≤ 10 → is_uuid (codes "e" ++ number) ≡ true
named number short =
    let all = length-append (codes "e") number in
    in_range (length (codes "e" ++ number)) (omega (arith, all)) (omega (arith, all))

pub uuid_is : (conn : ℕ) → conn < 2 ^ 32 → is_uuid (engine_uuid conn) ≡ true
unfolding engine_uuid
uuid_is conn small = named (decimal (conn - 1)) (length-decimal-le 10 (conn - 1) (omega arith) (omega arith) (omega arith))
