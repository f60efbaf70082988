-- Places past the end.
use Rattle.std.proofs.Common.{ℕ, List, [], ◌<◌, length, refl, sym, subst, arith}
use Rattle.std.specs.Prelude.{IsErr}
use Rattle.std.proofs.lemmas.List.{drop_all}
use Rattle.tape.specs.Reading.{record_at}
use Rattle.tape.specs.Tape.{NoRecord}

none_empty : IsErr (record_at [])
unfolding record_at
none_empty = refl

pub none_past : (octets : List ℕ) (at : ℕ) → length octets < at → NoRecord octets at
none_past octets at lt = subst (λ (xs : List ℕ). IsErr (record_at xs)) (sym (drop_all at octets (omega arith))) none_empty
