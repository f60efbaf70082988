-- What stands in front stays where octets are appended behind it.
use Rattle.std.proofs.Common.{ℕ, ◌≤◌, List, ◌++◌, length, take, Result, Ok, Err, OnErr, refl, ap, sym, ◌∙◌, arith}
use Rattle.std.proofs.lemmas.List.{take_at, take-take, length-take}
use Rattle.edges.specs.Keeping.{Keeps}

pub keeps_front : (old more : List ℕ) → Keeps old (old ++ more)
keeps_front old more = take_at old more (length old) refl

keeps_on : (old mid new : List ℕ) → Keeps old mid → Keeps mid new → Keeps old new
keeps_on old mid new first second =
    let fits : length old ≤ length mid = omega (arith, length-take (length old) mid, ap length first) in
    sym (take-take (length old) (length mid) new fits) ∙ ap (take (length old)) second ∙ first

-- what a call kept that failed behind others
pub keeps_on_err : {T E : Type 0} (r : Result T E) (old mid new : List ℕ) → Keeps old mid → OnErr r (Keeps mid new) → OnErr r (Keeps old new)
keeps_on_err (Ok x) old mid new first second = tt
keeps_on_err (Err e) old mid new first second = keeps_on old mid new first second
