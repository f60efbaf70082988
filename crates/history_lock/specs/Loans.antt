-- What is out of a value while one pass has it, told by numbers. The pass that took it out holds it.
use Rattle.std.specs.Prelude.{◌≡◌, ⊤, ℕ, List, [], ◌∷◌, Option, Some, None}

abbrev pub Loan : Type 0
Loan = Option (List ℕ)

-- what is out of the newest value of a log
abbrev pub loan_in : {T : Type 0} → (T → Loan) → List T → Loan
loan_in loan [] = None
loan_in loan (value ∷ older) = loan value

-- what a pass holds is what is out
abbrev pub HoldsIn : Loan → Loan → Type 0
HoldsIn out None = ⊤
HoldsIn out (Some x) = out ≡ Some x

-- a pass that holds nothing leaves out what is out
abbrev pub MayLend : Loan → Loan → Loan → Type 0
MayLend None (Some x) after = after ≡ Some x
MayLend None None after = ⊤
MayLend (Some x) before after = ⊤

-- what a pass holds once it leaves: what is out, unless another pass took that out
abbrev pub hold_after : Loan → Loan → Loan → Loan
hold_after None (Some x) after = None
hold_after None None after = after
hold_after (Some x) before after = after
