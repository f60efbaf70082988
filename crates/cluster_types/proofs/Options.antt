-- Options and results.
use Rattle.std.proofs.Common.{◌≡◌, true, refl, Option, Some, None, Bor, false}
use Rattle.std.specs.Option.{option_copied}
use Rattle.std.specs.Prelude.{is_some, Result, Ok, Err, OnOk, OnErr}

pub at_err : {T E Q : Type 0} (r : Result T E) → Q → OnErr r Q
at_err (Ok x) q = tt
at_err (Err e) q = q

pub at_ok : {T E Q : Type 0} (r : Result T E) → Q → OnOk r Q
at_ok (Ok x) q = q
at_ok (Err e) q = tt

pub has_one : {X : Type 0} (o : Option X) (x : X) → Some x ≡ o → is_some o ≡ true
has_one None x e = cc
has_one (Some y) x e = refl

pub none_of : {X : Type 0} (o : Option X) → is_some o ≡ false → o ≡ None
none_of None h = refl
none_of (Some x) h = cc

pub some_copied : {T : Type 0} (o : Option (Bor T)) → is_some o ≡ is_some (option_copied o)
some_copied None = refl
some_copied (Some x) = refl

pub some_is : {X : Type 0} (o : Option X) → is_some o ≡ true → (x : X) × (o ≡ Some x)
some_is None h = cc
some_is (Some x) h = (x, refl)
