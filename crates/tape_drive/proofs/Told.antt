-- Which records have a spelling.
use Rattle.std.proofs.Common.{◌≡◌, ◌∷◌, [], ◌&&◌, Bool, true, false, ℕ, suc, ◌<◌, ◌^◌, List, length, All, nat_le, refl, arith}
use Rattle.std.specs.List.{list_all}
use Rattle.std.proofs.lemmas.Bool.Decides.{nat_tests}
use Rattle.cluster_types.specs.Limits.{field_limit}
use Rattle.tape.specs.Spelling.{FitsBlob}
use Rattle.std.proofs.lemmas.Bool.{and_from}

pub told_all : (bodies : List (List ℕ)) → All FitsBlob bodies → list_all (λ body. nat_le (length body) field_limit) bodies ≡ true
told_all [] all = refl
told_all (body ∷ bodies) all =
    let first : length body < 2 ^ 32 = all 0 [] (omega arith) in
    and_from (nat_le (length body) field_limit) (list_all (λ b. nat_le (length b) field_limit) bodies) (grind (arith, nat_tests, first)) (told_all bodies (λ k d inside. all (suc k) d (omega (arith, inside))))
