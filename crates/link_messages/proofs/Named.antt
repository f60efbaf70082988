-- The identity of a connection has 1 to 255 octets.
use Rattle.std.proofs.Common.{◌≡◌, ℕ, zero, suc, ◌<◌, ◌^◌, List, length, true, false, cond, refl, arith}
use Rattle.std.specs.Prelude.{decimal, codes, ◌==◌}
use Rattle.std.proofs.lemmas.Bool.{eqb-false}
use Rattle.std.proofs.lemmas.Fmt.{length-decimal-le}
use Rattle.std.proofs.lemmas.List.{length-append}
use Rattle.record_codec.specs.Spelling.{IsName}
use Rattle.link_messages.specs.Identity.{numbered_identity, identity_or_number}

numbered_name : (conn : ℕ) → conn < 2 ^ 32 → IsName (numbered_identity conn)
unfolding numbered_identity
numbered_name conn small =
    let long = length-decimal-le 10 conn (omega arith) (omega (arith, small)) (omega (arith, small)) in
    let all = length-append (codes "conn-") (decimal conn) in
    let front : length (codes "conn-") ≡ 5 = refl in
    (omega (arith, all, front), omega (arith, all, front, long))

positive : (n : ℕ) → (n ≡ 0 → ⊥) → 0 < n
positive zero not = absurd (not refl)
positive (suc n) not = omega arith

pub named : (conn : ℕ) (identity : List ℕ) → conn < 2 ^ 32 → length identity < 256 → IsName (identity_or_number conn identity)
named conn identity small short =
    elim (length identity == 0) as (λ b. (length identity == 0) ≡ b → IsName (cond b (numbered_identity conn) identity)) [
      | true ↦ λ is. numbered_name conn small
      | false ↦ λ is. (positive (length identity) (eqb-false (length identity) 0 is), short)
    ] refl
