-- A field that was written is read again, whatever follows it.
use Rattle.std.proofs.Common.{◌≡◌, ℕ, ◌^◌, ◌<◌, false, List, ◌∷◌, ◌++◌, length, Ok, refl, ap, ◌∙◌, append_assoc, arith}
use Rattle.std.specs.Prelude.{nat_lt}
use Rattle.std.specs.Int.{w32, w64, from_be_bytes, to_be_bytes}
use Rattle.std.proofs.lemmas.Bool.{le-ltb}
use Rattle.std.proofs.lemmas.List.{take_at, drop_at, length-append}
use Rattle.std.proofs.lemmas.Nat.{from_be_bytes-to_be_bytes_4, from_be_bytes-to_be_bytes_8}
use Rattle.cluster_types.specs.declared.config.Channel.{Channel}
use Rattle.cluster_types.specs.declared.config.Channel.TheVariants.{Hub, Task, Mux, Engine}
use Rattle.edges.specs.Spelling.{be32, be64, str8, blob, channel_code}
use Rattle.edges.specs.Reading.{number_at, str8_at, blob_at, channel_at}
use Rattle.edges.proofs.Extends.{gather}

pub gather_again : {A : Type 0} (n : ℕ) (v : List ℕ → A) (text rest : List ℕ) → length text ≡ n → gather n v (text ++ rest) ≡ Ok (v text, rest)
gather_again n v text rest len =
    let long : nat_lt (length (text ++ rest)) n ≡ false = le-ltb _ _ (omega (arith, length-append text rest)) in
    rw (long, take_at text rest n len, drop_at text rest n len) refl

pub number32 : (n : ℕ) (rest : List ℕ) → n < 2 ^ 32 → number_at w32 (be32 n ++ rest) ≡ Ok (n, rest)
unfolding be32
number32 n rest lt = gather_again 4 (from_be_bytes w32) (to_be_bytes w32 n) rest refl ∙ ap (λ (x : ℕ). Ok (x, rest)) (from_be_bytes-to_be_bytes_4 n lt)

pub number64 : (n : ℕ) (rest : List ℕ) → n < 2 ^ 64 → number_at w64 (be64 n ++ rest) ≡ Ok (n, rest)
unfolding be64
number64 n rest lt = gather_again 8 (from_be_bytes w64) (to_be_bytes w64 n) rest refl ∙ ap (λ (x : ℕ). Ok (x, rest)) (from_be_bytes-to_be_bytes_8 n lt)

pub str8_again : (text rest : List ℕ) → str8_at (str8 text ++ rest) ≡ Ok (text, rest)
unfolding str8_at
str8_again text rest = gather_again (length text) (λ x. x) text rest refl

pub blob_again : (octets rest : List ℕ) → length octets < 2 ^ 32 → blob_at (blob octets ++ rest) ≡ Ok (octets, rest)
unfolding blob_at
blob_again octets rest lt =
    ap blob_at (append_assoc (be32 (length octets)) octets rest)
    ∙ rw (number32 (length octets) (octets ++ rest) lt) (gather_again (length octets) (λ x. x) octets rest refl)

pub channel_again : (channel : Channel) (rest : List ℕ) → channel_at (channel_code channel ∷ rest) ≡ Ok (channel, rest)
unfolding channel_at
channel_again Hub rest = refl
channel_again Task rest = refl
channel_again Mux rest = refl
channel_again Engine rest = refl
