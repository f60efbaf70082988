-- Steps of the loops over the buffers of a message.
use Rattle.std.proofs.Common.{◌≡◌, ℕ, suc, ◌+◌, ◌-◌, ◌<◌, ◌≤◌, List, [], ◌∷◌, ◌++◌, Ok, Err, refl, sym, ap, ◌∙◌, append_assoc, arith}
use Rattle.std.proofs.lemmas.List.{append-nil}
use Rattle.edges.specs.declared.stop.ReadError.{ReadError}
use Rattle.edges.specs.declared.stop.ReadError.TheVariants as errors
use Rattle.edges.specs.Reading.{Read, ◌>>=◌, Fails, blob_at}
use Rattle.record_codec.specs.Reading.{blobs_at}

-- what is read behind these buffers
abbrev pub with_front : List (List ℕ) → Read (List (List ℕ)) → Read (List (List ℕ))
with_front front read = read >>= λ x. Ok (front ++ x.0, x.1)

regroup : (front some : List (List ℕ)) (read : Read (List (List ℕ))) → with_front front (read >>= λ x. Ok (some ++ x.0, x.1)) ≡ with_front (front ++ some) read
regroup front some (Ok x) = ap (λ (xs : List (List ℕ)). Ok (xs, x.1)) (sym (append_assoc front some x.0))
regroup front some (Err s) = refl

pub buffer_on : (front : List (List ℕ)) (count i : ℕ) (octets buffer after : List ℕ) (total : Read (List (List ℕ))) → i < count → blob_at octets ≡ Ok (buffer, after)
    → with_front front (blobs_at (count - i) octets) ≡ total → with_front (front ++ buffer ∷ []) (blobs_at (count - (i + 1)) after) ≡ total
unfolding blobs_at
buffer_on front count i octets buffer after total lt h so_far =
    let k : count - i ≡ suc (count - (i + 1)) = omega arith in
    let one : with_front front (blobs_at (count - i) octets) ≡ with_front (front ++ buffer ∷ []) (blobs_at (count - (i + 1)) after) = rw (k, h) (regroup front (buffer ∷ []) (blobs_at (count - (i + 1)) after)) in
    sym one ∙ so_far

pub buffer_ends : (e : ReadError) (front : List (List ℕ)) (count i : ℕ) (octets : List ℕ) (total : Read (List (List ℕ))) → i < count → Fails e (blob_at octets)
    → with_front front (blobs_at (count - i) octets) ≡ total → Fails e total
unfolding blobs_at
buffer_ends errors.OutOfMemory front count i octets total lt h so_far = tt
buffer_ends (errors.Stop s) front count i octets total lt h so_far =
    let k : count - i ≡ suc (count - (i + 1)) = omega arith in
    let one : with_front front (blobs_at (count - i) octets) ≡ Err s = rw (k, h) refl in
    sym so_far ∙ one

pub buffers_done : (front : List (List ℕ)) (count i : ℕ) (octets : List ℕ) (total : Read (List (List ℕ))) → count ≤ i
    → with_front front (blobs_at (count - i) octets) ≡ total → total ≡ Ok (front, octets)
unfolding blobs_at
buffers_done front count i octets total le so_far =
    let k : count - i ≡ 0 = omega arith in
    let one : with_front front (blobs_at (count - i) octets) ≡ Ok (front, octets) = rw k (ap (λ (xs : List (List ℕ)). Ok (xs, octets)) (append-nil front)) in
    sym so_far ∙ one
