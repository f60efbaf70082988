-- Frames one after another.
use Rattle.std.proofs.Common.{◌≡◌, ℕ, suc, ◌+◌, ◌-◌, ◌<◌, List, [], ◌∷◌, ◌++◌, Ok, Err, refl, sym, ap, ◌∙◌, append_assoc, arith}
use Rattle.std.proofs.lemmas.List.{append-nil}
use Rattle.edges.specs.declared.stop.Stop.{Stop}
use Rattle.edges.specs.Reading.{Read, ◌>>=◌, blob_at}
use Rattle.tape.specs.Reading.{frames_at}

-- what a reading gives, behind frames that were read before
abbrev pub with_front : List (List ℕ) → Read (List (List ℕ)) → Read (List (List ℕ))
with_front front (Ok x) = Ok (front ++ x.0, x.1)
with_front front (Err s) = Err s

less_one : (count turn : ℕ) → turn < count → count - turn ≡ suc (count - (turn + 1))
less_one count turn lt = omega arith

front_on : (front : List (List ℕ)) (body : List ℕ) (r : Read (List (List ℕ))) → with_front (front ++ body ∷ []) r ≡ with_front front (r >>= λ more. Ok (body ∷ more.0, more.1))
front_on front body (Ok x) = ap (λ (fs : List (List ℕ)). Ok (fs, x.1)) (append_assoc front (body ∷ []) x.0)
front_on front body (Err s) = refl

frames_on : (front : List (List ℕ)) (n : ℕ) (rest more : List ℕ) (body : List ℕ) → blob_at rest ≡ Ok (body, more)
    → with_front (front ++ body ∷ []) (frames_at n more) ≡ with_front front (frames_at (suc n) rest)
frames_on front n rest more body is =
    front_on front body (frames_at n more)
    ∙ sym (ap (λ (r : Read (List ℕ)). with_front front (r >>= λ b. frames_at n b.1 >>= λ m. Ok (b.0 ∷ m.0, m.1))) is)

frames_stop : (front : List (List ℕ)) (n : ℕ) (rest : List ℕ) (s : Stop) → blob_at rest ≡ Err s → with_front front (frames_at (suc n) rest) ≡ Err s
frames_stop front n rest s is = ap (λ (r : Read (List ℕ)). with_front front (r >>= λ b. frames_at n b.1 >>= λ m. Ok (b.0 ∷ m.0, m.1))) is

pub goes_on : (front : List (List ℕ)) (count turn : ℕ) (rest more body octets : List ℕ) → turn < count → blob_at rest ≡ Ok (body, more)
    → with_front front (frames_at (count - turn) rest) ≡ frames_at count octets → with_front (front ++ body ∷ []) (frames_at (count - (turn + 1)) more) ≡ frames_at count octets
goes_on front count turn rest more body octets lt is so =
    frames_on front (count - (turn + 1)) rest more body is ∙ ap (λ (n : ℕ). with_front front (frames_at n rest)) (sym (less_one count turn lt)) ∙ so

pub stops : (front : List (List ℕ)) (count turn : ℕ) (rest octets : List ℕ) (s : Stop) → turn < count → blob_at rest ≡ Err s
    → with_front front (frames_at (count - turn) rest) ≡ frames_at count octets → frames_at count octets ≡ Err s
stops front count turn rest octets s lt is so =
    sym so ∙ ap (λ (n : ℕ). with_front front (frames_at n rest)) (less_one count turn lt) ∙ frames_stop front (count - (turn + 1)) rest s is

pub done : (front : List (List ℕ)) (count turn : ℕ) (rest octets : List ℕ) → count - turn ≡ 0
    → with_front front (frames_at (count - turn) rest) ≡ frames_at count octets → frames_at count octets ≡ Ok (front, rest)
done front count turn rest octets none so =
    sym so ∙ ap (λ (n : ℕ). with_front front (frames_at n rest)) none ∙ ap (λ (fs : List (List ℕ)). Ok (fs, rest)) (append-nil front)
