-- Where the passes of a link come from.
use Rattle.std.proofs.Common.{◌≡◌, ℕ, List, [], ◌∷◌, ◌++◌, inl, inr, subst, sym}
use Rattle.std.specs.Prelude.{All, take}
use Rattle.std.proofs.lemmas.List.Elements.{All-from_get_or, All-get_or, All-push, All-take}
use Rattle.std.proofs.lemmas.Option.{get_or_from_slice_get, slice_get-get_or, slice_get_within}
use Rattle.history_lock.specs.declared.known.Content.{Content}
use Rattle.history_lock.specs.declared.lock.Pass.{Pass}
use Rattle.history_lock.specs.Names.{known}
use Rattle.session_threads.specs.Admission.{IsFrom}

-- the first of those that are kept come from them
pub from_first : {T : Type 0} (kept : List (Pass T)) (seen : Content) (some : Pass T) (n : ℕ) → All (IsFrom kept seen) (take n kept)
from_first kept seen some n = All-take (IsFrom kept seen) n kept (All-from_get_or (IsFrom kept seen) kept some (λ i within. inl (i, slice_get-get_or kept i some within)))

-- what holds of those that are kept, and of two more, holds of all of them
pub both_kept : {T : Type 0} (P : Pass T → Type 0) (kept more all : List (Pass T)) (one other : Pass T) → All P kept → P one → P other → more ≡ kept ++ one ∷ [] → all ≡ more ++ other ∷ [] → All P all
both_kept P kept more all one other each first second is then =
    subst (All P) (sym then) (All-push P more other (subst (All P) (sym is) (All-push P kept one each first)) second)

-- what holds of each that is kept, and of each that has seen this, holds of each that comes from them
pub of_from : {T : Type 0} (P : Pass T → Type 0) (kept : List (Pass T)) (seen : Content) (pass : Pass T) → All P kept → ((known pass).seen ≡ seen → P pass) → IsFrom kept seen pass → P pass
of_from P kept seen pass all fresh (inl (place, is)) =
    subst P (get_or_from_slice_get kept place pass pass is) (All-get_or P kept place pass (slice_get_within kept place pass is) all)
of_from P kept seen pass all fresh (inr same) = fresh same
