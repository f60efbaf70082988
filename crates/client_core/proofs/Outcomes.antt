-- The outcome of a task that is watched is noted.
use Rattle.std.proofs.Common.{◌≡◌, ℕ, Bool, true, false, List, [], ◌∷◌, cond, Option, Some, None, bytes_eq, option_and_then, if◌then◌else◌, refl, ap, ◌∙◌}
use Rattle.std.specs.Option.{option_map_or}
use Rattle.client_core.specs.declared.answered.Answered.{Answered}
use Rattle.client_core.specs.declared.stand.Stand.{Stand}
use Rattle.client_core.specs.declared.stand.Stand.TheVariants.{Settled}
use Rattle.client_core.specs.Noting.{note_of}
use Rattle.client_core.specs.Clients.{Used, stand_in, with_stand, has_watcher, is_watched, note_in, noted, after_outcome}

pub stand_cond : (b : Bool) (id : List ℕ) (used more : Used) → stand_in (cond b used more) id ≡ cond b (stand_in used id) (stand_in more id)
stand_cond true id used more = refl
stand_cond false id used more = refl

here : (b : Bool) (old new : Stand) (o more : Option Stand) → option_map_or has_watcher (cond b (Some old) o) false ≡ true
    → (option_map_or has_watcher o false ≡ true → more ≡ Some new)
    → cond b (cond b (Some new) o) (cond b (Some old) more) ≡ Some new
here true old new o more h below = refl
here false old new o more h below = below h

-- a task that is watched stands as it is then set
stand_here : (used : Used) (id : List ℕ) (new : Stand) → is_watched used id ≡ true → stand_in (with_stand used id new) id ≡ Some new
stand_here [] id new h = absurd (cc)
stand_here ((name, old) ∷ used) id new h =
    stand_cond (bytes_eq id name) id ((name, new) ∷ used) ((name, old) ∷ with_stand used id new)
    ∙ here (bytes_eq id name) old new (stand_in used id) (stand_in (with_stand used id new) id) h (stand_here used id new)

pub noted_here : (used : Used) (id : List ℕ) (answer : Answered) (ok : Bool) → is_watched used id ≡ true → noted (after_outcome used id answer ok) id ≡ Some (note_of answer ok)
noted_here used id answer ok h =
    ap (λ b. noted (with_stand used id (Settled (if b then Some (note_of answer ok) else None))) id) h
    ∙ ap (option_and_then note_in) (stand_here used id (Settled (Some (note_of answer ok))) h)
