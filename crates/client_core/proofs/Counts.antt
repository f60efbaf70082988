-- How many tasks aren't settled, after one more id and after another stand of a task.
use Rattle.std.proofs.Common.{◌≡◌, ◌≤◌, ℕ, suc, Bool, true, false, List, [], ◌∷◌, length, cond, Option, Some, None, Ordering, Less, Equal, Greater, bytes_eq, nat_cmp, is_eq, true≢false, arith, refl, ap, ◌∙◌}
use Rattle.std.proofs.lemmas.Map.Text.{is_eq-slice_cmp}
use Rattle.std.specs.Cmp.Lexicographic.{slice_cmp}
use Rattle.std.specs.Option.{option_map_or}
use Rattle.std.specs.Ordering.{match_ordering}
use Rattle.client_core.specs.declared.noted.Noted.{Noted}
use Rattle.client_core.specs.declared.stand.Stand.{Stand}
use Rattle.client_core.specs.declared.stand.Stand.TheVariants.{Unsettled, Settled}
use Rattle.client_core.specs.Clients.{Used, stand_in, with_id, with_stand, is_unsettled, is_outstanding, unsettled}

-- an id that isn't found isn't the first one, and isn't found behind it
other : (b : Bool) (s : Stand) (o : Option Stand) → cond b (Some s) o ≡ None → (b ≡ false) × (o ≡ None)
other true s o h = absurd (cc)
other false s o h = (refl, h)

one_more : (s : Stand) (id : List ℕ) (used more : Used) → unsettled more ≡ suc (unsettled used) → unsettled ((id, s) ∷ more) ≡ suc (unsettled ((id, s) ∷ used))
one_more (Settled kept) id used more h = h
one_more (Unsettled watched) id used more h = ap suc h

added : (o : Ordering) (id name : List ℕ) (s : Stand) (used more : Used) → is_eq o ≡ false → unsettled more ≡ suc (unsettled used)
    → unsettled (match_ordering o ((id, Unsettled false) ∷ (name, s) ∷ used) ((name, Unsettled false) ∷ used) ((name, s) ∷ more)) ≡ suc (unsettled ((name, s) ∷ used))
added Less id name s used more apart h = refl
added Equal id name s used more apart h = absurd (true≢false apart)
added Greater id name s used more apart h = one_more s name used more h

pub unsettled_with : (used : Used) (id : List ℕ) → stand_in used id ≡ None → unsettled (with_id used id) ≡ suc (unsettled used)
unsettled_with [] id h = refl
unsettled_with ((name, s) ∷ used) id h =
    let new = other (bytes_eq id name) s (stand_in used id) h in
    added (slice_cmp nat_cmp id name) id name s used (with_id used id) (is_eq-slice_cmp id name ∙ new.0) (unsettled_with used id new.1)

-- a task that isn't settled stands otherwise, at the first entry or behind it
settled_once : (b : Bool) (name : List ℕ) (s : Stand) (kept : Option Noted) (used more : Used) (o : Option Stand) → option_map_or is_unsettled (cond b (Some s) o) false ≡ true
    → (option_map_or is_unsettled o false ≡ true → suc (unsettled more) ≡ unsettled used)
    → suc (unsettled (cond b ((name, Settled kept) ∷ used) ((name, s) ∷ more))) ≡ unsettled ((name, s) ∷ used)
settled_once true name (Settled x) kept used more o h below = absurd (cc)
settled_once true name (Unsettled x) kept used more o h below = refl
settled_once false name (Settled x) kept used more o h below = below h
settled_once false name (Unsettled x) kept used more o h below = ap suc (below h)

pub unsettled_after : (used : Used) (id : List ℕ) (kept : Option Noted) → is_outstanding used id ≡ true → suc (unsettled (with_stand used id (Settled kept))) ≡ unsettled used
unsettled_after [] id kept h = absurd (cc)
unsettled_after ((name, s) ∷ used) id kept h = settled_once (bytes_eq id name) name s kept used (with_stand used id (Settled kept)) (stand_in used id) h (unsettled_after used id kept)

kept_once : (b : Bool) (name : List ℕ) (s : Stand) (watched : Bool) (used more : Used) (o : Option Stand) → option_map_or is_unsettled (cond b (Some s) o) false ≡ true
    → (option_map_or is_unsettled o false ≡ true → unsettled more ≡ unsettled used)
    → unsettled (cond b ((name, Unsettled watched) ∷ used) ((name, s) ∷ more)) ≡ unsettled ((name, s) ∷ used)
kept_once true name (Settled x) watched used more o h below = absurd (cc)
kept_once true name (Unsettled x) watched used more o h below = refl
kept_once false name (Settled x) watched used more o h below = below h
kept_once false name (Unsettled x) watched used more o h below = ap suc (below h)

-- a watcher changes no count
pub unsettled_same : (used : Used) (id : List ℕ) (watched : Bool) → is_outstanding used id ≡ true → unsettled (with_stand used id (Unsettled watched)) ≡ unsettled used
unsettled_same [] id watched h = absurd (cc)
unsettled_same ((name, s) ∷ used) id watched h = kept_once (bytes_eq id name) name s watched used (with_stand used id (Unsettled watched)) (stand_in used id) h (unsettled_same used id watched)

pub unsettled_within : (used : Used) → unsettled used ≤ length used
unsettled_within [] = omega arith
unsettled_within ((name, Settled kept) ∷ used) = omega (arith, unsettled_within used)
unsettled_within ((name, Unsettled watched) ∷ used) = omega (arith, unsettled_within used)
