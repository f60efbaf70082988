-- What one turn of a pass adds, and what many do.
use Rattle.std.proofs.Common.{◌≡◌, ℕ, ◌-◌, ◌≤◌, List, [], ◌∷◌, ◌++◌, length, take, Bool, true, false, ◌||◌, refl, sym, ap, ◌∙◌, subst, arith, length-append, append_assoc}
use Rattle.std.specs.List.{list_any}
use Rattle.cluster_types.specs.declared.entry.Input.{Input as InputType}
use Rattle.cluster_types.specs.declared.entry.Entry.{Entry}
use Rattle.cluster_types.specs.declared.entry.Entry.TheVariants.{Input, Hand, Settle, Lose}
use Rattle.cluster_defs.specs.Histories.{History}
use Rattle.cluster_store.specs.Stores.{StoreView}
use Rattle.history_lock.specs.declared.known.Content.{Content}
use Rattle.history_lock.specs.declared.known.View.{View}
use Rattle.history_lock.specs.History.{Extends}
use Rattle.history_lock.specs.Turn.{placed}
use Rattle.history_lock.proofs.Growing.{extends_self, extends_on}
use Rattle.controller_desk.specs.Calls.{is_input, HasStepped}
use Rattle.controller_desk.specs.Contents.{content_of}
use Rattle.controller_desk.specs.Turns.{beyond, InTurn}
use Rattle.controller_desk.proofs.Seen.{turn_later}
use Rattle.session_threads.specs.Passes.{StandFrom, AddsBehind, inputs_among}

-- PLACES

placed_from : (place n : ℕ) (es : List Entry) → place ≤ n → StandFrom place (placed n es)
placed_from place n [] le = tt
placed_from place n (e ∷ es) le = (omega (arith, le), placed_from place n es le)

from_less : (m n : ℕ) (xs : List (ℕ × Entry)) → m ≤ n → StandFrom n xs → StandFrom m xs
from_less m n [] le s = tt
from_less m n (x ∷ xs) le s = let first = s.0 in (omega (arith, le, first), from_less m n xs le s.1)

from_append : (n : ℕ) (xs ys : List (ℕ × Entry)) → StandFrom n xs → StandFrom n ys → StandFrom n (xs ++ ys)
from_append n [] ys s t = t
from_append n (x ∷ xs) ys s t = (s.0, from_append n xs ys s.1 t)

pub longer_list : (a b : Content) → Extends a b → length a.list ≤ length b.list
longer_list a b e =
    let size : length b.list ≡ length (e.beyond ++ a.list) = ap length e.list in
    let both = length-append e.beyond a.list in
    omega (arith, size, both)

-- WHAT A PASS ADDS

pub adds_none : (v : View) → AddsBehind [] v v
adds_none v = record { added = refl; behind = tt; later = extends_self v.seen; share = refl }

pub adds_more : (xs ys : List (ℕ × Entry)) (u v w : View) → AddsBehind xs u v → AddsBehind ys v w → AddsBehind (ys ++ xs) u w
adds_more xs ys u v w a b = record {
  added = b.added ∙ ap (λ (zs : List (ℕ × Entry)). ys ++ zs) a.added ∙ sym (append_assoc ys xs u.added);
  behind = from_append (length u.seen.list) ys xs (from_less (length u.seen.list) (length v.seen.list) ys (longer_list u.seen v.seen a.later) b.behind) a.behind;
  later = extends_on u.seen v.seen w.seen a.later b.later;
  share = b.share ∙ a.share;
}

abbrev pub entries_of : {D : Type 0} → StoreView D → StoreView D → List (ℕ × Entry)
entries_of before after = placed (length before.history) (beyond before.history after.history)

pub turn_adds : {D : Type 0} (faults : D → ℕ) (u w : View) (before after : StoreView D) → InTurn faults u before after w → AddsBehind (entries_of before after) u w
turn_adds faults u w before after t = record {
  added = t.adds.added;
  behind = placed_from (length u.seen.list) (length before.history) (beyond before.history after.history) (longer_list u.seen (content_of faults before) t.adds.later);
  later = turn_later faults u w before after t;
  share = t.adds.share;
}

pub turn_list : {D : Type 0} (faults : D → ℕ) (u w : View) (before after : StoreView D) → InTurn faults u before after w → w.seen.list ≡ after.history
turn_list faults u w before after t = ap (λ (c : Content). c.list) t.seen

-- INPUTS

pub inputs_append : (xs ys : List (ℕ × Entry)) → inputs_among (xs ++ ys) ≡ inputs_among xs ++ inputs_among ys
inputs_append [] ys = refl
inputs_append ((place, Input input) ∷ xs) ys = ap (λ (is : List InputType). input ∷ is) (inputs_append xs ys)
inputs_append ((place, Hand id n) ∷ xs) ys = inputs_append xs ys
inputs_append ((place, Settle id v c) ∷ xs) ys = inputs_append xs ys
inputs_append ((place, Lose n) ∷ xs) ys = inputs_append xs ys

placed_inputs : (n : ℕ) (ds : List Entry) (input : InputType) → list_any is_input ds ≡ false → inputs_among (placed n (ds ++ Input input ∷ [])) ≡ input ∷ []
placed_inputs n [] input off = refl
placed_inputs n (Input other ∷ ds) input off = cc
placed_inputs n (Hand id k ∷ ds) input off = placed_inputs n ds input off
placed_inputs n (Settle id v c ∷ ds) input off = placed_inputs n ds input off
placed_inputs n (Lose k ∷ ds) input off = placed_inputs n ds input off

front : (xs old : List Entry) → take (length xs) (xs ++ old) ≡ xs
front [] [] = refl
front [] (y ∷ ys) = refl
front (x ∷ xs) old = ap (λ (ys : List Entry). x ∷ ys) (front xs old)

cut : (es old : List Entry) → beyond old (es ++ old) ≡ es
cut es old =
    let n : length (es ++ old) - length old ≡ length es = omega (arith, length-append es old) in
    ap (λ (k : ℕ). take k (es ++ old)) n ∙ front es old

-- a step adds its input, and no other
pub step_inputs : {D : Type 0} (before after : StoreView D) (input : InputType) → HasStepped before input after → inputs_among (entries_of before after) ≡ input ∷ []
step_inputs before after input s =
    let list : after.history ≡ (s.decisions ++ Input input ∷ []) ++ before.history = s.list ∙ sym (append_assoc s.decisions (Input input ∷ []) before.history) in
    let es : beyond before.history after.history ≡ s.decisions ++ Input input ∷ [] = ap (λ (h : History). beyond before.history h) list ∙ cut (s.decisions ++ Input input ∷ []) before.history in
    ap (λ (xs : List Entry). inputs_among (placed (length before.history) xs)) es ∙ placed_inputs (length before.history) s.decisions input s.no_inputs

-- a turn that leaves the history adds nothing
pub stay_entries : {D : Type 0} (before after : StoreView D) → after.history ≡ before.history → entries_of before after ≡ []
stay_entries before after is =
    let es : beyond before.history after.history ≡ [] = ap (λ (h : History). beyond before.history h) is ∙ cut [] before.history in
    ap (λ (xs : List Entry). placed (length before.history) xs) es

pub stay_adds : {D : Type 0} (faults : D → ℕ) (u w : View) (before after : StoreView D) → InTurn faults u before after w → after.history ≡ before.history → AddsBehind [] u w
stay_adds faults u w before after t is = subst (λ (es : List (ℕ × Entry)). AddsBehind es u w) (stay_entries before after is) (turn_adds faults u w before after t)
