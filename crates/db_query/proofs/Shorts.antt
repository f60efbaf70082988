-- The lists of values that a query may choose from.
use Rattle.std.proofs.Common.{◌≡◌, ◌<◌, ◌≤◌, List, length, None, false, true, nat_le, [], ◌∷◌, suc, ap, arith, refl}
use Rattle.serde_json.specs.Events.{items_len}
use Rattle.json.specs.declared.value.Value.{Value}
use Rattle.jupyter_header.specs.Borrowed.{items_view}
use Rattle.cluster_defs.specs.Fields.{each_of}
use Rattle.cluster_defs.specs.FilterReadings.{scalar_in, at_most_4096}

length_of : {A : Type 0} (values : List (Value A)) → items_len (items_view values) ≡ length values
length_of [] = refl
length_of (value ∷ values) = ap suc (length_of values)

pub too_long : {A : Type 0} (values : List (Value A)) → 4096 < length values → at_most_4096 (items_view values) ≡ None
too_long values long =
    let test : nat_le (items_len (items_view values)) 4096 ≡ false = rw (length_of values) (grind arith) in
    rw test refl

pub short_enough : {A : Type 0} (values : List (Value A)) → length values ≤ 4096 → at_most_4096 (items_view values) ≡ each_of scalar_in (items_view values)
short_enough values short =
    let test : nat_le (items_len (items_view values)) 4096 ≡ true = rw (length_of values) (grind arith) in
    rw test refl
