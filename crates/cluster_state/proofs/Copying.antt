-- Copies, one after another.
use Rattle.std.proofs.Common.{◌≡◌, List, ◌∷◌, true, refl, sym, ap, ◌∙◌, Option, Some, None}
use Rattle.std.specs.Prelude.{is_none}
use Rattle.std.proofs.lemmas.Bool.{and_parts}
use Rattle.task_table.specs.Seen.{Seen, all_open}

pub first_open : (t : Seen) (ts us : List Seen) → us ≡ t ∷ ts → all_open us ≡ true → t.settled ≡ None
first_open t ts us is h = none_is t.settled ((and_parts (is_none t.settled) (all_open ts) (sym (ap all_open is) ∙ h)).0)
  where
    none_is : {X : Type 0} (o : Option X) → is_none o ≡ true → o ≡ None
    none_is None k = refl
    none_is (Some x) k = cc

pub rest_open : (t : Seen) (ts us : List Seen) → us ≡ t ∷ ts → all_open us ≡ true → all_open ts ≡ true
rest_open t ts us is h = (and_parts (is_none t.settled) (all_open ts) (sym (ap all_open is) ∙ h)).1
