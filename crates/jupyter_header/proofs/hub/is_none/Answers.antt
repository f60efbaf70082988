use Rattle.std.proofs.Common.{◌≡◌, ◌==◌, ◌∙◌, suc, false, arith, List, [], ◌∷◌, length, refl}
use Rattle.jupyter_header.specs.Borrowed.{items_view}
use Rattle.json.specs.declared.value.Value.{Value}
use Rattle.cluster_defs.specs.Hub.{is_no_items}
use Rattle.jupyter_header.proofs.hub.is_none.Goals as goal

none : {A : Type 0} (values : List (Value A)) → (length values == 0) ≡ is_no_items (items_view values)
none [] = refl
none (value ∷ values) = let other : (suc (length values) == 0) ≡ false = grind arith in other

pub returns : goal.returns
returns c = c.is_empty.ensures ∙ none c.args.values.now
