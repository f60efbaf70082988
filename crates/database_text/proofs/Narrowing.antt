-- What is let go after one note more.
use Rattle.std.proofs.Common.{◌≡◌, ◌∙◌, ◌+◌, ◌<◌, ℕ, List, [], ◌∷◌, length, drop, get_or, Bool, true, false, ◌&&◌, refl, sym, ap}
use Rattle.std.proofs.lemmas.List.{drop_more}
use Rattle.cluster_defs.specs.Words.{Id}
use Rattle.cluster_defs.specs.Purges.{Copy}
use Rattle.cluster_defs.specs.Thin.{narrowed}
use Rattle.database_text.specs.declared.notes.Note.{Note}
use Rattle.database_text.specs.declared.notes.Note.TheVariants.{Nothing, Accepts, Answers, Makes}
use Rattle.database_text.specs.Thinning.{copies_in, gone_through}
use Rattle.cluster_types.proofs.Booleans.{and_true}

-- where no copies are made nothing is held
narrowed_none : (gone : Id → Bool) → narrowed gone [] ≡ gone
narrowed_none gone = λ i. λ id. and_true (gone id) i

none_made : (note : Note) → ((copies : List Copy) → note ≡ Makes copies → ⊥) → copies_in note ≡ []
none_made Nothing none = refl
none_made (Accepts id) none = refl
none_made (Answers id ok) none = refl
none_made (Makes copies) none = absurd (none copies refl)

next_note : (gone : Id → Bool) (notes : List Note) (k : ℕ) (note : Note) → (k < length notes) × (note ≡ get_or notes k note) →
    gone_through gone (drop k notes) ≡ gone_through (narrowed gone (copies_in note)) (drop (k + 1) notes)
next_note gone notes k note at = ap (gone_through gone) (drop_more notes k note at.0 ∙ ap (λ x. x ∷ drop (k + 1) notes) (sym at.1))

-- where an entry makes no copies, what is let go stays
pub unnarrowed : (gone : Id → Bool) (note : Note) → ((copies : List Copy) → note ≡ Makes copies → ⊥) → gone ≡ narrowed gone (copies_in note)
unnarrowed gone note none = sym (ap (narrowed gone) (none_made note none) ∙ narrowed_none gone)

pub looked_at : (gone less : Id → Bool) (notes : List Note) (k n : ℕ) (note : Note) → n ≡ k + 1 → (k < length notes) × (note ≡ get_or notes k note) →
    less ≡ narrowed gone (copies_in note) → gone_through less (drop n notes) ≡ gone_through gone (drop k notes)
looked_at gone less notes k n note one at is =
    ap (λ m. gone_through less (drop m notes)) one ∙ ap (λ g. gone_through g (drop (k + 1) notes)) is ∙ sym (next_note gone notes k note at)
