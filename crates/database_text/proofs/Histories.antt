-- What notes tell of a whole history.
use Rattle.std.proofs.Common.{◌≡◌, ◌∙◌, ◌+◌, ◌<◌, ℕ, suc, List, [], ◌∷◌, ◌++◌, length, take, reverse, get_or, Bool, refl, sym, ap}
use Rattle.std.proofs.lemmas.List.{reverse-append, take_more}
use Rattle.cluster_types.specs.declared.entry.Entry.{Entry}
use Rattle.cluster_defs.specs.Words.{Id}
use Rattle.cluster_defs.specs.Facts.{event_in}
use Rattle.cluster_defs.specs.Histories.{History, facts, Legal}
use Rattle.cluster_defs.specs.Thin.{narrowed, thin_entry, thin_by, gone_from, let_go, thin}
use Rattle.cluster_state.specs.Plain.{Plain, plain_of, facts_in}
use Rattle.cluster_state.proofs.Exact.{exact}
use Rattle.database_text.specs.declared.notes.Note.{Note}
use Rattle.database_text.specs.Notes.{note_of, notes_of}
use Rattle.database_text.specs.Thinning.{thin_as, thin_noted, copies_in, gone_through}
use Rattle.database_text.proofs.Noting.{tells}

pub thin_is : (gone purged : Id → Bool) (h : History) → thin_noted gone purged (notes_of h) h ≡ thin_by gone purged h
thin_is gone purged [] = refl
thin_is gone purged (e ∷ older) =
    ap (λ x. x ∷ thin_noted gone purged (notes_of older) older) (sym ((tells (facts older) e).thin gone purged))
    ∙ ap (λ xs. thin_entry gone purged (facts older) e (event_in (facts older) e) ∷ xs) (thin_is gone purged older)

pub gone_is : (gone : Id → Bool) (h : History) → gone_through gone (notes_of h) ≡ gone_from gone h
gone_is gone [] = refl
gone_is gone (e ∷ older) =
    gone_is (narrowed gone (copies_in (note_of (facts older) e))) older
    ∙ ap (λ copies. gone_from (narrowed gone copies) older) (sym (tells (facts older) e).copies)

pub as_many : (h : History) → length (notes_of h) ≡ length h
as_many [] = refl
as_many (e ∷ older) = ap suc (as_many older)

-- a front of a list and the item behind it, the newest first
pub turned : {X : Type 0} (xs : List X) (i : ℕ) (x : X) → i < length xs → x ≡ get_or xs i x → reverse (take (i + 1) xs) ≡ x ∷ reverse (take i xs)
turned xs i x lt is = ap reverse (take_more xs i x lt ∙ ap (λ z. take i xs ++ z ∷ []) (sym is)) ∙ reverse-append (take i xs) (x ∷ [])

-- one entry more
pub thin_next : (gone purged : Id → Bool) (notes : List Note) (entries done : List Entry) (i : ℕ) (note : Note) (e x : Entry) → i < length notes → i < length entries → note ≡ get_or notes i note → e ≡ get_or entries i e →
    x ≡ thin_as gone purged note e → reverse done ≡ thin_noted gone purged (reverse (take i notes)) (reverse (take i entries)) →
    reverse (done ++ x ∷ []) ≡ thin_noted gone purged (reverse (take (i + 1) notes)) (reverse (take (i + 1) entries))
thin_next gone purged notes entries done i note e x lt lu is same made so_far =
    reverse-append done (x ∷ []) ∙ ap (λ xs. x ∷ xs) so_far
    ∙ ap (λ y. y ∷ thin_noted gone purged (reverse (take i notes)) (reverse (take i entries))) made
    ∙ sym (ap (λ ns. thin_noted gone purged ns (reverse (take (i + 1) entries))) (turned notes i note lt is)
    ∙ ap (thin_noted gone purged (note ∷ reverse (take i notes))) (turned entries i e lu same))

-- what is known after a legal history, and the notes of its entries, tell its thin one
pub thinned_is : (h : History) (p : Plain) (notes : List Note) (gone purged : Id → Bool) → Legal h → p ≡ plain_of (facts h) → notes ≡ notes_of h → purged ≡ (facts_in p).purged →
    gone ≡ gone_through (facts_in p).purged notes → thin_noted gone purged notes h ≡ thin h
thinned_is h p notes gone purged legal stands noted purged_are gone_are =
    let told : (facts_in p).purged ≡ (facts h).purged = ap (λ q. (facts_in q).purged) stands ∙ ap (λ f. f.purged) (exact h legal) in
    let goes : gone ≡ let_go h = gone_are ∙ ap (λ test. gone_through test notes) told ∙ ap (gone_through (facts h).purged) noted ∙ gone_is (facts h).purged h in
    ap (λ test. thin_noted test purged notes h) goes
    ∙ ap (λ test. thin_noted (let_go h) test notes h) (purged_are ∙ told)
    ∙ ap (λ ns. thin_noted (let_go h) (facts h).purged ns h) noted
    ∙ thin_is (let_go h) (facts h).purged h
