-- Fronts of what is to be written.
use Rattle.std.proofs.Common.{◌≡◌, ℕ, Result, Ok, Err, List, [], ◌∷◌, ◌++◌, take, drop, Option, Some, None, refl, sym, ap, subst, ◌∙◌, append_assoc}
use Rattle.std.proofs.lemmas.List.{append-nil, take-append-drop}
use Rattle.std.proofs.lemmas.Grind.{flat_map-append}
use Rattle.cluster_types.specs.declared.entry.Entry.{Entry}
use Rattle.database_text.specs.Lines.{line, text}
use Rattle.std.specs.Result.{OnErr}
use Rattle.edges.specs.Streams.{Added, AddedFront}
use Rattle.database_text.specs.Sent.{SentSome}
use Rattle.edges.proofs.Additions.{added_both}

-- of a whole, a part was written, and the rest is still to come
pub record Sent (whole : List ℕ) (before now : Option (List ℕ)) (rest : List ℕ) : Type 0 where
  pub front : List ℕ
  pub parts : whole ≡ front ++ rest
  pub added : Added front before now

pub front_take : (whole : List ℕ) (n : ℕ) (u v : Option (List ℕ)) → Added (take n whole) u v → AddedFront whole u v
front_take whole n u v p = record { front = take n whole; rest = drop n whole; parts = sym (take-append-drop n whole); added = p }

pub front_none : (whole : List ℕ) (w : Option (List ℕ)) → AddedFront whole w w
front_none whole None = record { front = []; rest = whole; parts = refl; added = refl }
front_none whole (Some xs) = record { front = []; rest = whole; parts = refl; added = ap Some (sym (append-nil xs)) }

pub front_all : (whole : List ℕ) (u v : Option (List ℕ)) → Added whole u v → AddedFront whole u v
front_all whole u v p = record { front = whole; rest = []; parts = sym (append-nil whole); added = p }

pub front_some : (whole : List ℕ) (u v : Option (List ℕ)) → SentSome whole u v → AddedFront whole u v
front_some whole u v p = record { front = p.1.front; rest = p.0; parts = p.1.parts; added = p.1.added }

-- a piece more, and all of it
pub sent_more : {whole : List ℕ} {u v : Option (List ℕ)} {rest : List ℕ} → Sent whole u v rest → (piece more : List ℕ) (w : Option (List ℕ)) → rest ≡ piece ++ more → Added piece v w → Sent whole u w more
sent_more {u = u} {v = v} s piece more w is p =
    record {
      front = s.front ++ piece;
      parts = s.parts ∙ ap (λ (xs : List ℕ). s.front ++ xs) is ∙ sym (append_assoc s.front piece more);
      added = added_both s.front piece u v w s.added p;
    }

-- a piece more, of which a front was written
pub sent_front : {whole : List ℕ} {u v : Option (List ℕ)} {rest : List ℕ} → Sent whole u v rest → (piece more : List ℕ) (w : Option (List ℕ)) → rest ≡ piece ++ more → AddedFront piece v w → AddedFront whole u w
sent_front {u = u} {v = v} s piece more w is p =
    record {
      front = s.front ++ p.front;
      rest = p.rest ++ more;
      parts = s.parts ∙ ap (λ (xs : List ℕ). s.front ++ xs) (is ∙ ap (λ (xs : List ℕ). xs ++ more) p.parts ∙ append_assoc p.front p.rest more) ∙ sym (append_assoc s.front p.front (p.rest ++ more));
      added = added_both s.front p.front u v w s.added p.added;
    }

-- nothing was written yet
pub sent_none : (w : Option (List ℕ)) → Sent [] w w []
sent_none None = record { front = []; parts = refl; added = refl }
sent_none (Some xs) = record { front = []; parts = refl; added = ap Some (sym (append-nil xs)) }

-- all was written
pub sent_all : {whole : List ℕ} {u v : Option (List ℕ)} → Sent whole u v [] → Added whole u v
sent_all {u = u} {v = v} s = subst (λ (xs : List ℕ). Added xs u v) (sym (s.parts ∙ append-nil s.front)) s.added

pub sent_wrote : {whole : List ℕ} {u v : Option (List ℕ)} {rest : List ℕ} → Sent whole u v rest → AddedFront whole u v
sent_wrote {rest = rest} s = record { front = s.front; rest = rest; parts = s.parts; added = s.added }

-- the line of one entry more is still to come
pub sent_line : (list : List Entry) (u v : Option (List ℕ)) (lines : List ℕ) → Sent (text list) u v lines → (entry : Entry) (more : List ℕ) → more ≡ lines ++ line entry → Sent (text (list ++ entry ∷ [])) u v more
sent_line list u v lines s entry more is = record {
  front = s.front;
  parts = flat_map-append line list (entry ∷ []) ∙ ap (λ (xs : List ℕ). text list ++ xs) (append-nil (line entry)) ∙ ap (λ (xs : List ℕ). xs ++ line entry) s.parts
      ∙ append_assoc s.front lines (line entry) ∙ ap (λ (xs : List ℕ). s.front ++ xs) (sym is);
  added = s.added;
}

-- a front of a part is one of the whole
pub front_on : {part : List ℕ} {u v : Option (List ℕ)} → AddedFront part u v → (more : List ℕ) → AddedFront (part ++ more) u v
front_on p more = record { front = p.front; rest = p.rest ++ more; parts = ap (λ (xs : List ℕ). xs ++ more) p.parts ∙ append_assoc p.front p.rest more; added = p.added }
