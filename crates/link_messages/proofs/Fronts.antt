-- Fronts of octets that were written.
use Rattle.std.proofs.Common.{◌≡◌, ℕ, List, [], ◌++◌, Option, refl, sym, ap, ◌∙◌, append_assoc, take, drop}
use Rattle.std.proofs.lemmas.List.{append-nil, take-append-drop}
use Rattle.edges.specs.Streams.{Added, AddedFront}
use Rattle.edges.proofs.Additions.{added_both, added_none}

pub front_behind : (a b : List ℕ) (x y z : Option (List ℕ)) → Added a x y → AddedFront b y z → AddedFront (a ++ b) x z
front_behind a b x y z first f = record {
  front = a ++ f.front;
  rest = f.rest;
  parts = ap (λ (o : List ℕ). a ++ o) f.parts ∙ sym (append_assoc a f.front f.rest);
  added = added_both a f.front x y z first f.added;
}

pub front_of_more : (a b : List ℕ) (x y : Option (List ℕ)) → AddedFront a x y → AddedFront (a ++ b) x y
front_of_more a b x y f = record { front = f.front; rest = f.rest ++ b; parts = ap (λ (o : List ℕ). o ++ b) f.parts ∙ append_assoc f.front f.rest b; added = f.added }

pub front_whole : (a : List ℕ) (x y : Option (List ℕ)) → Added a x y → AddedFront a x y
front_whole a x y added = record { front = a; rest = []; parts = sym (append-nil a); added = added }

pub front_none : (a : List ℕ) (x : Option (List ℕ)) → AddedFront a x x
front_none a x = record { front = []; rest = a; parts = refl; added = added_none x }

pub front_take : (a : List ℕ) (n : ℕ) (x y : Option (List ℕ)) → Added (take n a) x y → AddedFront a x y
front_take a n x y added = record { front = take n a; rest = drop n a; parts = sym (take-append-drop n a); added = added }
