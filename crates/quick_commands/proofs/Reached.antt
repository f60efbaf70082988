-- What a tape comes to, and what was served of it.
use Rattle.std.proofs.Common.{inl, inr, ℕ, List, [], ◌∷◌, ◌++◌, Option, refl, sym, ap, subst, ◌∙◌, append_assoc}
use Rattle.std.proofs.lemmas.List.{append-nil}
use Rattle.cluster_types.specs.declared.entry.Input.{Input as InputType}
use Rattle.cluster_defs.specs.Histories.{History}
use Rattle.cluster_core.specs.declared.size.HistorySize.{HistorySize}
use Rattle.edges.specs.Streams.{Added, AddedFront}
use Rattle.tape.specs.declared.record.TapeRecord.{TapeRecord}
use Rattle.tape.specs.Spelling.{all_spelled}
use Rattle.tape_drive.specs.Drive.{Stand, served, outputs, stand_at}
use Rattle.tape_drive.specs.Served.{IsOnWay, inputs_taken, Comes, HoldsSome}
use Rattle.quick_commands.specs.Replays.{IsServed}
use Rattle.quick_commands.proofs.Fronts.{written_append, stand_append}
use Rattle.tape_drive.proofs.Way.{way_here}
use Rattle.edges.proofs.Additions.{added_none, added_both}

pub comes_here : (key : List ℕ) (s : Stand) (list : List TapeRecord) → Comes key s list s.history
comes_here key s [] = refl
comes_here key s (r ∷ rs) = inl (way_here s.limits s.history (inputs_taken key s r))

-- with more records behind, and with some before
pub comes_more : (key : List ℕ) (s : Stand) (list more : List TapeRecord) (h : History) → Comes key s list h → Comes key s (list ++ more) h
comes_more key s [] more h is = subst (Comes key s more) (sym is) (comes_here key s more)
comes_more key s (r ∷ rs) more h (inl way) = inl way
comes_more key s (r ∷ rs) more h (inr later) = inr (comes_more key (served key s r) rs more h later)

pub comes_behind : (key : List ℕ) (s : Stand) (done list : List TapeRecord) (h : History) → Comes key (stand_at key s done) list h → Comes key s (done ++ list) h
comes_behind key s [] list h comes = comes
comes_behind key s (r ∷ rs) list h comes = inr (comes_behind key (served key s r) rs list h comes)

-- WHAT WAS SERVED

front_behind : (first whole : List ℕ) (before mid now : Option (List ℕ)) → Added first before mid → AddedFront whole mid now → AddedFront (first ++ whole) before now
front_behind first whole before mid now added w = record {
  front = first ++ w.front;
  rest = w.rest;
  parts = ap (λ (xs : List ℕ). first ++ xs) w.parts ∙ sym (append_assoc first w.front w.rest);
  added = added_both first w.front before mid now added w.added;
}

front_more : (whole more : List ℕ) (before now : Option (List ℕ)) → AddedFront whole before now → AddedFront (whole ++ more) before now
front_more whole more before now w = record {
  front = w.front;
  rest = w.rest ++ more;
  parts = ap (λ (xs : List ℕ). xs ++ more) w.parts ∙ append_assoc w.front w.rest more;
  added = w.added;
}

pub served_more : (key : List ℕ) (s : Stand) (list more : List TapeRecord) (before now : Option (List ℕ)) (h : History) → IsServed key s list before now h → IsServed key s (list ++ more) before now h
served_more key s list more before now h w = record {
  front = w.front;
  rest = w.rest ++ more;
  parts = ap (λ (rs : List TapeRecord). rs ++ more) w.parts ∙ append_assoc w.front w.rest more;
  wrote = w.wrote;
  comes = comes_more key (stand_at key s w.front) w.rest more h w.comes;
}

pub served_behind : (key : List ℕ) (s : Stand) (done list : List TapeRecord) (before mid now : Option (List ℕ)) (h : History) → Added (all_spelled (outputs key s done)) before mid →
    IsServed key (stand_at key s done) list mid now h → IsServed key s (done ++ list) before now h
served_behind key s done list before mid now h added w = record {
  front = done ++ w.front;
  rest = w.rest;
  parts = ap (λ (rs : List TapeRecord). done ++ rs) w.parts ∙ sym (append_assoc done w.front w.rest);
  wrote = subst (λ (xs : List ℕ). AddedFront xs before now) (sym (written_append key s done w.front))
      (front_behind (all_spelled (outputs key s done)) (all_spelled (outputs key (stand_at key s done) w.front)) before mid now added w.wrote);
  comes = subst (λ (k : Stand). Comes key k w.rest h) (sym (stand_append key s done w.front)) w.comes;
}

-- all that was written is a front of what all records send
pub served_front : (key : List ℕ) (s : Stand) (list : List TapeRecord) (before now : Option (List ℕ)) (h : History) → IsServed key s list before now h → AddedFront (all_spelled (outputs key s list)) before now
served_front key s list before now h w =
    subst (λ (xs : List ℕ). AddedFront xs before now) (sym (ap (λ (rs : List TapeRecord). all_spelled (outputs key s rs)) w.parts ∙ written_append key s w.front w.rest))
    (front_more (all_spelled (outputs key s w.front)) (all_spelled (outputs key (stand_at key s w.front) w.rest)) before now w.wrote)

-- nothing was served, and all
pub served_none : (key : List ℕ) (s : Stand) (list : List TapeRecord) (w : Option (List ℕ)) (h : History) → Comes key s list h → IsServed key s list w w h
served_none key s list w h comes = record { front = []; rest = list; parts = refl; wrote = record { front = []; rest = []; parts = refl; added = added_none w }; comes = comes }

pub served_whole : (key : List ℕ) (s : Stand) (done rest : List TapeRecord) (before now : Option (List ℕ)) → AddedFront (all_spelled (outputs key s done)) before now → IsServed key s (done ++ rest) before now (stand_at key s done).history
served_whole key s done rest before now wrote = record { front = done; rest = rest; parts = refl; wrote = wrote; comes = comes_here key (stand_at key s done) rest }
