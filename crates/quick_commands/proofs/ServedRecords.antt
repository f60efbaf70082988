-- Records that are served one after another.
use Rattle.std.proofs.Common.{◌≡◌, inl, ℕ, ◌+◌, ◌<◌, ◌≤◌, get_or, List, [], ◌∷◌, ◌++◌, length, take, drop, Option, refl, sym, ap, subst, ◌∙◌}
use Rattle.std.proofs.lemmas.List.{append-nil, take-append-drop, take_more, drop_more, take_all}
use Rattle.cluster_defs.specs.Histories.{History}
use Rattle.edges.specs.Streams.{Added, AddedFront}
use Rattle.tape.specs.declared.record.TapeRecord.{TapeRecord}
use Rattle.tape.specs.Spelling.{all_spelled}
use Rattle.tape_drive.specs.Drive.{Stand, served, outs, outputs, stand_at}
use Rattle.tape_drive.specs.Served.{IsOnWay, inputs_taken, Comes}
use Rattle.quick_commands.specs.Replays.{IsServed}
use Rattle.quick_commands.proofs.Fronts.{written_append, stand_append}
use Rattle.quick_commands.proofs.Reached.{comes_more, comes_behind, served_more, served_behind, served_none, served_whole}
use Rattle.edges.proofs.Additions.{added_none, added_both}
use Rattle.database_text.proofs.Fronts.{front_all}

-- ONE RECORD

one_text : (key : List ℕ) (s : Stand) (r : TapeRecord) → all_spelled (outputs key s (r ∷ [])) ≡ all_spelled (outs key s r)
one_text key s r = ap all_spelled (append-nil (outs key s r))

pub one_whole : (key : List ℕ) (s : Stand) (r : TapeRecord) (before now : Option (List ℕ)) → AddedFront (all_spelled (outs key s r)) before now → IsServed key s (r ∷ []) before now (served key s r).history
one_whole key s r before now wrote = served_whole key s (r ∷ []) [] before now (subst (λ (xs : List ℕ). AddedFront xs before now) (sym (one_text key s r)) wrote)

pub one_cut : (key : List ℕ) (s : Stand) (r : TapeRecord) (w : Option (List ℕ)) (h : History) → IsOnWay s.limits s.history (inputs_taken key s r) h → IsServed key s (r ∷ []) w w h
one_cut key s r w h way = served_none key s (r ∷ []) w h (inl way)

-- ALL BEFORE A PLACE

pub record At (key : List ℕ) (s : Stand) (list : List TapeRecord) (i : ℕ) (before now : Option (List ℕ)) (stand : Stand) : Type 0 where
  pub stand_is : stand ≡ stand_at key s (take i list)
  pub added : Added (all_spelled (outputs key s (take i list))) before now

list_at : (list : List TapeRecord) (i : ℕ) (e : TapeRecord) → i < length list → e ≡ get_or list i e → list ≡ take i list ++ e ∷ drop (i + 1) list
list_at list i e lt is =
    sym (take-append-drop i list) ∙ ap (λ (es : List TapeRecord). take i list ++ es) (drop_more list i e lt)
    ∙ ap (λ (x : TapeRecord). take i list ++ x ∷ drop (i + 1) list) (sym is)

front_at : (list : List TapeRecord) (i : ℕ) (e : TapeRecord) → i < length list → e ≡ get_or list i e → take (i + 1) list ≡ take i list ++ e ∷ []
front_at list i e lt is = take_more list i e lt ∙ ap (λ (x : TapeRecord). take i list ++ x ∷ []) (sym is)

pub at_more : (key : List ℕ) (s : Stand) (list : List TapeRecord) (i : ℕ) (before mid now : Option (List ℕ)) (stand new : Stand) (e : TapeRecord) → At key s list i before mid stand → i < length list → e ≡ get_or list i e →
    new ≡ served key stand e → Added (all_spelled (outs key stand e)) mid now → At key s list (i + 1) before now new
at_more key s list i before mid now stand new e a lt is new_is added = record {
  stand_is = new_is ∙ ap (λ (k : Stand). served key k e) a.stand_is ∙ sym (stand_append key s (take i list) (e ∷ [])) ∙ ap (stand_at key s) (sym (front_at list i e lt is));
  added = subst (λ (es : List TapeRecord). Added (all_spelled (outputs key s es)) before now) (sym (front_at list i e lt is))
      (subst (λ (xs : List ℕ). Added xs before now) (sym (written_append key s (take i list) (e ∷ [])))
      (added_both (all_spelled (outputs key s (take i list))) (all_spelled (outputs key (stand_at key s (take i list)) (e ∷ []))) before mid now a.added
      (subst (λ (xs : List ℕ). Added xs mid now) (sym (one_text key (stand_at key s (take i list)) e)) (subst (λ (k : Stand). Added (all_spelled (outs key k e)) mid now) a.stand_is added))));
}

pub at_served : (key : List ℕ) (s : Stand) (list : List TapeRecord) (i : ℕ) (before mid now : Option (List ℕ)) (stand : Stand) (e : TapeRecord) (h : History) → At key s list i before mid stand → i < length list → e ≡ get_or list i e →
    IsServed key stand (e ∷ []) mid now h → IsServed key s list before now h
at_served key s list i before mid now stand e h a lt is w =
    subst (λ (rs : List TapeRecord). IsServed key s rs before now h) (sym (list_at list i e lt is))
    (served_behind key s (take i list) (e ∷ drop (i + 1) list) before mid now h a.added
    (served_more key (stand_at key s (take i list)) (e ∷ []) (drop (i + 1) list) mid now h (subst (λ (k : Stand). IsServed key k (e ∷ []) mid now h) a.stand_is w)))

pub at_comes : (key : List ℕ) (s : Stand) (list : List TapeRecord) (i : ℕ) (before mid : Option (List ℕ)) (stand : Stand) (e : TapeRecord) (h : History) → At key s list i before mid stand → i < length list → e ≡ get_or list i e →
    Comes key stand (e ∷ []) h → Comes key s list h
at_comes key s list i before mid stand e h a lt is comes =
    subst (λ (rs : List TapeRecord). Comes key s rs h) (sym (list_at list i e lt is))
    (comes_behind key s (take i list) (e ∷ drop (i + 1) list) h
    (comes_more key (stand_at key s (take i list)) (e ∷ []) (drop (i + 1) list) h (subst (λ (k : Stand). Comes key k (e ∷ []) h) a.stand_is comes)))

-- at the end of the list
pub at_end : (key : List ℕ) (s : Stand) (list : List TapeRecord) (i : ℕ) (before now : Option (List ℕ)) (stand : Stand) → At key s list i before now stand → length list ≤ i →
    (stand ≡ stand_at key s list) × Added (all_spelled (outputs key s list)) before now
at_end key s list i before now stand a le =
    let all : take i list ≡ list = take_all i list le in
    (a.stand_is ∙ ap (stand_at key s) all, subst (λ (es : List TapeRecord). Added (all_spelled (outputs key s es)) before now) all a.added)

pub end_served : (key : List ℕ) (s : Stand) (list : List TapeRecord) (i : ℕ) (before now : Option (List ℕ)) (stand : Stand) → At key s list i before now stand → length list ≤ i → IsServed key s list before now stand.history
end_served key s list i before now stand a le =
    let all : take i list ≡ list = take_all i list le in
    subst (λ (rs : List TapeRecord). IsServed key s rs before now stand.history) (append-nil list)
    (subst (λ (k : Stand). IsServed key s (list ++ []) before now k.history) (sym (a.stand_is ∙ ap (stand_at key s) all))
    (served_whole key s list [] before now (front_all (all_spelled (outputs key s list)) before now (at_end key s list i before now stand a le).1)))

pub at_start : (key : List ℕ) (s : Stand) (list : List TapeRecord) (w : Option (List ℕ)) → At key s list 0 w w s
at_start key s list w = record { stand_is = refl; added = added_none w }
