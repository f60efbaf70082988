-- Entries that a disk gave, and what is still to come of its journal.
use Rattle.std.proofs.Common.{◌≡◌, ℕ, List, [], ◌∷◌, ◌++◌, Result, Ok, Err, Some, None, refl, sym, ap, subst, ◌∙◌}
use Rattle.std.specs.Prelude.{Option}
use Rattle.std.proofs.lemmas.List.{append-nil}
use Rattle.std.proofs.lemmas.Grind.{flat_map-append}
use Rattle.cluster_types.specs.declared.entry.Entry.{Entry}
use Rattle.database_text.specs.Lines.{line, text}
use Rattle.task_journal.specs.declared.fault.OpenFault.{OpenFault}
use Rattle.task_journal.specs.declared.found.Found.{Found}
use Rattle.task_journal.specs.declared.cursor.Placed.{Placed}
use Rattle.task_journal.specs.Journal.{StandsFor, Fails, behind, with_front, one, holding, journal}
use Rattle.task_journal.specs.Cursor.{Standing, IsOn, Advances, to_come}
use Rattle.task_journal.proofs.Loops.{regroup, none_before, fails_along}
use Rattle.task_journal.proofs.Finding.{bind_fails}
use Rattle.edges.specs.Streams.{AddedFront, Added}
use Rattle.database_text.specs.Given.{Gave, HasEnded, OfText}
use Rattle.database_text.proofs.Standing.{found_is}
use Rattle.database_text.proofs.Fronts.{Sent, front_on, sent_none, sent_all, sent_more, sent_front, sent_line, sent_wrote}
use Rattle.cluster_store.proofs.Opens.{same_stands}

-- nothing came yet
pub gave_none : (tells : Type 0) (content : List ℕ) (total : Result Found OpenFault) (at : Standing) → (tells → IsOn at content) → (tells → to_come at content ≡ total) → Gave tells content total at []
gave_none tells content total at on is = record { on = on; places = []; come = λ told. sym (is told) ∙ sym (none_before (to_come at content)) }

-- an entry more
pub gave_more : {tells : Type 0} {content : List ℕ} {total : Result Found OpenFault} {old : Standing} {list : List Entry} → Gave tells content total old list → (new : Standing) (placed : Placed) → (tells → IsOn new content)
    → (tells → Advances content old new (Ok (Some placed))) → Gave tells content total new (list ++ placed.entry ∷ [])
gave_more {content = content} {list = list} g new placed on next = record {
  on = on;
  places = g.places ++ placed.place ∷ [];
  come = λ told. g.come told ∙ ap (λ (r : Result Found OpenFault). with_front (holding list g.places) r) (next told) ∙ regroup (holding list g.places) (one placed.entry placed.place) (to_come new content);
}

-- and more of them
pub gave_on : {tells : Type 0} {content : List ℕ} {total : Result Found OpenFault} {mid new : Standing} {list more : List Entry} → Gave tells content total mid list → Gave tells content (to_come mid content) new more → Gave tells content total new (list ++ more)
gave_on {content = content} {new = new} {list = list} {more = more} g h = record {
  on = h.on;
  places = g.places ++ h.places;
  come = λ told. g.come told ∙ ap (λ (r : Result Found OpenFault). with_front (holding list g.places) r) (h.come told) ∙ regroup (holding list g.places) (holding more h.places) (to_come new content);
}

-- all came
pub gave_all : {tells : Type 0} {content : List ℕ} {at : Standing} {list : List Entry} → Gave tells content (journal content) at list → (tells → HasEnded content at) → tells → StandsFor content list
gave_all {content = content} {at = at} {list = list} g ended told =
    let places = g.places ++ at.gate ∷ [] in
    let whole : ◌≡◌ {A = Result Found OpenFault} (Ok (holding (list ++ []) places)) (Ok (holding list places)) = ap (λ (xs : List Entry). Ok (holding xs places)) (append-nil list) in
    (places, g.come told ∙ ap (λ (r : Result Found OpenFault). with_front (holding list g.places) r) (ended told) ∙ whole)

-- what is still to come is refused, and so is the whole
pub gave_fails : {tells : Type 0} {content : List ℕ} {total : Result Found OpenFault} {at : Standing} {list : List Entry} → Gave tells content total at list → tells → (e : OpenFault) → Fails e (to_come at content) → Fails e total
gave_fails {content = content} {total = total} {at = at} {list = list} g told e fails =
    fails_along e (with_front (holding list g.places) (to_come at content)) total (sym (g.come told)) (bind_fails e (to_come at content) (λ found. Ok (behind (holding list g.places) found)) fails)

part_of : (list : List Entry) (places : List ℕ) (read : Result Found OpenFault) (whole : List Entry) (all : List ℕ) → with_front (holding list places) read ≡ Ok (holding whole all) → (rest : List Entry) × (whole ≡ list ++ rest)
part_of list places (Ok f) whole all e = (f.entries, sym (ap (λ (x : Found). x.entries) (found_is (behind (holding list places) f) (holding whole all) e)))
part_of list places (Err x) whole all e = absurd cc

-- the entries that came are the first of those that the disk stands for
pub gave_part : {tells : Type 0} {content : List ℕ} {at : Standing} {list : List Entry} → Gave tells content (journal content) at list → tells → (whole : List Entry) → StandsFor content whole → (rest : List Entry) × (whole ≡ list ++ rest)
gave_part {content = content} {at = at} {list = list} g told whole stands = part_of list g.places (to_come at content) whole stands.0 (sym (g.come told) ∙ stands.1)

-- a fact of the lines that came, whatever lines come behind them
pub of_part : {tells : Type 0} {content : List ℕ} {at : Standing} {list : List Entry} → Gave tells content (journal content) at list → (P : List ℕ → Type 0) → ((rest : List ℕ) → P (text list ++ rest)) → OfText tells content P
of_part {list = list} g P all = (
  (list, subst P (append-nil (text list)) (all [])),
  λ told whole stands. let p = gave_part g told whole stands in subst P (sym (ap text p.1 ∙ flat_map-append line list p.0)) (all (text p.0)),
)

-- a fact of all lines
pub of_whole : {tells : Type 0} {content : List ℕ} {at : Standing} {list : List Entry} → Gave tells content (journal content) at list → (tells → HasEnded content at) → (P : List ℕ → Type 0) → P (text list) → OfText tells content P
of_whole {content = content} {list = list} g ended P is =
    ((list, is), λ told whole stands. subst (λ (xs : List Entry). P (text xs)) (same_stands content list whole (gave_all g ended told) stands) is)

-- a front of the lines that came is one of all lines
pub front_part : {tells : Type 0} {content : List ℕ} {at : Standing} {list : List Entry} → Gave tells content (journal content) at list → (u v : Option (List ℕ)) → AddedFront (text list) u v → tells → (whole : List Entry) → StandsFor content whole
    → AddedFront (text whole) u v
front_part {list = list} g u v p told whole stands =
    let part = gave_part g told whole stands in
    subst (λ (xs : List ℕ). AddedFront xs u v) (sym (ap text part.1 ∙ flat_map-append line list part.0)) (front_on p (text part.0))

-- of the text of the entries that came, a part was written, and these lines are still to be written
pub record Halfway (tells : Type 0) (content : List ℕ) (at : Standing) (before now : Option (List ℕ)) (lines : List ℕ) : Type 0 where
  pub list : List Entry
  pub gave : Gave tells content (journal content) at list
  pub sent : Sent (text list) before now lines

pub halfway_begins : (tells : Type 0) (content : List ℕ) (at : Standing) (w : Option (List ℕ)) (lines : List ℕ) → (tells → IsOn at content) → (tells → to_come at content ≡ journal content) → lines ≡ [] → Halfway tells content at w w lines
halfway_begins tells content at w lines on is none = record {
  list = [];
  gave = gave_none tells content (journal content) at on is;
  sent = subst (λ (xs : List ℕ). Sent [] w w xs) (sym none) (sent_none w);
}

-- the next entry came
pub halfway_next : {tells : Type 0} {content : List ℕ} {old : Standing} {u v : Option (List ℕ)} {lines : List ℕ} → Halfway tells content old u v lines → (new : Standing) (placed : Placed) → (tells → IsOn new content)
    → (tells → Advances content old new (Ok (Some placed))) → Halfway tells content new u v (lines ++ line placed.entry)
halfway_next {u = u} {v = v} {lines = lines} h new placed on next = record {
  list = h.list ++ placed.entry ∷ [];
  gave = gave_more h.gave new placed on next;
  sent = sent_line h.list u v lines h.sent placed.entry (lines ++ line placed.entry) refl;
}

-- a front of the lines was written
pub halfway_put : {tells : Type 0} {content : List ℕ} {at : Standing} {u v : Option (List ℕ)} {lines : List ℕ} → Halfway tells content at u v lines → (front more : List ℕ) (w : Option (List ℕ)) → lines ≡ front ++ more → Added front v w
    → Halfway tells content at u w more
halfway_put h front more w is p = record { list = h.list; gave = h.gave; sent = sent_more h.sent front more w is p }

-- what was written is a front of the whole text
pub halfway_front : {tells : Type 0} {content : List ℕ} {at : Standing} {u v : Option (List ℕ)} {lines : List ℕ} → Halfway tells content at u v lines → tells → (whole : List Entry) → StandsFor content whole → AddedFront (text whole) u v
halfway_front {u = u} {v = v} h told whole stands = front_part h.gave u v (sent_wrote h.sent) told whole stands

-- and so it is with a front of the lines behind it
pub halfway_broken : {tells : Type 0} {content : List ℕ} {at : Standing} {u v : Option (List ℕ)} {lines : List ℕ} → Halfway tells content at u v lines → (w : Option (List ℕ)) → AddedFront lines v w → tells → (whole : List Entry) → StandsFor content whole
    → AddedFront (text whole) u w
halfway_broken {u = u} {lines = lines} h w p told whole stands = front_part h.gave u w (sent_front h.sent lines [] w (sym (append-nil lines)) p) told whole stands

-- all lines were written
pub halfway_ends : {tells : Type 0} {content : List ℕ} {at : Standing} {u v : Option (List ℕ)} {lines : List ℕ} → Halfway tells content at u v lines → (tells → HasEnded content at) → (w : Option (List ℕ)) → Added lines v w
    → (list : List Entry) × (tells → StandsFor content list) × Added (text list) u w
halfway_ends {lines = lines} h ended w p = (h.list, gave_all h.gave ended, sent_all (sent_more h.sent lines [] w (sym (append-nil lines)) p))

-- a fact of the text follows from another
pub of_text : (tells : Type 0) (content : List ℕ) (P Q : List ℕ → Type 0) → OfText tells content P → ((lines : List ℕ) → P lines → Q lines) → OfText tells content Q
of_text tells content P Q f go = ((f.0.0, go (text f.0.0) f.0.1), λ told list stands. go (text list) (f.1 told list stands))

-- nothing more came
pub halfway_ended : {tells : Type 0} {content : List ℕ} {old : Standing} {u v : Option (List ℕ)} {lines : List ℕ} → Halfway tells content old u v lines → (new : Standing) → (tells → IsOn new content) → (tells → Advances content old new (Ok None))
    → Halfway tells content new u v lines
halfway_ended h new on none = record {
  list = h.list;
  gave = record {
    on = on;
    places = h.gave.places;
    come = λ told. h.gave.come told ∙ ap (λ (r : Result Found OpenFault). with_front (holding h.list h.gave.places) r) ((none told).0 ∙ sym (none told).1);
  };
  sent = h.sent;
}
