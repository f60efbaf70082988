-- What is known after a front of a history, and what its entries do.
use Rattle.std.proofs.Common.{◌≡◌, ◌∙◌, ◌+◌, ◌<◌, ◌≤◌, ℕ, List, [], ◌∷◌, ◌++◌, length, take, drop, reverse, get_or, Bool, true, false, cond, Option, sym, ap, subst}
use Rattle.std.proofs.lemmas.List.{reverse-append, take-append-drop}
use Rattle.cluster_types.specs.declared.event.Event.{Event}
use Rattle.cluster_types.specs.declared.entry.Input.TheVariants.{Open, Up, Down, In, Beat, Time}
use Rattle.cluster_types.specs.declared.entry.Entry.{Entry}
use Rattle.cluster_types.specs.declared.entry.Entry.TheVariants.{Input, Hand, Settle, Lose}
use Rattle.cluster_types.specs.Limits.{last_moment}
use Rattle.cluster_defs.specs.Facts.{Facts, event_in}
use Rattle.cluster_defs.specs.Steps.{changes, moment_after}
use Rattle.cluster_defs.specs.Histories.{History, facts, Legal}
use Rattle.cluster_laws.proofs.Gone.{legal_below}
use Rattle.cluster_state.specs.Plain.{Plain, plain_of, facts_in, plain_after, InTime}
use Rattle.cluster_state.proofs.Exact.{exact}
use Rattle.cluster_state.proofs.Steps.{taken_is}
use Rattle.entry_outs.specs.Reached.{IsNext}
use Rattle.database_text.specs.declared.notes.Note.{Note}
use Rattle.database_text.specs.Notes.{note_of, notes_of}
use Rattle.database_text.proofs.Histories.{turned}
use Rattle.cluster_core.proofs.Plans.{turned_at}

-- the data are those of the history, and the notes those of its entries
pub record IsPassed (h : History) (p : Plain) (notes : List Note) : Type 0 where
  pub stands : p ≡ plain_of (facts h)
  pub time : p.moment ≤ last_moment
  pub notes_are : reverse notes ≡ notes_of h

noted_time : (b : Bool) (x y : ℕ) → x ≤ last_moment → y ≤ last_moment → cond b x y ≤ last_moment
noted_time true x y h k = h
noted_time false x y h k = k

-- the moment stays in time
moment_more : (f : Facts) (e : Entry) (event : Option Event) → f.moment ≤ last_moment → InTime e → moment_after f e event ≤ last_moment
moment_more f (Input (Open moment scheme hwm misses)) event before time = time
moment_more f (Input (Up conn channel moment word identity)) event before time = time
moment_more f (Input (Down conn moment word)) event before time = time
moment_more f (Input (In conn moment word m)) event before time = noted_time (changes f conn m event) moment f.moment time before
moment_more f (Input (Beat moment word)) event before time = time
moment_more f (Input (Time moment word)) event before time = time
moment_more f (Hand id n) event before time = before
moment_more f (Settle id v c) event before time = before
moment_more f (Lose n) event before time = before

-- after one entry more
passed_more : (h : History) (e : Entry) (p q : Plain) (notes : List Note) (note : Note) → Legal (e ∷ h) → InTime e → IsPassed h p notes →
    note ≡ note_of (facts_in p) e → q ≡ plain_after (facts_in p) e (event_in (facts_in p) e) p → IsPassed (e ∷ h) q (notes ++ note ∷ [])
passed_more h e p q notes note legal time is noted after =
    let told : facts_in p ≡ facts h = ap facts_in is.stands ∙ exact h legal.1 in
    let stands : q ≡ plain_of (facts (e ∷ h)) = taken_is h e p q legal is.stands (after ∙ ap (λ f. plain_after (facts_in p) e (event_in f e) p) told) in
    let before : (facts h).moment ≤ last_moment = subst (λ (x : Plain). x.moment ≤ last_moment) is.stands is.time in
    record {
      stands = stands;
      time = subst (λ (x : Plain). x.moment ≤ last_moment) (sym stands) (moment_more (facts h) e (event_in (facts h) e) before time);
      notes_are = reverse-append notes (note ∷ []) ∙ ap (λ ns. note ∷ ns) is.notes_are ∙ ap (λ n. n ∷ notes_of h) (noted ∙ ap (λ f. note_of f e) told);
    }

legal_at : (xs : List Entry) (i : ℕ) (e : Entry) → i < length xs → e ≡ get_or xs i e → Legal (reverse xs) → Legal (e ∷ reverse (take i xs))
legal_at xs i e lt is legal = legal_below (reverse (drop (i + 1) xs)) (e ∷ reverse (take i xs)) (subst Legal (turned_at xs i e lt is) legal)

-- the entry at a place may stand next after those before it
pub next_at : (xs : List Entry) (i : ℕ) (e : Entry) (p : Plain) (notes : List Note) → i < length xs → e ≡ get_or xs i e → Legal (reverse xs) → IsPassed (reverse (take i xs)) p notes → IsNext p e
next_at xs i e p notes lt is legal passed = record { history = reverse (take i xs); legal = legal_at xs i e lt is legal; is = passed.stands }

pub passed_at : (xs : List Entry) (i : ℕ) (e : Entry) (p q : Plain) (notes : List Note) (note : Note) → i < length xs → e ≡ get_or xs i e → Legal (reverse xs) → InTime e → IsPassed (reverse (take i xs)) p notes →
    note ≡ note_of (facts_in p) e → q ≡ plain_after (facts_in p) e (event_in (facts_in p) e) p → IsPassed (reverse (take (i + 1) xs)) q (notes ++ note ∷ [])
passed_at xs i e p q notes note lt is legal time passed noted after =
    subst (λ (h : History). IsPassed h q (notes ++ note ∷ [])) (sym (turned xs i e lt is)) (passed_more (reverse (take i xs)) e p q notes note (legal_at xs i e lt is legal) time passed noted after)
