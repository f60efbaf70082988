-- What a resubmission makes of the data.
use Rattle.std.proofs.Common.{◌≡◌, ℕ, ◌+◌, List, [], ◌∷◌, ◌++◌, append-nil, append_assoc, map, length, Bool, true, false, ◌||◌, refl, sym, ap, ◌∙◌, subst, bytes_eq, Option, Some, None, arith}
use Rattle.std.specs.Prelude.{is_some, if◌then◌else◌, option_map, find, suc}
use Rattle.std.specs.List.{position_or_len}
use Rattle.std.proofs.lemmas.Bool.{false_from_ne_true, both_ways}
use Rattle.std.proofs.lemmas.List.{map-append, length-map, length-append}
use Rattle.std.proofs.lemmas.List.Folds.{list_any-append}
use Rattle.cluster_types.specs.declared.message.Message.{Message}
use Rattle.cluster_types.specs.declared.event.Event.TheVariants.{Resubmit}
use Rattle.cluster_types.specs.declared.entry.Input.TheVariants.{In}
use Rattle.cluster_types.specs.declared.entry.Entry.TheVariants.{Input}
use Rattle.cluster_defs.specs.Words.{Id, or_else, is_listed, once}
use Rattle.cluster_defs.specs.Requests.{Request, Body}
use Rattle.cluster_defs.specs.Facts.{Facts}
use Rattle.cluster_defs.specs.Laws.{EachOnce}
use Rattle.cluster_defs.specs.Purges.{Copy, copied_by, copied_ids, copied_from, request_copied, body_copied, resubmitted}
use Rattle.cluster_defs.specs.Steps.{step, changes}
use Rattle.cluster_defs.specs.Histories.{History, facts, Legal}
use Rattle.cluster_defs.specs.Outcomes.{number_of}
use Rattle.cluster_defs.proofs.Options.{same_id, id_self}
use Rattle.cluster_laws.proofs.Closed.{closed}
use Rattle.cluster_laws.proofs.Copies.{Copied, AllCopied, all_copied}
use Rattle.task_table.specs.Seen.{begun, seen_in}
use Rattle.cluster_state.specs.Plain.{look, plain_of, told, noted, copy_of, copies_in, copied_out}
use Rattle.cluster_state.proofs.Lists.{map_listed}
use Rattle.cluster_state.proofs.Pieces.{look_is}
use Rattle.cluster_state.proofs.Blank.{blank}
use Rattle.cluster_state.proofs.Exact.{seen_is, unsettled, unpurged}
use Rattle.cluster_state.proofs.Told.{noted_is}
use Rattle.cluster_state.proofs.Adding.{place_front, place_back, kept_first, has_request, has_body}
use Rattle.cluster_types.proofs.Options.{some_is}
use Rattle.cluster_laws.proofs.Apart.{turned}
use Rattle.cluster_types.proofs.Booleans.{or_false}

abbrev after_copies : Facts → ℕ → ℕ → ℕ → Message → List Id → Option (List Copy) → Facts
after_copies f conn moment word m ids c = record f {
  moment = if changes f conn m (Some (Resubmit ids)) then moment else f.moment;
  word = if changes f conn m (Some (Resubmit ids)) then word else f.word;
  known = f.known ++ copied_ids c;
  request_of = λ id. or_else (f.request_of id) (request_copied f moment id c);
  body_of = λ id. or_else (f.body_of id) (body_copied f id c);
}

resubmit_step : (f : Facts) (conn moment word : ℕ) (m : Message) (ids : List Id) →
    step f (Input (In conn moment word m)) (Some (Resubmit ids)) ≡ after_copies f conn moment word m ids (copied_by f (Some (Resubmit ids)))
resubmit_step f conn moment word m ids =
    let gone = λ (id : Id). or_false (f.purged id) in
    λ i. record (after_copies f conn moment word m ids (copied_by f (Some (Resubmit ids)))) {
      known = known_same i;
      purged = λ id. gone id i;
    }
  where
    known_same : (f.known ++ []) ++ copied_ids (copied_by f (Some (Resubmit ids))) ≡ f.known ++ copied_ids (copied_by f (Some (Resubmit ids)))
    known_same = ap (λ ks. ks ++ copied_ids (copied_by f (Some (Resubmit ids)))) (append-nil f.known)

-- a known id looks as before
old_look : (f : Facts) (conn moment word : ℕ) (m : Message) (ids : List Id) (c : Option (List Copy)) (id : Id) → is_some (f.request_of id) ≡ true → is_some (f.body_of id) ≡ true → is_listed id f.known ≡ true →
    look (after_copies f conn moment word m ids c) id ≡ look f id
old_look f conn moment word m ids c id request body listed =
    let g = after_copies f conn moment word m ids c in
    let at : number_of g id ≡ number_of f id = ap suc (place_front id f.known (copied_ids c) listed) in
    look_is g id
    ∙ rw (at, kept_first (f.request_of id) (request_copied f moment id c) request, kept_first (f.body_of id) (body_copied f id c) body) refl
    ∙ sym (look_is f id)

-- an id that stands behind others, each once, is none of them
apart_front : (xs ys : List Id) (id : Id) → EachOnce (xs ++ id ∷ ys) → is_listed id xs ≡ false
apart_front [] ys id h = refl
apart_front (x ∷ xs) ys id h =
    let off : bytes_eq x id ≡ false = turned id x (false_from_ne_true _ (λ on. both_ways (is_listed x (xs ++ id ∷ ys)) h.0 (listed x (same_id id x on)))) in
    rw (off, apart_front xs ys id h.1) refl
  where
    or_true : (b : Bool) → (b || true) ≡ true
    or_true true = refl
    or_true false = refl

    listed : (y : Id) → id ≡ y → is_listed y (xs ++ id ∷ ys) ≡ true
    listed y same = list_any-append (λ i. bytes_eq i y) xs (id ∷ ys)
        ∙ ap (λ b. is_listed y xs || (b || is_listed y ys)) (subst (λ z. bytes_eq z y ≡ true) (sym same) (id_self y))
        ∙ or_true (is_listed y xs)

-- the copy that has a new id
find_back : (front rest : List Copy) (c : Copy) → is_listed c.new (map (λ (d : Copy). d.new) front) ≡ false → find (λ (d : Copy). bytes_eq d.new c.new) (front ++ c ∷ rest) ≡ Some c
find_back [] rest c h = rw (id_self c.new) refl
find_back (d ∷ front) rest c h =
    rw (first_off (bytes_eq d.new c.new) _ h) (find_back front rest c (second_off (bytes_eq d.new c.new) _ h))
  where
    first_off : (a b : Bool) → (a || b) ≡ false → a ≡ false
    first_off true b k = cc
    first_off false b k = refl

    second_off : (a b : Bool) → (a || b) ≡ false → b ≡ false
    second_off true b k = cc
    second_off false b k = k

-- what is read of copies: all of them, and one of them with the ones before and behind it
pub record Among (h : History) (m : Message) (ids : List Id) (all front rest : List Copy) (c : Copy) : Type 0 where
  pub legal : Legal h
  pub once : EachOnce ((facts h).known ++ map (λ (d : Copy). d.new) all)
  pub is : copied_by (facts h) (Some (Resubmit ids)) ≡ Some all
  pub parts : all ≡ front ++ c ∷ rest
  pub old : Copied (facts h) c.old

new_apart : (h : History) (m : Message) (ids : List Id) (all front rest : List Copy) (c : Copy) → Among h m ids all front rest c → is_listed c.new ((facts h).known ++ map (λ (d : Copy). d.new) front) ≡ false
new_apart h m ids all front rest c a =
    let names = λ (ds : List Copy). map (λ (d : Copy). d.new) ds in
    let split : (facts h).known ++ map (λ (d : Copy). d.new) all ≡ ((facts h).known ++ map (λ (d : Copy). d.new) front) ++ c.new ∷ map (λ (d : Copy). d.new) rest =
    ap (λ ds. (facts h).known ++ map (λ (d : Copy). d.new) ds) a.parts ∙ ap (λ ns. (facts h).known ++ ns) (map-append (λ (d : Copy). d.new) front (c ∷ rest))
    ∙ sym (append_assoc (facts h).known (map (λ (d : Copy). d.new) front) (c.new ∷ map (λ (d : Copy). d.new) rest)) in
    apart_front ((facts h).known ++ map (λ (d : Copy). d.new) front) (map (λ (d : Copy). d.new) rest) c.new (subst EachOnce split a.once)

in_front : (xs ys : List Id) (id : Id) → is_listed id (xs ++ ys) ≡ false → is_listed id xs ≡ false
in_front xs ys id off = off_left (is_listed id xs) (is_listed id ys) (sym (list_any-append (λ i. bytes_eq i id) xs ys) ∙ off)
  where
    off_left : (a b : Bool) → (a || b) ≡ false → a ≡ false
    off_left true b k = cc
    off_left false b k = refl

in_back : (xs ys : List Id) (id : Id) → is_listed id (xs ++ ys) ≡ false → is_listed id ys ≡ false
in_back xs ys id off = off_right (is_listed id xs) (is_listed id ys) (sym (list_any-append (λ i. bytes_eq i id) xs ys) ∙ off)
  where
    off_right : (a b : Bool) → (a || b) ≡ false → b ≡ false
    off_right true b k = cc
    off_right false b k = k

-- what is seen of a copy
copy_look : (h : History) (conn moment word : ℕ) (m : Message) (ids : List Id) (all front rest : List Copy) (c : Copy) (r : Request) (b : Body) → Among h m ids all front rest c →
    (facts h).request_of c.old ≡ Some r → (facts h).body_of c.old ≡ Some b →
    look (after_copies (facts h) conn moment word m ids (Some all)) c.new ≡ begun c.new (length (facts h).known + 1 + length front) (resubmitted (facts h) moment c.new r) b
copy_look h conn moment word m ids all front rest c r b a request body =
    let f = facts h in
    let g = after_copies f conn moment word m ids (Some all) in
    let apart = new_apart h m ids all front rest c a in
    let off : is_listed c.new f.known ≡ false = in_front f.known (map (λ (d : Copy). d.new) front) c.new apart in
    let none = blank h c.new a.legal off in
    let split : f.known ++ map (λ (d : Copy). d.new) all ≡ (f.known ++ map (λ (d : Copy). d.new) front) ++ c.new ∷ map (λ (d : Copy). d.new) rest =
    ap (λ ds. f.known ++ map (λ (d : Copy). d.new) ds) a.parts ∙ ap (λ ns. f.known ++ ns) (map-append (λ (d : Copy). d.new) front (c ∷ rest))
    ∙ sym (append_assoc f.known (map (λ (d : Copy). d.new) front) (c.new ∷ map (λ (d : Copy). d.new) rest)) in
    let place : position_or_len (λ i. bytes_eq i c.new) (f.known ++ map (λ (d : Copy). d.new) all) ≡ length (f.known ++ map (λ (d : Copy). d.new) front) =
    ap (position_or_len (λ i. bytes_eq i c.new)) split ∙ place_back c.new (f.known ++ map (λ (d : Copy). d.new) front) (map (λ (d : Copy). d.new) rest) apart in
    let count : length (f.known ++ map (λ (d : Copy). d.new) front) ≡ length f.known + length (map (λ (d : Copy). d.new) front) = length-append f.known (map (λ (d : Copy). d.new) front) in
    let named : length (map (λ (d : Copy). d.new) front) ≡ length front = length-map front (λ (d : Copy). d.new) in
    let at : number_of g c.new ≡ length f.known + 1 + length front = omega (arith, place, count, named) in
    let from : copied_from c.new (Some all) ≡ Some c.old =
    ap (λ ds. option_map (λ (d : Copy). d.old) (find (λ (d : Copy). bytes_eq d.new c.new) ds)) a.parts
    ∙ ap (option_map (λ (d : Copy). d.old)) (find_back front rest c (in_back f.known (map (λ (d : Copy). d.new) front) c.new apart)) in
    let open_yet : f.settled c.new ≡ None = unsettled f c.new (closed h a.legal) off in
    let unpurged_yet : f.purged c.new ≡ false = unpurged f c.new (closed h a.legal) off in
    let asked : g.request_of c.new ≡ Some (resubmitted f moment c.new r) = rw (none.request, from, request) refl in
    let has : g.body_of c.new ≡ Some b = rw (none.body, from, body) refl in
    look_is g c.new ∙ rw (at, asked, has, none.task, none.reply, open_yet, unpurged_yet) refl

-- the copy of a task that is there
copied_one : (f : Facts) (again : Id → Request → Request) (number : ℕ) (new old : Id) (r : Request) (b : Body) → seen_in (map (look f) f.known) old ≡ Some (look f old) → f.request_of old ≡ Some r → f.body_of old ≡ Some b →
    copy_of again number new (seen_in (map (look f) f.known) old) ≡ begun new number (again new r) b ∷ []
copied_one f again number new old r b seen request body = ap (copy_of again number new) seen ∙ rw (request, body) refl

-- the copies from one on
copies_look : (h : History) (conn moment word : ℕ) (m : Message) (ids : List Id) (all front rest : List Copy) → Legal h → EachOnce ((facts h).known ++ map (λ (d : Copy). d.new) all) →
    copied_by (facts h) (Some (Resubmit ids)) ≡ Some all → all ≡ front ++ rest → AllCopied (facts h) rest →
    map (look (after_copies (facts h) conn moment word m ids (Some all))) (map (λ (d : Copy). d.new) rest)
    ≡ copies_in (resubmitted (facts h) moment) (length (facts h).known + 1 + length front) rest (map (look (facts h)) (facts h).known)
copies_look h conn moment word m ids all front [] legal once is parts olds = refl
copies_look h conn moment word m ids all front (c ∷ rest) legal once is parts olds =
    let f = facts h in
    let a : Among h m ids all front rest c = record { legal = legal; once = once; is = is; parts = parts; old = olds.0 } in
    let request = some_is (f.request_of c.old) (has_request h c.old olds.0.known) in
    let body = some_is (f.body_of c.old) (has_body h c.old olds.0.known) in
    let first = copy_look h conn moment word m ids all front rest c request.0 body.0 a request.1 body.1 in
    let seen : seen_in (map (look f) f.known) c.old ≡ Some (look f c.old) = seen_is f f.known c.old ∙ rw olds.0.known refl in
    let copied : copy_of (resubmitted f moment) (length f.known + 1 + length front) c.new (seen_in (map (look f) f.known) c.old)
    ≡ begun c.new (length f.known + 1 + length front) (resubmitted f moment c.new request.0) body.0 ∷ [] =
    copied_one f (resubmitted f moment) (length f.known + 1 + length front) c.new c.old request.0 body.0 seen request.1 body.1 in
    let further : all ≡ (front ++ c ∷ []) ++ rest = parts ∙ sym (append_assoc front (c ∷ []) rest) in
    let others = copies_look h conn moment word m ids all (front ++ c ∷ []) rest legal once is further olds.1 in
    let count : length (front ++ c ∷ []) ≡ length front + 1 = length-append front (c ∷ []) in
    let number : length f.known + 1 + length (front ++ c ∷ []) ≡ length f.known + 1 + length front + 1 = omega (arith, count) in
    let moved = ap (λ n. copies_in (resubmitted f moment) n rest (map (look f) f.known)) number in
    rw (first, copied, others ∙ moved) refl

copied_tasks : (h : History) (conn moment word : ℕ) (m : Message) (ids : List Id) (o : Option (List Copy)) → Legal h → EachOnce ((facts h).known ++ copied_ids o) → copied_by (facts h) (Some (Resubmit ids)) ≡ o →
    record (plain_of (facts h)) { tasks = map (look (after_copies (facts h) conn moment word m ids o)) ((facts h).known ++ copied_ids o) }
    ≡ copied_out (resubmitted (facts h) moment) o (plain_of (facts h))
copied_tasks h conn moment word m ids None legal once is =
    let f = facts h in
    let g = after_copies f conn moment word m ids None in
    let front : map (look g) f.known ≡ map (look f) f.known =
    map_listed (look g) (look f) f.known (λ id listed. old_look f conn moment word m ids None id (has_request h id listed) (has_body h id listed) listed) in
    let tasks : map (look g) (f.known ++ []) ≡ map (look f) f.known = ap (map (look g)) (append-nil f.known) ∙ front in
    rw tasks refl
copied_tasks h conn moment word m ids (Some all) legal once is =
    let f = facts h in
    let g = after_copies f conn moment word m ids (Some all) in
    let front : map (look g) f.known ≡ map (look f) f.known =
    map_listed (look g) (look f) f.known (λ id listed. old_look f conn moment word m ids (Some all) id (has_request h id listed) (has_body h id listed) listed) in
    let news = copies_look h conn moment word m ids all [] all legal once is refl (all_copied f (Some (Resubmit ids)) all is) in
    let count : length (map (look f) f.known) + 1 ≡ length f.known + 1 + length {A = Copy} [] = let l = length-map f.known (look f) in omega (arith, l) in
    let tasks : map (look g) (f.known ++ map (λ (d : Copy). d.new) all) ≡ map (look f) f.known ++ copies_in (resubmitted f moment) (length (map (look f) f.known) + 1) all (map (look f) f.known) =
    map-append (look g) f.known (map (λ (d : Copy). d.new) all) ∙ ap (λ ts. ts ++ map (look g) (map (λ (d : Copy). d.new) all)) front
    ∙ ap (λ ts. map (look f) f.known ++ ts) (news ∙ sym (ap (λ n. copies_in (resubmitted f moment) n all (map (look f) f.known)) count)) in
    rw tasks refl

pub resubmit_plain : (h : History) (conn moment word : ℕ) (m : Message) (ids : List Id) → Legal h → EachOnce ((facts h).known ++ copied_ids (copied_by (facts h) (Some (Resubmit ids)))) →
    plain_of (step (facts h) (Input (In conn moment word m)) (Some (Resubmit ids)))
    ≡ noted (changes (facts h) conn m (Some (Resubmit ids))) moment word (told (facts h) conn moment m (Resubmit ids) (plain_of (facts h)))
resubmit_plain h conn moment word m ids legal once =
    let f = facts h in
    let o = copied_by f (Some (Resubmit ids)) in
    let b = changes f conn m (Some (Resubmit ids)) in
    ap plain_of (resubmit_step f conn moment word m ids)
    ∙ noted_is b moment word (record (plain_of f) { tasks = map (look (after_copies f conn moment word m ids o)) (f.known ++ copied_ids o) })
    ∙ ap (noted b moment word) (copied_tasks h conn moment word m ids o legal once refl)
