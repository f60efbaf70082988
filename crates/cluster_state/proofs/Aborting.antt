-- What an abort makes of the data.
use Rattle.std.proofs.Common.{◌≡◌, ℕ, List, [], ◌∷◌, ◌++◌, append-nil, map, Bool, true, false, cond, ◌||◌, refl, sym, ap, ◌∙◌, bytes_eq, Some}
use Rattle.std.specs.Prelude.{if◌then◌else◌}
use Rattle.cluster_types.specs.declared.message.Message.{Message}
use Rattle.cluster_types.specs.declared.event.Event.TheVariants.{Abort}
use Rattle.cluster_types.specs.declared.entry.Input.TheVariants.{In}
use Rattle.cluster_types.specs.declared.entry.Entry.TheVariants.{Input}
use Rattle.cluster_defs.specs.Words.{Id, is_listed}
use Rattle.cluster_defs.specs.Tasks.{Task, withdrawn, after_abort}
use Rattle.cluster_defs.specs.Facts.{Facts}
use Rattle.cluster_defs.specs.Laws.{EachOnce}
use Rattle.cluster_defs.specs.Outcomes.{number_of}
use Rattle.cluster_defs.specs.Aborts.{aborted_by}
use Rattle.cluster_defs.specs.Steps.{step, changes}
use Rattle.cluster_defs.specs.Histories.{History, facts}
use Rattle.cluster_defs.proofs.Options.{or_else-None, id_self}
use Rattle.cluster_laws.proofs.Apart.{known_once}
use Rattle.task_table.specs.Seen.{aborted_out, changed}
use Rattle.cluster_state.specs.Plain.{look, plain_of, told, noted, aborted_tasks, withdrawn_by}
use Rattle.cluster_state.proofs.Lists.{changed_one, map_all}
use Rattle.cluster_state.proofs.Pieces.{seen_from, look_is}
use Rattle.cluster_state.proofs.Told.{noted_is}
use Rattle.cluster_types.proofs.Booleans.{or_false}

-- the facts, once some ids are taken back
abbrev after_back : Facts → List Id → Facts
after_back f ids = record f { task = λ id. after_abort ids id (f.task id) }

-- what is taken back twice is taken back
back_twice : (a b : Bool) (t : Task) → cond b (withdrawn (cond (a || false) (withdrawn t) t)) (cond (a || false) (withdrawn t) t) ≡ cond (a || b) (withdrawn t) t
back_twice true true t = refl
back_twice true false t = refl
back_twice false true t = refl
back_twice false false t = refl

back_one : (f : Facts) (id : Id) (ids : List Id) → EachOnce ids → map (look (after_back f (id ∷ []))) ids ≡ changed id aborted_out (map (look f) ids)
back_one f id ids once = changed_one f (after_back f (id ∷ [])) aborted_out id ids once others here
  where
    others : (i : Id) → bytes_eq id i ≡ false → look (after_back f (id ∷ [])) i ≡ look f i
    others i off = look_is (after_back f (id ∷ [])) i ∙ rw off (sym (look_is f i))

    here : look (after_back f (id ∷ [])) id ≡ aborted_out (look f id)
    here = look_is (after_back f (id ∷ [])) id ∙ rw (id_self id) (sym (ap aborted_out (look_is f id)))

back_all : (f : Facts) (known ids : List Id) → EachOnce known → map (look (after_back f ids)) known ≡ aborted_tasks ids (map (look f) known)
back_all f known [] once = map_all (look (after_back f [])) (look f) known (λ i. look_is (after_back f []) i ∙ sym (look_is f i))
back_all f known (id ∷ ids) once =
    let first = after_back f (id ∷ []) in
    let same : map (look (after_back f (id ∷ ids))) known ≡ map (look (after_back first ids)) known =
    map_all (look (after_back f (id ∷ ids))) (look (after_back first ids)) known (λ i.
    look_is (after_back f (id ∷ ids)) i
    ∙ ap (λ t. seen_from i (number_of f i) (f.request_of i) (f.body_of i) t (f.reply_of i) (f.settled i) (f.purged i)) (sym (back_twice (bytes_eq id i) (is_listed i ids) (f.task i)))
    ∙ sym (look_is (after_back first ids) i)) in
    same ∙ back_all first known ids once ∙ ap (aborted_tasks ids) (back_one f id known once)

abbrev after_aborted : Facts → ℕ → ℕ → ℕ → Message → List Id → Facts
after_aborted f conn moment word m ids = record f {
  moment = if changes f conn m (Some (Abort ids)) then moment else f.moment;
  word = if changes f conn m (Some (Abort ids)) then word else f.word;
  task = λ id. after_abort (aborted_by f (Some (Abort ids))) id (f.task id);
}

abort_step : (f : Facts) (conn moment word : ℕ) (m : Message) (ids : List Id) → step f (Input (In conn moment word m)) (Some (Abort ids)) ≡ after_aborted f conn moment word m ids
abort_step f conn moment word m ids =
    let request = λ (id : Id). or_else-None (f.request_of id) in
    let body = λ (id : Id). or_else-None (f.body_of id) in
    let gone = λ (id : Id). or_false (f.purged id) in
    λ i. record (after_aborted f conn moment word m ids) {
      known = known_same i;
      request_of = λ id. request id i;
      body_of = λ id. body id i;
      purged = λ id. gone id i;
    }
  where
    known_same : (f.known ++ []) ++ [] ≡ f.known
    known_same = append-nil (f.known ++ []) ∙ append-nil f.known

abort_tasks : (f : Facts) (conn moment word : ℕ) (m : Message) (ids : List Id) → EachOnce f.known →
    record (plain_of f) { tasks = map (look (after_aborted f conn moment word m ids)) f.known } ≡ withdrawn_by (aborted_by f (Some (Abort ids))) (plain_of f)
abort_tasks f conn moment word m ids once =
    let g = after_aborted f conn moment word m ids in
    let list = aborted_by f (Some (Abort ids)) in
    let tasks : map (look g) f.known ≡ aborted_tasks list (map (look f) f.known) =
    map_all (look g) (look (after_back f list)) f.known (λ i. look_is g i ∙ sym (look_is (after_back f list) i)) ∙ back_all f f.known list once in
    rw tasks refl

pub abort_plain : (h : History) (conn moment word : ℕ) (m : Message) (ids : List Id) →
    plain_of (step (facts h) (Input (In conn moment word m)) (Some (Abort ids)))
    ≡ noted (changes (facts h) conn m (Some (Abort ids))) moment word (told (facts h) conn moment m (Abort ids) (plain_of (facts h)))
abort_plain h conn moment word m ids =
    let f = facts h in
    let b = changes f conn m (Some (Abort ids)) in
    ap plain_of (abort_step f conn moment word m ids)
    ∙ noted_is b moment word (record (plain_of f) { tasks = map (look (after_aborted f conn moment word m ids)) f.known })
    ∙ ap (noted b moment word) (abort_tasks f conn moment word m ids (known_once h))
