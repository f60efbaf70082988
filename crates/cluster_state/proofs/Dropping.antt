-- What a purge makes of the data.
use Rattle.std.proofs.Common.{◌≡◌, ℕ, List, [], ◌∷◌, ◌++◌, append-nil, map, Bool, true, false, ◌||◌, refl, sym, ap, ◌∙◌, bytes_eq, Option, Some, None}
use Rattle.std.specs.Prelude.{if◌then◌else◌}
use Rattle.cluster_types.specs.declared.message.Message.{Message}
use Rattle.cluster_types.specs.declared.event.Event.TheVariants.{Purge}
use Rattle.cluster_types.specs.declared.entry.Input.TheVariants.{In}
use Rattle.cluster_types.specs.declared.entry.Entry.TheVariants.{Input}
use Rattle.cluster_defs.specs.Words.{Id, is_listed}
use Rattle.cluster_defs.specs.Facts.{Facts}
use Rattle.cluster_defs.specs.Laws.{EachOnce}
use Rattle.cluster_defs.specs.Outcomes.{number_of}
use Rattle.cluster_defs.specs.Purges.{purged_by, drops}
use Rattle.cluster_defs.specs.Steps.{step, changes}
use Rattle.cluster_defs.specs.Histories.{History, facts}
use Rattle.cluster_defs.proofs.Options.{or_else-None, id_self}
use Rattle.cluster_laws.proofs.Apart.{known_once}
use Rattle.task_table.specs.Seen.{purged_out, changed}
use Rattle.cluster_state.specs.Plain.{look, plain_of, told, noted, purged_tasks, dropped_by}
use Rattle.cluster_state.proofs.Lists.{changed_one, map_all}
use Rattle.cluster_state.proofs.Pieces.{seen_from, look_is}
use Rattle.cluster_state.proofs.Told.{noted_is}
use Rattle.cluster_types.proofs.Booleans.{or_true, or_false}

-- the facts, once some ids are dropped
abbrev after_drop : Facts → List Id → Facts
after_drop f ids = record f { purged = λ id. f.purged id || is_listed id ids }

or_twice : (a b c : Bool) → ((a || (b || false)) || c) ≡ (a || (b || c))
or_twice true b c = refl
or_twice false true c = refl
or_twice false false c = refl

drop_one : (f : Facts) (id : Id) (ids : List Id) → EachOnce ids → map (look (after_drop f (id ∷ []))) ids ≡ changed id purged_out (map (look f) ids)
drop_one f id ids once = changed_one f (after_drop f (id ∷ [])) purged_out id ids once others here
  where
    others : (i : Id) → bytes_eq id i ≡ false → look (after_drop f (id ∷ [])) i ≡ look f i
    others i off = look_is (after_drop f (id ∷ [])) i ∙ rw (off, or_false (f.purged i)) (sym (look_is f i))

    here : look (after_drop f (id ∷ [])) id ≡ purged_out (look f id)
    here = look_is (after_drop f (id ∷ [])) id ∙ rw (id_self id, or_true (f.purged id)) (sym (ap purged_out (look_is f id)))

drop_all : (f : Facts) (known ids : List Id) → EachOnce known → map (look (after_drop f ids)) known ≡ purged_tasks ids (map (look f) known)
drop_all f known [] once =
    map_all (look (after_drop f [])) (look f) known (λ i. look_is (after_drop f []) i ∙ rw (or_false (f.purged i)) (sym (look_is f i)))
drop_all f known (id ∷ ids) once =
    let first = after_drop f (id ∷ []) in
    let same : map (look (after_drop f (id ∷ ids))) known ≡ map (look (after_drop first ids)) known =
    map_all (look (after_drop f (id ∷ ids))) (look (after_drop first ids)) known (λ i.
    look_is (after_drop f (id ∷ ids)) i
    ∙ ap (seen_from i (number_of f i) (f.request_of i) (f.body_of i) (f.task i) (f.reply_of i) (f.settled i)) (sym (or_twice (f.purged i) (bytes_eq id i) (is_listed i ids)))
    ∙ sym (look_is (after_drop first ids) i)) in
    same ∙ drop_all first known ids once ∙ ap (purged_tasks ids) (drop_one f id known once)

abbrev after_purge : Facts → ℕ → ℕ → ℕ → Message → Bool → List Id → Facts
after_purge f conn moment word m all ids = record f {
  moment = if changes f conn m (Some (Purge all ids)) then moment else f.moment;
  word = if changes f conn m (Some (Purge all ids)) then word else f.word;
  purged = λ id. f.purged id || drops id (purged_by f (Some (Purge all ids)));
}

purge_step : (f : Facts) (conn moment word : ℕ) (m : Message) (all : Bool) (ids : List Id) → step f (Input (In conn moment word m)) (Some (Purge all ids)) ≡ after_purge f conn moment word m all ids
purge_step f conn moment word m all ids =
    let request = λ (id : Id). or_else-None (f.request_of id) in
    let body = λ (id : Id). or_else-None (f.body_of id) in
    λ i. record (after_purge f conn moment word m all ids) {
      known = known_same i;
      request_of = λ id. request id i;
      body_of = λ id. body id i;
    }
  where
    known_same : (f.known ++ []) ++ [] ≡ f.known
    known_same = append-nil (f.known ++ []) ∙ append-nil f.known

purge_tasks : (f : Facts) (conn moment word : ℕ) (m : Message) (all : Bool) (ids : List Id) (o : Option (List Id)) → EachOnce f.known → purged_by f (Some (Purge all ids)) ≡ o →
    record (plain_of f) { tasks = map (look (after_purge f conn moment word m all ids)) f.known } ≡ dropped_by o (plain_of f)
purge_tasks f conn moment word m all ids None once is =
    let g = after_purge f conn moment word m all ids in
    let tasks : map (look g) f.known ≡ map (look f) f.known = map_all (look g) (look f) f.known (λ i. look_is g i ∙ rw (is, or_false (f.purged i)) (sym (look_is f i))) in
    rw tasks refl
purge_tasks f conn moment word m all ids (Some list) once is =
    let g = after_purge f conn moment word m all ids in
    let tasks : map (look g) f.known ≡ purged_tasks list (map (look f) f.known) =
    map_all (look g) (look (after_drop f list)) f.known (λ i. look_is g i ∙ rw is (sym (look_is (after_drop f list) i))) ∙ drop_all f f.known list once in
    rw tasks refl

pub purge_plain : (h : History) (conn moment word : ℕ) (m : Message) (all : Bool) (ids : List Id) →
    plain_of (step (facts h) (Input (In conn moment word m)) (Some (Purge all ids)))
    ≡ noted (changes (facts h) conn m (Some (Purge all ids))) moment word (told (facts h) conn moment m (Purge all ids) (plain_of (facts h)))
purge_plain h conn moment word m all ids =
    let f = facts h in
    let b = changes f conn m (Some (Purge all ids)) in
    ap plain_of (purge_step f conn moment word m all ids)
    ∙ noted_is b moment word (record (plain_of f) { tasks = map (look (after_purge f conn moment word m all ids)) f.known })
    ∙ ap (noted b moment word) (purge_tasks f conn moment word m all ids (purged_by f (Some (Purge all ids))) (known_once h) refl)
