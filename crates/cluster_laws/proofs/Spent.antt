-- What a task has spent, and whom it excludes.
use Rattle.std.proofs.Common.{◌≡◌, ℕ, ◌+◌, List, [], ◌∷◌, length, Bool, true, false, cond, ◌&&◌, ◌||◌, Option, Some, None, refl, sym, ap, ◌∙◌, subst, arith}
use Rattle.std.specs.Prelude.{◌==◌, filter, bytes_eq}
use Rattle.std.specs.List.{list_any}
use Rattle.std.proofs.lemmas.Bool.{and_parts}
use Rattle.cluster_types.specs.declared.message.Message.{Message}
use Rattle.cluster_types.specs.declared.event.Event.{Event}
use Rattle.cluster_types.specs.declared.event.Event.TheVariants.{Submit, Direct, Reply, Join, Leave, Pong, Purge, Resubmit, Abort, Ask}
use Rattle.cluster_types.specs.declared.entry.Input.TheVariants.{Open, Up, Down, In, Beat, Time}
use Rattle.cluster_types.specs.declared.entry.Entry.{Entry}
use Rattle.cluster_types.specs.declared.entry.Entry.TheVariants.{Input, Hand, Settle, Lose}
use Rattle.cluster_defs.specs.declared.attempt.Attempt.{Attempt}
use Rattle.cluster_defs.specs.declared.attempt.Attempt.TheVariants.{Never, Running, EndedOk, EndedBadly, Lost, Declined, Withdrawn}
use Rattle.cluster_defs.specs.declared.engine.Engine.{Engine}
use Rattle.cluster_defs.specs.Words.{Id, is_number}
use Rattle.cluster_defs.specs.Engines.{left_engine}
use Rattle.cluster_defs.specs.declared.attempt.Ending.{Ending}
use Rattle.cluster_defs.specs.declared.attempt.Ending.TheVariants.{Well, Badly, Declines}
use Rattle.cluster_defs.specs.Tasks.{Task, ending, runs, runs_at, home, counts, lost, took, after_end}
use Rattle.cluster_defs.specs.Facts.{Facts, event_in, is_direct_id}
use Rattle.cluster_defs.specs.Steps.{engine_end, task_after}
use Rattle.cluster_defs.specs.Histories.{History, facts}
use Rattle.cluster_defs.specs.Lives.{is_open}
use Rattle.cluster_laws.specs.Counts.{beginnings, is_badly, is_decline, replies, ends_at, spends_in, spends, declines}
use Rattle.cluster_types.proofs.Booleans.{or_false}
use Rattle.cluster_defs.proofs.Attempts.{at_runs}
use Rattle.cluster_laws.proofs.Aborting.{abort_choice}
use Rattle.cluster_defs.specs.Aborts.{aborted_by}

abbrev one_if : Bool → ℕ
one_if true = 1
one_if false = 0

-- ONE ENTRY

-- an attempt that is lost is spent where it runs
lost_spends : (a : Attempt) (t : Task) → (lost a t).spent ≡ t.spent + one_if (runs a)
lost_spends (Running n) t = refl
lost_spends Never t = omega arith
lost_spends (EndedOk n) t = omega arith
lost_spends (EndedBadly n) t = omega arith
lost_spends (Lost n) t = omega arith
lost_spends (Declined n) t = omega arith
lost_spends (Withdrawn n) t = omega arith

lost_excludes : (a : Attempt) (t : Task) → (lost a t).excluded ≡ t.excluded
lost_excludes (Running n) t = refl
lost_excludes Never t = refl
lost_excludes (EndedOk n) t = refl
lost_excludes (EndedBadly n) t = refl
lost_excludes (Lost n) t = refl
lost_excludes (Declined n) t = refl
lost_excludes (Withdrawn n) t = refl

end_spends : (f : Facts) (end : Option ℕ) (id : Id) → (after_end end (f.task id)).spent ≡ (f.task id).spent + one_if (ends_at f end id)
end_spends f None id = omega arith
end_spends f (Some n) id = by (runs_at n (f.task id).last) refl
  where
    by : (b : Bool) → runs_at n (f.task id).last ≡ b → (cond b (lost (f.task id).last (f.task id)) (f.task id)).spent ≡ (f.task id).spent + one_if b
    by true at = lost_spends (f.task id).last (f.task id) ∙ ap (λ b. (f.task id).spent + one_if b) (at_runs n (f.task id).last at)
    by false at = omega arith

end_excludes : (f : Facts) (end : Option ℕ) (t : Task) → (after_end end t).excluded ≡ t.excluded
end_excludes f None t = refl
end_excludes f (Some n) t =
    elim (runs_at n t.last) as (λ b. (cond b (lost t.last t) t).excluded ≡ t.excluded) [
      | true ↦ lost_excludes t.last t
      | false ↦ refl
    ]

-- the attempt for which a reply counts is current
counts_home : (live : List Engine) (conn : ℕ) (header : List ℕ) (a : Attempt) (t : Task) → t.last ≡ a → counts live conn header t ≡ true → is_number conn (home live a) ≡ true
counts_home live conn header a t is counted = subst (λ (x : Attempt). is_number conn (home live x) ≡ true) is (and_parts (is_number conn (home live t.last)) _ counted).0

took_spends : (live : List Engine) (conn : ℕ) (header : List ℕ) (way : Ending) (a : Attempt) (t : Task) → t.last ≡ a → counts live conn header t ≡ true → (took header way a t).spent ≡ t.spent + one_if (is_badly way)
took_spends live conn header Well (Running n) t is counted = omega arith
took_spends live conn header Badly (Running n) t is counted = refl
took_spends live conn header Declines (Running n) t is counted = omega arith
took_spends live conn header way Never t is counted = let home = counts_home live conn header Never t is counted in cc
took_spends live conn header way (EndedOk n) t is counted = let home = counts_home live conn header (EndedOk n) t is counted in cc
took_spends live conn header way (EndedBadly n) t is counted = let home = counts_home live conn header (EndedBadly n) t is counted in cc
took_spends live conn header way (Lost n) t is counted = let home = counts_home live conn header (Lost n) t is counted in cc
took_spends live conn header way (Declined n) t is counted = let home = counts_home live conn header (Declined n) t is counted in cc
took_spends live conn header way (Withdrawn n) t is counted = let home = counts_home live conn header (Withdrawn n) t is counted in cc

-- a reply that counts where its name is the task's
reply_spends : (live : List Engine) (conn : ℕ) (header : List ℕ) (way : Ending) (t : Task) (b : Bool) → (b ≡ true → counts live conn header t ≡ true) → (cond b (took header way t.last t) t).spent ≡ t.spent + one_if (b && is_badly way)
reply_spends live conn header way t true counted = took_spends live conn header way t.last t refl (counted refl)
reply_spends live conn header way t false counted = omega arith

abbrev excludes : ℕ → Task → Bool
excludes n t = list_any (λ m. m == n) t.excluded

no_decline : (b c : Bool) → c ≡ ((b && false) || c)
no_decline true c = refl
no_decline false c = refl

took_excludes : (header : List ℕ) (way : Ending) (a : Attempt) (t : Task) (n : ℕ) → excludes n (took header way a t) ≡ ((is_decline way && runs_at n a) || excludes n t)
took_excludes header Well (Running m) t n = refl
took_excludes header Badly (Running m) t n = refl
took_excludes header Declines (Running m) t n = refl
took_excludes header way Never t n = no_decline (is_decline way) (excludes n t)
took_excludes header way (EndedOk m) t n = no_decline (is_decline way) (excludes n t)
took_excludes header way (EndedBadly m) t n = no_decline (is_decline way) (excludes n t)
took_excludes header way (Lost m) t n = no_decline (is_decline way) (excludes n t)
took_excludes header way (Declined m) t n = no_decline (is_decline way) (excludes n t)
took_excludes header way (Withdrawn m) t n = no_decline (is_decline way) (excludes n t)

reply_excludes : (header : List ℕ) (way : Ending) (t : Task) (n : ℕ) (b : Bool) → excludes n (cond b (took header way t.last t) t) ≡ (((b && is_decline way) && runs_at n t.last) || excludes n t)
reply_excludes header way t n true = took_excludes header way t.last t n
reply_excludes header way t n false = refl

-- A LIST

-- what one entry more does
record Steps (f : Facts) (e : Entry) (event : Option Event) (id : Id) : Type 0 where
  pub spent : (task_after f e event id (f.task id)).spent ≡ (f.task id).spent + one_if (spends_in f e event id)
  pub excluded : (n : ℕ) → excludes n (task_after f e event id (f.task id)) ≡ ((replies is_decline f e event id && runs_at n (f.task id).last) || excludes n (f.task id))

by_end : (f : Facts) (end : Option ℕ) (id : Id) (c : Bool) → c ≡ false → (after_end end (f.task id)).spent ≡ (f.task id).spent + one_if (ends_at f end id || c)
by_end f end id true off = cc
by_end f end id false off = end_spends f end id ∙ ap (λ b. (f.task id).spent + one_if b) (sym (or_false (ends_at f end id)))

nothing_spent : (n : ℕ) → n ≡ n + 0
nothing_spent n = omega arith

in_steps : (f : Facts) (conn moment word : ℕ) (m : Message) (event : Option Event) (id : Id) → Steps f (Input (In conn moment word m)) event id
in_steps f conn moment word m None id = record { spent = nothing_spent (f.task id).spent; excluded = λ n. refl }
in_steps f conn moment word m (Some (Submit s)) id = record { spent = nothing_spent (f.task id).spent; excluded = λ n. refl }
in_steps f conn moment word m (Some (Direct s)) id = record { spent = nothing_spent (f.task id).spent; excluded = λ n. refl }
in_steps f conn moment word m (Some (Reply name header ok declined)) id =
    let b = bytes_eq name id && counts f.engines.live conn header (f.task id) in
    let way = ending (is_direct_id f id) ok declined in
    record {
      spent = reply_spends f.engines.live conn header way (f.task id) b (λ on. (and_parts (bytes_eq name id) _ on).1)
          ∙ ap (λ c. (f.task id).spent + one_if c) (sym (or_false ((b && is_badly way) || false) ∙ or_false (b && is_badly way)));
      excluded = λ n. reply_excludes header way (f.task id) n b;
    }
in_steps f conn moment word m (Some (Join uuid)) id = record { spent = nothing_spent (f.task id).spent; excluded = λ n. refl }
in_steps f conn moment word m (Some Leave) id = record {
  spent = by_end f (left_engine f.engines.live conn (Some Leave)) id false refl;
  excluded = λ n. ap (list_any (λ m. m == n)) (end_excludes f (left_engine f.engines.live conn (Some Leave)) (f.task id));
}
in_steps f conn moment word m (Some (Pong beat)) id = record { spent = nothing_spent (f.task id).spent; excluded = λ n. refl }
in_steps f conn moment word m (Some (Purge all ids)) id = record { spent = nothing_spent (f.task id).spent; excluded = λ n. refl }
in_steps f conn moment word m (Some (Resubmit ids)) id = record { spent = nothing_spent (f.task id).spent; excluded = λ n. refl }
in_steps f conn moment word m (Some (Abort ids)) id = record {
  spent = abort_choice (λ t. t.spent ≡ (f.task id).spent + 0) (aborted_by f (Some (Abort ids))) id (f.task id) (nothing_spent (f.task id).spent) (nothing_spent (f.task id).spent);
  excluded = λ n. abort_choice (λ t. excludes n t ≡ excludes n (f.task id)) (aborted_by f (Some (Abort ids))) id (f.task id) refl refl;
}
in_steps f conn moment word m (Some (Ask query)) id = record { spent = nothing_spent (f.task id).spent; excluded = λ n. refl }

hand_steps : (f : Facts) (name id : Id) (n : ℕ) → Steps f (Hand name n) None id
hand_steps f name id n = record {
  spent = same ∙ nothing_spent (f.task id).spent;
  excluded = λ k. elim (bytes_eq name id) as (λ b. excludes k (cond b (record (f.task id) { last = Running n }) (f.task id)) ≡ excludes k (f.task id)) [
    | true ↦ refl
    | false ↦ refl
  ];
}
  where
    same : (cond (bytes_eq name id) (record (f.task id) { last = Running n }) (f.task id)).spent ≡ (f.task id).spent
    same = elim (bytes_eq name id) as (λ b. (cond b (record (f.task id) { last = Running n }) (f.task id)).spent ≡ (f.task id).spent) [
      | true ↦ refl
      | false ↦ refl
    ]

end_steps : (f : Facts) (e : Entry) (id : Id) → is_open e ≡ false → task_after f e None id (f.task id) ≡ after_end (engine_end f.engines.live e None) (f.task id) →
    ((way : Ending → Bool) → replies way f e None id ≡ false) → Steps f e None id
end_steps f e id off is quiet = record {
  spent = ap (λ (t : Task). t.spent) is ∙ end_spends f (engine_end f.engines.live e None) id
      ∙ ap (λ b. (f.task id).spent + one_if b) (sym (ap (λ b. (b || ends_at f (engine_end f.engines.live e None) id) || (is_open e && runs (f.task id).last)) (quiet is_badly)
      ∙ ap (λ b. ends_at f (engine_end f.engines.live e None) id || (b && runs (f.task id).last)) off ∙ or_false (ends_at f (engine_end f.engines.live e None) id)));
  excluded = λ n. ap (excludes n) is ∙ ap (list_any (λ m. m == n)) (end_excludes f (engine_end f.engines.live e None) (f.task id))
      ∙ sym (ap (λ b. (b && runs_at n (f.task id).last) || excludes n (f.task id)) (quiet is_decline));
}

entry_steps : (f : Facts) (e : Entry) (id : Id) → Steps f e (event_in f e) id
entry_steps f (Input (Open moment scheme hwm misses)) id = record {
  spent = lost_spends (f.task id).last (f.task id);
  excluded = λ n. ap (list_any (λ m. m == n)) (lost_excludes (f.task id).last (f.task id));
}
entry_steps f (Input (Up conn channel moment word identity)) id = end_steps f (Input (Up conn channel moment word identity)) id refl refl (λ way. refl)
entry_steps f (Input (Down conn moment word)) id = end_steps f (Input (Down conn moment word)) id refl refl (λ way. refl)
entry_steps f (Input (In conn moment word m)) id = in_steps f conn moment word m (event_in f (Input (In conn moment word m))) id
entry_steps f (Input (Beat moment word)) id = end_steps f (Input (Beat moment word)) id refl refl (λ way. refl)
entry_steps f (Input (Time moment word)) id = end_steps f (Input (Time moment word)) id refl refl (λ way. refl)
entry_steps f (Hand name n) id = hand_steps f name id n
entry_steps f (Settle name v c) id = end_steps f (Settle name v c) id refl refl (λ way. refl)
entry_steps f (Lose n) id = end_steps f (Lose n) id refl refl (λ way. refl)

counted : (b : Bool) (h : History) (hs : List History) → length (cond b (h ∷ hs) hs) ≡ length hs + one_if b
counted true h hs = omega arith
counted false h hs = omega arith

pub spent_is_counted : (history : History) (id : Id) → ((facts history).task id).spent ≡ length (filter (spends id) (beginnings history))
spent_is_counted [] id = refl
spent_is_counted (e ∷ older) id =
    (entry_steps (facts older) e id).spent ∙ ap (λ n. n + one_if (spends id (e ∷ older))) (spent_is_counted older id)
    ∙ sym (counted (spends id (e ∷ older)) (e ∷ older) (filter (spends id) (beginnings older)))

pub excluded_declined : (history : History) (id : Id) (n : ℕ) → list_any (λ m. m == n) ((facts history).task id).excluded ≡ list_any (declines id n) (beginnings history)
excluded_declined [] id n = refl
excluded_declined (e ∷ older) id n =
    (entry_steps (facts older) e id).excluded n ∙ ap (λ b. declines id n (e ∷ older) || b) (excluded_declined older id n)
