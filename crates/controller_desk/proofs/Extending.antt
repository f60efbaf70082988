-- What a store stands for goes on in each call.
use Rattle.std.proofs.Common.{◌≡◌, ℕ, zero, suc, ◌+◌, ◌-◌, ◌≤◌, ◌<◌, ◌^◌, ◌==◌, min, List, [], ◌∷◌, ◌++◌, length, take, Bool, true, false, ◌||◌, Result, Ok, Err, None, refl, sym, ap, ◌∙◌, subst, subst₂, arith, le_refl, le_of_eq, length-append, append_assoc, if◌then◌else◌}
use Rattle.std.specs.Prelude.{OnOk, OnErr, is_err, ◌↔◌}
use Rattle.std.specs.List.{list_any}
use Rattle.cluster_types.specs.declared.config.Channel.{Channel}
use Rattle.cluster_types.specs.declared.message.Message.{Message}
use Rattle.cluster_types.specs.declared.entry.Input.{Input as InputType}
use Rattle.cluster_types.specs.declared.entry.Input.TheVariants.{Open, Up, Down, In, Beat, Time}
use Rattle.cluster_types.specs.declared.entry.Entry.{Entry}
use Rattle.cluster_types.specs.declared.entry.Entry.TheVariants.{Input, Hand, Settle, Lose}
use Rattle.cluster_defs.specs.Histories.{History}
use Rattle.cluster_defs.specs.Lives.{is_open}
use Rattle.cluster_core.specs.declared.size.HistorySize.{HistorySize}
use Rattle.cluster_store.specs.declared.taken.Taken.{Taken}
use Rattle.cluster_store.specs.declared.taken.Taken.TheVariants.{Out as Hands, NothingYet, Closed}
use Rattle.cluster_store.specs.Stores.{StoreView, Becomes, told, told_by, one_more}
use Rattle.task_journal.specs.declared.fault.AppendFault.{AppendFault}
use Rattle.task_journal.specs.declared.fault.AppendFault.TheVariants as appends
use Rattle.history_lock.specs.declared.known.View.{View}
use Rattle.history_lock.specs.History.{is_open_entry, Rises, Extends}
use Rattle.history_lock.specs.Rule.{without_turn, with_turn, added_by}
use Rattle.history_lock.specs.Log.{IsEnd, StartsAt, Chain}
use Rattle.history_lock.specs.Loans.{Loan, loan_in, MayLend, hold_after}
use Rattle.history_lock.proofs.Logs.{logged}
use Rattle.history_lock.proofs.Lending.{may_leave, still_empty, loan_is}
use Rattle.history_lock.proofs.Turning.{grown, turned}
use Rattle.controller_desk.specs.declared.acted.Acted.{Acted}
use Rattle.controller_desk.specs.declared.acted.Acted.TheVariants.{Entered, Junk, Gone}
use Rattle.controller_desk.specs.declared.fault.ActError.{ActError}
use Rattle.controller_desk.specs.declared.fault.ActError.TheVariants.{TooManyConnections, Reopen, HistoryFull, OutOfMemory}
use Rattle.controller_desk.specs.Calls.{is_input, HasStepped, IsRefusedAs, HasTried, HasActed, HasOpened, HasClosed, HasTaken, HasFlushed, HasTrimmed}
use Rattle.controller_desk.specs.Contents.{flag, first_values, conn_numbers, content_of}
use Rattle.controller_desk.specs.Turns.{beyond, GoesOn, Goes, InTurn, InLog}
use Rattle.cluster_types.proofs.Booleans.{or_off_left, or_off_right}

-- COUNTS

values_rise : (n : ℕ) (f g : ℕ → ℕ) → ((k : ℕ) → f k ≤ g k) → Rises (first_values n f) (first_values n g)
values_rise zero f g le k = le_refl _
values_rise (suc n) f g le zero = le 0
values_rise (suc n) f g le (suc k) = values_rise n (λ j. f (suc j)) (λ j. g (suc j)) (λ j. le (suc j)) k

-- no count of a store is lower
record CountsRise {D : Type 0} (faults : D → ℕ) (old new : StoreView D) : Type 0 where
  pub disk : faults old.disk ≤ faults new.disk
  pub mark : old.mark ≤ new.mark
  pub fulls : old.fulls ≤ new.fulls
  pub failed : flag old.failed ≤ flag new.failed
  pub entries : old.limits.entries ≤ new.limits.entries
  pub bytes : old.limits.bytes ≤ new.limits.bytes
  pub taken : (k : ℕ) → told old k ≤ told new k

rises : {D : Type 0} (faults : D → ℕ) (old new : StoreView D) → CountsRise faults old new → Rises (content_of faults old).counts (content_of faults new).counts
rises faults old new r zero = r.disk
rises faults old new r (suc zero) = r.mark
rises faults old new r (suc (suc zero)) = r.fulls
rises faults old new r (suc (suc (suc zero))) = r.failed
rises faults old new r (suc (suc (suc (suc zero)))) = r.entries
rises faults old new r (suc (suc (suc (suc (suc zero))))) = r.bytes
rises faults old new r (suc (suc (suc (suc (suc (suc k)))))) = values_rise conn_numbers (told old) (told new) r.taken k

-- ENTRIES

cut : (es old : List Entry) → take (length (es ++ old) - length old) (es ++ old) ≡ es
cut es old =
    let n : length (es ++ old) - length old ≡ length es = omega (arith, length-append es old) in
    ap (λ (k : ℕ). take k (es ++ old)) n ∙ front es
  where
    front : (xs : List Entry) → take (length xs) (xs ++ old) ≡ xs
    front [] = none old
      where
        none : (ys : List Entry) → take 0 ys ≡ []
        none [] = refl
        none (y ∷ ys) = refl
    front (x ∷ xs) = ap (λ (ys : List Entry). x ∷ ys) (front xs)

not_open : (e : Entry) → is_input e ≡ false → is_open_entry e ≡ false
not_open (Input input) is = cc
not_open (Hand id n) is = refl
not_open (Settle id v c) is = refl
not_open (Lose n) is = refl

open_input : (input : InputType) → is_open (Input input) ≡ false → is_open_entry (Input input) ≡ false
open_input (Open moment scheme hwm misses) is = cc
open_input (Up conn channel moment word identity) is = refl
open_input (Down conn moment word) is = refl
open_input (In conn moment word m) is = refl
open_input (Beat moment word) is = refl
open_input (Time moment word) is = refl

none_open : (ds : List Entry) (input : InputType) → list_any is_input ds ≡ false → is_open (Input input) ≡ false → list_any is_open_entry (ds ++ Input input ∷ []) ≡ false
none_open [] input off is = rw (open_input input is) refl
none_open (d ∷ ds) input off is = rw (not_open d (or_off_left (is_input d) (list_any is_input ds) off)) (none_open ds input (or_off_right (is_input d) (list_any is_input ds) off) is)

-- a store with these entries more, no Open among them, and no count lower
goes_on : {D : Type 0} (faults : D → ℕ) (old new : StoreView D) (es : List Entry) → new.history ≡ es ++ old.history → list_any is_open_entry es ≡ false → CountsRise faults old new → GoesOn faults old new
goes_on faults old new es list off r = record {
  list = list ∙ ap (λ (xs : List Entry). xs ++ old.history) (sym (ap (λ (h : History). take (length h - length old.history) h) list ∙ cut es old.history));
  extends = grown es (content_of faults old) (content_of faults new) list off (rises faults old new r);
}

becomes_on : {D : Type 0} (faults : D → ℕ) (old new : StoreView D) (history : History) (taken : ℕ → ℕ) (fulls : ℕ) → ((k : ℕ) → told old k ≤ taken k) → old.fulls ≤ fulls → Becomes old history taken fulls new → CountsRise faults old new
becomes_on faults old new history taken fulls more le b = record {
  disk = le_of_eq (ap faults (sym b.disk));
  mark = le_of_eq (sym b.mark);
  fulls = subst (λ (n : ℕ). old.fulls ≤ n) (sym b.fulls_are) le;
  failed = le_of_eq (ap flag (sym b.failed));
  entries = le_of_eq (ap (λ (l : HistorySize). l.entries) (sym b.limits));
  bytes = le_of_eq (ap (λ (l : HistorySize). l.bytes) (sym b.limits));
  taken = λ k. subst (λ (n : ℕ). told old k ≤ n) (sym (b.taken_are k)) (more k);
}

-- CALLS

pub same_on : {D : Type 0} (faults : D → ℕ) (old new : StoreView D) → new ≡ old → GoesOn faults old new
same_on faults old new is = subst (GoesOn faults old) (sym is)
    (goes_on faults old old [] refl refl (record { disk = le_refl _; mark = le_refl _; fulls = le_refl _; failed = le_refl _; entries = le_refl _; bytes = le_refl _; taken = λ k. le_refl _ }))

stays_on : {D : Type 0} (faults : D → ℕ) (old new : StoreView D) (fulls : ℕ) → old.fulls ≤ fulls → Becomes old old.history (told old) fulls new → GoesOn faults old new
stays_on faults old new fulls le b = goes_on faults old new [] b.history_is refl (becomes_on faults old new old.history (told old) fulls (λ k. le_refl _) le b)

stepped_on : {D : Type 0} (faults : D → ℕ) (old : StoreView D) (input : InputType) (new : StoreView D) → is_open (Input input) ≡ false → HasStepped old input new → GoesOn faults old new
stepped_on faults old input new off s =
    goes_on faults old new (s.decisions ++ Input input ∷ []) (s.list ∙ sym (append_assoc s.decisions (Input input ∷ []) old.history)) (none_open s.decisions input s.no_inputs off)
    (becomes_on faults old new _ (told old) old.fulls (λ k. le_refl _) (le_refl _) s.becomes)

refused_on : {D : Type 0} (faults : D → ℕ) (old : StoreView D) (input : InputType) (e : ActError) (new : StoreView D) → old.fulls < 2 ^ 64 → IsRefusedAs old input e new → GoesOn faults old new
refused_on faults old input TooManyConnections new small r = absurd r
refused_on faults old input Reopen new small r = stays_on faults old new old.fulls (le_refl _) r.1
refused_on faults old input (HistoryFull entries bytes) new small r = stays_on faults old new (min (old.fulls + 1) (2 ^ 64 - 1)) (omega (arith, small)) r.becomes
refused_on faults old input OutOfMemory new small r = stays_on faults old new old.fulls (le_refl _) r

pub tried_on : {A D : Type 0} (faults : D → ℕ) (old : StoreView D) (input : InputType) (result : Result A ActError) (new : StoreView D) → old.fulls < 2 ^ 64 → is_open (Input input) ≡ false → HasTried old input result new → GoesOn faults old new
tried_on faults old input (Ok x) new small off t = stepped_on faults old input new off t
tried_on faults old input (Err e) new small off t = refused_on faults old input e new small t

pub acted_on : {D : Type 0} (faults : D → ℕ) (old : StoreView D) (moment word conn : ℕ) (m : Message) (result : Result Acted ActError) (new : StoreView D) → old.fulls < 2 ^ 64 → HasActed old moment word conn m result new → GoesOn faults old new
acted_on faults old moment word conn m (Ok Entered) new small a = stepped_on faults old (In conn moment word m) new refl a.1
acted_on faults old moment word conn m (Ok (Junk reason)) new small a = same_on faults old new a.1
acted_on faults old moment word conn m (Ok Gone) new small a = same_on faults old new a.1
acted_on faults old moment word conn m (Err e) new small a = refused_on faults old (In conn moment word m) e new small a.0

pub opened_on : {D : Type 0} (faults : D → ℕ) (old : StoreView D) (moment word : ℕ) (channel : Channel) (identity : List ℕ) (result : Result ℕ ActError) (new : StoreView D) → old.fulls < 2 ^ 64 → HasOpened old moment word channel identity result new → GoesOn faults old new
opened_on faults old moment word channel identity (Ok conn) new small o = stepped_on faults old _ new refl o.2
opened_on faults old moment word channel identity (Err TooManyConnections) new small o = same_on faults old new o.1
opened_on faults old moment word channel identity (Err Reopen) new small o = stays_on faults old new old.fulls (le_refl _) o.1.1
opened_on faults old moment word channel identity (Err (HistoryFull entries bytes)) new small o = stays_on faults old new (min (old.fulls + 1) (2 ^ 64 - 1)) (omega (arith, small)) o.1.becomes
opened_on faults old moment word channel identity (Err OutOfMemory) new small o = stays_on faults old new old.fulls (le_refl _) o.1

pub closed_on : {D : Type 0} (faults : D → ℕ) (old : StoreView D) (moment word conn : ℕ) (result : Result Bool ActError) (new : StoreView D) → old.fulls < 2 ^ 64 → HasClosed old moment word conn result new → GoesOn faults old new
closed_on faults old moment word conn (Ok true) new small c = stepped_on faults old (Down conn moment word) new refl c.1
closed_on faults old moment word conn (Ok false) new small c = same_on faults old new c.1
closed_on faults old moment word conn (Err e) new small c = refused_on faults old (Down conn moment word) e new small c.1

told_more : {D : Type 0} (old : StoreView D) (taken : Taken) (conn k : ℕ) → told old k ≤ told_by taken conn (told old) k
told_more old taken conn k = elim (k == conn) as (λ b. told old k ≤ (if b then one_more taken (told old k) else told old k)) [
  | true ↦ by taken
  | false ↦ le_refl _
]
  where
    by : (t : Taken) → told old k ≤ one_more t (told old k)
    by (Hands out) = omega arith
    by NothingYet = le_refl _
    by Closed = le_refl _

pub taken_on : {D : Type 0} (faults : D → ℕ) (old : StoreView D) (conn : ℕ) (taken : Taken) (new : StoreView D) → HasTaken old conn taken new → GoesOn faults old new
taken_on faults old conn taken new t = goes_on faults old new [] t.becomes.history_is refl (becomes_on faults old new old.history (told_by taken conn (told old)) old.fulls (told_more old taken conn) (le_refl _) t.becomes)

marks : {A D : Type 0} (old new : StoreView D) (result : Result A AppendFault) → old.mark ≤ length old.history → OnOk result (new.mark ≡ length old.history) → OnErr result (new.mark ≡ old.mark) → old.mark ≤ new.mark
marks old new (Ok x) fits ok err = subst (λ (n : ℕ). old.mark ≤ n) (sym ok) fits
marks old new (Err e) fits ok err = le_of_eq (sym err)

flag_true : (b : Bool) → flag b ≤ 1
flag_true true = le_refl _
flag_true false = omega arith

fails : {A : Type 0} (result : Result A AppendFault) (was is : Bool) → is ≡ is_err result → (result ≡ Err appends.Reopen) ↔ (was ≡ true) → flag was ≤ flag is
fails result false is err reopen = omega arith
fails result true is err reopen = le_of_eq (ap flag (sym (err ∙ ap is_err (reopen.1 refl))))

pub flushed_on : {A D : Type 0} (faults : D → ℕ) (old : StoreView D) (result : Result A AppendFault) (new : StoreView D) → HasFlushed faults old result new → GoesOn faults old new
flushed_on faults old result new f = goes_on faults old new [] f.history refl (record {
  disk = f.later;
  mark = marks old new result f.fits f.ok f.err;
  fulls = le_of_eq (sym f.fulls);
  failed = fails result old.failed new.failed f.failed f.reopen;
  entries = le_of_eq (ap (λ (l : HistorySize). l.entries) (sym f.limits));
  bytes = le_of_eq (ap (λ (l : HistorySize). l.bytes) (sym f.limits));
  taken = λ k. le_of_eq (sym (f.told_are k));
})

-- nothing is ever out of the value
abbrev nothing_out : {A : Type 0} → A → Loan
nothing_out value = None

pub may_go : {A : Type 0} (hold : Loan) (log : List A) (value : A) → StartsAt value log → MayLend hold (loan_in nothing_out log) None
may_go hold log value starts = may_leave hold (loan_in nothing_out log) None (sym (loan_is nothing_out value log starts))

pub holds_none : {A : Type 0} (before held after : Loan) (log : List A) (value : A) → StartsAt value log → before ≡ None → held ≡ before → after ≡ hold_after held (loan_in nothing_out log) None → after ≡ None
holds_none before held after log value starts empty same is = is ∙ still_empty held (loan_in nothing_out log) None (same ∙ empty) (sym (loan_is nothing_out value log starts))

-- what a turn leaves in the log of a pass
pub logs : {D T : Type 0} (faults : D → ℕ) (store : T → StoreView D) (old held new : List T) (entered left : T) (before after : StoreView D) → StartsAt entered held → IsEnd old held → Chain (Goes faults store) held → store entered ≡ before → store left ≡ after
    → GoesOn faults before after → new ≡ left ∷ held → InLog faults store old before after new
logs faults store old held new entered left before after starts later chain entered_is left_is on is = record {
  entered = entered;
  left = left;
  entered_is = entered_is;
  left_is = left_is;
  logged = logged (Goes faults store) old held new entered left starts later chain (subst₂ (GoesOn faults) (sym entered_is) (sym left_is) on) is;
}

-- in one turn of a pass, from `enter` to `leave`
pub in_turn : {D : Type 0} (faults : D → ℕ) (v in_turn w : View) (before after : StoreView D) → Extends v.seen (content_of faults before) → in_turn ≡ with_turn v.share (content_of faults before) v.added →
    w ≡ without_turn in_turn.share (content_of faults after) (added_by in_turn after.history) → GoesOn faults before after → InTurn faults v before after w
in_turn faults v held w before after later has gave on = record {
  adds = turned (beyond before.history after.history) v held w (content_of faults before) (content_of faults after) later has gave on.list on.extends;
  seen = ap (λ (x : View). x.seen) gave;
}

pub trimmed_on : {A D : Type 0} (faults : D → ℕ) (old : StoreView D) (result : Result A AppendFault) (new : StoreView D) → HasTrimmed faults old result new → GoesOn faults old new
trimmed_on faults old result new t = goes_on faults old new [] (ap (λ v. v.history) t.same) refl (record {
  disk = t.later;
  mark = le_of_eq (sym (ap (λ v. v.mark) t.same));
  fulls = le_of_eq (sym (ap (λ v. v.fulls) t.same));
  failed = fails result old.failed new.failed (ap (λ v. v.failed) t.same) t.reopen;
  entries = le_of_eq (sym (ap (λ v. v.limits.entries) t.same));
  bytes = le_of_eq (sym (ap (λ v. v.limits.bytes) t.same));
  taken = λ k. le_of_eq (sym (ap (λ v. told v k) t.same));
})
