-- How following a primary's list ends, and what it leaves.
use Rattle.std.proofs.Common.{◌≡◌, ℕ, zero, suc, ◌≤◌, ◌<◌, Bool, true, false, List, [], ◌∷◌, ◌++◌, length, take, drop, refl, sym, ap, subst, ◌∙◌, ◌⊎◌, inl, inr, ⊎_elim, arith, append_assoc, append-nil, length-append, Option, Some, None}
use Rattle.std.proofs.lemmas.List.{take-append-le}
use Rattle.std.specs.Prelude.{Result, Ok, Err, IfOk, IfErr}
use Rattle.cluster_types.specs.declared.entry.Entry.{Entry}
use Rattle.cluster_store.proofs.Opens.{same_list}
use Rattle.command_words.specs.declared.ending.Ending.{Ending}
use Rattle.command_words.specs.declared.ending.Ending.TheVariants as ends
use Rattle.disk_model.specs.Crashes.{Only, NoMore, LeavesOnly}
use Rattle.edges.specs.Streams.{Took, IsAtEnd}
use Rattle.database_text.specs.Texts.{IsDamaged, Told}
use Rattle.journal_standby.specs.declared.fault.FollowFault.{FollowFault}
use Rattle.journal_standby.specs.declared.fault.FollowFault.TheVariants.{Diverged, Reopen, DiskFault, OutOfMemory}
use Rattle.journal_standby.specs.Batches.{batches, joined}
use Rattle.journal_standby.specs.Standbys.{StandbyView, BeginsWith, DivergesAt, HasFirst, HasFollowed, WhyNotFollowed, lacking}
use Rattle.journal_standby.specs.Steps.{EndsStep}
use Rattle.journal_standby.proofs.Divergences.{lacks}
use Rattle.journal_standby.proofs.Fronts.{ends_step}
use Rattle.task_journal.specs.declared.fault.OpenFault.{OpenFault}
use Rattle.task_journal.specs.declared.fault.OpenFault.TheVariants as opens
use Rattle.task_journal.specs.Journal.{StandsFor, Fails, head_fault, journal}
use Rattle.task_journal.specs.Settled.{Unharmed, Spared, OnRefusal}
use Rattle.task_journal.proofs.On.{journal_other}
use Rattle.task_journal.proofs.Versions.{head_read}
use Rattle.quick_commands.specs.Written.{ending_of_refusal}
use Rattle.quick_commands.specs.Following.{most_input, IsPrimary, IsRefusedAt, MayHaveMore, IsLonger, OpenedEnds, ListEnds, InputEnds, FollowEnds, MayLeaveFollowed, end_of}

-- ---- what a crash leaves

-- the first batches of what lacks are more of the primary's list
pub longer : (list primary : List Entry) → BeginsWith primary list → (c : List ℕ) → HasFirst list (batches (lacking list primary)) c → IsLonger list primary c
longer list primary begins c has = go has.count has.stands
  where
    go : (n : ℕ) → StandsFor c (list ++ joined (take n (batches (lacking list primary)))) → IsLonger list primary c
    go zero is = record { more = []; ends = inl refl; stands = is }
    go (suc n) is =
        let e = ends_step (lacking list primary) (suc n) (omega arith) in
        let more = joined (take (suc n) (batches (lacking list primary))) in
        record {
          more = more;
          ends = inr (record { rest = e.rest; parts = sym (lacks list primary begins) ∙ ap (λ (es : List Entry). list ++ es) e.parts ∙ sym (append_assoc list more e.rest); begins = e.begins });
          stands = is;
        }

pub just : (list primary : List Entry) (c : List ℕ) → StandsFor c list → IsLonger list primary c
just list primary c is = record { more = []; ends = inl refl; stands = subst (λ (es : List Entry). StandsFor c es) (sym (append-nil list)) is }

pub may_have : (content : List ℕ) (list primary : List Entry) (old : List ℕ → Type 0) (c : List ℕ) → StandsFor content list → IsLonger list primary c → MayHaveMore content primary old c
may_have content list primary old c stood l =
    ⊎_elim {C = MayHaveMore content primary old c}
    (λ none. inl (inr (same_list c content list (subst (λ (es : List Entry). StandsFor c es) (ap (λ (es : List Entry). list ++ es) none ∙ append-nil list) l.stands) stood)))
    (λ ends. inr (record { list = list; stood = stood; more = l.more; ends = ends; stands = l.stands })) l.ends

-- ---- how it ends

-- a disk that isn't opened
pub refused_ends : (tells : Type 0) (content : List ℕ) (primary : List Entry) (old new : List ℕ → Type 0) (why : OpenFault) → (tells → Fails why (journal content)) → (tells → Spared old content new) → OnRefusal why (NoMore old new) → ListEnds tells content primary old new (ending_of_refusal why)
refused_ends tells content primary old new (opens.NotAJournal place) fails spared same = (same, λ told. inl (fails told))
refused_ends tells content primary old new (opens.Damaged place) fails spared same = (same, λ told. inr (fails told))
refused_ends tells content primary old new opens.DiskFault fails spared same = λ told c is. ⊎_elim {C = MayHaveMore content primary old c} (λ no_more. inl (inl (no_more c is))) (λ each. inl (inr (each c is))) (spared told)
refused_ends tells content primary old new opens.OutOfMemory fails spared same = λ told c is. ⊎_elim {C = MayHaveMore content primary old c} (λ no_more. inl (inl (no_more c is))) (λ each. inl (inr (each c is))) (spared told)

pub refused_at_disk : (why : OpenFault) → ending_of_refusal why ≡ ends.DiskFault → why ≡ opens.DiskFault
refused_at_disk (opens.NotAJournal place) is = cc
refused_at_disk (opens.Damaged place) is = cc
refused_at_disk opens.DiskFault is = refl
refused_at_disk opens.OutOfMemory is = cc

-- a list that isn't followed
pub unfollowed_ends : (tells : Type 0) (list primary : List Entry) (new : List ℕ → Type 0) (fault : FollowFault) → WhyNotFollowed false list primary fault → ((fault ≡ DiskFault → ⊥) → tells → (c : List ℕ) → new c → StandsFor c list) → OpenedEnds tells list primary new (end_of fault)
unfollowed_ends tells list primary new (Diverged place) why keeps = (why, keeps (λ is. cc))
unfollowed_ends tells list primary new Reopen why keeps = tt
unfollowed_ends tells list primary new DiskFault why keeps = tt
unfollowed_ends tells list primary new OutOfMemory why keeps = tt

pub unfollowed_at_disk : (list primary : List Entry) (fault : FollowFault) → WhyNotFollowed false list primary fault → end_of fault ≡ ends.DiskFault → fault ≡ DiskFault
unfollowed_at_disk list primary (Diverged place) why is = cc
unfollowed_at_disk list primary Reopen why is = cc
unfollowed_at_disk list primary DiskFault why is = refl
unfollowed_at_disk list primary OutOfMemory why is = cc

-- a disk that was opened
pub opened_ends : (tells : Type 0) (content : List ℕ) (list primary : List Entry) (old new : List ℕ → Type 0) (end : Ending) → (tells → StandsFor content list) → (tells → (c : List ℕ) → new c → IsLonger list primary c) → OpenedEnds tells list primary new end → ListEnds tells content primary old new end
opened_ends tells content list primary old new ends.Done stood longer is = λ told. record { list = list; stood = stood told; begins = is.0; keeps = is.1 told }
opened_ends tells content list primary old new (ends.StandbyDiffers place) stood longer is = λ told. record { list = list; stood = stood told; differs = is.0; keeps = is.1 told }
opened_ends tells content list primary old new ends.DiskFault stood longer is = λ told c now. may_have content list primary old c (stood told) (longer told c now)
opened_ends tells content list primary old new ends.OutOfMemory stood longer is = λ told c now. may_have content list primary old c (stood told) (longer told c now)
opened_ends tells content list primary old new ends.Usage stood longer is = absurd is
opened_ends tells content list primary old new ends.ReadFault stood longer is = absurd is
opened_ends tells content list primary old new ends.WriteFault stood longer is = absurd is
opened_ends tells content list primary old new (ends.BadTape place) stood longer is = absurd is
opened_ends tells content list primary old new (ends.Damaged place) stood longer is = absurd is
opened_ends tells content list primary old new (ends.HistoryFull entries bytes) stood longer is = absurd is
opened_ends tells content list primary old new (ends.Different place) stood longer is = absurd is
opened_ends tells content list primary old new (ends.PrimaryRefused place) stood longer is = absurd is

-- ---- every moment

module _ {D : Type 0} (content : D → List ℕ) (image : D → List ℕ → Type 0) (moment : D → ℕ) (image_since : D → ℕ → List ℕ → Type 0)
    (only_now : (disk : D) (c : List ℕ) → image_since disk (moment disk) c → image disk c) (old new : StandbyView D) (primary : List Entry) (only : Only (content old.disk) (image old.disk)) (stands : StandsFor (content old.disk) old.list) where
  -- where nothing was changed
  untouched : new ≡ old → LeavesOnly moment image_since old.disk new.disk (IsLonger old.list primary)
  untouched same =
      subst (λ (v : StandbyView D). LeavesOnly moment image_since old.disk v.disk (IsLonger old.list primary)) (sym same)
      (record {
        later = omega arith;
        each = λ c since. just old.list primary c (subst (λ (o : List ℕ). StandsFor o old.list) (sym (only c (only_now old.disk c since))) stands);
        keeps = λ t c le past. past;
        before = λ t c le since. inl since;
      })

  begun : LeavesOnly moment image_since old.disk new.disk (HasFirst old.list (batches (lacking old.list primary))) → BeginsWith primary old.list → LeavesOnly moment image_since old.disk new.disk (IsLonger old.list primary)
  begun leaves begins = record { later = leaves.later; each = λ c since. longer old.list primary begins c (leaves.each c since); keeps = leaves.keeps; before = leaves.before }

  pub followed_moments : (result : Result ℕ FollowFault) → IfOk result (HasFollowed old new primary) → IfErr result (WhyNotFollowed old.failed old.list primary) → IfErr result (λ fault. ((fault ≡ DiskFault) × (new.failed ≡ true)) ⊎ (new ≡ old)) →
      LeavesOnly moment image_since old.disk new.disk (HasFirst old.list (batches (lacking old.list primary))) → LeavesOnly moment image_since old.disk new.disk (IsLonger old.list primary)
  followed_moments (Ok added) has why unchanged leaves = begun leaves has.begins
  followed_moments (Err (Diverged place)) has why unchanged leaves = ⊎_elim {C = LeavesOnly moment image_since old.disk new.disk (IsLonger old.list primary)} (λ fault. let not : ⊥ = cc (fault.0) in absurd not) untouched unchanged
  followed_moments (Err Reopen) has why unchanged leaves = begun leaves why.0
  followed_moments (Err DiskFault) has why unchanged leaves = begun leaves why.0
  followed_moments (Err OutOfMemory) has why unchanged leaves = ⊎_elim {C = LeavesOnly moment image_since old.disk new.disk (IsLonger old.list primary)} (λ fault. let not : ⊥ = cc (fault.0) in absurd not) untouched unchanged

-- ---- the input

none_told : (left : Option (List ℕ)) (end : Ending) → InputEnds left end → InputEnds None end
none_told left ends.Done told = absurd told
none_told left ends.Usage told = absurd told
none_told left ends.ReadFault told = tt
none_told left ends.WriteFault told = absurd told
none_told left ends.DiskFault told = absurd told
none_told left (ends.BadTape place) told = absurd told
none_told left (ends.Damaged place) told = absurd told
none_told left ends.OutOfMemory told = tt
none_told left (ends.HistoryFull entries bytes) told = absurd told
none_told left (ends.Different place) told = absurd told
none_told left (ends.StandbyDiffers place) told = absurd told
none_told left (ends.PrimaryRefused place) told = λ octets is. cc

if_err : {T E : Type 0} (r : Result T E) (P Q : E → Type 0) → ((e : E) → P e → Q e) → IfErr r P → IfErr r Q
if_err (Ok x) P Q go is = tt
if_err (Err e) P Q go is = go e is

-- what is said of octets and all that may follow them is said of the input that begins with them
pub input_refused : (result : Result (List Entry) Ending) (octets : List ℕ) (old new : Option (List ℕ)) → Took octets old new → (length octets ≤ most_input → IsAtEnd new) →
    ((more : List ℕ) → (length octets ≤ most_input → more ≡ []) → IfErr result (InputEnds (Some (octets ++ more)))) → IfErr result (InputEnds old)
input_refused result octets old (Some rest) took end refused = subst (λ (left : Option (List ℕ)). IfErr result (InputEnds left)) (sym took) (refused rest (λ short. end short rest refl))
input_refused result octets old None took end refused =
    subst (λ (left : Option (List ℕ)). IfErr result (InputEnds left)) (sym took) (if_err result (InputEnds (Some (octets ++ []))) (InputEnds None) (none_told (Some (octets ++ []))) (refused [] (λ short. refl)))

-- the head of a longer input is that of its first octets
head_of_more : (octets more : List ℕ) → 31 ≤ length octets → head_fault (octets ++ more) ≡ head_fault octets
head_of_more octets more le =
    sym (head_read (octets ++ more) (let size = length-append octets more in omega (arith, size, le))) ∙ ap head_fault (take-append-le 31 octets more le) ∙ head_read octets le

-- an input that is too long is refused where its head differs
pub refused_by_head : (octets : List ℕ) (place : ℕ) → most_input < length octets → head_fault octets ≡ Some place → (more : List ℕ) → IsRefusedAt (octets ++ more) place
refused_by_head octets place long is more =
    let size = length-append octets more in
    inl (inl (journal_other (octets ++ more) place (omega (arith, size, long)) (head_of_more octets more (omega (arith, long)) ∙ is)))

pub refused_by_size : (octets : List ℕ) → most_input < length octets → (more : List ℕ) → IsRefusedAt (octets ++ more) most_input
refused_by_size octets long more = let size = length-append octets more in inr (omega (arith, size, long), refl)

-- how it ends once there is a list
pub list_to_end : (tells : Type 0) (content : List ℕ) (left rest : Option (List ℕ)) (old new : List ℕ → Type 0) (primary : List Entry) (end : Ending) → Told left (λ octets. IsPrimary octets primary) → IsAtEnd rest → ListEnds tells content primary old new end → FollowEnds tells content left rest old new end
list_to_end tells content left rest old new primary ends.Done is all l = (all, λ octets told. (primary, is octets told, l))
list_to_end tells content left rest old new primary ends.Usage is all l = absurd l
list_to_end tells content left rest old new primary ends.ReadFault is all l = absurd l
list_to_end tells content left rest old new primary ends.WriteFault is all l = absurd l
list_to_end tells content left rest old new primary ends.DiskFault is all l = λ octets told. (primary, is octets told, l)
list_to_end tells content left rest old new primary (ends.BadTape place) is all l = absurd l
list_to_end tells content left rest old new primary (ends.Damaged place) is all l = λ octets told. (primary, is octets told, l)
list_to_end tells content left rest old new primary ends.OutOfMemory is all l = inr (λ octets told. (primary, is octets told, l))
list_to_end tells content left rest old new primary (ends.HistoryFull entries bytes) is all l = absurd l
list_to_end tells content left rest old new primary (ends.Different place) is all l = absurd l
list_to_end tells content left rest old new primary (ends.StandbyDiffers place) is all l = λ octets told. (primary, is octets told, l)
list_to_end tells content left rest old new primary (ends.PrimaryRefused place) is all l = absurd l

pub may_leave : (content octets : List ℕ) (primary : List Entry) (old : List ℕ → Type 0) → IsPrimary octets primary → (c : List ℕ) → MayHaveMore content primary old c → MayLeaveFollowed content octets old c
may_leave content octets primary old is c has = ⊎_elim {C = MayLeaveFollowed content octets old c} (λ u. inl u) (λ more. inr (primary, is, more)) has
