-- How a replay ends, by what was made of the database and of the tape.
use Rattle.std.proofs.Common.{◌≡◌, ◌⊎◌, inl, inr, ⊎_elim, ℕ, ◌≤◌, List, Bool, true, false, Option, refl, sym, ap, subst, ◌∙◌, arith}
use Rattle.cluster_defs.specs.Histories.{History}
use Rattle.cluster_store.specs.Openings.{IsOpened, HasOpen, WhyNot, Exits}
use Rattle.cluster_store.specs.Stores.{written}
use Rattle.cluster_store.proofs.Images.{chained, weakened}
use Rattle.command_words.specs.declared.command.ReplayOptions.{ReplayOptions}
use Rattle.command_words.specs.declared.ending.Ending.{Ending}
use Rattle.command_words.specs.declared.ending.Ending.TheVariants as endings
use Rattle.database_text.specs.Texts.{Told}
use Rattle.disk_model.specs.Crashes.{LeavesOnly}
use Rattle.edges.specs.Streams.{IsAtEnd}
use Rattle.task_journal.specs.declared.fault.OpenFault.{OpenFault}
use Rattle.task_journal.specs.declared.fault.OpenFault.TheVariants.{NotAJournal, Damaged, DiskFault, OutOfMemory}
use Rattle.task_journal.specs.Journal.{StandsFor}
use Rattle.task_journal.specs.Settled.{Unharmed, Spared, OnRefusal}
use Rattle.tape.specs.Tape.{blank, records}
use Rattle.tape_drive.specs.Drive.{Stand, started_as, drive_stand, drive_output, drive_stop}
use Rattle.tape_drive.specs.Served.{Comes, HoldsSome, IsTouched}
use Rattle.quick_commands.specs.Replays.{limits_of, config_of, IsOver, IsServed, IsCutOff, ReplayEnds, MayLeave}
use Rattle.quick_commands.specs.Written.{Ended, IsWhole, IsOfTape, ending_of_refusal}
use Rattle.quick_commands.proofs.Reached.{served_front}

-- A DATABASE THAT ISN'T OPENED

pub unopened_ends : (tells : Type 0) (content : List ℕ) (options : ReplayOptions) (left rest w : Option (List ℕ)) (old : List ℕ → Type 0) → ReplayEnds tells content options left rest w w old old endings.OutOfMemory
unopened_ends tells content options left rest w old = inl (record { silent = refl; keeps = λ told. inl (λ c now. now) })

pub refusal_ends : (tells : Type 0) (content : List ℕ) (options : ReplayOptions) (left rest w : Option (List ℕ)) (old new : List ℕ → Type 0) (why : OpenFault) → (tells → WhyNot content why) → (tells → OnRefusal why (Spared old content new)) →
    (tells → Exits old content (config_of options) 0 new) → ReplayEnds tells content options left rest w w old new (ending_of_refusal why)
refusal_ends tells content options left rest w old new (NotAJournal place) refused spared exits = record { silent = refl; damaged = λ told. inl (refused told); spared = spared }
refusal_ends tells content options left rest w old new (Damaged place) refused spared exits = record { silent = refl; damaged = λ told. inr (refused told); spared = spared }
refusal_ends tells content options left rest w old new DiskFault refused spared exits = inl (record { silent = refl; keeps = exits })
refusal_ends tells content options left rest w old new OutOfMemory refused spared exits = inl (record { silent = refl; keeps = exits })

pub refusal_disk : (why : OpenFault) → ending_of_refusal why ≡ endings.DiskFault → why ≡ DiskFault
refusal_disk (NotAJournal place) is = cc
refusal_disk (Damaged place) is = cc
refusal_disk DiskFault is = refl
refusal_disk OutOfMemory is = cc

pub refusal_read : (why : OpenFault) → ending_of_refusal why ≡ endings.ReadFault → ⊥
refusal_read (NotAJournal place) is = cc
refusal_read (Damaged place) is = cc
refusal_read DiskFault is = cc
refusal_read OutOfMemory is = cc

pub refusal_write : (why : OpenFault) → ending_of_refusal why ≡ endings.WriteFault → ⊥
refusal_write (NotAJournal place) is = cc
refusal_write (Damaged place) is = cc
refusal_write DiskFault is = cc
refusal_write OutOfMemory is = cc

-- A TAPE

pub over_of : (tells : Type 0) (content : List ℕ) (options : ReplayOptions) (s : Stand) → IsOpened tells content (config_of options) 0 s.history → s ≡ started_as s.history (limits_of options) → IsOver tells content options s
over_of tells content options s o is = record { list = o.list; stands = o.stands; fit = o.fit; is = is ∙ ap (λ (h : History). started_as h (limits_of options)) o.is }

-- what a tape that was served comes to
pub record Tape (tells : Type 0) (key : List ℕ) (s : Stand) (left rest before now : Option (List ℕ)) (image : List ℕ → Type 0) (failed : Bool) (history : History) (e : Ending) : Type 0 where
  pub of_tape : IsOfTape e
  pub end : e ≡ endings.Done → IsAtEnd rest
  pub ended : Told left (λ octets. Ended e (drive_output key s octets) (drive_stop key s octets) before now)
  pub whole : Told left (λ octets. IsWhole e (history ≡ (drive_stand key s octets).history))
  pub served : Told left (λ octets. IsServed key s (records blank octets) before now history)
  pub left_so : tells → failed ≡ true → Told left (λ octets. (c : List ℕ) → image c → HoldsSome (IsServed key s (records blank octets) before now) c)
  pub failed_so : failed ≡ true → e ≡ endings.DiskFault
  pub stands : tells → failed ≡ false → (c : List ℕ) → image c → StandsFor c (written history)

-- no call of the disk failed where the end isn't that of a disk
working : (failed : Bool) (e : Ending) → (failed ≡ true → e ≡ endings.DiskFault) → (e ≡ endings.DiskFault → ⊥) → failed ≡ false
working true e so not = absurd (not (so refl))
working false e so not = refl

all_kept : (tells : Type 0) (image : List ℕ → Type 0) (failed : Bool) (history whole : History) → failed ≡ false → history ≡ whole → (tells → failed ≡ false → (c : List ℕ) → image c → StandsFor c (written history)) → tells → (c : List ℕ) → image c → StandsFor c (written whole)
all_kept tells image failed history whole fine is stands told c now = subst (λ (h : History). StandsFor c (written h)) is (stands told fine c now)

cut_off : (tells : Type 0) (key : List ℕ) (s : Stand) (octets : List ℕ) (before now : Option (List ℕ)) (image : List ℕ → Type 0) (failed : Bool) (history : History) → IsServed key s (records blank octets) before now history →
    (tells → failed ≡ true → (c : List ℕ) → image c → HoldsSome (IsServed key s (records blank octets) before now) c) → (tells → failed ≡ false → (c : List ℕ) → image c → StandsFor c (written history)) →
    IsCutOff tells key s octets before now image
cut_off tells key s octets before now image true history served left stands = record { front = served_front key s (records blank octets) before now history served; keeps = λ told c is. left told refl c is }
cut_off tells key s octets before now image false history served left stands = record {
  front = served_front key s (records blank octets) before now history served;
  keeps = λ told c is. record { history = history; has = served; stands = stands told refl c is };
}

pub tape_ends : (tells : Type 0) (content : List ℕ) (options : ReplayOptions) (s : Stand) (left rest before now : Option (List ℕ)) (old new : List ℕ → Type 0) (failed : Bool) (history : History) (e : Ending) → IsOver tells content options s →
    Tape tells options.key s left rest before now new failed history e → ReplayEnds tells content options left rest before now old new e
tape_ends tells content options s left rest before now old new failed history endings.Done over t = (
  (
    s,
    over,
    λ octets told. record {
      added = (t.ended octets told).0;
      stop_is = (t.ended octets told).1;
      keeps = all_kept tells new failed history (drive_stand options.key s octets).history (working failed endings.Done t.failed_so (λ is. cc)) (t.whole octets told) t.stands;
    },
  ),
  t.end refl,
)
tape_ends tells content options s left rest before now old new failed history (endings.BadTape place) over t = (
  s,
  over,
  λ octets told. record {
    added = (t.ended octets told).0;
    stop_is = (t.ended octets told).1;
    keeps = all_kept tells new failed history (drive_stand options.key s octets).history (working failed (endings.BadTape place) t.failed_so (λ is. cc)) (t.whole octets told) t.stands;
  },
)
tape_ends tells content options s left rest before now old new failed history (endings.HistoryFull entries bytes) over t = (
  s,
  over,
  λ octets told. record {
    added = (t.ended octets told).0;
    stop_is = (t.ended octets told).1;
    keeps = all_kept tells new failed history (drive_stand options.key s octets).history (working failed (endings.HistoryFull entries bytes) t.failed_so (λ is. cc)) (t.whole octets told) t.stands;
  },
)
tape_ends tells content options s left rest before now old new failed history endings.ReadFault over t =
    inr (s, over, λ octets told. cut_off tells options.key s octets before now new failed history (t.served octets told) (λ tell is. t.left_so tell is octets told) t.stands)
tape_ends tells content options s left rest before now old new failed history endings.WriteFault over t =
    inr (s, over, λ octets told. cut_off tells options.key s octets before now new failed history (t.served octets told) (λ tell is. t.left_so tell is octets told) t.stands)
tape_ends tells content options s left rest before now old new failed history endings.DiskFault over t =
    inr (s, over, λ octets told. cut_off tells options.key s octets before now new failed history (t.served octets told) (λ tell is. t.left_so tell is octets told) t.stands)
tape_ends tells content options s left rest before now old new failed history endings.OutOfMemory over t =
    inr (s, over, λ octets told. cut_off tells options.key s octets before now new failed history (t.served octets told) (λ tell is. t.left_so tell is octets told) t.stands)
tape_ends tells content options s left rest before now old new failed history endings.Usage over t = t.of_tape
tape_ends tells content options s left rest before now old new failed history (endings.Damaged place) over t = absurd t.of_tape
tape_ends tells content options s left rest before now old new failed history (endings.Different place) over t = t.of_tape
tape_ends tells content options s left rest before now old new failed history (endings.StandbyDiffers place) over t = t.of_tape
tape_ends tells content options s left rest before now old new failed history (endings.PrimaryRefused place) over t = t.of_tape

-- WHAT A CRASH MAY LEAVE

-- of a disk that no call has touched
pub still : {D : Type 0} (image : D → List ℕ → Type 0) (moment : D → ℕ) (image_since : D → ℕ → List ℕ → Type 0) → ((disk : D) (c : List ℕ) → image_since disk (moment disk) c → image disk c) → (disk : D) (P : List ℕ → Type 0) →
    ((c : List ℕ) → image disk c → P c) → LeavesOnly moment image_since disk disk P
still image moment image_since only_now disk P go = record {
  later = omega arith;
  each = λ c since. go c (only_now disk c since);
  keeps = λ t c le past. past;
  before = λ t c le since. inl since;
}

-- of one that was opened, and whose tape was served then
pub leaves_on : {D : Type 0} (moment : D → ℕ) (image : D → List ℕ → Type 0) (image_since : D → ℕ → List ℕ → Type 0) → ((disk : D) (t u : ℕ) (c : List ℕ) → t ≤ u → u ≤ moment disk → image_since disk u c → image_since disk t c) →
    (old mid new : D) (failed : Bool) (content octets : List ℕ) (options : ReplayOptions) (s : Stand) → IsOver (Unit {0}) content options s →
    LeavesOnly moment image_since old mid (λ c. Unharmed (image old) content c ⊎ HasOpen content (config_of options) 0 c) → IsTouched moment image image_since mid new failed (HoldsSome (Comes options.key s (records blank octets))) →
    LeavesOnly moment image_since old new (MayLeave content options octets (image old))
leaves_on moment image image_since widens old mid new failed content octets options s over first then =
    ⊎_elim
    (λ same. subst (λ d. LeavesOnly moment image_since old d (MayLeave content options octets (image old))) (sym same) (weakened moment image_since old mid (λ c. Unharmed (image old) content c ⊎ HasOpen content (config_of options) 0 c) (MayLeave content options octets (image old)) first (λ c p. opening c p)))
    (λ leaves. chained moment image_since widens old mid new (λ c. Unharmed (image old) content c ⊎ HasOpen content (config_of options) 0 c) (HoldsSome (Comes options.key s (records blank octets))) (MayLeave content options octets (image old)) first leaves (λ c p. opening c p) (λ c q. inr (inr (s, over, q))))
    then.any_moment
  where
    opening : (c : List ℕ) → Unharmed (image old) content c ⊎ HasOpen content (config_of options) 0 c → MayLeave content options octets (image old) c
    opening c p = ⊎_elim (λ a. inl a) (λ b. inr (inl b)) p

pub over_told : (tells : Type 0) (content : List ℕ) (options : ReplayOptions) (s : Stand) → tells → IsOver tells content options s → IsOver (Unit {0}) content options s
over_told tells content options s told over = record { list = over.list; stands = λ t. over.stands told; fit = over.fit; is = over.is }
