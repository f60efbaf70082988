-- What an opening goes on from, and why it is refused.
use Rattle.std.proofs.Common.{◌≡◌, ◌⊎◌, inl, inr, ⊎_elim, ℕ, List, [], ◌++◌, reverse, append-nil, refl, sym, ap, ◌∙◌, subst}
use Rattle.std.specs.Prelude.{Result, Ok, Err, OnOk, IfOk, IfErr, is_err, false}
use Rattle.cluster_types.specs.declared.config.Config.{Config}
use Rattle.cluster_types.specs.declared.entry.Entry.{Entry}
use Rattle.cluster_defs.specs.Histories.{History, kept}
use Rattle.disk_model.specs.Crashes.{Only}
use Rattle.task_journal.specs.declared.fault.OpenFault.{OpenFault}
use Rattle.task_journal.specs.declared.fault.OpenFault.TheVariants.{NotAJournal, Damaged, DiskFault, OutOfMemory}
use Rattle.task_journal.specs.declared.found.Found.{Found}
use Rattle.task_journal.specs.Journal.{journal, StandsFor, IsSame, IsOfDisk, Fails, holding, entries_of}
use Rattle.task_journal.specs.Settled.{Spared, OnRefusal, Unharmed}
use Rattle.cluster_store.specs.Openings.{IsFit, IsOpened, HasOpen, Exits, WhyNot, opened}
use Rattle.cluster_store.specs.Remaking.{Refuses}
use Rattle.cluster_store.specs.Stores.{written}
use Rattle.cluster_store.proofs.Remade.{reverse_twice}

-- all of a fit list is kept
pub fit_written : (list : List Entry) → IsFit list → written (reverse list) ≡ list
fit_written list fit =
    let same : reverse list ++ [] ≡ reverse list = append-nil (reverse list) in
    let all : kept (reverse list) ≡ reverse list = subst (λ (h : History). kept h ≡ h) same fit.0.all_kept in
    ap reverse all ∙ reverse_twice list

-- two disks that stand for one list
pub same_list : (octets others : List ℕ) (list : List Entry) → StandsFor octets list → StandsFor others list → IsSame octets others
same_list octets others list a b = ap entries_of a.1 ∙ sym (ap entries_of b.1)

entries_or : Result Found OpenFault → List Entry
entries_or (Ok found) = found.entries
entries_or (Err e) = []

pub same_stands : (octets : List ℕ) (a b : List Entry) → StandsFor octets a → StandsFor octets b → a ≡ b
unfolding entries_or
same_stands octets a b x y = ap entries_or (sym x.1 ∙ y.1)

-- why no journal was opened is why no store is
pub journal_refused : (octets : List ℕ) (why : OpenFault) → Fails why (journal octets) → WhyNot octets why
journal_refused octets (NotAJournal place) is = is
journal_refused octets (Damaged place) is = inl is
journal_refused octets DiskFault is = tt
journal_refused octets OutOfMemory is = tt

-- and why the steps of its list weren't made again
pub list_refused : (octets : List ℕ) (entries : List Entry) (places : List ℕ) (why : OpenFault) → journal octets ≡ Ok (holding entries places) → Refuses (holding entries places) why → WhyNot octets why
list_refused octets entries places (NotAJournal place) found refused = absurd refused
list_refused octets entries places (Damaged place) found at = inr (holding entries places, found, at)
list_refused octets entries places DiskFault found refused = tt
list_refused octets entries places OutOfMemory found refused = tt

pub of_disk : (octets : List ℕ) (why : OpenFault) → IsOfDisk why → WhyNot octets why
of_disk octets (NotAJournal place) refused = absurd refused
of_disk octets (Damaged place) refused = absurd refused
of_disk octets DiskFault refused = tt
of_disk octets OutOfMemory refused = tt

pub never_refused : (P : Type 0) (why : OpenFault) → IsOfDisk why → OnRefusal why P
never_refused P (NotAJournal place) refused = absurd refused
never_refused P (Damaged place) refused = absurd refused
never_refused P DiskFault refused = tt
never_refused P OutOfMemory refused = tt

pub on_refusal : (P : Type 0) (why : OpenFault) → P → OnRefusal why P
on_refusal P (NotAJournal place) p = p
on_refusal P (Damaged place) p = p
on_refusal P DiskFault p = tt
on_refusal P OutOfMemory p = tt

pub not_disk : (found : Found) (why : OpenFault) → Refuses found why → why ≡ DiskFault → ⊥
not_disk found (NotAJournal place) refused is = refused
not_disk found (Damaged place) at is = cc
not_disk found DiskFault refused is = refused
not_disk found OutOfMemory at is = cc

-- a disk that is read and stands for a list leaves what stands for the same
pub spared_list : (content new : List ℕ) (old_image image : List ℕ → Type 0) (list : List Entry) → Only new image → StandsFor new list → StandsFor content list → Spared old_image content image
spared_list content new old_image image list only a b = inr (λ c is. subst (λ (d : List ℕ). IsSame d content) (sym (only c is)) (same_list new content list a b))

-- the history that is gone on with
pub opened_so : (tells : Type 0) (octets : List ℕ) (config : Config) (moment : ℕ) (list : List Entry) (core history : History) → (tells → StandsFor octets list) → IsFit list → core ≡ reverse list → history ≡ opened config moment core → IsOpened tells octets config moment history
opened_so tells octets config moment list core history stands fit same is = record { list = list; stands = stands; fit = fit; is = is ∙ ap (opened config moment) same }

-- what a crash leaves while the Open is written
pub either_list : (octets content : List ℕ) (image : List ℕ → Type 0) (config : Config) (moment : ℕ) (list : List Entry) (core history : History) → StandsFor octets list → IsFit list → core ≡ reverse list → history ≡ opened config moment core →
    StandsFor content (written core) ⊎ StandsFor content (written history) → Unharmed image octets content ⊎ HasOpen octets config moment content
either_list octets content image config moment list core history stands fit same is =
    ⊎_elim
    (λ a. inl (inr (same_list content octets list (subst (StandsFor content) (ap written same ∙ fit_written list fit) a) stands)))
    (λ b. inr (record { history = history; from = opened_so (Unit {0}) octets config moment list core history (λ t. stands) fit same is; stands = b }))

-- what holds where a result is Ok, of one that is
pub ok_of : {T E : Type 0} (r : Result T E) (P : Type 0) → is_err r ≡ false → OnOk r P → P
ok_of (Ok x) P is on = on
ok_of (Err e) P is on = cc

-- what follows of two facts of what a call returned, or of three of why it was refused
pub both_ok : {T E : Type 0} (r : Result T E) (P Q R : T → Type 0) → IfOk r P → IfOk r Q → ((x : T) → P x → Q x → R x) → IfOk r R
both_ok (Ok x) P Q R p q f = f x p q
both_ok (Err e) P Q R p q f = tt

pub three_err : {T E : Type 0} (r : Result T E) (P Q S R : E → Type 0) → IfErr r P → IfErr r Q → IfErr r S → ((e : E) → P e → Q e → S e → R e) → IfErr r R
three_err (Ok x) P Q S R p q s f = tt
three_err (Err e) P Q S R p q s f = f e p q s

pub of_disk_or_memory : (A : Type 0) (why : OpenFault) → IsOfDisk why → (why ≡ DiskFault → A) → (why ≡ OutOfMemory → A) → A
of_disk_or_memory A (NotAJournal place) refused a b = absurd refused
of_disk_or_memory A (Damaged place) refused a b = absurd refused
of_disk_or_memory A DiskFault refused a b = a refl
of_disk_or_memory A OutOfMemory refused a b = b refl

-- AT A REFUSAL

pub exits_spared : (old : List ℕ → Type 0) (octets : List ℕ) (config : Config) (moment : ℕ) (new : List ℕ → Type 0) → Spared old octets new → Exits old octets config moment new
exits_spared old octets config moment new spared = ⊎_elim (λ a. inl a) (λ b. inr (λ c is. inl (b c is))) spared

-- of a disk that holds a list and nothing else
pub exits_list : (old image : List ℕ → Type 0) (octets new : List ℕ) (config : Config) (moment : ℕ) (list : List Entry) → Only new image → StandsFor new list → StandsFor octets list → Exits old octets config moment image
exits_list old image octets new config moment list only a b = exits_spared old octets config moment image (spared_list octets new old image list only a b)

-- and of one on which the Open was to be written
pub exits_either : (old image : List ℕ → Type 0) (octets : List ℕ) (config : Config) (moment : ℕ) (list : List Entry) (core : History) → StandsFor octets list → IsFit list → core ≡ reverse list →
    ((c : List ℕ) → image c → StandsFor c (written core) ⊎ StandsFor c (written (opened config moment core))) → Exits old octets config moment image
exits_either old image octets config moment list core stands fit same each =
    inr (λ c is.
    ⊎_elim (λ a. inl (same_list c octets list (subst (StandsFor c) (ap written same ∙ fit_written list fit) a) stands))
    (λ b. inr (record { history = opened config moment core; from = opened_so (Unit {0}) octets config moment list core (opened config moment core) (λ t. stands) fit same refl; stands = b }))
    (each c is))
