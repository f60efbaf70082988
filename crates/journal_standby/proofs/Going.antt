-- How batches are appended one after another.
use Rattle.std.proofs.Common.{◌≡◌, ℕ, ◌+◌, ◌<◌, ◌≤◌, List, [], ◌∷◌, ◌++◌, length, get_or, take, sym, ap, subst, ◌∙◌, ⊎_elim, Bool, true, append_assoc, append-nil}
use Rattle.std.specs.Prelude.{All}
use Rattle.std.proofs.lemmas.Grind.{flat_map-append}
use Rattle.std.proofs.lemmas.List.{take_more, take_all}
use Rattle.cluster_types.specs.declared.entry.Entry.{Entry}
use Rattle.disk_model.specs.Crashes.{Only, LeavesOnly}
use Rattle.record_codec.specs.Spelling.{IsWithinLimits}
use Rattle.task_journal.specs.Journal.{StandsFor}
use Rattle.task_journal.specs.Settled.{Outcome}
use Rattle.task_journal.proofs.Moments.{Going, starts, joined as joined_moments}
use Rattle.journal_standby.specs.Batches.{joined}
use Rattle.journal_standby.specs.Standbys.{HasFirst, KeepsList, IsHeld}

-- the next of some batches
module _ (list : List Entry) (batches : List (List Entry)) (i : ℕ) (batch : List Entry) (lt : i < length batches) (at : batch ≡ get_or batches i batch) where
  joined_more : joined (take (i + 1) batches) ≡ joined (take i batches) ++ batch
  joined_more =
      ap joined (take_more batches i batch lt ∙ ap (λ (b : List Entry). take i batches ++ b ∷ []) (sym at))
      ∙ flat_map-append (λ (b : List Entry). b) (take i batches) (batch ∷ []) ∙ ap (λ (es : List Entry). joined (take i batches) ++ es) (append-nil batch)

  pub stands_more : (octets : List ℕ) → StandsFor octets ((list ++ joined (take i batches)) ++ batch) → StandsFor octets (list ++ joined (take (i + 1) batches))
  stands_more octets is =
      subst (λ (es : List Entry). StandsFor octets es) (append_assoc list (joined (take i batches)) batch ∙ ap (λ (es : List Entry). list ++ es) (sym joined_more)) is

  pub of_outcome : (octets : List ℕ) → Outcome (list ++ joined (take i batches)) batch octets → HasFirst list batches octets
  of_outcome octets is =
      ⊎_elim {C = HasFirst list batches octets} (λ before. record { count = i; stands = before }) (λ behind. record { count = i + 1; stands = stands_more octets behind }) is

-- so many batches were appended, and nothing else is left at any moment
pub record Came {D : Type 0} (content : D → List ℕ) (image : D → List ℕ → Type 0) (moment : D → ℕ) (image_since : D → ℕ → List ℕ → Type 0) (old new : D) (batches : List (List Entry)) (i : ℕ) : Type 0 where
  pub durable : Only (content new) (image new)
  pub stands : (list : List Entry) → StandsFor (content old) list → StandsFor (content new) (list ++ joined (take i batches))
  pub going : (list : List Entry) → StandsFor (content old) list → Going moment image image_since old new (HasFirst list batches)

module _ {D : Type 0} (content : D → List ℕ) (image : D → List ℕ → Type 0) (moment : D → ℕ) (image_since : D → ℕ → List ℕ → Type 0)
    (counts : (disk : D) (t : ℕ) (c : List ℕ) → t ≤ moment disk → image disk c → image_since disk t c)
    (widens : (disk : D) (t u : ℕ) (c : List ℕ) → t ≤ u → u ≤ moment disk → image_since disk u c → image_since disk t c)
    (only_now : (disk : D) (c : List ℕ) → image_since disk (moment disk) c → image disk c) where
  -- what an image has, where there is only the content
  by_content : (disk : D) (list : List Entry) (batches : List (List Entry)) (i : ℕ) → Only (content disk) (image disk) → StandsFor (content disk) (list ++ joined (take i batches)) → (c : List ℕ) → image disk c → HasFirst list batches c
  by_content disk list batches i only stands c is = record { count = i; stands = subst (λ (o : List ℕ). StandsFor o (list ++ joined (take i batches))) (sym (only c is)) stands }

  pub came_none : (old : D) (batches : List (List Entry)) → Only (content old) (image old) → Came content image moment image_since old old batches 0
  came_none old batches only =
      let stands : (list : List Entry) → StandsFor (content old) list → StandsFor (content old) (list ++ joined (take 0 batches)) = λ list is. subst (λ (es : List Entry). StandsFor (content old) es) (sym (append-nil list)) is in
      record {
        durable = only;
        stands = stands;
        going = λ list is. starts moment image image_since counts widens old (HasFirst list batches) (only_now old) (by_content old list batches 0 only (stands list is));
      }

  -- before any of them
  pub nothing : (disk : D) (list : List Entry) (batches : List (List Entry)) → Only (content disk) (image disk) → StandsFor (content disk) list → LeavesOnly moment image_since disk disk (HasFirst list batches)
  nothing disk list batches only is = ((came_none disk batches only).going list is).leaves

  -- what a crash leaves now is what one may have left at some moment
  pub keeps : (old new : D) (list : List Entry) (batches : List (List Entry)) → LeavesOnly moment image_since old new (HasFirst list batches) → KeepsList (image new) list
  keeps old new list batches leaves c is =
      let has = leaves.each c (counts new (moment old) c leaves.later is) in
      (joined (take has.count batches), has.stands)

  module _ (old mid new : D) (batches : List (List Entry)) (i : ℕ) (batch : List Entry) (lt : i < length batches) (at : batch ≡ get_or batches i batch) (so_far : Came content image moment image_since old mid batches i)
      (any_moment : (list : List Entry) → StandsFor (content mid) list → LeavesOnly moment image_since mid new (Outcome list batch)) where
    -- one batch more, however it ends
    pub came_on : (list : List Entry) → StandsFor (content old) list → LeavesOnly moment image_since old new (HasFirst list batches)
    came_on list is =
        joined_moments moment image image_since counts widens old mid new (HasFirst list batches) (Outcome (list ++ joined (take i batches)) batch) (so_far.going list is) (any_moment (list ++ joined (take i batches)) (so_far.stands list is))
        (of_outcome list batches i batch lt at)

    pub came_more : Only (content new) (image new) → ((list : List Entry) → StandsFor (content mid) list → StandsFor (content new) (list ++ batch)) → Came content image moment image_since old new batches (i + 1)
    came_more only appended =
        let stands : (list : List Entry) → StandsFor (content old) list → StandsFor (content new) (list ++ joined (take (i + 1) batches)) = λ list is. stands_more list batches i batch lt at (content new) (appended (list ++ joined (take i batches)) (so_far.stands list is)) in
        record {
          durable = only;
          stands = stands;
          going = λ list is. record { leaves = came_on list is; now = by_content new list batches (i + 1) only (stands list is) };
        }

-- all batches were appended
pub came_all : {D : Type 0} (content : D → List ℕ) (image : D → List ℕ → Type 0) (moment : D → ℕ) (image_since : D → ℕ → List ℕ → Type 0) (old new : D) (batches : List (List Entry)) (i : ℕ) → length batches ≤ i →
    Came content image moment image_since old new batches i → (list : List Entry) → StandsFor (content old) list → StandsFor (content new) (list ++ joined batches)
came_all content image moment image_since old new batches i le came list is = subst (λ (bs : List (List Entry)). StandsFor (content new) (list ++ joined bs)) (take_all i batches le) (came.stands list is)

-- a list that the disk stands for, and nothing else
pub held_whole : (tells : Type 0) (content : List ℕ) (image : List ℕ → Type 0) (failed : Bool) (list : List Entry) → All IsWithinLimits list → (tells → Only content image) → (tells → StandsFor content list) → IsHeld tells content image failed list
held_whole tells content image failed list each only stands = record {
  each = each;
  keeps = λ told c is. ([], subst (λ (es : List Entry). StandsFor c es) (sym (append-nil list)) (subst (λ (o : List ℕ). StandsFor o list) (sym (only told c is)) (stands told)));
  stands = λ told fine. stands told;
}

-- one whose disk failed
pub held_failed : (tells : Type 0) (content : List ℕ) (image : List ℕ → Type 0) (failed : Bool) (list : List Entry) → All IsWithinLimits list → (tells → KeepsList image list) → failed ≡ true → IsHeld tells content image failed list
held_failed tells content image failed list each keeps is = record { each = each; keeps = keeps; stands = λ told fine. cc }
