-- Where a list isn't the primary's.
use Rattle.std.proofs.Common.{◌≡◌, ℕ, zero, suc, ◌+◌, ◌<◌, ◌≤◌, List, [], ◌∷◌, ◌++◌, length, get_or, take, drop, refl, sym, ap, ◌∙◌, arith, Some, None, length-append}
use Rattle.std.specs.Prelude.{slice_get}
use Rattle.std.proofs.lemmas.List.{take_more, take_all, take-append-drop}
use Rattle.std.proofs.lemmas.Option.{slice_get_past, slice_get_read}
use Rattle.std.proofs.Math.Seq.{drop-append_seam}
use Rattle.cluster_types.specs.declared.entry.Entry.{Entry}
use Rattle.record_codec.specs.Spelling.{spelling, HasRecord}
use Rattle.record_codec.proofs.Again.{one_spelling}
use Rattle.journal_standby.specs.Standbys.{BeginsWith, DivergesAt, lacking}

-- entries with one record are one
pub same_record : (a b : Entry) → HasRecord a → HasRecord b → spelling a ≡ spelling b → a ≡ b
same_record a b x y same = (one_spelling a b [] [] x y (ap (λ (s : List ℕ). s ++ []) same)).0

an_entry : (list : List Entry) (place : ℕ) → place < length list → (e : Entry) × (slice_get list place ≡ Some e)
an_entry [] place lt = absurd (omega arith)
an_entry (e ∷ list) zero lt = (e, refl)
an_entry (e ∷ list) (suc place) lt = an_entry list place (omega (arith, lt))

module _ (list primary : List Entry) (place : ℕ) (same : take place list ≡ take place primary) where
  -- the primary's list ends
  pub ends : place < length list → length primary ≤ place → DivergesAt list primary place
  ends lt le =
      let here = an_entry list place lt in
      let past : slice_get primary place ≡ None = slice_get_past primary place le in
      record { same = same; within = lt; differ = λ is. cc (here.1, past, is) }

  module _ (a b : Entry) (lt : place < length list) (within : place < length primary) (at : a ≡ get_or list place a) (to : b ≡ get_or primary place b) where
    -- another entry stands there
    pub differs : (a ≡ b → ⊥) → DivergesAt list primary place
    differs not =
        let mine : slice_get list place ≡ Some a = slice_get_read list (length list) place a refl lt at in
        let theirs : slice_get primary place ≡ Some b = slice_get_read primary (length primary) place b refl within to in
        record { same = same; within = lt; differ = λ is. not (cc (mine, theirs, is)) }

    -- the same one does
    pub same_more : a ≡ b → take (place + 1) list ≡ take (place + 1) primary
    same_more is =
        let mine : take (place + 1) list ≡ take place list ++ a ∷ [] = take_more list place a lt ∙ ap (λ (e : Entry). take place list ++ e ∷ []) (sym at) in
        let theirs : take (place + 1) primary ≡ take place primary ++ b ∷ [] = take_more primary place b within ∙ ap (λ (e : Entry). take place primary ++ e ∷ []) (sym to) in
        mine ∙ ap (λ (es : List Entry). es ++ a ∷ []) same ∙ ap (λ (e : Entry). take place primary ++ e ∷ []) is ∙ sym theirs

  -- all of the list does
  pub begins : length list ≤ place → BeginsWith primary list
  begins le =
      let whole : take place list ≡ list = take_all place list le in
      record { more = drop place primary; parts = sym (take-append-drop place primary) ∙ ap (λ (es : List Entry). es ++ drop place primary) (sym same ∙ whole) }

-- what a primary's list has behind a front
pub lacks : (list primary : List Entry) → BeginsWith primary list → list ++ lacking list primary ≡ primary
lacks list primary begins = ap (λ (es : List Entry). list ++ drop (length list) es) begins.parts ∙ ap (λ (es : List Entry). list ++ es) (drop-append_seam list begins.more) ∙ sym begins.parts

pub lacks_count : (list primary : List Entry) → BeginsWith primary list → length list + length (lacking list primary) ≡ length primary
lacks_count list primary begins = sym (length-append list (lacking list primary)) ∙ ap length (lacks list primary begins)
