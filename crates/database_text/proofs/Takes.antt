-- Which entries the first batch takes.
use Rattle.std.proofs.Common.{◌≡◌, ℕ, suc, ◌+◌, ◌<◌, ◌≤◌, Bool, true, false, List, [], ◌∷◌, ◌++◌, length, get_or, take, drop, refl, sym, ap, subst, ◌∙◌, append_assoc, arith, length-append}
use Rattle.std.specs.Prelude.{All, if◌then◌else◌}
use Rattle.std.specs.List.{flat_map}
use Rattle.std.proofs.lemmas.Bool.{le-leb, lt-leb}
use Rattle.std.proofs.lemmas.Grind.{flat_map-append}
use Rattle.std.proofs.lemmas.List.{append-nil, take_more, take_all, drop_all}
use Rattle.std.proofs.lemmas.List.Elements.{All-cons, All-head, All-tail}
use Rattle.std.proofs.Math.Seq.{drop-cons}
use Rattle.cluster_types.specs.declared.entry.Entry.{Entry}
use Rattle.record_codec.specs.Spelling.{spelling}
use Rattle.record_codec.specs.Records.{spellings}
use Rattle.database_text.specs.Compact.{most_octets, has_room, batches_from, batches, open_batch, FitsBatch, HasJournal}

-- so many entries are in the first batch, and those behind them may be
abbrev pub Takes : List Entry → ℕ → Type 0
Takes list place = batches list ≡ batches_from (take place list) (drop place list)

pub takes_one : (list : List Entry) → 0 < length list → Takes list 1
takes_one [] lt = absurd (omega arith)
takes_one (e ∷ es) lt = refl

module _ (list : List Entry) (place : ℕ) (e : Entry) (lt : place < length list) (at : e ≡ get_or list place e) where
  next : drop place list ≡ e ∷ drop (place + 1) list
  next =
      let step : suc place ≡ place + 1 = omega arith in
      drop-cons list place e lt ∙ ap (λ (x : Entry). x ∷ drop (suc place) list) (sym at) ∙ ap (λ (n : ℕ). e ∷ drop n list) step

  front : take (place + 1) list ≡ take place list ++ e ∷ []
  front = take_more list place e lt ∙ ap (λ (x : Entry). take place list ++ x ∷ []) (sym at)

  pub size_more : length (spellings (take (place + 1) list)) ≡ length (spellings (take place list)) + length (spelling e)
  size_more =
      ap (λ (es : List Entry). length (spellings es)) front ∙ ap length (flat_map-append spelling (take place list) (e ∷ [])) ∙ length-append (spellings (take place list)) (spellings (e ∷ []))
      ∙ ap (λ (n : ℕ). length (spellings (take place list)) + n) (ap length (append-nil (spelling e)))

  -- another entry goes into it
  pub takes_more : Takes list place → length (spellings (take (place + 1) list)) ≤ most_octets → Takes list (place + 1)
  takes_more so_far le =
      let yes : has_room (take place list) e ≡ true = le-leb _ _ (rw (sym (ap (λ (es : List Entry). length (spellings es)) front)) le) in
      so_far ∙ ap (λ (es : List Entry). batches_from (take place list) es) next ∙ ap (λ (b : Bool). if b then batches_from (take place list ++ e ∷ []) (drop (place + 1) list) else take place list ∷ batches_from (e ∷ []) (drop (place + 1) list)) yes
      ∙ ap (λ (es : List Entry). batches_from es (drop (place + 1) list)) (sym front)

  -- the next one doesn't
  pub takes_no_more : Takes list place → most_octets < length (spellings (take (place + 1) list)) → batches list ≡ take place list ∷ batches (drop place list)
  takes_no_more so_far gt =
      let no : has_room (take place list) e ≡ false = lt-leb _ _ (rw (sym (ap (λ (es : List Entry). length (spellings es)) front)) gt) in
      so_far ∙ ap (λ (es : List Entry). batches_from (take place list) es) next ∙ ap (λ (b : Bool). if b then batches_from (take place list ++ e ∷ []) (drop (place + 1) list) else take place list ∷ batches_from (e ∷ []) (drop (place + 1) list)) no
      ∙ ap (λ (es : List Entry). take place list ∷ batches es) (sym next)

-- no entry is left
pub takes_all : (list : List Entry) (place : ℕ) → length list ≤ place → Takes list place → batches list ≡ take (length list) list ∷ batches (drop (length list) list)
takes_all list place le so_far =
    let all : take place list ≡ list = take_all place list le in
    let whole : take (length list) list ≡ list = take_all (length list) list (omega arith) in
    let none : drop place list ≡ [] = drop_all place list le in
    let nothing : drop (length list) list ≡ [] = drop_all (length list) list (omega arith) in
    rw (so_far, all, whole, none, nothing) refl

-- ---- the first batch, and those behind it

module _ (rest batch behind : List Entry) (n : ℕ) (is : batches rest ≡ take n rest ∷ batches (drop n rest)) (front_is : batch ≡ take n rest) (behind_is : behind ≡ drop n rest) where
  parted : batches rest ≡ batch ∷ batches behind
  parted = is ∙ ap (λ (es : List Entry). es ∷ batches (drop n rest)) (sym front_is) ∙ ap (λ (es : List Entry). batch ∷ batches es) (sym behind_is)

  pub batch_off : (pending : List ℕ) → pending ++ flat_map open_batch (batches rest) ≡ (pending ++ open_batch batch) ++ flat_map open_batch (batches behind)
  batch_off pending = ap (λ (bs : List (List Entry)). pending ++ flat_map open_batch bs) parted ∙ sym (append_assoc pending (open_batch batch) (flat_map open_batch (batches behind)))

  pub short_both : FitsBatch batch → HasJournal behind → HasJournal rest
  short_both first others = subst (λ (bs : List (List Entry)). All FitsBatch bs) (sym parted) (All-cons FitsBatch batch (batches behind) first others)

  pub short_first : HasJournal rest → FitsBatch batch
  short_first all = All-head FitsBatch batch (batches behind) (subst (λ (bs : List (List Entry)). All FitsBatch bs) parted all)

  pub short_rest : HasJournal rest → HasJournal behind
  short_rest all = All-tail FitsBatch batch (batches behind) (subst (λ (bs : List (List Entry)). All FitsBatch bs) parted all)
