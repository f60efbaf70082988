-- Records that are served one after another.
use Rattle.std.proofs.Common.{◌≡◌, ℕ, ◌+◌, ◌<◌, get_or, List, ◌∷◌, ◌++◌, length, drop, sym, ap, ◌∙◌, append_assoc}
use Rattle.std.proofs.lemmas.List.{at_drop_more}
use Rattle.std.proofs.lemmas.List.Concat.{flat_map-append}
use Rattle.tape.specs.declared.record.TapeRecord.{TapeRecord}
use Rattle.tape.specs.Spelling.{spelled, all_spelled}
use Rattle.tape_drive.specs.Drive.{Stand, served, outs, outputs, stand_at}

-- what one record sends, and the records after it
pub written_cons : (key : List ℕ) (h : Stand) (e : TapeRecord) (es : List TapeRecord) → all_spelled (outputs key h (e ∷ es)) ≡ all_spelled (outs key h e) ++ all_spelled (outputs key (served key h e) es)
written_cons key h e es = flat_map-append spelled (outs key h e) (outputs key (served key h e) es)

step_written : (key : List ℕ) (h new : Stand) (list : List TapeRecord) (i : ℕ) (e : TapeRecord) → i < length list → e ≡ get_or list i e → new ≡ served key h e
    → all_spelled (outputs key h (drop i list)) ≡ all_spelled (outs key h e) ++ all_spelled (outputs key new (drop (i + 1) list))
step_written key h new list i e lt is now =
    at_drop_more (λ (es : List TapeRecord). all_spelled (outputs key h es)) list i e lt
    ∙ ap (λ (x : TapeRecord). all_spelled (outputs key h (x ∷ drop (i + 1) list))) (sym is)
    ∙ written_cons key h e (drop (i + 1) list)
    ∙ ap (λ (k : Stand). all_spelled (outs key h e) ++ all_spelled (outputs key k (drop (i + 1) list))) (sym now)

-- a loop over records goes on by one
pub step_stand : (key : List ℕ) (h new : Stand) (list : List TapeRecord) (i : ℕ) (e : TapeRecord) → i < length list → e ≡ get_or list i e → new ≡ served key h e
    → stand_at key new (drop (i + 1) list) ≡ stand_at key h (drop i list)
step_stand key h new list i e lt is now =
    ap (λ (k : Stand). stand_at key k (drop (i + 1) list)) now
    ∙ sym (ap (λ (x : TapeRecord). stand_at key h (x ∷ drop (i + 1) list)) (sym is))
    ∙ sym (at_drop_more (stand_at key h) list i e lt)

pub step_text : (key : List ℕ) (h new : Stand) (list : List TapeRecord) (i : ℕ) (e : TapeRecord) (before after : List ℕ) → i < length list → e ≡ get_or list i e → new ≡ served key h e
    → after ≡ before ++ all_spelled (outs key h e)
    → after ++ all_spelled (outputs key new (drop (i + 1) list)) ≡ before ++ all_spelled (outputs key h (drop i list))
step_text key h new list i e before after lt is now text =
    ap (λ (xs : List ℕ). xs ++ all_spelled (outputs key new (drop (i + 1) list))) text
    ∙ append_assoc before (all_spelled (outs key h e)) (all_spelled (outputs key new (drop (i + 1) list)))
    ∙ ap (λ (xs : List ℕ). before ++ xs) (sym (step_written key h new list i e lt is now))
