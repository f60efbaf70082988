-- Records that are written one by one.
use Rattle.std.proofs.Common.{◌≡◌, ℕ, List, ◌∷◌, ◌++◌, All, sym, ap, ◌∙◌, append_assoc}
use Rattle.std.proofs.lemmas.List.Elements.{All-head, All-same, All-rest}
use Rattle.tape.specs.declared.record.TapeRecord.{TapeRecord}
use Rattle.tape.specs.Spelling.{Fits, spelled, all_spelled}

pub first_fits : (r : TapeRecord) (rest old : List TapeRecord) → old ≡ r ∷ rest → All Fits old → Fits r
first_fits r rest old is fit = All-head Fits r rest (All-same Fits (r ∷ rest) old (sym is) fit)

pub rest_fits : (r : TapeRecord) (rest old : List TapeRecord) → old ≡ r ∷ rest → All Fits old → All Fits rest
rest_fits r rest old is fit = All-rest Fits r rest old is fit

pub spelled_more : (written whole : List ℕ) (r : TapeRecord) (rest old : List TapeRecord) → old ≡ r ∷ rest → written ++ all_spelled old ≡ whole
    → (written ++ spelled r) ++ all_spelled rest ≡ whole
spelled_more written whole r rest old is so =
    append_assoc written (spelled r) (all_spelled rest) ∙ ap (λ (rs : List TapeRecord). written ++ all_spelled rs) (sym is) ∙ so
