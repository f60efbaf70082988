-- Records that come one by one.
use Rattle.std.proofs.Common.{◌≡◌, List, ◌∷◌, All, sym}
use Rattle.std.proofs.lemmas.List.Elements.{All-head, All-same, All-rest}
use Rattle.tape.specs.declared.record.TapeRecord.{TapeRecord}
use Rattle.tape.specs.Spelling.{Fits}

pub first_fits : (r : TapeRecord) (rest old : List TapeRecord) → old ≡ r ∷ rest → All Fits old → Fits r
first_fits r rest old is fit = All-head Fits r rest (All-same Fits (r ∷ rest) old (sym is) fit)

pub rest_fits : (r : TapeRecord) (rest old : List TapeRecord) → old ≡ r ∷ rest → All Fits old → All Fits rest
rest_fits r rest old is fit = All-rest Fits r rest old is fit
