-- Fronts of what is to be written.
use Rattle.std.proofs.Common.{◌≡◌, ℕ, List, [], ◌∷◌, ◌++◌, take, drop, Option, Some, None, refl, sym, ap, ◌∙◌, append_assoc}
use Rattle.std.proofs.lemmas.List.{append-nil, take-append-drop}
use Rattle.std.proofs.lemmas.List.Concat.{flat_map-append}
use Rattle.edges.specs.Streams.{Added, AddedFront}
use Rattle.tape.specs.declared.record.TapeRecord.{TapeRecord}
use Rattle.tape.specs.Spelling.{spelled, all_spelled}
use Rattle.tape_drive.specs.Drive.{Stand, served, outs, outputs, stand_at}

pub outputs_append : (key : List ℕ) (h : Stand) (xs ys : List TapeRecord) → outputs key h (xs ++ ys) ≡ outputs key h xs ++ outputs key (stand_at key h xs) ys
outputs_append key h [] ys = refl
outputs_append key h (x ∷ xs) ys = ap (λ (es : List TapeRecord). outs key h x ++ es) (outputs_append key (served key h x) xs ys) ∙ sym (append_assoc (outs key h x) (outputs key (served key h x) xs) (outputs key (stand_at key (served key h x) xs) ys))

pub stand_append : (key : List ℕ) (h : Stand) (xs ys : List TapeRecord) → stand_at key h (xs ++ ys) ≡ stand_at key (stand_at key h xs) ys
stand_append key h [] ys = refl
stand_append key h (x ∷ xs) ys = stand_append key (served key h x) xs ys

pub written_append : (key : List ℕ) (h : Stand) (xs ys : List TapeRecord) → all_spelled (outputs key h (xs ++ ys)) ≡ all_spelled (outputs key h xs) ++ all_spelled (outputs key (stand_at key h xs) ys)
written_append key h xs ys = ap all_spelled (outputs_append key h xs ys) ∙ flat_map-append spelled (outputs key h xs) (outputs key (stand_at key h xs) ys)
