-- Worked texts.
use Rattle.std.proofs.Common.{◌≡◌, ℕ, List, [], ◌∷◌, Ok, Err, refl}
use Rattle.std.specs.Prelude.{codes}
use Rattle.std.specs.List.{join_with_byte}
use Rattle.job_graph.specs.declared.task.JobTask.{JobTask}
use Rattle.job_graph.specs.declared.error.JobError.TheVariants.{BadLine, DuplicateName, UnknownName, Empty}
use Rattle.job_graph.specs.Jobs.{job_of}

-- lines with line feeds between them
abbrev lines : List (List ℕ) → List ℕ
lines texts = join_with_byte 10 texts

-- a task that waits for others, and is tried once
abbrev waiting : List ℕ → List (List ℕ) → List ℕ → JobTask
waiting name names code = record { name = name; after = names; follow = []; retries = 0; code = code }

four_tasks :
    job_of (lines (codes "a : 6*7" ∷ codes "b after a : 1+1" ∷ codes "c after a,b : 1/0" ∷ codes "d after c : 1" ∷ []))
    ≡ Ok (waiting (codes "a") [] (codes "6*7") ∷ waiting (codes "b") (codes "a" ∷ []) (codes "1+1") ∷ waiting (codes "c") (codes "a" ∷ codes "b" ∷ []) (codes "1/0") ∷ waiting (codes "d") (codes "c" ∷ []) (codes "1") ∷ [])
four_tasks = refl

every_part :
    job_of (lines (codes "a : 1" ∷ [] ∷ codes "b after a follow a retries 10 : x : y" ∷ []))
    ≡ Ok (waiting (codes "a") [] (codes "1") ∷ record { name = codes "b"; after = codes "a" ∷ []; follow = codes "a" ∷ []; retries = 10; code = codes "x : y" } ∷ [])
every_part = refl

unknown_name : job_of (codes "b after z : 1") ≡ Err (UnknownName 1)
unknown_name = refl

empty_text : job_of [] ≡ Err Empty
empty_text = refl

no_code : job_of (codes "a :") ≡ Err (BadLine 1)
no_code = refl

empty_code : job_of (codes "a : ") ≡ Ok (waiting (codes "a") [] [] ∷ [])
empty_code = refl

duplicate_first : job_of (lines (codes "a : 1" ∷ codes "a after z : 1" ∷ [])) ≡ Err (DuplicateName 2)
duplicate_first = refl

twice_listed : job_of (lines (codes "a : 1" ∷ codes "a after z,z : 1" ∷ [])) ≡ Err (BadLine 2)
twice_listed = refl
