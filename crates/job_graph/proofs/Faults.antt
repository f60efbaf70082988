-- The first fault of lines, and how many tasks they have.
use Rattle.std.proofs.Common.{◌≡◌, ℕ, ◌+◌, ◌<◌, arith, List, [], ◌∷◌, ◌++◌, length, take, drop, get_or, Some, None, sym, ap, ◌∙◌}
use Rattle.std.specs.List.{cons_option}
use Rattle.std.proofs.lemmas.List.{take_more, drop_more, length-take}
use Rattle.std.proofs.lemmas.List.Elements.{filter_map-append}
use Rattle.cluster_defs.specs.Words.{or_else}
use Rattle.job_graph.specs.declared.error.JobError.{JobError}
use Rattle.job_graph.specs.Lines.{line_task}
use Rattle.job_graph.specs.Jobs.{fault_of, first_fault, tasks_in}

-- the first fault from a line on is the fault of that line, or the first behind it
opened : (lines : List (List ℕ)) (i : ℕ) (line : List ℕ) → i < length lines → get_or lines i line ≡ line →
    first_fault (take i lines) (drop i lines) ≡ or_else (fault_of (i + 1) (tasks_in (take i lines)) line) (first_fault (take (i + 1) lines) (drop (i + 1) lines))
opened lines i line lt is =
    let front : length (take i lines) ≡ i = omega (arith, length-take i lines) in
    let more : take i lines ++ line ∷ [] ≡ take (i + 1) lines = ap (λ x. take i lines ++ x ∷ []) (sym is) ∙ sym (take_more lines i line lt) in
    ap (first_fault (take i lines)) (drop_more lines i line lt ∙ ap (λ x. x ∷ drop (i + 1) lines) is)
    ∙ (λ t. or_else (fault_of (front t + 1) (tasks_in (take i lines)) line) (first_fault (more t) (drop (i + 1) lines)))

-- a line without a fault is passed over
pub passed : (lines : List (List ℕ)) (i : ℕ) (line : List ℕ) → i < length lines → get_or lines i line ≡ line → fault_of (i + 1) (tasks_in (take i lines)) line ≡ None →
    first_fault (take (i + 1) lines) (drop (i + 1) lines) ≡ first_fault (take i lines) (drop i lines)
passed lines i line lt is none = sym (opened lines i line lt is ∙ ap (λ o. or_else o (first_fault (take (i + 1) lines) (drop (i + 1) lines))) none)

-- the fault of a line is the first from it on
pub stopped : (lines : List (List ℕ)) (i : ℕ) (line : List ℕ) (fault : JobError) → i < length lines → get_or lines i line ≡ line → fault_of (i + 1) (tasks_in (take i lines)) line ≡ Some fault →
    first_fault (take i lines) (drop i lines) ≡ Some fault
stopped lines i line fault lt is some = opened lines i line lt is ∙ ap (λ o. or_else o (first_fault (take (i + 1) lines) (drop (i + 1) lines))) some

-- the tasks of one line more
pub tasks_more : (lines : List (List ℕ)) (i : ℕ) (line : List ℕ) → i < length lines → get_or lines i line ≡ line → tasks_in (take i lines) ++ cons_option (line_task line) [] ≡ tasks_in (take (i + 1) lines)
tasks_more lines i line lt is =
    sym (filter_map-append line_task (take i lines) (line ∷ [])) ∙ ap tasks_in (ap (λ x. take i lines ++ x ∷ []) (sym is) ∙ sym (take_more lines i line lt))
