use Rattle.std.proofs.Common.{◌≡◌, ◌++◌, ◌∷◌, ℕ, List, Bool, map, take, flat_map, string_bytes}
use Rattle.cluster_types.specs.declared.record.Record.{Record}
use Rattle.cluster_defs.specs.Texts.{queue_member}
use Rattle.cluster_defs.specs.RecordAnswers.{queue_in}
use Rattle.hub_queries.specs.Rows.{row_of}
use Rattle.hub_queries.proofs.queues.push_rows.Given as goal

abbrev pub invariant-loop-row : goal.invariant-loop-row
invariant-loop-row l =
    (verbose : Bool) (records : List Record) (numbers : List ℕ) → l.rows ≡ map (row_of verbose records) numbers
    → string_bytes l.text ≡ string_bytes l.fn.text ++ flat_map (λ n. 44 ∷ queue_member verbose (queue_in records n)) (take l.row-index numbers)
