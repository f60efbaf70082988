-- A list of entries as steps: an input with the decisions behind it.
use Rattle.std.specs.Prelude.{◌≡◌, ◌≤◌, ℕ, Bool, true, false, if◌then◌else◌, List, [], ◌∷◌, ◌++◌, length, All}
use Rattle.cluster_types.specs.declared.entry.Entry.{Entry}
use Rattle.cluster_types.specs.declared.entry.Entry.TheVariants.{Input}
use Rattle.record_codec.specs.Records.{spellings}

abbrev pub is_input : Entry → Bool
is_input (Input input) = true
is_input _ = false

-- the steps of entries of which some are in the first one: it takes the decisions that come next, and so does each behind it
abbrev pub steps_from : List Entry → List Entry → List (List Entry)
steps_from step [] = step ∷ []
steps_from step (e ∷ list) = if is_input e then step ∷ steps_from (e ∷ []) list else steps_from (step ++ e ∷ []) list

-- the steps of a list; decisions before its first input are a step too
abbrev pub steps : List Entry → List (List Entry)
steps [] = []
steps (e ∷ list) = steps_from (e ∷ []) list

-- the most octets that the records of a step have
abbrev pub most_in_step : ℕ
most_in_step = 2147483648

abbrev pub IsShortStep : List Entry → Type 0
IsShortStep step = length (spellings step) ≤ most_in_step

abbrev pub HasShortSteps : List Entry → Type 0
HasShortSteps list = All IsShortStep (steps list)

-- no entry is left, or an input comes next
abbrev pub BeginsStep : List Entry → Type 0
BeginsStep [] = Unit {0}
BeginsStep (e ∷ list) = is_input e ≡ true

-- a list begins with these entries, which end with a step
pub record EndsStep (list front : List Entry) : Type 0 where
  pub rest : List Entry
  pub parts : list ≡ front ++ rest
  pub begins : BeginsStep rest
