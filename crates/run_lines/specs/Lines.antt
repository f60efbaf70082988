-- The lines of what codes and tasks have answered.
use Rattle.std.specs.Prelude.{ℕ, suc, List, [], ◌∷◌, ◌++◌, codes, get_or, Option, Some, None}
use Rattle.std.specs.Fmt.{signed_decimal}
use Rattle.client_core.specs.declared.answered.Answered.{Answered}
use Rattle.client_core.specs.declared.answered.Answered.TheVariants.{Value, Failed}
use Rattle.run_lines.specs.declared.labels.Labels.{Labels}
use Rattle.run_lines.specs.declared.labels.Labels.TheVariants.{Codes, Tasks}

-- ONE LINE

unfoldable pub error_words : List ℕ
error_words = codes "error "

unfoldable pub failed_word : List ℕ
failed_word = codes "failed"

-- a text behind a blank, where there is one
abbrev pub behind_blank : List ℕ → List ℕ
behind_blank [] = []
behind_blank (c ∷ cs) = 32 ∷ c ∷ cs

-- what a code answered: its value, or the name of its error and what that is about
abbrev pub answer_text : Answered → List ℕ
answer_text (Value number) = signed_decimal number
answer_text (Failed ename evalue) = error_words ++ ename ++ behind_blank evalue

-- what a task came to: its value, or that it has none
abbrev pub outcome_text : Answered → List ℕ
outcome_text (Value number) = signed_decimal number
outcome_text (Failed ename evalue) = failed_word

-- the line of an answer, with its line feed; that of a task has its name ahead
abbrev pub line_at : Labels → ℕ → Answered → List ℕ
line_at Codes place answer = answer_text answer ++ 10 ∷ []
line_at (Tasks names) place answer = get_or names place [] ++ 32 ∷ [] ++ outcome_text answer ++ 10 ∷ []

-- LINES

-- the lines of answers one after another, from a place on
abbrev pub lines_from : Labels → ℕ → List Answered → List ℕ
lines_from labels place [] = []
lines_from labels place (answer ∷ answers) = line_at labels place answer ++ lines_from labels (suc place) answers

-- the answers ahead of the first code that hasn't answered
abbrev pub known_front : List (Option Answered) → List Answered
known_front [] = []
known_front (None ∷ answers) = []
known_front (Some answer ∷ answers) = answer ∷ known_front answers
