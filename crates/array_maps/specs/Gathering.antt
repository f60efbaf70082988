-- Codes that are sent over a client, and what they answered.
use Rattle.std.specs.Prelude.{◌≡◌, ◌≤◌, ◌<◌, ◌+◌, ℕ, List, [], ◌∷◌, length, replicate, map, Bool, Option, Some, None, is_some, bytes_eq, if◌then◌else◌, option_and_then, slice_get}
use Rattle.std.specs.List.{list_all}
use Rattle.cluster_types.specs.declared.message.Message.{Message}
use Rattle.client_core.specs.declared.answered.Answered.{Answered}
use Rattle.client_core.specs.declared.submissions.Submission.{Submission}
use Rattle.client_core.specs.declared.took.Took.{Took}
use Rattle.client_core.specs.declared.took.Took.TheVariants.{Settled, Other, Stranger}
use Rattle.client_core.specs.Answers.{answered}
use Rattle.client_core.specs.Metadata.{plain_meta}
use Rattle.client_core.specs.Numbers.{numbered_id}

-- SENDING

-- the task of a code, which asks for nothing else
abbrev pub plain_submission : List ℕ → Submission
plain_submission code = record { code = code; meta = plain_meta }

abbrev pub plain_submissions : List (List ℕ) → List Submission
plain_submissions codes = map plain_submission codes

-- GATHERING

-- the number of the first code, and what each code answered, where it did
pub record Gathering : Type 0 where
  pub first : ℕ
  pub answers : List (Option Answered)

-- with no answer yet
abbrev pub awaited : ℕ → ℕ → Gathering
awaited first count = record { first = first; answers = replicate count None }

-- with an answer at the code that has an id, where codes have the ids of numbers from one on
abbrev pub answers_with : ℕ → List (Option Answered) → List ℕ → Answered → List (Option Answered)
answers_with number [] id answer = []
answers_with number (old ∷ answers) id answer =
    if bytes_eq id (numbered_id number) then Some answer ∷ answers else old ∷ answers_with (number + 1) answers id answer

abbrev pub with_answer : Gathering → List ℕ → Answered → Gathering
with_answer g id answer = record g { answers = answers_with g.first g.answers id answer }

-- what an outcome answers is kept at its code; any other message changes nothing
abbrev pub gathered_after : Gathering → Message → Took → Gathering
gathered_after g message (Settled id ok) = with_answer g id (answered message.content)
gathered_after g message Other = g
gathered_after g message Stranger = g

-- what the code at a place answered, where it did
abbrev pub answer_at : Gathering → ℕ → Option Answered
answer_at g place = option_and_then (λ answer. answer) (slice_get g.answers place)

-- whether each code answered
abbrev pub is_whole : Gathering → Bool
is_whole g = list_all is_some g.answers

-- PLACES

-- a text is the id of none of these many numbers from a first one on
abbrev pub IsNoneOf : ℕ → ℕ → List ℕ → Type 0
IsNoneOf first count id = (number : ℕ) → first ≤ number → number < first + count → id ≡ numbered_id number → ⊥
