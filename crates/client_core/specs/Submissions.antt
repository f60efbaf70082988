-- Lists of tasks that are submitted under the ids of numbers.
use Rattle.std.specs.Prelude.{◌≡◌, ◌≤◌, ℕ, ◌+◌, Bool, List, [], ◌∷◌, length, Result, Ok, Err, if◌then◌else◌}
use Rattle.std.specs.List.{list_all, list_any}
use Rattle.cluster_types.specs.declared.message.Message.{Message}
use Rattle.cluster_defs.specs.Submit.{read_submit}
use Rattle.client_core.specs.declared.error.SubmitError.{SubmitError}
use Rattle.client_core.specs.declared.error.SubmitError.TheVariants.{KnownId}
use Rattle.client_core.specs.declared.submissions.Submission.{Submission}
use Rattle.client_core.specs.Clients.{Known, Used, is_used, with_id}
use Rattle.client_core.specs.Limits.{is_within_limits}
use Rattle.client_core.specs.Messages.{task_request, meta_once}
use Rattle.client_core.specs.Numbers.{numbered, numbered_ids}
use Rattle.client_core.specs.Sending.{message_of}

-- each task keeps to the limits of its readers
abbrev pub are_within : List Submission → Bool
are_within submissions = list_all (λ s. is_within_limits s.meta) submissions

-- the messages of tasks under the ids of numbers, from a first one on
abbrev pub messages_of : Known → ℕ → ℕ → List Submission → List Message
messages_of client moment number [] = []
messages_of client moment number (s ∷ submissions) =
    message_of client (numbered number) moment (task_request s.meta s.code) ∷ messages_of client moment (number + 1) submissions

-- tasks are sent unless one of their ids was used, apart from want of memory
abbrev pub sent_all : Known → ℕ → ℕ → List Submission → Result (List Message) SubmitError
sent_all client first moment submissions =
    if list_any (is_used client.used) (numbered_ids first (length submissions)) then Err KnownId
    else Ok (messages_of client moment first submissions)

-- with ids more, one after another
abbrev pub with_ids : Used → List (List ℕ) → Used
with_ids used [] = used
with_ids used (id ∷ ids) = with_ids (with_id used id) ids

-- a client that used the ids of these many numbers more, from a first one on
abbrev pub after_numbers : Known → ℕ → ℕ → Known
after_numbers client first count = record client { used = with_ids client.used (numbered_ids first count) }

-- a client that used the first of these ids more
abbrev pub HasFront : Known → ℕ → ℕ → Known → Type 0
HasFront old first count new = (n : ℕ) × (n ≤ count) × (new ≡ after_numbers old first n)

-- the metadata of each message is read as that of its task, with each id of a dependency once
abbrev pub AreReadBack : List Message → List Submission → Type 0
AreReadBack [] [] = Unit {0}
AreReadBack (message ∷ messages) (s ∷ submissions) = (read_submit message.metadata ≡ Ok (meta_once s.meta)) × AreReadBack messages submissions
AreReadBack [] (s ∷ submissions) = ⊥
AreReadBack (message ∷ messages) [] = ⊥
