-- How an end is told.
use Rattle.std.proofs.Common.{◌≡◌, ℕ, Option, Some, None}
use Rattle.std.specs.Prelude.{IfSome}
use Rattle.command_words.specs.Lines.{standing_status}
use Rattle.command_words.specs.declared.ending.StandingEnding.{StandingEnding}

-- what holds of the end of a command, with a status and what was said
pub ends_as : {C S : Type 0} (o : Option C) (P : C → StandingEnding × S → Type 0) (result : StandingEnding × S) (status : ℕ) (Says : StandingEnding → Type 0) →
    status ≡ standing_status result.0 → Says result.0 → IfSome o (λ k. P k result) → IfSome o (λ k. (e : StandingEnding) × (status ≡ standing_status e) × Says e × P k (e, result.1))
ends_as None P result status Says is says ended = tt
ends_as (Some k) P result status Says is says ended = (result.0, is, says, ended)
