-- A tape, served, is moves of a life.
use Rattle.std.proofs.Common.{◌≡◌, ℕ, List, [], ◌∷◌, Option, Some, None, refl, sym, subst}
use Rattle.cluster_defs.specs.Histories.{History}
use Rattle.cluster_defs.specs.Lives.{World}
use Rattle.cluster_store.specs.Worlds.{world_after}
use Rattle.tape.specs.declared.record.TapeRecord.{TapeRecord}
use Rattle.tape_drive.specs.declared.drive.TapeStop.{TapeStop}
use Rattle.tape_drive.specs.Drive.{Stand, served, served_as, served_from, stand_at}
use Rattle.tape_drive.specs.Inputs.{inputs_of}
use Rattle.tape_drive.specs.Rules.{stop_of}
use Rattle.tape_drive.specs.Served.{inputs_where, inputs_taken}
use Rattle.tape_drive.specs.Steps.{fitting, stepped_all}
use Rattle.tape_drive.specs.Sent.{IsAtRest, GoesOn, record_outs, tape_outs}
use Rattle.tape_drive.proofs.Going.{goes_on, goes_nowhere}
use Rattle.tape_drive.proofs.NoOpens.{taken_none, fitting_none}
use Rattle.tape_drive.proofs.Stepping.{inputs_go}

-- the history behind a record is that behind its inputs whose steps fit
pub served_is : (key : List ℕ) (s : Stand) (r : TapeRecord) → (served key s r).history ≡ stepped_all s.history (fitting s.limits s.history (inputs_taken key s r))
served_is key s r = from s.stop
  where
    by : (place : Option ℕ) → (served_as key s r place).history ≡ stepped_all s.history (fitting s.limits s.history (inputs_where None place (inputs_of key s.links r)))
    by None = refl
    by (Some place) = refl

    from : (stop : Option TapeStop) → (served_from key s r stop).history ≡ stepped_all s.history (fitting s.limits s.history (inputs_where stop (stop_of s.links s.least s.at r) (inputs_of key s.links r)))
    from None = by (stop_of s.links s.least s.at r)
    from (Some stop) = refl

record_goes : (key : List ℕ) (w : World) (s : Stand) (r : TapeRecord) → w.history ≡ s.history → IsAtRest w → GoesOn w (served key s r).history (record_outs key s r)
record_goes key w s r is rests =
    subst (λ (h : History). GoesOn w h (record_outs key s r)) (sym (served_is key s r))
    (inputs_go w s.history (fitting s.limits s.history (inputs_taken key s r)) is rests (fitting_none s.limits s.history (inputs_taken key s r) (taken_none key s r)))

pub tape_goes : (key : List ℕ) (w : World) (s : Stand) (tape : List TapeRecord) → w.history ≡ s.history → IsAtRest w → GoesOn w (stand_at key s tape).history (tape_outs key s tape)
tape_goes key w s [] is rests = goes_nowhere w s.history is rests
tape_goes key w s (r ∷ rs) is rests =
    let g = record_goes key w s r is rests in
    goes_on w (served key s r).history (stand_at key (served key s r) rs).history (record_outs key s r) (tape_outs key (served key s r) rs) g
    (tape_goes key (world_after w g.moves) (served key s r) rs g.history_is g.rests)
