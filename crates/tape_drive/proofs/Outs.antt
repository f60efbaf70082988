-- What a record is answered with are frames of outs.
use Rattle.std.proofs.Common.{◌≡◌, ℕ, List, [], ◌∷◌, ◌++◌, map, Option, Some, None, refl, sym, ap, ◌∙◌}
use Rattle.std.proofs.lemmas.List.{map-append}
use Rattle.cluster_types.specs.declared.entry.Input.{Input as InputType}
use Rattle.cluster_defs.specs.Histories.{History}
use Rattle.tape.specs.declared.record.TapeRecord.{TapeRecord}
use Rattle.tape.specs.declared.record.TapeKind.{TapeKind}
use Rattle.tape_drive.specs.declared.drive.TapeStop.{TapeStop}
use Rattle.tape_drive.specs.Drive.{Stand, outs_as, outs_from_stand, outs as answers}
use Rattle.tape_drive.specs.Links.{Link, links_at}
use Rattle.tape_drive.specs.Rules.{stop_of}
use Rattle.tape_drive.specs.Inputs.{inputs_of}
use Rattle.tape_drive.specs.Sends.{by_connection, stream_sends, out_sent, steps_send, sent_at}
use Rattle.tape_drive.specs.Served.{inputs_where}
use Rattle.tape_drive.specs.Steps.{stepped, step_outs, fitting}
use Rattle.tape_drive.specs.Sent.{steps_outs, where_served, record_streams, record_outs}

steps_are : (key : List ℕ) (links : List Link) (history : History) (inputs : List InputType) → steps_send key links history inputs ≡ map (out_sent key links) (steps_outs history inputs)
steps_are key links history [] = refl
steps_are key links history (input ∷ inputs) =
    ap (λ (ks : List TapeKind). map (out_sent key links) (by_connection (step_outs history input)) ++ ks) (steps_are key links (stepped history input) inputs)
    ∙ sym (map-append (out_sent key links) (by_connection (step_outs history input)) (steps_outs (stepped history input) inputs))

pub frames_are : (key : List ℕ) (s : Stand) (r : TapeRecord) →
    answers key s r ≡ map (sent_at r.moment) (record_streams s r ++ map (out_sent key (links_at s.links r.kind)) (record_outs key s r))
frames_are key s r = from s.stop
  where
    from : (stop : Option TapeStop) → outs_from_stand key s r stop ≡ map (sent_at r.moment) (where_served stop (stop_of s.links s.least s.at r) (stream_sends s.links r.kind) ++ map (out_sent key (links_at s.links r.kind)) (steps_outs s.history (fitting s.limits s.history (inputs_where stop (stop_of s.links s.least s.at r) (inputs_of key s.links r)))))
    from None = by (stop_of s.links s.least s.at r)
      where
        by : (place : Option ℕ) → outs_as key s r place ≡ map (sent_at r.moment) (where_served None place (stream_sends s.links r.kind) ++ map (out_sent key (links_at s.links r.kind)) (steps_outs s.history (fitting s.limits s.history (inputs_where None place (inputs_of key s.links r)))))
        by None = ap (λ (ks : List TapeKind). map (sent_at r.moment) (stream_sends s.links r.kind ++ ks)) (steps_are key (links_at s.links r.kind) s.history (fitting s.limits s.history (inputs_of key s.links r)))
        by (Some place) = refl
    from (Some stop) = refl
