-- What a tape is answered with, as what the life of a cluster sends.
use Rattle.std.specs.Prelude.{◌≡◌, ℕ, List, [], ◌∷◌, ◌++◌, length, map, reverse, Option, Some, None, false}
use Rattle.cluster_types.specs.declared.entry.Entry.TheVariants.{Input}
use Rattle.cluster_types.specs.declared.entry.Input.{Input as InputType}
use Rattle.cluster_types.specs.declared.out.Out.{Out}
use Rattle.cluster_defs.specs.Scheduling.{due}
use Rattle.cluster_defs.specs.Histories.{History, facts}
use Rattle.cluster_defs.specs.Lives.{World, Move, Sending, is_open, sendings_to}
use Rattle.cluster_store.specs.Worlds.{MayGo, world_after}
use Rattle.tape.specs.declared.record.TapeRecord.{TapeRecord}
use Rattle.tape.specs.declared.record.TapeKind.{TapeKind}
use Rattle.tape_drive.specs.declared.drive.TapeStop.{TapeStop}
use Rattle.tape_drive.specs.Drive.{Stand, served, outs, stand_at}
use Rattle.tape_drive.specs.Links.{links_at}
use Rattle.tape_drive.specs.Rules.{stop_of}
use Rattle.tape_drive.specs.Sends.{by_connection, stream_sends, out_sent, sent_at}
use Rattle.tape_drive.specs.Served.{inputs_taken}
use Rattle.tape_drive.specs.Steps.{stepped, step_outs, fitting}

-- THE OUTS OF A TAPE

-- the outs of inputs, one after another, those of each in ascending number of their connection
abbrev pub steps_outs : History → List InputType → List Out
steps_outs history [] = []
steps_outs history (input ∷ inputs) = by_connection (step_outs history input) ++ steps_outs (stepped history input) inputs

-- the outs that are sent for a record, none where the tape is stopped before it or by it
abbrev pub record_outs : List ℕ → Stand → TapeRecord → List Out
record_outs key s r = steps_outs s.history (fitting s.limits s.history (inputs_taken key s r))

abbrev pub tape_outs : List ℕ → Stand → List TapeRecord → List Out
tape_outs key s [] = []
tape_outs key s (r ∷ rs) = record_outs key s r ++ tape_outs key (served key s r) rs

-- what is sent for a record that is served, and nothing where the tape is stopped before it or by it
abbrev pub where_served : Option TapeStop → Option ℕ → List TapeKind → List TapeKind
where_served None None kinds = kinds
where_served None (Some place) kinds = []
where_served (Some stop) fault kinds = []

-- the octets of streams that are sent for a record
abbrev pub record_streams : Stand → TapeRecord → List TapeKind
record_streams s r = where_served s.stop (stop_of s.links s.least s.at r) (stream_sends s.links r.kind)

-- what a record is answered with is octets of its stream, and then the frames of these outs
abbrev pub OutputIsFrames : Type 0
OutputIsFrames =
    (key : List ℕ) (s : Stand) (r : TapeRecord) →
    outs key s r ≡ map (sent_at r.moment) (record_streams s r ++ map (out_sent key (links_at s.links r.kind)) (record_outs key s r))

-- THE MOVES OF A LIFE

-- all of a history is safe, all outs were sent, and no decision is due
pub record IsAtRest (w : World) : Type 0 where
  pub safe : w.mark ≡ length w.history
  pub told_all : (conn : ℕ) → w.told conn ≡ length (sendings_to w.history conn)
  pub none_due : due (facts w.history) ≡ None
  pub up : w.down ≡ false

-- the outs of what was sent, which stands the newest first, in the order in which they were sent
abbrev pub outs_of : List Sending → List Out
outs_of sent = reverse (map (λ s. s.1) sent)

-- a world has sent these outs after what another had sent
pub record HasSent (old new : World) (outs : List Out) : Type 0 where
  pub newer : List Sending
  pub sent : new.sent ≡ newer ++ old.sent
  pub outs_are : outs_of newer ≡ outs

-- a life goes on by moves to a history, sends these outs, one after another, and no others, and is at rest
pub record GoesOn (w : World) (history : History) (outs : List Out) : Type 0 where
  pub moves : List Move
  pub may : MayGo w moves
  pub history_is : (world_after w moves).history ≡ history
  pub sends : HasSent w (world_after w moves) outs
  pub rests : IsAtRest (world_after w moves)

-- serving an input is moves of a life: its entries grow, all of it is flushed, and its outs are sent, by connection
abbrev pub ServeIsMoves : Type 0
ServeIsMoves =
    (w : World) (input : InputType) → IsAtRest w → is_open (Input input) ≡ false →
    GoesOn w (stepped w.history input) (by_connection (step_outs w.history input))

-- serving a tape is moves of a life, which sends the outs of the tape
abbrev pub TapeIsMoves : Type 0
TapeIsMoves =
    (key : List ℕ) (w : World) (s : Stand) (tape : List TapeRecord) → w.history ≡ s.history → IsAtRest w →
    GoesOn w (stand_at key s tape).history (tape_outs key s tape)
