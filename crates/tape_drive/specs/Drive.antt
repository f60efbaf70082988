-- What a tape is served with: a history, and output records.
use Rattle.std.specs.Prelude.{ℕ, ◌+◌, List, [], ◌∷◌, ◌++◌, length, map, Option, Some, None, option_map}
use Rattle.cluster_types.specs.declared.config.Scheme.{Scheme}
use Rattle.cluster_types.specs.declared.entry.Entry.TheVariants.{Input}
use Rattle.cluster_types.specs.declared.entry.Input.{Input as InputType}
use Rattle.cluster_types.specs.declared.entry.Input.TheVariants.{Open}
use Rattle.cluster_defs.specs.Histories.{History, decide_all}
use Rattle.cluster_core.specs.declared.size.HistorySize.{HistorySize}
use Rattle.tape_drive.specs.declared.drive.TapeStop.{TapeStop}
use Rattle.tape_drive.specs.declared.drive.TapeStop.TheVariants.{BadTape, HistoryFull}
use Rattle.tape.specs.declared.record.TapeRecord.{TapeRecord}
use Rattle.tape.specs.Spelling.{spelled, all_spelled}
use Rattle.tape.specs.Tape.{blank, tape_after, records, fault}
use Rattle.tape_drive.specs.Links.{Link, links_at, links_left}
use Rattle.tape_drive.specs.Rules.{least_after, stop_of}
use Rattle.tape_drive.specs.Inputs.{inputs_of}
use Rattle.tape_drive.specs.Steps.{stepped_all, fitting, full_at}
use Rattle.tape_drive.specs.Sends.{stream_sends, steps_send, sent_at}

-- where a tape has come to: the history, how much may come after its last Open, the connections that are up, in ascending
-- number, the least number that a connection may still have, the place of the next record, and what stops the tape, the
-- first record that breaks a rule or the first step that passes a limit
pub record Stand : Type 0 where
  pub history : History
  pub limits : HistorySize
  pub links : List Link
  pub least : ℕ
  pub at : ℕ
  pub stop : Option TapeStop

-- no record came
abbrev pub started_as : History → HistorySize → Stand
started_as history limits = record { history = history; limits = limits; links = []; least = 0; at = 0; stop = None }

-- the history goes on with an Open of moment 0, and all decisions that are then due
abbrev pub start : History → HistorySize → Scheme → ℕ → ℕ → Stand
start history limits scheme hwm misses = started_as (decide_all (Input (Open 0 scheme hwm misses) ∷ history)) limits

-- ---- one record more

-- the inputs of a record whose steps are made
abbrev pub inputs_made : List ℕ → Stand → TapeRecord → List InputType
inputs_made key s r = fitting s.limits s.history (inputs_of key s.links r)

-- a record that keeps the rules
abbrev pub goes_on : List ℕ → Stand → TapeRecord → Stand
goes_on key s r = record {
  history = stepped_all s.history (inputs_made key s r);
  limits = s.limits;
  links = links_left (links_at s.links r.kind) r.kind;
  least = least_after s.least r.kind;
  at = s.at + length (spelled r);
  stop = option_map HistoryFull (full_at s.limits s.history (inputs_of key s.links r));
}

abbrev pub halts : Stand → ℕ → Stand
halts s place = record s { stop = Some (BadTape place) }

abbrev pub served_as : List ℕ → Stand → TapeRecord → Option ℕ → Stand
served_as key s r None = goes_on key s r
served_as key s r (Some place) = halts s place

abbrev pub served_from : List ℕ → Stand → TapeRecord → Option TapeStop → Stand
served_from key s r None = served_as key s r (stop_of s.links s.least s.at r)
served_from key s r (Some stop) = s

-- behind a record that breaks a rule, and behind a step that passes a limit, nothing is served
abbrev pub served : List ℕ → Stand → TapeRecord → Stand
served key s r = served_from key s r s.stop

-- ---- what is sent

-- the octets of its stream come before what its inputs send
abbrev pub sends : List ℕ → Stand → TapeRecord → List TapeRecord
sends key s r =
    map (sent_at r.moment) (stream_sends s.links r.kind ++ steps_send key (links_at s.links r.kind) s.history (inputs_made key s r))

abbrev pub outs_as : List ℕ → Stand → TapeRecord → Option ℕ → List TapeRecord
outs_as key s r None = sends key s r
outs_as key s r (Some place) = []

abbrev pub outs_from_stand : List ℕ → Stand → TapeRecord → Option TapeStop → List TapeRecord
outs_from_stand key s r None = outs_as key s r (stop_of s.links s.least s.at r)
outs_from_stand key s r (Some stop) = []

abbrev pub outs : List ℕ → Stand → TapeRecord → List TapeRecord
outs key s r = outs_from_stand key s r s.stop

-- ---- a whole tape

abbrev pub stand_at : List ℕ → Stand → List TapeRecord → Stand
stand_at key s [] = s
stand_at key s (r ∷ rs) = stand_at key (served key s r) rs

abbrev pub outputs : List ℕ → Stand → List TapeRecord → List TapeRecord
outputs key s [] = []
outputs key s (r ∷ rs) = outs key s r ++ outputs key (served key s r) rs

-- the stand behind a tape
abbrev pub drive_stand : List ℕ → Stand → List ℕ → Stand
drive_stand key s octets = stand_at key s (records blank octets)

-- the octets that a tape is answered with
abbrev pub drive_output : List ℕ → Stand → List ℕ → List ℕ
drive_output key s octets = all_spelled (outputs key s (records blank octets))

abbrev pub first_of : Option TapeStop → Option TapeStop → Option TapeStop
first_of (Some stop) other = Some stop
first_of None other = other

-- what stops a tape: the first record that breaks a rule or step that passes a limit, or else what is no whole record
abbrev pub drive_stop : List ℕ → Stand → List ℕ → Option TapeStop
drive_stop key s octets = first_of (drive_stand key s octets).stop (option_map BadTape (fault (tape_after blank octets)))
