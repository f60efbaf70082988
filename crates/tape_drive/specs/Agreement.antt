-- Definitions of one thing in two places, which agree.
use Rattle.std.specs.Prelude.{◌≡◌, ◌≤◌, ℕ, List, [], ◌∷◌, ◌++◌, length, map, Some, Ok, false}
use Rattle.std.specs.List.{flat_map}
use Rattle.cluster_types.specs.declared.config.Channel.{Channel}
use Rattle.cluster_defs.specs.Histories.{History}
use Rattle.cluster_defs.specs.Lives.{sendings_to}
use Rattle.cluster_defs.specs.Outs.{outs_to}
use Rattle.cluster_core.specs.Steps.{kept_from}
use Rattle.cluster_store.specs.Stores.{up_to, written}
use Rattle.tape.specs.declared.record.TapeRecord.{TapeRecord}
use Rattle.tape.specs.Reading.{record_at}
use Rattle.tape.specs.Spelling.{spelled, Fits}
use Rattle.tape_drive.specs.Links.{Link, new_link, heard}
use Rattle.zmtp_peer.specs.PeerStream.{begins, talked}

-- the outs to a connection since the last Open are those that a life may send to it, in their order
abbrev pub OutsAreSendings : Type 0
OutsAreSendings = (history : History) (conn : ℕ) → map (λ s. s.1) (sendings_to history conn) ≡ outs_to history conn

-- what is kept from a place on stands behind what is kept before it
abbrev pub KeptIsWritten : Type 0
KeptIsWritten = (at : ℕ) (history : History) → at ≤ length history → written (up_to at history) ++ kept_from at history ≡ written history

-- a record of a tape is read as this record, whatever follows it
abbrev pub RecordIsRead : Type 0
RecordIsRead = (r : TapeRecord) (rest : List ℕ) → Fits r → record_at (spelled r ++ rest) ≡ Ok (r, rest)

-- a link on which pieces came, one after another
abbrev pub heard_all : List (List ℕ) → Link → Link
heard_all [] link = link
heard_all (piece ∷ pieces) link = heard_all pieces (heard piece link)

-- what pieces tell on a link is what all their octets tell
abbrev pub TalkIsStream : Type 0
TalkIsStream = (conn : ℕ) (channel : Channel) (pieces : List (List ℕ)) → (heard_all pieces (new_link conn channel false)).talk ≡ Some (talked begins (flat_map (λ piece. piece) pieces))
