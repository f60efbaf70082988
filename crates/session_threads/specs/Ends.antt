-- How sessions end.
use Rattle.std.specs.Prelude.{◌≡◌, ◌≤◌, ⊤, true}
use Rattle.cluster_types.specs.Causes.{Rose}
use Rattle.cluster_core.specs.Size.{is_past}
use Rattle.controller_desk.specs.declared.fault.ActError.{ActError}
use Rattle.controller_desk.specs.declared.fault.ActError.TheVariants.{TooManyConnections}
use Rattle.controller_desk.specs.declared.fault.ActError.TheVariants as refusals
use Rattle.history_lock.specs.declared.known.View.{View}
use Rattle.link_messages.specs.declared.end.SessionEnd.{SessionEnd}
use Rattle.link_messages.specs.declared.end.SessionEnd.TheVariants.{Ended, Closed, LinkFault, ZmtpFault, HistoryFull, Reopen, OutOfMemory}
use Rattle.controller_desk.specs.Contents.{fulls_seen, failed_seen, limits_seen}

-- the ends of a writing session
abbrev pub EndsWriting : SessionEnd → Type 0
EndsWriting Closed = ⊤
EndsWriting LinkFault = ⊤
EndsWriting OutOfMemory = ⊤
EndsWriting _ = ⊥

-- the end of a session at a step that is refused
abbrev pub IsEndOf : ActError → SessionEnd → Type 0
IsEndOf TooManyConnections end = ⊥
IsEndOf refusals.Reopen end = end ≡ Reopen
IsEndOf (refusals.HistoryFull entries bytes) end = end ≡ HistoryFull entries bytes
IsEndOf refusals.OutOfMemory end = end ≡ OutOfMemory

-- the ends of a session at a message that can't be entered
abbrev pub EndsHearing : SessionEnd → Type 0
EndsHearing Closed = ⊤
EndsHearing (HistoryFull entries bytes) = ⊤
EndsHearing Reopen = ⊤
EndsHearing OutOfMemory = ⊤
EndsHearing _ = ⊥

-- the ends of a session that come with its stream: its end, its fault, or that of the link
abbrev pub EndsStream : SessionEnd → Type 0
EndsStream Ended = ⊤
EndsStream LinkFault = ⊤
EndsStream (ZmtpFault fault) = ⊤
EndsStream _ = ⊥

-- what is left of an end of a stream where the connection can't be taken down: why it can't
abbrev pub KeepsEnd : SessionEnd → SessionEnd → Type 0
KeepsEnd end Ended = end ≡ Ended
KeepsEnd end LinkFault = end ≡ LinkFault
KeepsEnd end (ZmtpFault fault) = end ≡ ZmtpFault fault
KeepsEnd end Closed = end ≡ Closed
KeepsEnd end _ = ⊤

-- the end of a session whose connection can't be taken down: why, where its stream had ended
abbrev pub IsRefusedEnd : SessionEnd → ActError → SessionEnd → Type 0
IsRefusedEnd Ended error result = IsEndOf error result
IsRefusedEnd LinkFault error result = IsEndOf error result
IsRefusedEnd (ZmtpFault fault) error result = IsEndOf error result
IsRefusedEnd Closed error result = result ≡ Closed
IsRefusedEnd (HistoryFull entries bytes) error result = result ≡ HistoryFull entries bytes
IsRefusedEnd Reopen error result = result ≡ Reopen
IsRefusedEnd OutOfMemory error result = result ≡ OutOfMemory

-- Why the desk ended a session, by what the pass had seen before and what it has seen at the end: a step would have passed
-- the limits, which was counted; or a call of the disk failed.
abbrev pub HasDeskCause : SessionEnd → View → View → Type 0
HasDeskCause (HistoryFull entries bytes) old new =
    Rose (fulls_seen old.seen) (fulls_seen new.seen) × (is_past (limits_seen old.seen) (record { entries = entries; bytes = bytes }) ≡ true)
HasDeskCause Reopen old new = 1 ≤ failed_seen new.seen
HasDeskCause _ old new = ⊤
