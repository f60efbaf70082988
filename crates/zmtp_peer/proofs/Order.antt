-- The order of what a peer's stream gives: octets to send and the identity come before all messages.
use Rattle.std.proofs.Common.{◌≡◌, ℕ, Bool, true, false, List, [], ◌∷◌, ◌++◌, length, Option, Some, None, refl, sym, ap, ◌∙◌}
use Rattle.std.specs.Prelude.{◌==◌, if◌then◌else◌}
use Rattle.std.proofs.lemmas.Option.{none-some}
use Rattle.zmtp_frames.specs.declared.frame.Frame.{Frame}
use Rattle.zmtp_frames.specs.declared.fault.FrameFault.{FrameFault}
use Rattle.zmtp_frames.specs.declared.command.Command.{Command}
use Rattle.zmtp_frames.specs.declared.command.Command.TheVariants.{Ready, Error, Other}
use Rattle.zmtp_frames.specs.Stream.{Reading, step, begun_at, fault_at}
use Rattle.zmtp_frames.specs.Greeting.{greeting_fault}
use Rattle.zmtp_frames.specs.Command.{command_of}
use Rattle.zmtp_peer.specs.declared.fault.PeerFault.{PeerFault}
use Rattle.zmtp_peer.specs.declared.fault.PeerFault.TheVariants.{BadCommand, BadSocketType, NoReady, PeerError}
use Rattle.zmtp_peer.specs.declared.phase.Phase.{Phase}
use Rattle.zmtp_peer.specs.declared.phase.Phase.TheVariants.{Greeting, Handshake, Traffic, Ended}
use Rattle.zmtp_peer.specs.declared.phase.Gave.{Gave}
use Rattle.zmtp_peer.specs.PeerStream.{Talk, begins, talk, hear_as, heard, shaken, refusal, parts_after, listed, begun_fault, first_fault, ended_by, greeting_phase, is_served, talked, sent, identity, or_later, messages}

-- behind the handshake
abbrev pub IsShaken : Phase → Type 0
IsShaken Traffic = Unit {0}
IsShaken (Ended fault) = Unit {0}
IsShaken _ = ⊥

-- before the end of the handshake
abbrev pub IsEarly : Phase → Type 0
IsEarly Traffic = ⊥
IsEarly _ = Unit {0}

-- with an identity the handshake is done
abbrev pub IfReady : Option (List ℕ) → Phase → Type 0
IfReady (Some identity) phase = IsShaken phase
IfReady None phase = IsEarly phase

abbrev at : Phase → List ℕ → Reading → List (List ℕ) → Talk
at phase greeting reader parts = record { phase = phase; greeting = greeting; reader = reader; parts = parts }

ended_quiet : (phase : Phase) (o : Option PeerFault) → IsShaken phase → IsShaken (ended_by phase o)
ended_quiet phase None quiet = quiet
ended_quiet phase (Some fault) quiet = tt

ended_early : (phase : Phase) (o : Option PeerFault) → IsEarly phase → IsEarly (ended_by phase o)
ended_early phase None early = early
ended_early phase (Some fault) early = tt

-- AN OCTET BEHIND THE HANDSHAKE

abbrev QuietGives : Talk × Gave → Type 0
QuietGives s = (s.1.send ≡ []) × (s.1.ready ≡ None) × IsShaken s.0.phase

traffic_gives : (greeting : List ℕ) (reader next : Reading) (parts : List (List ℕ)) (o : Option Frame) →
    QuietGives (hear_as (at Traffic greeting reader parts) next (heard Traffic parts o) (parts_after Traffic parts o))
traffic_gives greeting reader next parts None =
    (refl, refl, ended_quiet Traffic (first_fault (fault_at next.stage) (begun_fault Traffic (parts_after Traffic parts None) (begun_at next.stage))) tt)
traffic_gives greeting reader next parts (Some f) =
    (refl, refl, ended_quiet Traffic (first_fault (fault_at next.stage) (begun_fault Traffic (parts_after Traffic parts (Some f)) (begun_at next.stage))) tt)

quiet_step : (phase : Phase) (greeting : List ℕ) (reader : Reading) (parts : List (List ℕ)) (x : ℕ) → IsShaken phase → QuietGives (talk (at phase greeting reader parts) x)
quiet_step Greeting greeting reader parts x quiet = absurd quiet
quiet_step Handshake greeting reader parts x quiet = absurd quiet
quiet_step Traffic greeting reader parts x quiet = traffic_gives greeting reader (step reader x).0 parts (step reader x).1
quiet_step (Ended fault) greeting reader parts x quiet = (refl, refl, tt)

pub quiet_gives : (t : Talk) (xs : List ℕ) → IsShaken t.phase → (sent t xs ≡ []) × (identity t xs ≡ None)
quiet_gives t [] quiet = (refl, refl)
quiet_gives t (x ∷ xs) quiet =
    let s : QuietGives (talk t x) = quiet_step t.phase t.greeting t.reader t.parts x quiet in
    let rest = quiet_gives (talk t x).0 xs s.2 in (
      ap (λ (send : List ℕ). send ++ sent (talk t x).0 xs) s.0 ∙ rest.0,
      ap (λ (ready : Option (List ℕ)). or_later ready (identity (talk t x).0 xs)) s.1 ∙ rest.1,
    )

quiet_stays : (t : Talk) (xs : List ℕ) → IsShaken t.phase → IsShaken (talked t xs).phase
quiet_stays t [] quiet = quiet
quiet_stays t (x ∷ xs) quiet =
    let s : QuietGives (talk t x) = quiet_step t.phase t.greeting t.reader t.parts x quiet in
    quiet_stays (talk t x).0 xs s.2

-- AN OCTET BEFORE ITS END

abbrev EarlyGives : Talk × Gave → Type 0
EarlyGives s = (s.1.message ≡ None) × IfReady s.1.ready s.0.phase

either_gives : (b : Bool) (p q : Talk × Gave) → EarlyGives p → EarlyGives q → EarlyGives (if b then p else q)
either_gives true p q a b = a
either_gives false p q a b = b

greeting_early : (o : Option FrameFault) → IsEarly (greeting_phase o)
greeting_early None = tt
greeting_early (Some fault) = tt

quietly : (greeting : List ℕ) (reader next : Reading) (parts now : List (List ℕ)) (phase : Phase) → IsEarly phase →
    EarlyGives (hear_as (at Handshake greeting reader parts) next (record { phase = phase; send = []; ready = None; message = None }) now)
quietly greeting reader next parts now phase early =
    (refl, ended_early phase (first_fault (fault_at next.stage) (begun_fault phase now (begun_at next.stage))) early)

either_ready : (greeting : List ℕ) (reader next : Reading) (parts now : List (List ℕ)) (at_place : ℕ) (identity : List ℕ) (b : Bool) →
    EarlyGives (hear_as (at Handshake greeting reader parts) next (if b then record { phase = Traffic; send = []; ready = Some identity; message = None } else record { phase = Ended (BadSocketType at_place); send = refusal; ready = None; message = None }) now)
either_ready greeting reader next parts now at_place identity true =
    (refl, ended_quiet Traffic (first_fault (fault_at next.stage) (begun_fault Traffic now (begun_at next.stage))) tt)
either_ready greeting reader next parts now at_place identity false =
    (refl, ended_early (Ended (BadSocketType at_place)) (first_fault (fault_at next.stage) (begun_fault (Ended (BadSocketType at_place)) now (begun_at next.stage))) tt)

shaken_gives : (greeting : List ℕ) (reader next : Reading) (parts now : List (List ℕ)) (place : ℕ) (c : Option Command) →
    EarlyGives (hear_as (at Handshake greeting reader parts) next (shaken place c) now)
shaken_gives greeting reader next parts now place None = quietly greeting reader next parts now (Ended (BadCommand place)) tt
shaken_gives greeting reader next parts now place (Some Other) = quietly greeting reader next parts now (Ended (NoReady place)) tt
shaken_gives greeting reader next parts now place (Some (Error reason)) = quietly greeting reader next parts now (Ended (PeerError place)) tt
shaken_gives greeting reader next parts now place (Some (Ready props)) = either_ready greeting reader next parts now place _ (is_served props.socket_type)

handshake_gives : (greeting : List ℕ) (reader next : Reading) (parts : List (List ℕ)) (o : Option Frame) →
    EarlyGives (hear_as (at Handshake greeting reader parts) next (heard Handshake parts o) (parts_after Handshake parts o))
handshake_gives greeting reader next parts None = quietly greeting reader next parts parts Handshake tt
handshake_gives greeting reader next parts (Some f) = shaken_gives greeting reader next parts parts f.at (command_of f.body)

early_step : (phase : Phase) (greeting : List ℕ) (reader : Reading) (parts : List (List ℕ)) (x : ℕ) → IsEarly phase → EarlyGives (talk (at phase greeting reader parts) x)
early_step Greeting greeting reader parts x early =
    either_gives (length greeting == 63) _ _ (refl, greeting_early (greeting_fault (greeting ++ x ∷ []))) (refl, tt)
early_step Handshake greeting reader parts x early = handshake_gives greeting reader (step reader x).0 parts (step reader x).1
early_step Traffic greeting reader parts x early = absurd early
early_step (Ended fault) greeting reader parts x early = (refl, tt)

-- once there is an identity, the handshake is done
said_quiet : (t : Talk) (xs i : List ℕ) (ready : Option (List ℕ)) → IfReady ready t.phase → or_later ready (identity t xs) ≡ Some i → IsShaken (talked t xs).phase
said_quiet t xs i (Some j) quiet is = quiet_stays t xs quiet
said_quiet t [] i None early is = absurd (none-some _ is)
said_quiet t (x ∷ xs) i None early is =
    let s : EarlyGives (talk t x) = early_step t.phase t.greeting t.reader t.parts x early in
    said_quiet (talk t x).0 xs i (talk t x).1.ready s.1 is

pub with_identity : (octets i : List ℕ) → identity begins octets ≡ Some i → IsShaken (talked begins octets).phase
with_identity octets i is = said_quiet begins octets i None tt is

-- before there is one, no message came
unsaid_silent : (t : Talk) (xs : List ℕ) (ready : Option (List ℕ)) → IfReady ready t.phase → or_later ready (identity t xs) ≡ None → messages t xs ≡ []
unsaid_silent t xs (Some j) quiet is = absurd (none-some _ (sym is))
unsaid_silent t [] None early is = refl
unsaid_silent t (x ∷ xs) None early is =
    let s : EarlyGives (talk t x) = early_step t.phase t.greeting t.reader t.parts x early in
    ap (λ (m : Option (List (List ℕ))). listed m ++ messages (talk t x).0 xs) s.0 ∙ unsaid_silent (talk t x).0 xs (talk t x).1.ready s.1 is

pub without_identity : (octets : List ℕ) → identity begins octets ≡ None → messages begins octets ≡ []
without_identity octets is = unsaid_silent begins octets None tt is
