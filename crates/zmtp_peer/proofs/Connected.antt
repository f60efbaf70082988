-- What is known of a stream that has no fault.
use Rattle.std.proofs.Common.{◌≡◌, ℕ, ◌+◌, ◌-◌, ◌*◌, ◌<◌, Bool, true, false, List, [], ◌∷◌, ◌++◌, length, Option, Some, None, refl, sym, ap, subst, ◌∙◌, append_assoc, arith}
use Rattle.std.specs.Prelude.{◌==◌, if◌then◌else◌}
use Rattle.std.specs.Option.{unwrap_or}
use Rattle.std.proofs.lemmas.Bool.Decides.{nat_tests}
use Rattle.std.proofs.lemmas.Option.{none-some}
use Rattle.std.proofs.lemmas.List.{append-nil, length-append}
use Rattle.zmtp_frames.specs.declared.frame.Frame.{Frame}
use Rattle.zmtp_frames.specs.declared.frame.Begun.{Begun}
use Rattle.zmtp_frames.specs.declared.frame.Stage.{Stage}
use Rattle.zmtp_frames.specs.declared.frame.Stage.TheVariants as stages
use Rattle.zmtp_frames.specs.declared.fault.FrameFault.{FrameFault}
use Rattle.zmtp_frames.specs.declared.command.Props.{Props}
use Rattle.zmtp_frames.specs.declared.command.Command.{Command}
use Rattle.zmtp_frames.specs.declared.command.Command.TheVariants.{Ready, Error, Other}
use Rattle.zmtp_frames.specs.Stream.{Reading, start, step, step_at, reading_after, frames, begun_at, fault_at, sized, whole_at, frame, up}
use Rattle.zmtp_frames.specs.Stream as stream
use Rattle.zmtp_frames.specs.Greeting.{greeting_fault}
use Rattle.zmtp_frames.specs.Command.{command_of}
use Rattle.zmtp_frames.specs.Written.{own_ready}
use Rattle.zmtp_frames.proofs.Pieces.{after_append, frames_append}
use Rattle.zmtp_peer.specs.declared.fault.PeerFault.{PeerFault}
use Rattle.zmtp_peer.specs.declared.fault.PeerFault.TheVariants.{NoReady, BadCommand, BadSocketType, PeerError}
use Rattle.zmtp_peer.specs.declared.phase.Phase.{Phase}
use Rattle.zmtp_peer.specs.declared.phase.Phase.TheVariants.{Greeting, Handshake, Traffic, Ended}
use Rattle.zmtp_peer.specs.declared.phase.Gave.{Gave}
use Rattle.zmtp_peer.specs.PeerStream.{Talk, begins, talk, greet, hear, hear_as, shaken, refusal, parts_after, message_of, listed, begun_fault, first_fault, ended_by, greeting_phase, greeting_answer, is_served, talked, sent, identity, or_later, messages}
use Rattle.zmtp_peer.proofs.Pieces.{or_assoc}
use Rattle.zmtp_peer.specs.Connection.{IsConnection, grouped, ungrouped}

-- ---- frames and messages, one more

grouped_more : (parts : List (List ℕ)) (fs : List Frame) (f : Frame) → grouped parts (fs ++ f ∷ []) ≡ grouped parts fs ++ listed (message_of (ungrouped parts fs) f)
grouped_more parts [] f = append-nil (listed (message_of parts f))
grouped_more parts (g ∷ gs) f =
    ap (λ (ms : List (List (List ℕ))). listed (message_of parts g) ++ ms) (grouped_more (parts_after Traffic parts (Some g)) gs f)
    ∙ sym (append_assoc (listed (message_of parts g)) (grouped (parts_after Traffic parts (Some g)) gs) (listed (message_of (ungrouped (parts_after Traffic parts (Some g)) gs) f)))

ungrouped_more : (parts : List (List ℕ)) (fs : List Frame) (f : Frame) → ungrouped parts (fs ++ f ∷ []) ≡ parts_after Traffic (ungrouped parts fs) (Some f)
ungrouped_more parts [] f = refl
ungrouped_more parts (g ∷ gs) f = ungrouped_more (parts_after Traffic parts (Some g)) gs f

frames_more : (first r next : Reading) (rest : List ℕ) (x : ℕ) (o : Option Frame) → r ≡ reading_after first rest → step r x ≡ (next, o) → frames first (rest ++ x ∷ []) ≡ frames first rest ++ stream.listed o
frames_more first r next rest x o is does =
    frames_append first rest (x ∷ [])
    ∙ ap (λ (s : Reading). frames first rest ++ frames s (x ∷ [])) (sym is)
    ∙ ap (λ (s : Reading × Option Frame). frames first rest ++ (stream.listed s.1 ++ [])) does
    ∙ ap (λ (fs : List Frame). frames first rest ++ fs) (append-nil (stream.listed o))

after_more : (first r next : Reading) (rest : List ℕ) (x : ℕ) (o : Option Frame) → r ≡ reading_after first rest → step r x ≡ (next, o) → next ≡ reading_after first (rest ++ x ∷ [])
after_more first r next rest x o is does =
    sym (after_append first rest (x ∷ []) ∙ ap (λ (s : Reading). (step s x).0) (sym is) ∙ ap (λ (s : Reading × Option Frame). s.0) does)

-- ---- a whole frame was begun

-- the frame, if one is whole, is a command where what was begun is one
abbrev IsCommandAs : Option Begun → Option Frame → Type 0
IsCommandAs begun None = Unit {0}
IsCommandAs None (Some f) = ⊥
IsCommandAs (Some b) (Some f) = f.command ≡ b.command

either_as : (begun : Option Begun) (b : Bool) (p q : Reading × Option Frame) → IsCommandAs begun p.1 → IsCommandAs begun q.1 → IsCommandAs begun (if b then p else q).1
either_as begun true p q first other = first
either_as begun false p q first other = other

either_whole : (begun : Option Begun) (b : Bool) (o n : Option Frame) → IsCommandAs begun o → IsCommandAs begun n → IsCommandAs begun (if b then o else n)
either_whole begun true o n first other = first
either_whole begun false o n first other = other

command_as : (stage : Stage) (place : ℕ) (body : List ℕ) (x : ℕ) → IsCommandAs (begun_at stage) (step_at stage place body x).1
command_as stages.Between place body x = tt
command_as (stages.Sizing head left size) place body x =
    either_as (begun_at (stages.Sizing head left size)) (left == 1)
    (record { place = up place; stage = sized head (256 * size + x); body = body }, whole_at head (256 * size + x))
    (record { place = up place; stage = stages.Sizing head (left - 1) (256 * size + x); body = body }, None)
    (either_whole (begun_at (stages.Sizing head left size)) (256 * size + x == 0) (Some (frame head [])) None refl tt) tt
command_as (stages.Filling head size left) place body x =
    either_as (begun_at (stages.Filling head size left)) (left == 1)
    (record { place = up place; stage = stages.Between; body = [] }, Some (frame head (body ++ x ∷ [])))
    (record { place = up place; stage = stages.Filling head size (left - 1); body = body ++ x ∷ [] }, None) refl tt
command_as (stages.Ended fault b) place body x = tt

command_from : (c : Bool) (fault : PeerFault) → (if c then None else Some fault) ≡ None → c ≡ true
command_from true fault e = refl
command_from false fault e = absurd (none-some fault (sym e))

-- in the handshake without a fault, what is begun is a command
begun_command : (parts : List (List ℕ)) (begun : Option Begun) (o : Option Frame) (f : Frame) → begun_fault Handshake parts begun ≡ None → IsCommandAs begun o → o ≡ Some f → f.command ≡ true
begun_command parts None o f fine is e = absurd (subst (λ (p : Option Frame). IsCommandAs None p) e is)
begun_command parts (Some b) o f fine is e = subst (λ (p : Option Frame). IsCommandAs (Some b) p) e is ∙ command_from b.command (NoReady b.at) fine

-- ---- what is known, by the phase

-- the greeting isn't whole
pub record IsGreeting (octets : List ℕ) (t : Talk) (send : List ℕ) (id : Option (List ℕ)) (ms : List (List (List ℕ))) : Type 0 where
  pub greeting-is : t.greeting ≡ octets
  pub short : length octets < 64
  pub parts-are : t.parts ≡ []
  pub reader-is : t.reader ≡ start 64
  pub sends : send ≡ []
  pub identity-is : id ≡ None
  pub messages-are : ms ≡ []

-- the greeting is whole, and no frame is; what is begun is a command
pub record IsHandshake (octets : List ℕ) (t : Talk) (send : List ℕ) (id : Option (List ℕ)) (ms : List (List (List ℕ))) : Type 0 where
  pub greeting : List ℕ
  pub rest : List ℕ
  pub octets-are : octets ≡ greeting ++ rest
  pub whole : length greeting ≡ 64
  pub fine : greeting_fault greeting ≡ None
  pub frames-are : frames (start 64) rest ≡ []
  pub command : begun_fault Handshake [] (begun_at t.reader.stage) ≡ None
  pub parts-are : t.parts ≡ []
  pub reader-is : t.reader ≡ reading_after (start 64) rest
  pub sends : send ≡ own_ready
  pub identity-is : id ≡ None
  pub messages-are : ms ≡ []

abbrev Known : Phase → List ℕ → Talk → List ℕ → Option (List ℕ) → List (List (List ℕ)) → Type 0
Known Greeting octets t send id ms = IsGreeting octets t send id ms
Known Handshake octets t send id ms = IsHandshake octets t send id ms
Known Traffic octets t send id ms = IsConnection octets t send id ms
Known (Ended fault) octets t send id ms = Unit {0}

-- what one octet makes of it
abbrev Next : List ℕ → List ℕ → Option (List ℕ) → List (List (List ℕ)) → Talk × Gave → Type 0
Next octets send id ms s = Known s.0.phase octets s.0 (send ++ s.1.send) (or_later id s.1.ready) (ms ++ listed s.1.message)

-- a fault ends it
ends : (P : Phase → Type 0) (phase : Phase) (o : Option PeerFault) → (o ≡ None → P phase) → ((fault : PeerFault) → P (Ended fault)) → P (ended_by phase o)
ends P phase None f g = f refl
ends P phase (Some fault) f g = g fault

no_fault : (frame : Option FrameFault) (o : Option PeerFault) → first_fault frame o ≡ None → o ≡ None
no_fault None o e = e
no_fault (Some fault) o e = absurd (none-some _ (sym e))

or_nothing : (id : Option (List ℕ)) → or_later id None ≡ id
or_nothing (Some id) = refl
or_nothing None = refl

same_octets : (octets greeting rest : List ℕ) (x : ℕ) → octets ≡ greeting ++ rest → octets ++ x ∷ [] ≡ greeting ++ (rest ++ x ∷ [])
same_octets octets greeting rest x e = ap (λ (xs : List ℕ). xs ++ x ∷ []) e ∙ append_assoc greeting rest (x ∷ [])

-- ---- an octet of the greeting

greeting_came : (octets greeting : List ℕ) (x : ℕ) (reader : Reading) (parts : List (List ℕ)) (send : List ℕ) (id : Option (List ℕ)) (ms : List (List (List ℕ))) (o : Option FrameFault)
    → length (octets ++ x ∷ []) ≡ 64 → greeting ≡ octets ++ x ∷ [] → greeting_fault greeting ≡ o → parts ≡ [] → reader ≡ start 64 → send ≡ [] → id ≡ None → ms ≡ []
    → Next (octets ++ x ∷ []) send id ms (record { phase = greeting_phase o; greeting = greeting; reader = reader; parts = parts }, record { send = greeting_answer o; ready = None; message = None })
greeting_came octets greeting x reader parts send id ms None whole g-is fine p-is r-is s-is i-is m-is = record {
  greeting = greeting;
  rest = [];
  octets-are = sym g-is ∙ sym (append-nil greeting);
  whole = ap length g-is ∙ whole;
  fine = fine;
  frames-are = refl;
  command = rw r-is refl;
  parts-are = p-is;
  reader-is = r-is;
  sends = ap (λ (xs : List ℕ). xs ++ own_ready) s-is;
  identity-is = rw i-is refl;
  messages-are = rw m-is refl;
}
greeting_came octets greeting x reader parts send id ms (Some fault) whole g-is fine p-is r-is s-is i-is m-is = tt

either_greets : (octets send : List ℕ) (id : Option (List ℕ)) (ms : List (List (List ℕ))) (b : Bool) (p q : Talk × Gave) → (b ≡ true → Next octets send id ms p) → (b ≡ false → Next octets send id ms q) → Next octets send id ms (if b then p else q)
either_greets octets send id ms true p q f g = f refl
either_greets octets send id ms false p q f g = g refl

is_63 : (n : ℕ) → (n == 63) ≡ true → n ≡ 63
is_63 n e = grind (arith, nat_tests)

not_63 : (n : ℕ) → (n == 63) ≡ false → n < 64 → n < 63
not_63 n e lt = grind (arith, nat_tests)

in_greeting : (octets : List ℕ) (x : ℕ) (t : Talk) (send : List ℕ) (id : Option (List ℕ)) (ms : List (List (List ℕ))) → IsGreeting octets t send id ms → Next (octets ++ x ∷ []) send id ms (greet t x)
in_greeting octets x t send id ms k =
    let more : length (octets ++ x ∷ []) ≡ length octets + 1 = length-append octets (x ∷ []) in
    let g-is : t.greeting ++ x ∷ [] ≡ octets ++ x ∷ [] = ap (λ (xs : List ℕ). xs ++ x ∷ []) k.greeting-is in
    let same : length t.greeting ≡ length octets = ap length k.greeting-is in
    either_greets (octets ++ x ∷ []) send id ms (length t.greeting == 63) _ _
    (λ h. let n = is_63 (length t.greeting) h in greeting_came octets (t.greeting ++ x ∷ []) x t.reader t.parts send id ms (greeting_fault (t.greeting ++ x ∷ [])) (omega (arith, more, same, n)) g-is refl k.parts-are k.reader-is k.sends k.identity-is k.messages-are)
    (λ h. let n = not_63 (length t.greeting) h (omega (arith, same, k.short)) in record {
      greeting-is = g-is;
      short = omega (arith, more, same, n);
      parts-are = k.parts-are;
      reader-is = k.reader-is;
      sends = append-nil send ∙ k.sends;
      identity-is = rw k.identity-is refl;
      messages-are = append-nil ms ∙ k.messages-are;
    })

-- ---- an octet of the handshake

abbrev at_handshake : List ℕ → Reading → List (List ℕ) → Talk
at_handshake greeting reader parts = record { phase = Handshake; greeting = greeting; reader = reader; parts = parts }

abbrev at_traffic : List ℕ → Reading → List (List ℕ) → Talk
at_traffic greeting reader parts = record { phase = Traffic; greeting = greeting; reader = reader; parts = parts }

-- the phase that a faultless frame leads to, or a fault
ends_as : (octets : List ℕ) (greeting : List ℕ) (next : Reading) (parts : List (List ℕ)) (send : List ℕ) (id : Option (List ℕ)) (ms : List (List (List ℕ))) (phase : Phase) (o : Option PeerFault)
    → (o ≡ None → Known phase octets (record { phase = phase; greeting = greeting; reader = next; parts = parts }) send id ms)
    → Known (ended_by phase o) octets (record { phase = ended_by phase o; greeting = greeting; reader = next; parts = parts }) send id ms
ends_as octets greeting next parts send id ms phase o f =
    ends (λ (p : Phase). Known p octets (record { phase = p; greeting = greeting; reader = next; parts = parts }) send id ms) phase o f (λ fault. tt)

-- no frame is whole with it
still : (octets : List ℕ) (x : ℕ) (greeting : List ℕ) (r next : Reading) (parts : List (List ℕ)) (send : List ℕ) (id : Option (List ℕ)) (ms : List (List (List ℕ))) → IsHandshake octets (at_handshake greeting r parts) send id ms → step r x ≡ (next, None)
    → Next (octets ++ x ∷ []) send id ms (hear (at_handshake greeting r parts) (next, None))
still octets x greeting r next parts send id ms k does =
    ends_as (octets ++ x ∷ []) greeting next parts (send ++ []) (or_later id None) (ms ++ []) Handshake (first_fault (fault_at next.stage) (begun_fault Handshake parts (begun_at next.stage)))
    (λ e. record {
      greeting = k.greeting;
      rest = k.rest ++ x ∷ [];
      octets-are = same_octets octets k.greeting k.rest x k.octets-are;
      whole = k.whole;
      fine = k.fine;
      frames-are = frames_more (start 64) r next k.rest x None k.reader-is does ∙ append-nil (frames (start 64) k.rest) ∙ k.frames-are;
      command = subst (λ (p : List (List ℕ)). begun_fault Handshake p (begun_at next.stage) ≡ None) k.parts-are (no_fault (fault_at next.stage) (begun_fault Handshake parts (begun_at next.stage)) e);
      parts-are = k.parts-are;
      reader-is = after_more (start 64) r next k.rest x None k.reader-is does;
      sends = append-nil send ∙ k.sends;
      identity-is = rw k.identity-is refl;
      messages-are = append-nil ms ∙ k.messages-are;
    })

-- it ends a READY
ready_came : (octets : List ℕ) (x : ℕ) (greeting : List ℕ) (r next : Reading) (parts : List (List ℕ)) (send : List ℕ) (id : Option (List ℕ)) (ms : List (List (List ℕ))) (f : Frame) (props : Props) (b : Bool)
    → IsHandshake octets (at_handshake greeting r parts) send id ms → step r x ≡ (next, Some f) → command_of f.body ≡ Some (Ready props) → is_served props.socket_type ≡ b
    → Next (octets ++ x ∷ []) send id ms (hear_as (at_handshake greeting r parts) next (if b then record { phase = Traffic; send = []; ready = Some (unwrap_or props.identity []); message = None } else record { phase = Ended (BadSocketType f.at); send = refusal; ready = None; message = None }) parts)
ready_came octets x greeting r next parts send id ms f props true k does ready served =
    ends_as (octets ++ x ∷ []) greeting next parts (send ++ []) (or_later id (Some (unwrap_or props.identity []))) (ms ++ []) Traffic (first_fault (fault_at next.stage) (begun_fault Traffic parts (begun_at next.stage)))
    (λ e. record {
      greeting = k.greeting;
      rest = k.rest ++ x ∷ [];
      octets-are = same_octets octets k.greeting k.rest x k.octets-are;
      whole = k.whole;
      fine = k.fine;
      first = f;
      others = [];
      frames-are = frames_more (start 64) r next k.rest x (Some f) k.reader-is does ∙ ap (λ (fs : List Frame). fs ++ f ∷ []) k.frames-are;
      is-command = begun_command [] (begun_at r.stage) (Some f) f k.command (subst (λ (s : Reading × Option Frame). IsCommandAs (begun_at r.stage) s.1) does (command_as r.stage r.place r.body x)) refl;
      props = props;
      is-ready = ready;
      served = served;
      sends = append-nil send ∙ k.sends;
      identity-is = rw k.identity-is refl;
      messages-are = append-nil ms ∙ k.messages-are;
      parts-are = k.parts-are;
      reader-is = after_more (start 64) r next k.rest x (Some f) k.reader-is does;
    })
ready_came octets x greeting r next parts send id ms f props false k does ready served =
    ends_as (octets ++ x ∷ []) greeting next parts (send ++ refusal) (or_later id None) (ms ++ []) (Ended (BadSocketType f.at)) (first_fault (fault_at next.stage) (begun_fault (Ended (BadSocketType f.at)) parts (begun_at next.stage))) (λ e. tt)

-- it ends the first frame
first_came : (octets : List ℕ) (x : ℕ) (greeting : List ℕ) (r next : Reading) (parts : List (List ℕ)) (send : List ℕ) (id : Option (List ℕ)) (ms : List (List (List ℕ))) (f : Frame) (c : Option Command)
    → IsHandshake octets (at_handshake greeting r parts) send id ms → step r x ≡ (next, Some f) → command_of f.body ≡ c
    → Next (octets ++ x ∷ []) send id ms (hear_as (at_handshake greeting r parts) next (shaken f.at c) parts)
first_came octets x greeting r next parts send id ms f None k does is =
    ends_as (octets ++ x ∷ []) greeting next parts (send ++ []) (or_later id None) (ms ++ []) (Ended (BadCommand f.at)) (first_fault (fault_at next.stage) (begun_fault (Ended (BadCommand f.at)) parts (begun_at next.stage))) (λ e. tt)
first_came octets x greeting r next parts send id ms f (Some Other) k does is =
    ends_as (octets ++ x ∷ []) greeting next parts (send ++ []) (or_later id None) (ms ++ []) (Ended (NoReady f.at)) (first_fault (fault_at next.stage) (begun_fault (Ended (NoReady f.at)) parts (begun_at next.stage))) (λ e. tt)
first_came octets x greeting r next parts send id ms f (Some (Error reason)) k does is =
    ends_as (octets ++ x ∷ []) greeting next parts (send ++ []) (or_later id None) (ms ++ []) (Ended (PeerError f.at)) (first_fault (fault_at next.stage) (begun_fault (Ended (PeerError f.at)) parts (begun_at next.stage))) (λ e. tt)
first_came octets x greeting r next parts send id ms f (Some (Ready props)) k does is = ready_came octets x greeting r next parts send id ms f props (is_served props.socket_type) k does is refl

in_handshake : (octets : List ℕ) (x : ℕ) (greeting : List ℕ) (r next : Reading) (parts : List (List ℕ)) (send : List ℕ) (id : Option (List ℕ)) (ms : List (List (List ℕ))) (o : Option Frame) → IsHandshake octets (at_handshake greeting r parts) send id ms → step r x ≡ (next, o)
    → Next (octets ++ x ∷ []) send id ms (hear (at_handshake greeting r parts) (next, o))
in_handshake octets x greeting r next parts send id ms None k does = still octets x greeting r next parts send id ms k does
in_handshake octets x greeting r next parts send id ms (Some f) k does = first_came octets x greeting r next parts send id ms f (command_of f.body) k does refl

-- ---- an octet of traffic

in_traffic : (octets : List ℕ) (x : ℕ) (greeting : List ℕ) (r next : Reading) (parts : List (List ℕ)) (send : List ℕ) (id : Option (List ℕ)) (ms : List (List (List ℕ))) (o : Option Frame) → IsConnection octets (at_traffic greeting r parts) send id ms → step r x ≡ (next, o)
    → Next (octets ++ x ∷ []) send id ms (hear (at_traffic greeting r parts) (next, o))
in_traffic octets x greeting r next parts send id ms None k does =
    ends_as (octets ++ x ∷ []) greeting next parts (send ++ []) (or_later id None) (ms ++ []) Traffic (first_fault (fault_at next.stage) (begun_fault Traffic parts (begun_at next.stage)))
    (λ e. record {
      greeting = k.greeting;
      rest = k.rest ++ x ∷ [];
      octets-are = same_octets octets k.greeting k.rest x k.octets-are;
      whole = k.whole;
      fine = k.fine;
      first = k.first;
      others = k.others;
      frames-are = frames_more (start 64) r next k.rest x None k.reader-is does ∙ append-nil (frames (start 64) k.rest) ∙ k.frames-are;
      is-command = k.is-command;
      props = k.props;
      is-ready = k.is-ready;
      served = k.served;
      sends = append-nil send ∙ k.sends;
      identity-is = rw k.identity-is refl;
      messages-are = append-nil ms ∙ k.messages-are;
      parts-are = k.parts-are;
      reader-is = after_more (start 64) r next k.rest x None k.reader-is does;
    })
in_traffic octets x greeting r next parts send id ms (Some f) k does =
    ends_as (octets ++ x ∷ []) greeting next (parts_after Traffic parts (Some f)) (send ++ []) (or_later id None) (ms ++ listed (message_of parts f)) Traffic
    (first_fault (fault_at next.stage) (begun_fault Traffic (parts_after Traffic parts (Some f)) (begun_at next.stage)))
    (λ e. record {
      greeting = k.greeting;
      rest = k.rest ++ x ∷ [];
      octets-are = same_octets octets k.greeting k.rest x k.octets-are;
      whole = k.whole;
      fine = k.fine;
      first = k.first;
      others = k.others ++ f ∷ [];
      frames-are = frames_more (start 64) r next k.rest x (Some f) k.reader-is does ∙ ap (λ (fs : List Frame). fs ++ f ∷ []) k.frames-are;
      is-command = k.is-command;
      props = k.props;
      is-ready = k.is-ready;
      served = k.served;
      sends = append-nil send ∙ k.sends;
      identity-is = rw k.identity-is refl;
      messages-are = ap (λ (m : List (List (List ℕ))). m ++ listed (message_of parts f)) k.messages-are
          ∙ ap (λ (p : List (List ℕ)). grouped [] k.others ++ listed (message_of p f)) k.parts-are ∙ sym (grouped_more [] k.others f);
      parts-are = ap (λ (p : List (List ℕ)). parts_after Traffic p (Some f)) k.parts-are ∙ sym (ungrouped_more [] k.others f);
      reader-is = after_more (start 64) r next k.rest x (Some f) k.reader-is does;
    })

-- ---- all octets

one_octet : (octets : List ℕ) (x : ℕ) (phase : Phase) (greeting : List ℕ) (r : Reading) (parts : List (List ℕ)) (send : List ℕ) (id : Option (List ℕ)) (ms : List (List (List ℕ)))
    → Known phase octets (record { phase = phase; greeting = greeting; reader = r; parts = parts }) send id ms
    → Next (octets ++ x ∷ []) send id ms (talk (record { phase = phase; greeting = greeting; reader = r; parts = parts }) x)
one_octet octets x Greeting greeting r parts send id ms k = in_greeting octets x (record { phase = Greeting; greeting = greeting; reader = r; parts = parts }) send id ms k
one_octet octets x Handshake greeting r parts send id ms k = in_handshake octets x greeting r (step r x).0 parts send id ms (step r x).1 k refl
one_octet octets x Traffic greeting r parts send id ms k = in_traffic octets x greeting r (step r x).0 parts send id ms (step r x).1 k refl
one_octet octets x (Ended fault) greeting r parts send id ms k = tt

all_octets : (octets more : List ℕ) (t : Talk) (send : List ℕ) (id : Option (List ℕ)) (ms : List (List (List ℕ))) → Known t.phase octets t send id ms
    → Known (talked t more).phase (octets ++ more) (talked t more) (send ++ sent t more) (or_later id (identity t more)) (ms ++ messages t more)
all_octets octets [] t send id ms k = rw (append-nil octets, append-nil send, append-nil ms, or_nothing id) k
all_octets octets (x ∷ xs) t send id ms k =
    let n = all_octets (octets ++ x ∷ []) xs (talk t x).0 (send ++ (talk t x).1.send) (or_later id (talk t x).1.ready) (ms ++ listed (talk t x).1.message) (one_octet octets x t.phase t.greeting t.reader t.parts send id ms k) in
    rw (← append_assoc octets (x ∷ []) xs, ← append_assoc send (talk t x).1.send (sent (talk t x).0 xs), or_assoc id (talk t x).1.ready (identity (talk t x).0 xs), ← append_assoc ms (listed (talk t x).1.message) (messages (talk t x).0 xs)) n

pub connected : (octets : List ℕ) → (talked begins octets).phase ≡ Traffic → IsConnection octets (talked begins octets) (sent begins octets) (identity begins octets) (messages begins octets)
connected octets is =
    let k = all_octets [] octets begins [] None [] (record { greeting-is = refl; short = omega arith; parts-are = refl; reader-is = refl; sends = refl; identity-is = refl; messages-are = refl }) in
    subst (λ (p : Phase). Known p octets (talked begins octets) (sent begins octets) (identity begins octets) (messages begins octets)) is k
