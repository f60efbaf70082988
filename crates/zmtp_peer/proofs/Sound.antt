-- What a peer's stream gives is within the limits.
use Rattle.std.proofs.Common.{◌≡◌, ℕ, ◌+◌, ◌-◌, ◌*◌, ◌<◌, ◌≤◌, nat_lt, Bool, true, false, cond, List, [], ◌∷◌, ◌++◌, length, Option, Some, None, refl, ap, subst, All, arith}
use Rattle.std.specs.Prelude.{◌==◌, nat_le, if◌then◌else◌, codes, IfSome}
use Rattle.std.specs.Option.{unwrap_or, option_map}
use Rattle.std.proofs.lemmas.Bool.{ltb-false, ltb-true, leb-true, eqb-true}
use Rattle.std.proofs.lemmas.Bool.Decides.{nat_tests}
use Rattle.std.proofs.lemmas.List.{length-append}
use Rattle.std.proofs.lemmas.Option.{option_and_then_some}
use Rattle.std.proofs.lemmas.List.Elements.{All-nil, All-cons, All-append}
use Rattle.edges.specs.Reading.{str8_at}
use Rattle.cluster_types.specs.Limits.{body_limit, most_frames, message_limit}
use Rattle.zmtp_frames.specs.declared.fault.FrameFault.{FrameFault}
use Rattle.zmtp_frames.specs.declared.fault.FrameFault.TheVariants.{BadFlags, FrameTooLong}
use Rattle.zmtp_frames.specs.declared.frame.Head.{Head}
use Rattle.zmtp_frames.specs.declared.frame.Frame.{Frame}
use Rattle.zmtp_frames.specs.declared.frame.Begun.{Begun}
use Rattle.zmtp_frames.specs.declared.frame.Stage.{Stage}
use Rattle.zmtp_frames.specs.declared.frame.Stage.TheVariants.{Between, Sizing, Filling, Ended}
use Rattle.zmtp_frames.specs.declared.command.Command.{Command}
use Rattle.zmtp_frames.specs.declared.command.Command.TheVariants.{Ready, Error, Other}
use Rattle.zmtp_frames.specs.declared.command.Props.{Props}
use Rattle.zmtp_frames.specs.declared.metadata.Property.{Property}
use Rattle.zmtp_frames.specs.Stream.{Reading, up, step, step_at, begun, begun_at, fault_at, frame, flagged, sized, whole_at, head_of, are_flags, size_width}
use Rattle.zmtp_frames.specs.Command.{read_off, same_name, property_named, identity_of, props_with, props_of, ready_of, error_of, metadata, command_named, command_of}
use Rattle.zmtp_frames.specs.Greeting.{greeting_fault}
use Rattle.zmtp_peer.specs.declared.fault.PeerFault.{PeerFault}
use Rattle.zmtp_peer.specs.declared.fault.PeerFault.TheVariants.{BadCommand, BadSocketType, MessageTooLong}
use Rattle.zmtp_peer.specs.declared.phase.Phase.{Phase}
use Rattle.zmtp_peer.specs.declared.phase.Phase.TheVariants as phases
use Rattle.zmtp_peer.specs.declared.phase.Heard.{Heard}
use Rattle.zmtp_peer.specs.declared.phase.Gave.{Gave}
use Rattle.zmtp_peer.specs.Message.{body_octets}
use Rattle.zmtp_peer.specs.PeerStream.{Talk, begins, talk, greet, hear, hear_as, nothing, greeting_phase, greeting_answer, shaken, refusal, heard, parts_after, begun_fault, size_fault, first_fault, ended_by, is_served, talked, identity, or_later, messages, listed}
use Rattle.zmtp_peer.specs.Connection.{FollowsAs}
use Rattle.zmtp_peer.specs.Limits.{IsShortMessage, IsShortIdentity, IsCounted, IsSound}
use Rattle.zmtp_peer.proofs.Messages.{octets_more}
use Rattle.cluster_types.proofs.Numbers.{above_zero}

choice : {A : Type 0} (P : A → Type 0) (b : Bool) (x y : A) → (b ≡ true → P x) → (b ≡ false → P y) → P (cond b x y)
choice P true x y first second = first refl
choice P false x y first second = second refl

-- ---- the octets of a body

abbrev reading : ℕ → Stage → List ℕ → Reading
reading place stage body = record { place = place; stage = stage; body = body }

abbrev stepped : Reading → Option Frame → Reading × Option Frame
stepped r f = (r, f)

abbrev Counted : Reading × Option Frame → Type 0
Counted s = IsCounted s.0.stage s.0.body

not_one : (n : ℕ) → (n == 1) ≡ false → 0 < n → 0 < n - 1
not_one n e some = grind (arith, nat_tests)

flagged_counted : (at flags : ℕ) (body : List ℕ) → body ≡ [] → IsCounted (flagged at flags) body
flagged_counted at flags body none =
    choice (λ stage. IsCounted stage body) (are_flags flags) (Sizing (head_of at flags) (size_width flags) 0) (Ended (BadFlags at) (begun (head_of at flags) None)) (λ fine. none) (λ bad. tt)

some_counted : (size : ℕ) (body : List ℕ) → body ≡ [] → (size == 0) ≡ false → (0 < size) × (length body + size ≡ size)
some_counted size body none some = let empty : length body ≡ 0 = ap length none in (above_zero size some, omega (arith, empty))

sized_counted : (head : Head) (size : ℕ) (body : List ℕ) → body ≡ [] → IsCounted (sized head size) body
sized_counted head size body none =
    choice (λ stage. IsCounted stage body) (nat_lt body_limit size) (Ended (FrameTooLong head.at) (begun head (Some size))) (if size == 0 then Between else Filling head size size) (λ long. tt)
    (λ short. choice (λ stage. IsCounted stage body) (size == 0) Between (Filling head size size) (λ empty. none) (some_counted size body none))

more_counted : (size left x : ℕ) (body : List ℕ) → (0 < left) × (length body + left ≡ size) → (left == 1) ≡ false → (0 < left - 1) × (length (body ++ x ∷ []) + (left - 1) ≡ size)
more_counted size left x body e more = (not_one left more e.0, omega (arith, e.0, e.1, length-append body (x ∷ [])))

step_counted : (stage : Stage) (place : ℕ) (body : List ℕ) (x : ℕ) → IsCounted stage body → Counted (step_at stage place body x)
step_counted Between place body x e = flagged_counted place x body e
step_counted (Sizing head left size) place body x e =
    choice Counted (left == 1) (stepped (reading (up place) (sized head (256 * size + x)) body) (whole_at head (256 * size + x))) (stepped (reading (up place) (Sizing head (left - 1) (256 * size + x)) body) None)
    (λ last. sized_counted head (256 * size + x) body e) (λ more. e)
step_counted (Filling head size left) place body x e =
    choice Counted (left == 1) (stepped (reading (up place) Between []) (Some (frame head (body ++ x ∷ [])))) (stepped (reading (up place) (Filling head size (left - 1)) (body ++ x ∷ [])) None)
    (λ last. refl) (more_counted size left x body e)
step_counted (Ended fault at) place body x e = tt

-- ---- a frame that was let begin may follow

unless_some : (b : Bool) (fault : PeerFault) → cond b (Some fault) None ≡ None → b ≡ false
unless_some true fault e = absurd cc
unless_some false fault e = refl

unless_else : (b : Bool) (other : Option PeerFault) (fault : PeerFault) → cond b other (Some fault) ≡ None → (b ≡ true) × (other ≡ None)
unless_else true other fault e = (refl, e)
unless_else false other fault e = absurd cc

no_length : (parts : List (List ℕ)) → length parts ≡ 0 → parts ≡ []
no_length [] e = refl
no_length (p ∷ ps) e = absurd (omega (arith, e))

no_parts : (parts : List (List ℕ)) (fault : PeerFault) → (if length parts == 0 then None else Some fault) ≡ None → parts ≡ []
no_parts parts fault e = no_length parts (eqb-true (length parts) 0 (unless_else (length parts == 0) None fault e).0)

flags_follow : (command more : Bool) (at : ℕ) (parts : List (List ℕ)) → body_octets parts ≤ message_limit → begun_fault phases.Traffic parts (Some (record { at = at; more = more; command = command; size = None })) ≡ None → FollowsAs command parts []
flags_follow true more at parts octets e = no_parts parts (BadCommand at) e
flags_follow false more at parts octets e =
    let u = unless_else (nat_lt (length parts) most_frames) None (MessageTooLong at) e in
    (ltb-true _ _ u.0, omega (arith, octets))

size_follows : (command more : Bool) (at size : ℕ) (parts : List (List ℕ)) (body : List ℕ) → length body ≡ size → begun_fault phases.Traffic parts (Some (record { at = at; more = more; command = command; size = Some size })) ≡ None → FollowsAs command parts body
size_follows true more at size parts body is e = no_parts parts (BadCommand at) e
size_follows false more at size parts body is e =
    let u = unless_else (nat_lt (length parts) most_frames) (size_fault at parts (Some size)) (MessageTooLong at) e in
    let fits : body_octets parts + size ≤ message_limit = ltb-false _ _ (unless_some (nat_lt message_limit (body_octets parts + size)) (MessageTooLong at) u.1) in
    (ltb-true _ _ u.0, omega (arith, fits, is))

-- the frame that an octet ends may follow these parts
abbrev MayEnd : List (List ℕ) → Option Frame → Type 0
MayEnd parts o = IfSome o (λ f. FollowsAs f.command parts f.body)

abbrev Follows : List (List ℕ) → Reading × Option Frame → Type 0
Follows parts s = MayEnd parts s.1

whole_follows : (parts : List (List ℕ)) (head : Head) (size : ℕ) → FollowsAs head.command parts [] → MayEnd parts (whole_at head size)
whole_follows parts head size e = choice (MayEnd parts) (size == 0) (Some (frame head [])) None (λ empty. e) (λ some. tt)

last_length : (size left x : ℕ) (body : List ℕ) → length body + left ≡ size → left ≡ 1 → length (body ++ x ∷ []) ≡ size
last_length size left x body e last = omega (arith, e, last, length-append body (x ∷ []))

step_follows : (parts : List (List ℕ)) (stage : Stage) (place : ℕ) (body : List ℕ) (x : ℕ) → IsCounted stage body → body_octets parts ≤ message_limit → begun_fault phases.Traffic parts (begun_at stage) ≡ None → Follows parts (step_at stage place body x)
step_follows parts Between place body x e octets none = tt
step_follows parts (Sizing head left size) place body x e octets none =
    choice (Follows parts) (left == 1) (stepped (reading (up place) (sized head (256 * size + x)) body) (whole_at head (256 * size + x))) (stepped (reading (up place) (Sizing head (left - 1) (256 * size + x)) body) None)
    (λ last. whole_follows parts head (256 * size + x) (flags_follow head.command head.more head.at parts octets none)) (λ more. tt)
step_follows parts (Filling head size left) place body x e octets none =
    choice (Follows parts) (left == 1) (stepped (reading (up place) Between []) (Some (frame head (body ++ x ∷ [])))) (stepped (reading (up place) (Filling head size (left - 1)) (body ++ x ∷ [])) None)
    (λ last. size_follows head.command head.more head.at size parts (body ++ x ∷ []) (last_length size left x body e.1 (eqb-true left 1 last)) none) (λ more. tt)
step_follows parts (Ended fault at) place body x e octets none = tt

-- ---- parts and messages

-- bodies within the limits of a message
pub record AreShort (parts : List (List ℕ)) : Type 0 where
  pub number : length parts ≤ most_frames
  pub octets : body_octets parts ≤ message_limit

one_more : (parts : List (List ℕ)) (body : List ℕ) → (length parts < most_frames) × (body_octets parts + length body ≤ message_limit) → IsShortMessage (parts ++ body ∷ [])
one_more parts body e = record {
  some = omega (arith, length-append parts (body ∷ []));
  number = omega (arith, e.0, length-append parts (body ∷ []));
  octets = omega (arith, e.1, octets_more parts body);
}

none_short : AreShort []
none_short = record { number = omega arith; octets = omega arith }

parts_kept : (command more : Bool) (parts : List (List ℕ)) (body : List ℕ) → AreShort parts → FollowsAs command parts body → AreShort (if command then parts else if more then parts ++ body ∷ [] else [])
parts_kept true more parts body short follows = short
parts_kept false true parts body short follows = let m = one_more parts body follows in record { number = m.number; octets = m.octets }
parts_kept false false parts body short follows = none_short

message_short : (command more : Bool) (parts : List (List ℕ)) (body : List ℕ) → FollowsAs command parts body → IfSome (if command then None else if more then None else Some (parts ++ body ∷ [])) IsShortMessage
message_short true more parts body follows = tt
message_short false true parts body follows = tt
message_short false false parts body follows = one_more parts body follows

-- ---- the identity

named_ready : (nameless ready error : Bool) (said : Option Props) (reason : Option (List ℕ)) (props : Props)
    → (if nameless then None else if ready then option_map Ready said else if error then option_map Error reason else Some Other) ≡ Some (Ready props) → said ≡ Some props
named_ready true ready error said reason props e = absurd cc
named_ready false true error None reason props e = absurd cc
named_ready false true error (Some p) reason props e = cc
named_ready false false true said None props e = absurd cc
named_ready false false true said (Some r) props e = absurd cc
named_ready false false false said reason props e = absurd cc

identity_guard : (short : Bool) (value : List ℕ) (given : Option (List ℕ)) → (if short then Some (Some value) else None) ≡ Some given → (short ≡ true) × (Some value ≡ given)
identity_guard true value given e = (refl, cc)
identity_guard false value given e = absurd cc

given_short : (p : Option Property) (given : Option (List ℕ)) → identity_of p ≡ Some given → IfSome given IsShortIdentity
given_short None given e = let none : None ≡ given = cc in subst (λ (o : Option (List ℕ)). IfSome o IsShortIdentity) none tt
given_short (Some p) given e =
    let g = identity_guard (nat_le (length p.value) 255) p.value given e in
    let short : length p.value ≤ 255 = leb-true _ _ g.0 in
    subst (λ (o : Option (List ℕ)). IfSome o IsShortIdentity) g.1 short

with_short : (p : Property) (said : Option (Option (List ℕ))) (props : Props) → option_map (props_with p) said ≡ Some props → ((given : Option (List ℕ)) → said ≡ Some given → IfSome given IsShortIdentity) → IfSome props.identity IsShortIdentity
with_short p None props e so = absurd cc
with_short p (Some given) props e so = let is : props_with p given ≡ props = cc in subst (λ (q : Props). IfSome q.identity IsShortIdentity) is (so given refl)

abbrev with_identity : List Property → Property → Option Props
with_identity list p = option_map (props_with p) (identity_of (property_named (codes "Identity") list))

props_short : (list : List Property) (props : Props) → props_of list ≡ Some props → IfSome props.identity IsShortIdentity
props_short list props e =
    option_and_then_some {P = IfSome props.identity IsShortIdentity} (with_identity list) (property_named (codes "Socket-Type") list) props e
    (λ p found said. with_short p (identity_of (property_named (codes "Identity") list)) props said (given_short (property_named (codes "Identity") list)))

ready_short : (octets : List ℕ) (props : Props) → ready_of octets ≡ Some props → IfSome props.identity IsShortIdentity
ready_short octets props e = option_and_then_some {P = IfSome props.identity IsShortIdentity} props_of (metadata octets) props e (λ list are said. props_short list props said)

abbrev named : List ℕ × List ℕ → Option Command
named x = command_named x.0 x.1

pub command_short : (body : List ℕ) (props : Props) → command_of body ≡ Some (Ready props) → IfSome props.identity IsShortIdentity
command_short body props e =
    option_and_then_some {P = IfSome props.identity IsShortIdentity} named (read_off (str8_at body)) (Ready props) e
    (λ x stands said. ready_short x.1 props (named_ready (length x.0 == 0) (same_name x.0 (codes "READY")) (same_name x.0 (codes "ERROR")) (ready_of x.1) (error_of x.1) props said))

or_empty : (given : Option (List ℕ)) → IfSome given IsShortIdentity → IsShortIdentity (unwrap_or given [])
or_empty None short = omega arith
or_empty (Some i) short = short

-- ---- a frame that is heard

record HeardShort (h : Heard) : Type 0 where
  ready : IfSome h.ready IsShortIdentity
  message : IfSome h.message IsShortMessage

shaken_short : (at : ℕ) (c : Option Command) → ((props : Props) → c ≡ Some (Ready props) → IfSome props.identity IsShortIdentity) → HeardShort (shaken at c)
shaken_short at None so = record { ready = tt; message = tt }
shaken_short at (Some Other) so = record { ready = tt; message = tt }
shaken_short at (Some (Error reason)) so = record { ready = tt; message = tt }
shaken_short at (Some (Ready props)) so =
    choice HeardShort (is_served props.socket_type) (record { phase = phases.Traffic; send = []; ready = Some (unwrap_or props.identity []); message = None })
    (record { phase = phases.Ended (BadSocketType at); send = refusal; ready = None; message = None }) (λ served. record { ready = or_empty props.identity (so props refl); message = tt }) (λ other. record { ready = tt; message = tt })

handshake_short : (parts : List (List ℕ)) (o : Option Frame) → HeardShort (heard phases.Handshake parts o)
handshake_short parts None = record { ready = tt; message = tt }
handshake_short parts (Some f) = shaken_short f.at (command_of f.body) (command_short f.body)

handshake_parts : (parts : List (List ℕ)) (o : Option Frame) → AreShort parts → AreShort (parts_after phases.Handshake parts o)
handshake_parts parts None short = short
handshake_parts parts (Some f) short = short

traffic_short : (parts : List (List ℕ)) (o : Option Frame) → MayEnd parts o → HeardShort (heard phases.Traffic parts o)
traffic_short parts None follows = record { ready = tt; message = tt }
traffic_short parts (Some f) follows = record { ready = tt; message = message_short f.command f.more parts f.body follows }

traffic_parts : (parts : List (List ℕ)) (o : Option Frame) → AreShort parts → MayEnd parts o → AreShort (parts_after phases.Traffic parts o)
traffic_parts parts None short follows = short
traffic_parts parts (Some f) short follows = parts_kept f.command f.more parts f.body short follows

-- ---- an octet

-- what an octet leaves is sound, and what it gives is short
record SoundStep (s : Talk × Gave) : Type 0 where
  talk : IsSound s.0
  ready : IfSome s.1.ready IsShortIdentity
  message : IfSome s.1.message IsShortMessage

goes_on : (phase : Phase) (fault : Option PeerFault) → ended_by phase fault ≡ phases.Traffic → (phase ≡ phases.Traffic) × (fault ≡ None)
goes_on phase None e = (e, refl)
goes_on phase (Some fault) e = absurd cc

allowed_so : (phase : Phase) (fault : Option FrameFault) (parts : List (List ℕ)) (b : Option Begun) → ended_by phase (first_fault fault (begun_fault phase parts b)) ≡ phases.Traffic → begun_fault phases.Traffic parts b ≡ None
allowed_so phase (Some fault) parts b e = absurd cc
allowed_so phase None parts b e = let p = goes_on phase (begun_fault phase parts b) e in subst (λ (q : Phase). begun_fault q parts b ≡ None) p.0 p.1

hear_sound : (t : Talk) (reader : Reading) (h : Heard) (parts : List (List ℕ)) → AreShort parts → IsCounted reader.stage reader.body → HeardShort h → SoundStep (hear_as t reader h parts)
hear_sound t reader h parts short counted said = record {
  talk = record {
    number = short.number;
    octets = short.octets;
    counted = counted;
    allowed = allowed_so h.phase (fault_at reader.stage) parts (begun_at reader.stage);
  };
  ready = said.ready;
  message = said.message;
}

abbrev at : Phase → List ℕ → Reading → List (List ℕ) → Talk
at phase greeting reader parts = record { phase = phase; greeting = greeting; reader = reader; parts = parts }

greeted_otherwise : (fault : Option FrameFault) → greeting_phase fault ≡ phases.Traffic → ⊥
greeted_otherwise None e = absurd cc
greeted_otherwise (Some fault) e = absurd cc

-- a talk that isn't in traffic
still_sound : (phase : Phase) (greeting : List ℕ) (t : Talk) → (phase ≡ phases.Traffic → ⊥) → IsSound t → IsSound (at phase greeting t.reader t.parts)
still_sound phase greeting t other s = record {
  number = s.number;
  octets = s.octets;
  counted = s.counted;
  allowed = λ traffic. absurd (other traffic);
}

greet_sound : (t : Talk) (x : ℕ) → IsSound t → SoundStep (greet t x)
greet_sound t x s =
    let g : List ℕ = t.greeting ++ x ∷ [] in
    choice SoundStep (length t.greeting == 63) (at (greeting_phase (greeting_fault g)) g t.reader t.parts, record { send = greeting_answer (greeting_fault g); ready = None; message = None }) (at phases.Greeting g t.reader t.parts, nothing)
    (λ last. record { talk = still_sound (greeting_phase (greeting_fault g)) g t (greeted_otherwise (greeting_fault g)) s; ready = tt; message = tt })
    (λ more. record { talk = still_sound phases.Greeting g t (λ e. absurd cc) s; ready = tt; message = tt })

shake_sound : (greeting : List ℕ) (r : Reading) (parts : List (List ℕ)) (x : ℕ) → IsSound (at phases.Handshake greeting r parts) → SoundStep (hear (at phases.Handshake greeting r parts) (step r x))
shake_sound greeting r parts x s =
    let f = (step r x).1 in
    hear_sound (at phases.Handshake greeting r parts) (step r x).0 (heard phases.Handshake parts f) (parts_after phases.Handshake parts f)
    (handshake_parts parts f (record { number = s.number; octets = s.octets })) (step_counted r.stage r.place r.body x s.counted) (handshake_short parts f)

traffic_sound : (greeting : List ℕ) (r : Reading) (parts : List (List ℕ)) (x : ℕ) → IsSound (at phases.Traffic greeting r parts) → SoundStep (hear (at phases.Traffic greeting r parts) (step r x))
traffic_sound greeting r parts x s =
    let f = (step r x).1 in
    let follows = step_follows parts r.stage r.place r.body x s.counted s.octets (s.allowed refl) in
    hear_sound (at phases.Traffic greeting r parts) (step r x).0 (heard phases.Traffic parts f) (parts_after phases.Traffic parts f)
    (traffic_parts parts f (record { number = s.number; octets = s.octets }) follows) (step_counted r.stage r.place r.body x s.counted) (traffic_short parts f follows)

at_phase : (phase : Phase) (greeting : List ℕ) (r : Reading) (parts : List (List ℕ)) (x : ℕ) → IsSound (at phase greeting r parts) → SoundStep (talk (at phase greeting r parts) x)
at_phase phases.Greeting greeting r parts x s = greet_sound (at phases.Greeting greeting r parts) x s
at_phase phases.Handshake greeting r parts x s = shake_sound greeting r parts x s
at_phase phases.Traffic greeting r parts x s = traffic_sound greeting r parts x s
at_phase (phases.Ended fault) greeting r parts x s = record { talk = s; ready = tt; message = tt }

talk_sound : (t : Talk) (x : ℕ) → IsSound t → SoundStep (talk t x)
talk_sound t x s = at_phase t.phase t.greeting t.reader t.parts x s

-- ---- all octets

pub begins_sound : IsSound begins
begins_sound = record {
  number = omega arith;
  octets = omega arith;
  counted = refl;
  allowed = λ e. absurd cc;
}

pub talked_sound : (t : Talk) (xs : List ℕ) → IsSound t → IsSound (talked t xs)
talked_sound t [] s = s
talked_sound t (x ∷ xs) s = talked_sound (talk t x).0 xs (talk_sound t x s).talk

listed_short : (m : Option (List (List ℕ))) → IfSome m IsShortMessage → All IsShortMessage (listed m)
listed_short None short = All-nil IsShortMessage
listed_short (Some m) short = All-cons IsShortMessage m [] short (All-nil IsShortMessage)

pub messages_short : (t : Talk) (xs : List ℕ) → IsSound t → All IsShortMessage (messages t xs)
messages_short t [] s = All-nil IsShortMessage
messages_short t (x ∷ xs) s =
    let one = talk_sound t x s in
    All-append IsShortMessage (listed (talk t x).1.message) (messages (talk t x).0 xs) (listed_short (talk t x).1.message one.message) (messages_short (talk t x).0 xs one.talk)

later_short : (given later : Option (List ℕ)) → IfSome given IsShortIdentity → IfSome later IsShortIdentity → IfSome (or_later given later) IsShortIdentity
later_short None later first second = second
later_short (Some i) later first second = first

pub identity_short : (t : Talk) (xs : List ℕ) → IsSound t → IfSome (identity t xs) IsShortIdentity
identity_short t [] s = tt
identity_short t (x ∷ xs) s = let one = talk_sound t x s in later_short (talk t x).1.ready (identity (talk t x).0 xs) one.ready (identity_short (talk t x).0 xs one.talk)

-- ---- the frames of a short message

no_longer : (body : List ℕ) (bodies : List (List ℕ)) (n : ℕ) → body_octets (body ∷ bodies) ≤ n → (length body ≤ n) × (body_octets bodies ≤ n)
no_longer body bodies n le = (omega (arith, le), omega (arith, le))

-- no frame has more octets than all of them together
pub each_short : (frames : List (List ℕ)) (n : ℕ) → body_octets frames ≤ n → All (λ body. length body ≤ n) frames
each_short [] n le = All-nil (λ body. length body ≤ n)
each_short (body ∷ bodies) n le = let parts = no_longer body bodies n le in All-cons (λ body. length body ≤ n) body bodies parts.0 (each_short bodies n parts.1)
