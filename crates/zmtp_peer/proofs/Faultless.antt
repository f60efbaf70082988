-- A stream that has no fault by the grammar is in traffic.
use Rattle.std.proofs.Common.{◌≡◌, ℕ, suc, ◌+◌, ◌-◌, ◌*◌, ◌/◌, ◌%◌, ◌<◌, ◌≤◌, nat_lt, Bool, true, false, List, [], ◌∷◌, ◌++◌, length, Option, Some, None, refl, sym, ap, subst, ◌∙◌, append_assoc, arith}
use Rattle.std.specs.Prelude.{◌==◌, if◌then◌else◌}
use Rattle.std.proofs.lemmas.Bool.{le-ltb, lt-ltb}
use Rattle.std.proofs.lemmas.Bool.Decides.{nat_tests}
use Rattle.std.proofs.lemmas.List.{length-append}
use Rattle.zmtp_frames.specs.declared.frame.Head.{Head}
use Rattle.zmtp_frames.specs.declared.frame.Frame.{Frame}
use Rattle.zmtp_frames.specs.declared.frame.Stage.TheVariants as stages
use Rattle.zmtp_frames.specs.declared.command.Props.{Props}
use Rattle.zmtp_frames.specs.declared.command.Command.{Command}
use Rattle.zmtp_frames.specs.declared.command.Command.TheVariants.{Ready}
use Rattle.cluster_types.specs.Limits.{body_limit}
use Rattle.zmtp_frames.specs.Stream.{Reading, start, up, step, begun, begun_at, fault_at, frame, sized, whole_at, head_of, are_flags, size_width}
use Rattle.zmtp_frames.specs.Grammar.{IsFrame, AreFrames, number_from, place_after}
use Rattle.zmtp_frames.specs.Greeting.{greeting_fault}
use Rattle.zmtp_frames.specs.Command.{command_of}
use Rattle.zmtp_peer.specs.declared.phase.Phase.{Phase}
use Rattle.zmtp_peer.specs.declared.phase.Phase.TheVariants.{Greeting, Handshake, Traffic}
use Rattle.zmtp_peer.specs.declared.phase.Gave.{Gave}
use Rattle.zmtp_peer.specs.PeerStream.{Talk, begins, talk, greet, hear, hear_as, shaken, parts_after, begun_fault, first_fault, ended_by, is_served, talked}
use Rattle.zmtp_peer.specs.Connection.{FollowsAs, MayFollow, IsFaultless}
use Rattle.zmtp_peer.proofs.Pieces.{talked_append}
use Rattle.cluster_types.proofs.Numbers.{not_zero, not_one, some_width}

abbrev at_size : ℕ → Head → ℕ → ℕ → Reading
at_size place head left n = record { place = place; stage = stages.Sizing head left n; body = [] }

abbrev at_body : ℕ → Head → ℕ → ℕ → List ℕ → Reading
at_body place head size left body = record { place = place; stage = stages.Filling head size left; body = body }

abbrev at : Phase → List ℕ → List (List ℕ) → Reading → Talk
at phase greeting parts reader = record { phase = phase; greeting = greeting; reader = reader; parts = parts }

-- a phase in which a frame of this head and size is heard without a fault, and where it leads
pub record Hears (phase : Phase) (greeting : List ℕ) (parts : List (List ℕ)) (head : Head) (body : List ℕ) (next : List (List ℕ)) : Type 0 where
  pub flags : begun_fault phase parts (Some (begun head None)) ≡ None
  pub size : begun_fault phase parts (Some (begun head (Some (length body)))) ≡ None
  pub octet : (r : Reading) (x : ℕ) → talk (at phase greeting parts r) x ≡ hear (at phase greeting parts r) (step r x)
  pub keeps : parts_after phase parts None ≡ parts
  pub whole : (r : Reading) (x place : ℕ) → step r x ≡ (start place, Some (frame head body)) → (talk (at phase greeting parts r) x).0 ≡ at Traffic greeting next (start place)

still : (phase : Phase) (greeting : List ℕ) (parts now : List (List ℕ)) (r : Reading) → now ≡ parts → first_fault (fault_at r.stage) (begun_fault phase parts (begun_at r.stage)) ≡ None
    → at (ended_by phase (first_fault (fault_at r.stage) (begun_fault phase now (begun_at r.stage)))) greeting now r ≡ at phase greeting parts r
still phase greeting parts now r same none = rw same (rw none refl)

-- an octet that ends no frame
goes : (phase : Phase) (greeting : List ℕ) (parts : List (List ℕ)) (head : Head) (body : List ℕ) (next : List (List ℕ)) → Hears phase greeting parts head body next
    → (r new : Reading) (x : ℕ) → step r x ≡ (new, None) → first_fault (fault_at new.stage) (begun_fault phase parts (begun_at new.stage)) ≡ None → (talk (at phase greeting parts r) x).0 ≡ at phase greeting parts new
goes phase greeting parts head body next h r new x does none =
    ap (λ (p : Talk × Gave). p.0) (h.octet r x ∙ ap (λ (s : Reading × Option Frame). hear (at phase greeting parts r) s) does)
    ∙ still phase greeting parts (parts_after phase parts None) new h.keeps none

body_heard : (phase : Phase) (greeting : List ℕ) (parts : List (List ℕ)) (head : Head) (body : List ℕ) (next : List (List ℕ)) → Hears phase greeting parts head body next
    → (place : ℕ) (came : List ℕ) (x : ℕ) (xs : List ℕ) → came ++ x ∷ xs ≡ body
    → talked (at phase greeting parts (at_body place head (length body) (length (x ∷ xs)) came)) (x ∷ xs) ≡ at Traffic greeting next (start (place_after place (x ∷ xs)))
body_heard phase greeting parts head body next h place came x [] is =
    h.whole (at_body place head (length body) 1 came) x (up place) (ap (λ (b : List ℕ). (start (up place), Some (frame head b))) is)
body_heard phase greeting parts head body next h place came x (y ∷ ys) is =
    let more : (length (x ∷ y ∷ ys) == 1) ≡ false = not_one (length (x ∷ y ∷ ys)) (omega arith) in
    let less : length (x ∷ y ∷ ys) - 1 ≡ length (y ∷ ys) = omega arith in
    let one : step (at_body place head (length body) (length (x ∷ y ∷ ys)) came) x ≡ (at_body (up place) head (length body) (length (y ∷ ys)) (came ++ x ∷ []), None) = rw (more, less) refl in
    ap (λ (t : Talk). talked t (y ∷ ys)) (goes phase greeting parts head body next h (at_body place head (length body) (length (x ∷ y ∷ ys)) came) (at_body (up place) head (length body) (length (y ∷ ys)) (came ++ x ∷ [])) x one h.size)
    ∙ body_heard phase greeting parts head body next h (up place) (came ++ x ∷ []) y ys (append_assoc came (x ∷ []) (y ∷ ys) ∙ is)

-- the last octet of the size, and the body
behind_size : (phase : Phase) (greeting : List ℕ) (parts : List (List ℕ)) (head : Head) (body : List ℕ) (next : List (List ℕ)) → Hears phase greeting parts head body next
    → (place n x : ℕ) → 256 * n + x ≡ length body → length body ≤ body_limit
    → talked (at phase greeting parts (at_size place head 1 n)) (x ∷ body) ≡ at Traffic greeting next (start (place_after place (x ∷ body)))
behind_size phase greeting parts head [] next h place n x value limit =
    let one : step (at_size place head 1 n) x ≡ (start (up place), Some (frame head [])) = ap (λ (m : ℕ). (record { place = up place; stage = sized head m; body = [] }, whole_at head m)) value in
    h.whole (at_size place head 1 n) x (up place) one
behind_size phase greeting parts head (y ∷ ys) next h place n x value limit =
    let small : nat_lt body_limit (length (y ∷ ys)) ≡ false = le-ltb _ _ limit in
    let some : (length (y ∷ ys) == 0) ≡ false = not_zero (length (y ∷ ys)) (omega arith) in
    let is : (record { place = up place; stage = sized head (length (y ∷ ys)); body = [] }, whole_at head (length (y ∷ ys))) ≡ (at_body (up place) head (length (y ∷ ys)) (length (y ∷ ys)) [], None) = rw (small, some) refl in
    let one : step (at_size place head 1 n) x ≡ (at_body (up place) head (length (y ∷ ys)) (length (y ∷ ys)) [], None)
    = ap (λ (m : ℕ). (record { place = up place; stage = sized head m; body = [] }, whole_at head m)) value ∙ is in
    ap (λ (t : Talk). talked t (y ∷ ys)) (goes phase greeting parts head (y ∷ ys) next h (at_size place head 1 n) (at_body (up place) head (length (y ∷ ys)) (length (y ∷ ys)) []) x one h.size)
    ∙ body_heard phase greeting parts head (y ∷ ys) next h (up place) [] y ys refl

size_heard : (phase : Phase) (greeting : List ℕ) (parts : List (List ℕ)) (head : Head) (body : List ℕ) (next : List (List ℕ)) → Hears phase greeting parts head body next
    → (place n x : ℕ) (xs : List ℕ) → number_from n (x ∷ xs) ≡ length body → length body ≤ body_limit
    → talked (at phase greeting parts (at_size place head (length (x ∷ xs)) n)) ((x ∷ xs) ++ body) ≡ at Traffic greeting next (start (place_after place ((x ∷ xs) ++ body)))
size_heard phase greeting parts head body next h place n x [] value limit = behind_size phase greeting parts head body next h place n x value limit
size_heard phase greeting parts head body next h place n x (y ∷ ys) value limit =
    let more : (length (x ∷ y ∷ ys) == 1) ≡ false = not_one (length (x ∷ y ∷ ys)) (omega arith) in
    let less : length (x ∷ y ∷ ys) - 1 ≡ length (y ∷ ys) = omega arith in
    let one : step (at_size place head (length (x ∷ y ∷ ys)) n) x ≡ (at_size (up place) head (length (y ∷ ys)) (256 * n + x), None) = rw (more, less) refl in
    ap (λ (t : Talk). talked t ((y ∷ ys) ++ body)) (goes phase greeting parts head body next h (at_size place head (length (x ∷ y ∷ ys)) n) (at_size (up place) head (length (y ∷ ys)) (256 * n + x)) x one h.flags)
    ∙ size_heard phase greeting parts head body next h (up place) (256 * n + x) y ys value limit

frame_heard : (phase : Phase) (greeting : List ℕ) (parts : List (List ℕ)) (place flags : ℕ) (size body : List ℕ) (next : List (List ℕ)) → Hears phase greeting parts (head_of place flags) body next
    → are_flags flags ≡ true → length size ≡ size_width flags → number_from 0 size ≡ length body → length body ≤ body_limit
    → talked (at phase greeting parts (start place)) (flags ∷ (size ++ body)) ≡ at Traffic greeting next (start (place_after place (flags ∷ (size ++ body))))
frame_heard phase greeting parts place flags [] body next h allowed width value limit = absurd (some_width (flags / 2 % 2 == 1) 0 width refl)
frame_heard phase greeting parts place flags (x ∷ xs) body next h allowed width value limit =
    let one : step (start place) flags ≡ (at_size (up place) (head_of place flags) (length (x ∷ xs)) 0, None) = rw (allowed, width) refl in
    ap (λ (t : Talk). talked t ((x ∷ xs) ++ body)) (goes phase greeting parts (head_of place flags) body next h (start place) (at_size (up place) (head_of place flags) (length (x ∷ xs)) 0) flags one h.flags)
    ∙ size_heard phase greeting parts (head_of place flags) body next h (up place) 0 x xs value limit

-- ---- traffic

allowed_flags : (c more : Bool) (place : ℕ) (parts : List (List ℕ)) (body : List ℕ) → FollowsAs c parts body → begun_fault Traffic parts (Some (record { at = place; more = more; command = c; size = None })) ≡ None
allowed_flags true more place parts body none = rw none refl
allowed_flags false more place parts body within = rw (lt-ltb _ _ within.0) refl

allowed_size : (c more : Bool) (place : ℕ) (parts : List (List ℕ)) (body : List ℕ) → FollowsAs c parts body → begun_fault Traffic parts (Some (record { at = place; more = more; command = c; size = Some (length body) })) ≡ None
allowed_size true more place parts body none = rw none refl
allowed_size false more place parts body within = rw (lt-ltb _ _ within.0, le-ltb _ _ within.1) refl

traffic_hears : (greeting : List ℕ) (parts : List (List ℕ)) (head : Head) (body : List ℕ) → FollowsAs head.command parts body → Hears Traffic greeting parts head body (parts_after Traffic parts (Some (frame head body)))
traffic_hears greeting parts head body follows = record {
  flags = allowed_flags head.command head.more head.at parts body follows;
  size = allowed_size head.command head.more head.at parts body follows;
  octet = λ r x. refl;
  keeps = refl;
  whole = λ r x place does. ap (λ (s : Reading × Option Frame). (hear (at Traffic greeting parts r) s).0) does;
}

traffic_frame : (greeting : List ℕ) (parts : List (List ℕ)) (octets : List ℕ) (f : Frame) → IsFrame octets f → FollowsAs f.command parts f.body
    → talked (at Traffic greeting parts (start f.at)) octets ≡ at Traffic greeting (parts_after Traffic parts (Some f)) (start (place_after f.at octets))
traffic_frame greeting parts octets f s follows =
    let is : frame (head_of f.at s.flags) f.body ≡ f = rw (← s.more, ← s.command) refl in
    let h = traffic_hears greeting parts (head_of f.at s.flags) f.body (subst (λ (c : Bool). FollowsAs c parts f.body) s.command follows) in
    subst (λ (xs : List ℕ). talked (at Traffic greeting parts (start f.at)) xs ≡ at Traffic greeting (parts_after Traffic parts (Some f)) (start (place_after f.at xs))) (sym s.parts)
    (frame_heard Traffic greeting parts f.at s.flags s.size f.body _ h s.allowed s.width s.value s.limit ∙ ap (λ (g : Frame). at Traffic greeting (parts_after Traffic parts (Some g)) (start (place_after f.at (s.flags ∷ (s.size ++ f.body))))) is)

traffic_heard : (greeting : List ℕ) (parts : List (List ℕ)) (place : ℕ) (octets : List ℕ) (fs : List Frame) → AreFrames place octets fs → MayFollow parts fs → (talked (at Traffic greeting parts (start place)) octets).phase ≡ Traffic
traffic_heard greeting parts place octets [] e follow = rw e refl
traffic_heard greeting parts place octets (f ∷ fs) (front, rest, octets-are, first, is, more) (follows, others) =
    let one : talked (at Traffic greeting parts (start place)) front ≡ at Traffic greeting (parts_after Traffic parts (Some f)) (start (place_after place front))
    = subst (λ (n : ℕ). talked (at Traffic greeting parts (start n)) front ≡ at Traffic greeting (parts_after Traffic parts (Some f)) (start (place_after n front))) first (traffic_frame greeting parts front f is follows) in
    rw octets-are (ap (λ (t : Talk). t.phase) (talked_append (at Traffic greeting parts (start place)) front rest ∙ ap (λ (t : Talk). talked t rest) one)
    ∙ traffic_heard greeting (parts_after Traffic parts (Some f)) (place_after place front) rest fs more others)

-- ---- the handshake

shaken_ready : (greeting : List ℕ) (r : Reading) (place next : ℕ) (c : Option Command) (props : Props) → c ≡ Some (Ready props) → is_served props.socket_type ≡ true
    → (hear_as (at Handshake greeting [] r) (start next) (shaken place c) []).0 ≡ at Traffic greeting [] (start next)
shaken_ready greeting r place next c props ready served = rw ready (rw served refl)

handshake_hears : (greeting : List ℕ) (head : Head) (body : List ℕ) (props : Props) → head.command ≡ true → command_of body ≡ Some (Ready props) → is_served props.socket_type ≡ true → Hears Handshake greeting [] head body []
handshake_hears greeting head body props command ready served = record {
  flags = rw command refl;
  size = rw command refl;
  octet = λ r x. refl;
  keeps = refl;
  whole = λ r x place does. ap (λ (s : Reading × Option Frame). (hear (at Handshake greeting [] r) s).0) does ∙ shaken_ready greeting r head.at place (command_of body) props ready served;
}

handshake_frame : (greeting : List ℕ) (octets : List ℕ) (f : Frame) (props : Props) → IsFrame octets f → f.command ≡ true → command_of f.body ≡ Some (Ready props) → is_served props.socket_type ≡ true
    → talked (at Handshake greeting [] (start f.at)) octets ≡ at Traffic greeting [] (start (place_after f.at octets))
handshake_frame greeting octets f props s command ready served =
    let h = handshake_hears greeting (head_of f.at s.flags) f.body props (sym s.command ∙ command) ready served in
    subst (λ (xs : List ℕ). talked (at Handshake greeting [] (start f.at)) xs ≡ at Traffic greeting [] (start (place_after f.at xs))) (sym s.parts)
    (frame_heard Handshake greeting [] f.at s.flags s.size f.body [] h s.allowed s.width s.value s.limit)

-- ---- the greeting

not_63 : (n m : ℕ) → n + suc (suc m) ≡ 64 → (n == 63) ≡ false
not_63 n m e = grind (arith, nat_tests)

is_63 : (n : ℕ) → n + 1 ≡ 64 → (n == 63) ≡ true
is_63 n e = grind (arith, nat_tests)

last_octet : (came greeting : List ℕ) (x : ℕ) → length came + 1 ≡ 64 → greeting ≡ came ++ x ∷ [] → greeting_fault greeting ≡ None → (greet (at Greeting came [] (start 64)) x).0 ≡ at Handshake greeting [] (start 64)
last_octet came greeting x n is fine = rw (is_63 (length came) n, ← is, fine) refl

greeting_heard : (came greeting : List ℕ) (x : ℕ) (xs : List ℕ) → length came + length (x ∷ xs) ≡ 64 → greeting ≡ came ++ x ∷ xs → greeting_fault greeting ≡ None
    → talked (at Greeting came [] (start 64)) (x ∷ xs) ≡ at Handshake greeting [] (start 64)
greeting_heard came greeting x [] n is fine = last_octet came greeting x n is fine
greeting_heard came greeting x (y ∷ ys) n is fine =
    let more : (greet (at Greeting came [] (start 64)) x).0 ≡ at Greeting (came ++ x ∷ []) [] (start 64) = rw (not_63 (length came) (length ys) n) refl in
    ap (λ (t : Talk). talked t (y ∷ ys)) more
    ∙ greeting_heard (came ++ x ∷ []) greeting y ys (omega (arith, n, length-append came (x ∷ []))) (is ∙ sym (append_assoc came (x ∷ []) (y ∷ ys))) fine

whole_greeting : (greeting : List ℕ) → length greeting ≡ 64 → greeting_fault greeting ≡ None → talked begins greeting ≡ at Handshake greeting [] (start 64)
whole_greeting [] n fine = absurd (omega (arith, n))
whole_greeting (x ∷ xs) n fine = greeting_heard [] (x ∷ xs) x xs (omega (arith, n)) refl fine

-- ---- all

behind_greeting : (greeting rest : List ℕ) (first : Frame) (others : List Frame) (props : Props) → AreFrames 64 rest (first ∷ others) → first.command ≡ true → command_of first.body ≡ Some (Ready props) → is_served props.socket_type ≡ true → MayFollow [] others
    → (talked (at Handshake greeting [] (start 64)) rest).phase ≡ Traffic
behind_greeting greeting rest first others props (front, more, rest-is, first-at, is, are) command ready served allowed =
    let one : talked (at Handshake greeting [] (start 64)) front ≡ at Traffic greeting [] (start (place_after 64 front))
    = subst (λ (n : ℕ). talked (at Handshake greeting [] (start n)) front ≡ at Traffic greeting [] (start (place_after n front))) first-at (handshake_frame greeting front first props is command ready served) in
    rw rest-is (ap (λ (t : Talk). t.phase) (talked_append (at Handshake greeting [] (start 64)) front more ∙ ap (λ (t : Talk). talked t more) one)
    ∙ traffic_heard greeting [] (place_after 64 front) more others are allowed)

pub faultless : (octets : List ℕ) → IsFaultless octets → (talked begins octets).phase ≡ Traffic
faultless octets k =
    rw k.octets-are (ap (λ (t : Talk). t.phase) (talked_append begins k.greeting k.rest ∙ ap (λ (t : Talk). talked t k.rest) (whole_greeting k.greeting k.whole k.fine))
    ∙ behind_greeting k.greeting k.rest k.first k.others k.props k.frames-are k.is-command k.is-ready k.served k.allowed)
