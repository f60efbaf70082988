-- Octets of a body, without its last one, give nothing, and change nothing but the reader.
use Rattle.std.proofs.Common.{◌≡◌, ap, sym, ◌∙◌, ℕ, ◌-◌, ◌<◌, true, false, List, [], ◌∷◌, ◌++◌, length, take, get_or, Option, Some, None, refl, subst, arith}
use Rattle.std.specs.Prelude.{is_some}
use Rattle.std.proofs.lemmas.List.{append-nil}
use Rattle.zmtp_frames.specs.declared.frame.Head.{Head}
use Rattle.zmtp_frames.specs.declared.frame.Frame.{Frame}
use Rattle.zmtp_frames.specs.declared.frame.Stage.{Stage}
use Rattle.zmtp_frames.specs.declared.frame.Stage.TheVariants.{Between, Sizing, Filling, Ended as Faulty}
use Rattle.zmtp_frames.specs.declared.fault.FrameFault.{FrameFault}
use Rattle.zmtp_frames.specs.Stream.{Reading, step, reading_after, begun, begun_at, fault_at, up, Fills}
use Rattle.zmtp_frames.proofs.Filled.{filling, not_last, fill_step}
use Rattle.zmtp_peer.specs.declared.fault.PeerFault.{PeerFault}
use Rattle.zmtp_peer.specs.declared.phase.Phase.{Phase}
use Rattle.zmtp_peer.specs.declared.phase.Phase.TheVariants.{Greeting, Handshake, Traffic, Ended}
use Rattle.zmtp_peer.specs.declared.phase.Gave.{Gave}
use Rattle.zmtp_peer.specs.PeerStream.{Talk, talk, talked, sent, identity, or_later, messages, listed, hear, first_fault, begun_fault, ended_by, nothing, hears, IsQuiet}

abbrev pub with_reader : Talk → Reading → Talk
with_reader t r = record { phase = t.phase; greeting = t.greeting; reader = r; parts = t.parts }

no_fault : (a : Option FrameFault) (b : Option PeerFault) → a ≡ None → b ≡ None → first_fault a b ≡ None
no_fault None b one two = two
no_fault (Some f) b one two = cc

-- an octet that ends no frame and shows no fault
quiet_step : (phase : Phase) (g : List ℕ) (r : Reading) (parts : List (List ℕ)) (x : ℕ) (next : Reading) → hears phase ≡ true → step r x ≡ (next, None) → fault_at next.stage ≡ None → begun_fault phase parts (begun_at next.stage) ≡ None
    → talk (record { phase = phase; greeting = g; reader = r; parts = parts }) x ≡ (record { phase = phase; greeting = g; reader = next; parts = parts }, nothing)
quiet_step Handshake g r parts x next on is one two =
    ap (hear (record { phase = Handshake; greeting = g; reader = r; parts = parts })) is
    ∙ ap (λ (o : Option PeerFault). (record { phase = ended_by Handshake o; greeting = g; reader = next; parts = parts }, nothing)) (no_fault (fault_at next.stage) (begun_fault Handshake parts (begun_at next.stage)) one two)
quiet_step Traffic g r parts x next on is one two =
    ap (hear (record { phase = Traffic; greeting = g; reader = r; parts = parts })) is
    ∙ ap (λ (o : Option PeerFault). (record { phase = ended_by Traffic o; greeting = g; reader = next; parts = parts }, nothing)) (no_fault (fault_at next.stage) (begun_fault Traffic parts (begun_at next.stage)) one two)
quiet_step Greeting g r parts x next on is one two = cc
quiet_step (Ended f) g r parts x next on is one two = cc

-- octets that give nothing
pub record Passes (t : Talk) (xs : List ℕ) : Type 0 where
  pub talked : talked t xs ≡ with_reader t (reading_after t.reader xs)
  pub quiet : IsQuiet t xs

passes_first : (t next : Talk) (x : ℕ) (xs : List ℕ) → talk t x ≡ (next, nothing) → with_reader next (reading_after next.reader xs) ≡ with_reader t (reading_after t.reader (x ∷ xs)) → Passes next xs → Passes t (x ∷ xs)
passes_first t next x xs is same p = record {
  talked = ap (λ (s : Talk × Gave). talked s.0 xs) is ∙ p.talked ∙ same;
  quiet = record {
    sent = ap (λ (s : Talk × Gave). s.1.send ++ sent s.0 xs) is ∙ p.quiet.sent;
    identity = ap (λ (s : Talk × Gave). or_later s.1.ready (identity s.0 xs)) is ∙ p.quiet.identity;
    messages = ap (λ (s : Talk × Gave). listed s.1.message ++ messages s.0 xs) is ∙ p.quiet.messages;
  };
}

passes : (xs : List ℕ) (phase : Phase) (g : List ℕ) (parts : List (List ℕ)) (place : ℕ) (head : Head) (size left : ℕ) (body : List ℕ) → hears phase ≡ true → begun_fault phase parts (Some (begun head (Some size))) ≡ None → length xs < left
    → Passes (record { phase = phase; greeting = g; reader = filling place head size left body; parts = parts }) xs
passes [] phase g parts place head size left body on none lt = record { talked = refl; quiet = record { sent = refl; identity = refl; messages = refl } }
passes (x ∷ xs) phase g parts place head size left body on none lt =
    let next = filling (up place) head size (left - 1) (body ++ x ∷ []) in
    let is = fill_step place head size left body x (not_last left (length xs) lt) in
    let less : length xs < left - 1 = omega (arith, lt) in
    let t : Talk = record { phase = phase; greeting = g; reader = filling place head size left body; parts = parts } in
    passes_first t (with_reader t next) x xs
    (quiet_step phase g (filling place head size left body) parts x next on is refl none)
    (ap (λ (s : Reading × Option Frame). with_reader t (reading_after s.0 xs)) (sym is))
    (passes xs phase g parts (up place) head size (left - 1) (body ++ x ∷ []) on none less)

none_pass : (t : Talk) (xs : List ℕ) → xs ≡ [] → Passes t xs
none_pass t xs is = subst (λ (ys : List ℕ). Passes t ys) (sym is) (record { talked = refl; quiet = record { sent = refl; identity = refl; messages = refl } })

empty : (xs : List ℕ) → length xs ≡ 0 → xs ≡ []
empty [] e = refl
empty (x ∷ xs) e = absurd (omega (arith, e))

-- octets that are of a body, where what is known of its frame is no fault
pub fills_pass : (phase : Phase) (g : List ℕ) (parts : List (List ℕ)) (place : ℕ) (stage : Stage) (body xs : List ℕ) → hears phase ≡ true → begun_fault phase parts (begun_at stage) ≡ None → Fills stage (length xs)
    → Passes (record { phase = phase; greeting = g; reader = record { place = place; stage = stage; body = body }; parts = parts }) xs
fills_pass phase g parts place (Filling head size left) body xs on none fills = passes xs phase g parts place head size left body on none fills
fills_pass phase g parts place Between body xs on none fills = none_pass _ xs (empty xs fills)
fills_pass phase g parts place (Sizing head left size) body xs on none fills = none_pass _ xs (empty xs fills)
fills_pass phase g parts place (Faulty fault at) body xs on none fills = none_pass _ xs (empty xs fills)

pub talk_passes : (t : Talk) (xs : List ℕ) → hears t.phase ≡ true → begun_fault t.phase t.parts (begun_at t.reader.stage) ≡ None → Fills t.reader.stage (length xs) → Passes t xs
talk_passes t xs on none fills = fills_pass t.phase t.greeting t.parts t.reader.place t.reader.stage t.reader.body xs on none fills

-- ONE OCTET

or_none : (o : Option (List ℕ)) → o ≡ or_later o None
or_none None = refl
or_none (Some i) = refl

-- what the first of some octets does
pub record First (t next : Talk) (rest : List ℕ) (gave : Gave) : Type 0 where
  pub talked : next ≡ talked t (take 1 rest)
  pub sent : gave.send ≡ sent t (take 1 rest)
  pub ready : gave.ready ≡ identity t (take 1 rest)
  pub message : listed gave.message ≡ messages t (take 1 rest)

first_of : (t next : Talk) (x : ℕ) (xs : List ℕ) (gave : Gave) → talk t x ≡ (next, gave) → First t next (x ∷ xs) gave
first_of t next x xs gave is = record {
  talked = sym (ap (λ (s : Talk × Gave). s.0) is);
  sent = sym (ap (λ (s : Talk × Gave). s.1.send ++ []) is ∙ append-nil gave.send);
  ready = or_none gave.ready ∙ sym (ap (λ (s : Talk × Gave). or_later s.1.ready None) is);
  message = sym (ap (λ (s : Talk × Gave). listed s.1.message ++ []) is ∙ append-nil (listed gave.message));
}

pub first_octet : (t u next : Talk) (rest : List ℕ) (n : ℕ) (gave : Gave) → u ≡ talked t (take n rest) → n ≡ 0 → 0 < length rest → talk u (get_or rest 0 0) ≡ (next, gave) → First t next rest gave
first_octet t u next [] n gave same none some is = absurd (omega (arith, some))
first_octet t u next (x ∷ xs) n gave same none some is =
    let before : u ≡ t = same ∙ ap (λ (k : ℕ). talked t (take k (x ∷ xs))) none in
    first_of t next x xs gave (subst (λ (v : Talk). talk v x ≡ (next, gave)) before is)
