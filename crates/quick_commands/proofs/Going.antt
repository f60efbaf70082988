-- A tape that is served while it is read.
use Rattle.std.proofs.Common.{◌≡◌, ◌<◌, ◌≤◌, ◌+◌, ℕ, true, List, [], ◌∷◌, ◌++◌, length, take, Option, Some, None, refl, sym, ap, subst, ◌∙◌, append_assoc, length-append, length-take-le, arith}
use Rattle.std.specs.Prelude.{option_map, OnOk, Result, Ok, Err, false}
use Rattle.quick_commands.specs.declared.replay.ServeError.{ServeError}
use Rattle.quick_commands.specs.Serving.{is_disk_failure}
use Rattle.std.proofs.lemmas.List.{append-nil}
use Rattle.cluster_defs.specs.Histories.{History}
use Rattle.edges.specs.Streams.{Added, Took, IsAtEnd}
use Rattle.tape.specs.declared.record.TapeRecord.{TapeRecord}
use Rattle.tape.specs.Tape.{Tape, blank, tape_after, records, fault}
use Rattle.tape.specs.Spelling.{all_spelled}
use Rattle.tape.proofs.Chunk.{after_append, records_append, stays}
use Rattle.tape_drive.specs.Drive.{Stand, served, served_from, outs, outs_from_stand, outputs, stand_at, first_of, drive_stand, drive_output, drive_stop}
use Rattle.tape_drive.specs.Served.{Comes}
use Rattle.tape_drive.specs.declared.drive.TapeStop.{TapeStop}
use Rattle.tape_drive.specs.declared.drive.TapeStop.TheVariants.{BadTape, HistoryFull}
use Rattle.command_words.specs.declared.ending.Ending.{Ending}
use Rattle.command_words.specs.declared.ending.Ending.TheVariants as endings
use Rattle.quick_commands.specs.Replays.{IsServed}
use Rattle.quick_commands.specs.Written.{Ended, IsWhole, ending_at}
use Rattle.quick_commands.proofs.Fronts.{written_append, stand_append}
use Rattle.quick_commands.proofs.Reached.{comes_more, comes_behind, served_more, served_behind, served_whole}
use Rattle.edges.proofs.Additions.{added_none, added_both}
use Rattle.database_text.proofs.Fronts.{front_all}

-- so far: the records that came were served, all that they send was written, and what is left of the input gives the others
pub record Going (key : List ℕ) (begin : Stand) (octets : List ℕ) (before now : Option (List ℕ)) (left : Option (List ℕ)) (tape : Tape) (stand : Stand) : Type 0 where
  pub more : List ℕ
  pub left_is : left ≡ Some more
  pub tape_is : tape_after tape more ≡ tape_after blank octets
  pub done : List TapeRecord
  pub list_is : records blank octets ≡ done ++ records tape more
  pub stand_is : stand ≡ stand_at key begin done
  pub added : Added (all_spelled (outputs key begin done)) before now

pub going_starts : (key : List ℕ) (begin : Stand) (octets : List ℕ) (w : Option (List ℕ)) (left : Option (List ℕ)) → left ≡ Some octets → Going key begin octets w w left blank begin
going_starts key begin octets w left e = record { more = octets; left_is = e; tape_is = refl; done = []; list_is = refl; stand_is = refl; added = added_none w }

some_is : (a b : List ℕ) → Some a ≡ Some b → a ≡ b
some_is a b e = cc

-- what was taken off what is left
taken_off : (piece more : List ℕ) (left : Option (List ℕ)) → Some more ≡ option_map (λ rest. piece ++ rest) left → (rest : List ℕ) × (left ≡ Some rest) × (more ≡ piece ++ rest)
taken_off piece more None e = absurd cc
taken_off piece more (Some rest) e = (rest, refl, some_is more (piece ++ rest) e)

-- the records of a piece, and those behind it
list_with : {key : List ℕ} {begin : Stand} {octets : List ℕ} {before now left : Option (List ℕ)} {tape : Tape} {stand : Stand} → (g : Going key begin octets before now left tape stand)
    → (piece rest : List ℕ) → g.more ≡ piece ++ rest → records blank octets ≡ g.done ++ (records tape piece ++ records (tape_after tape piece) rest)
list_with {tape = tape} g piece rest is = g.list_is ∙ ap (λ (xs : List ℕ). g.done ++ records tape xs) is ∙ ap (λ (es : List TapeRecord). g.done ++ es) (records_append tape piece rest)

pub going_on : {key : List ℕ} {begin : Stand} {octets : List ℕ} {before now left : Option (List ℕ)} {tape : Tape} {stand : Stand} → Going key begin octets before now left tape stand
    → (piece : List ℕ) (left' now' : Option (List ℕ)) (tape' : Tape) (stand' : Stand) → Took piece left left' → tape' ≡ tape_after tape piece → stand' ≡ stand_at key stand (records tape piece)
    → Added (all_spelled (outputs key stand (records tape piece))) now now' → Going key begin octets before now' left' tape' stand'
going_on {key = key} {begin = begin} {octets = octets} {before = before} {now = now} {left = left} {tape = tape} {stand = stand} g piece left' now' tape' stand' took tape-is stand-is added =
    let t = taken_off piece g.more left' (sym g.left_is ∙ took) in
    let rest = t.0 in
    let list = records tape piece in
    record {
      more = rest;
      left_is = t.1;
      tape_is = ap (λ (u : Tape). tape_after u rest) tape-is ∙ sym (after_append tape piece rest) ∙ ap (tape_after tape) (sym t.2) ∙ g.tape_is;
      done = g.done ++ records tape piece;
      list_is = list_with g piece rest t.2 ∙ sym (append_assoc g.done (records tape piece) (records (tape_after tape piece) rest)) ∙ ap (λ (u : Tape). (g.done ++ records tape piece) ++ records u rest) (sym tape-is);
      stand_is = stand-is ∙ ap (λ (k : Stand). stand_at key k (records tape piece)) g.stand_is ∙ sym (stand_append key begin g.done (records tape piece));
      added = subst (λ (xs : List ℕ). Added xs before now') (sym (written_append key begin g.done (records tape piece)))
          (added_both (all_spelled (outputs key begin g.done)) (all_spelled (outputs key (stand_at key begin g.done) (records tape piece))) before now now' g.added
          (subst (λ (k : Stand). Added (all_spelled (outputs key k (records tape piece))) now now') g.stand_is added));
    }

-- what was served so far
pub going_served : {key : List ℕ} {begin : Stand} {octets : List ℕ} {before now left : Option (List ℕ)} {tape : Tape} {stand : Stand} → Going key begin octets before now left tape stand →
    IsServed key begin (records blank octets) before now stand.history
going_served {key = key} {begin = begin} {octets = octets} {before = before} {now = now} {tape = tape} {stand = stand} g =
    subst (λ (k : Stand). IsServed key begin (records blank octets) before now k.history) (sym g.stand_is)
    (subst (λ (rs : List TapeRecord). IsServed key begin rs before now (stand_at key begin g.done).history) (sym g.list_is)
    (served_whole key begin g.done (records tape g.more) before now (front_all (all_spelled (outputs key begin g.done)) before now g.added)))

-- what was served with a piece
pub going_piece : {key : List ℕ} {begin : Stand} {octets : List ℕ} {before now left : Option (List ℕ)} {tape : Tape} {stand : Stand} → Going key begin octets before now left tape stand
    → (piece : List ℕ) (left' now' : Option (List ℕ)) (h : History) → Took piece left left' → IsServed key stand (records tape piece) now now' h → IsServed key begin (records blank octets) before now' h
going_piece {key = key} {begin = begin} {octets = octets} {before = before} {now = now} {tape = tape} {stand = stand} g piece left' now' h took w =
    let t = taken_off piece g.more left' (sym g.left_is ∙ took) in
    let more = records (tape_after tape piece) t.0 in
    subst (λ (rs : List TapeRecord). IsServed key begin rs before now' h) (sym (list_with g piece t.0 t.2))
    (served_behind key begin g.done (records tape piece ++ records (tape_after tape piece) t.0) before now now' h g.added
    (served_more key (stand_at key begin g.done) (records tape piece) (records (tape_after tape piece) t.0) now now' h (subst (λ (k : Stand). IsServed key k (records tape piece) now now' h) g.stand_is w)))

-- and what it comes to
pub going_comes : {key : List ℕ} {begin : Stand} {octets : List ℕ} {before now left : Option (List ℕ)} {tape : Tape} {stand : Stand} → Going key begin octets before now left tape stand
    → (piece : List ℕ) (left' : Option (List ℕ)) (h : History) → Took piece left left' → Comes key stand (records tape piece) h → Comes key begin (records blank octets) h
going_comes {key = key} {begin = begin} {octets = octets} {tape = tape} {stand = stand} g piece left' h took comes =
    let t = taken_off piece g.more left' (sym g.left_is ∙ took) in
    subst (λ (rs : List TapeRecord). Comes key begin rs h) (sym (list_with g piece t.0 t.2))
    (comes_behind key begin g.done (records tape piece ++ records (tape_after tape piece) t.0) h
    (comes_more key (stand_at key begin g.done) (records tape piece) (records (tape_after tape piece) t.0) h (subst (λ (k : Stand). Comes key k (records tape piece) h) g.stand_is comes)))

-- nothing more changes the tape: the input is at its end, or a record does not stand
pub record Over (key : List ℕ) (begin : Stand) (octets : List ℕ) (before now : Option (List ℕ)) (tape : Tape) (stand : Stand) : Type 0 where
  pub place : fault (tape_after blank octets) ≡ fault tape
  pub stand_is : stand ≡ drive_stand key begin octets
  pub added : Added (drive_output key begin octets) before now

-- nothing more is to be served
over_where : {key : List ℕ} {begin : Stand} {octets : List ℕ} {before now left : Option (List ℕ)} {tape : Tape} {stand : Stand} → (g : Going key begin octets before now left tape stand)
    → records tape g.more ≡ [] → fault (tape_after tape g.more) ≡ fault tape → Over key begin octets before now tape stand
over_where {key = key} {begin = begin} {octets = octets} {before = before} {now = now} {tape = tape} {stand = stand} g none place =
    let all : records blank octets ≡ g.done = g.list_is ∙ ap (λ (es : List TapeRecord). g.done ++ es) none ∙ append-nil g.done in
    record {
      place = ap fault (sym g.tape_is) ∙ place;
      stand_is = g.stand_is ∙ ap (stand_at key begin) (sym all);
      added = subst (λ (es : List TapeRecord). Added (all_spelled (outputs key begin es)) before now) (sym all) g.added;
    }

pub going_ends : {key : List ℕ} {begin : Stand} {octets : List ℕ} {before now left : Option (List ℕ)} {tape : Tape} {stand : Stand} → Going key begin octets before now left tape stand → IsAtEnd left → Over key begin octets before now tape stand
going_ends {tape = tape} g end =
    let none : g.more ≡ [] = end g.more g.left_is in
    over_where g (ap (records tape) none) (ap (λ (xs : List ℕ). fault (tape_after tape xs)) none)

pub going_bad : {key : List ℕ} {begin : Stand} {octets : List ℕ} {before now left : Option (List ℕ)} {tape : Tape} {stand : Stand} → Going key begin octets before now left tape stand → tape.ended ≡ true → Over key begin octets before now tape stand
going_bad {tape = tape} g bad =
    let s = stays tape g.more bad in
    over_where g s.list (ap fault s.tape)

-- a drive that has stopped stays where it is, and sends nothing more
served_off : (key : List ℕ) (stand : Stand) (r : TapeRecord) (stop : TapeStop) → stand.stop ≡ Some stop → served key stand r ≡ stand
served_off key stand r stop off = ap (served_from key stand r) off

outs_off : (key : List ℕ) (stand : Stand) (r : TapeRecord) (stop : TapeStop) → stand.stop ≡ Some stop → outs key stand r ≡ []
outs_off key stand r stop off = ap (outs_from_stand key stand r) off

stopped_stays : (key : List ℕ) (stand : Stand) (rs : List TapeRecord) (stop : TapeStop) → stand.stop ≡ Some stop → stand_at key stand rs ≡ stand
stopped_stays key stand [] stop off = refl
stopped_stays key stand (r ∷ rs) stop off = ap (λ (s : Stand). stand_at key s rs) (served_off key stand r stop off) ∙ stopped_stays key stand rs stop off

stopped_silent : (key : List ℕ) (stand : Stand) (rs : List TapeRecord) (stop : TapeStop) → stand.stop ≡ Some stop → outputs key stand rs ≡ []
stopped_silent key stand [] stop off = refl
stopped_silent key stand (r ∷ rs) stop off =
    ap (λ (xs : List TapeRecord). xs ++ outputs key (served key stand r) rs) (outs_off key stand r stop off)
    ∙ ap (λ (s : Stand). outputs key s rs) (served_off key stand r stop off) ∙ stopped_silent key stand rs stop off

-- a record broke a rule, or a step would pass a limit: where the drive stands and all that it sends is there
pub record Stopped (key : List ℕ) (begin : Stand) (octets : List ℕ) (before now : Option (List ℕ)) (stand : Stand) : Type 0 where
  pub stand_is : stand ≡ drive_stand key begin octets
  pub added : Added (drive_output key begin octets) before now

pub going_stopped : {key : List ℕ} {begin : Stand} {octets : List ℕ} {before now left : Option (List ℕ)} {tape : Tape} {stand : Stand} → Going key begin octets before now left tape stand
    → (stop : TapeStop) → stand.stop ≡ Some stop → Stopped key begin octets before now stand
going_stopped {key = key} {begin = begin} {octets = octets} {before = before} {now = now} {tape = tape} {stand = stand} g stop off =
    let rest = records tape g.more in
    let whole : drive_stand key begin octets ≡ stand_at key stand (records tape g.more) = ap (stand_at key begin) g.list_is ∙ stand_append key begin g.done (records tape g.more) ∙ ap (λ (k : Stand). stand_at key k (records tape g.more)) (sym g.stand_is) in
    let silent : all_spelled (outputs key (stand_at key begin g.done) (records tape g.more)) ≡ [] =
    ap (λ (k : Stand). all_spelled (outputs key k (records tape g.more))) (sym g.stand_is) ∙ ap all_spelled (stopped_silent key stand (records tape g.more) stop off) in
    let text : drive_output key begin octets ≡ all_spelled (outputs key begin g.done) =
    ap (λ (es : List TapeRecord). all_spelled (outputs key begin es)) g.list_is ∙ written_append key begin g.done (records tape g.more) ∙ ap (λ (xs : List ℕ). all_spelled (outputs key begin g.done) ++ xs) silent ∙ append-nil (all_spelled (outputs key begin g.done)) in
    record {
      stand_is = sym (whole ∙ stopped_stays key stand (records tape g.more) stop off);
      added = subst (λ (xs : List ℕ). Added xs before now) (sym text) g.added;
    }

pub ends_stopped : {key : List ℕ} {begin : Stand} {octets : List ℕ} {before now : Option (List ℕ)} {stand : Stand} → Stopped key begin octets before now stand
    → (stop : TapeStop) → stand.stop ≡ Some stop → (end : Ending) → end ≡ ending_at stop → Ended end (drive_output key begin octets) (drive_stop key begin octets) before now
ends_stopped {key = key} {begin = begin} {octets = octets} {before = before} {now = now} {stand = stand} g stop off end is =
    let told : drive_stop key begin octets ≡ Some stop = ap (λ (o : Option TapeStop). first_of o (option_map BadTape (fault (tape_after blank octets)))) (ap (λ (s : Stand). s.stop) (sym g.stand_is) ∙ off) in
    subst (λ (e : Ending). Ended e (drive_output key begin octets) (drive_stop key begin octets) before now) (sym is) (by stop told g.added)
  where
    by : (stop : TapeStop) → drive_stop key begin octets ≡ Some stop → Added (drive_output key begin octets) before now → Ended (ending_at stop) (drive_output key begin octets) (drive_stop key begin octets) before now
    by (BadTape place) told added = (added, told)
    by (HistoryFull size) told added = (added, told)

stop_over : {key : List ℕ} {begin : Stand} {octets : List ℕ} {before now : Option (List ℕ)} {tape : Tape} {stand : Stand} → Over key begin octets before now tape stand
    → stand.stop ≡ None → drive_stop key begin octets ≡ option_map BadTape (fault tape)
stop_over {key = key} {begin = begin} {octets = octets} {stand = stand} o goes =
    ap (λ (p : Option TapeStop). first_of p (option_map BadTape (fault (tape_after blank octets)))) (ap (λ (s : Stand). s.stop) (sym o.stand_is) ∙ goes) ∙ ap (option_map BadTape) o.place

-- no whole record stands at a place
pub ends_bad : {key : List ℕ} {begin : Stand} {octets : List ℕ} {before now : Option (List ℕ)} {tape : Tape} {stand : Stand} → Over key begin octets before now tape stand
    → stand.stop ≡ None → (place : ℕ) → fault tape ≡ Some place → Ended (endings.BadTape place) (drive_output key begin octets) (drive_stop key begin octets) before now
ends_bad o goes place is = (o.added, stop_over o goes ∙ ap (option_map BadTape) is)

-- all was served
pub ends_done : {key : List ℕ} {begin : Stand} {octets : List ℕ} {before now : Option (List ℕ)} {tape : Tape} {stand : Stand} → Over key begin octets before now tape stand
    → stand.stop ≡ None → fault tape ≡ None → Ended endings.Done (drive_output key begin octets) (drive_stop key begin octets) before now
ends_done o goes none = (o.added, stop_over o goes ∙ ap (option_map BadTape) none)

-- AN ANSWER

pub on_ok : {T E : Type 0} (r : Result T E) (P : Type 0) → ((e : E) → r ≡ Err e → ⊥) → OnOk r P → P
on_ok (Ok x) P not on = on
on_ok (Err e) P not on = absurd (not e refl)

pub never_failed : {T : Type 0} (r : Result T ServeError) → ((e : ServeError) → r ≡ Err e → ⊥) → is_disk_failure r ≡ false
never_failed (Ok x) not = refl
never_failed (Err e) not = absurd (not e refl)

pub whole_at : (stop : TapeStop) (e : Ending) (P : Type 0) → e ≡ ending_at stop → P → IsWhole e P
whole_at stop e P is p = subst (λ (d : Ending). IsWhole d P) (sym is) (by stop)
  where
    by : (stop : TapeStop) → IsWhole (ending_at stop) P
    by (BadTape place) = p
    by (HistoryFull size) = p

-- at least so many octets were taken of what was left
pub record Spent (n : ℕ) (octets : List ℕ) (left : Option (List ℕ)) : Type 0 where
  pub more : List ℕ
  pub left_is : left ≡ Some more
  pub few : n + length more ≤ length octets

pub spent_none : (octets : List ℕ) (left : Option (List ℕ)) → left ≡ Some octets → Spent 0 octets left
spent_none octets left e = record { more = octets; left_is = e; few = omega arith }

pub spent_more : {n : ℕ} {octets : List ℕ} {left : Option (List ℕ)} → Spent n octets left → (piece : List ℕ) (left' : Option (List ℕ)) → 0 < length piece → Took piece left left' → Spent (n + 1) octets left'
spent_more {n = n} {octets = octets} s piece left' some took =
    let t = taken_off piece s.more left' (sym s.left_is ∙ took) in
    record {
      more = t.0;
      left_is = t.1;
      few =
          let long : length s.more ≡ length piece + length t.0 = ap length t.2 ∙ length-append piece t.0 in
          let few = s.few in
          omega (arith, long, few, some);
    }

pub spent_all : {n : ℕ} {octets : List ℕ} {left : Option (List ℕ)} → Spent n octets left → n ≤ length octets
spent_all s = let few = s.few in omega (arith, few)

pub some_taken : (n : ℕ) (xs : List ℕ) → 0 < n → n ≤ length xs → 0 < length (take n xs)
some_taken n xs some fits = subst (λ k. 0 < k) (sym (length-take-le n xs fits)) some
