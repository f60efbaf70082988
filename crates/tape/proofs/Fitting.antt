-- What a tape gives has a spelling: its numbers, lengths and counts are within their limits.
use Rattle.std.proofs.Common.{◌≡◌, ℕ, zero, suc, ◌^◌, ◌<◌, ◌≤◌, nat_lt, Bool, true, false, List, [], ◌∷◌, ◌++◌, length, Ok, Err, refl, ap, subst, All, arith}
use Rattle.std.specs.Prelude.{◌==◌, ◌||◌}
use Rattle.std.specs.Int.{w32, w64}
use Rattle.std.proofs.lemmas.Bool.{ltb-false}
use Rattle.std.proofs.lemmas.Bool.Decides.{nat_tests}
use Rattle.std.proofs.lemmas.List.Elements.{All-nil, All-cons, All-append}
use Rattle.cluster_types.specs.Limits.{last_moment, most_frames}
use Rattle.cluster_types.specs.declared.config.Channel.TheVariants.{Hub, Task, Mux, Engine}
use Rattle.edges.specs.declared.stop.Stop.TheVariants.{Short, Bad}
use Rattle.edges.specs.Reading.{Read, octet_at, number_at, str8_at, blob_at, channel_at}
use Rattle.edges.proofs.Extends.{then_read, either, give, refuse}
use Rattle.edges.proofs.Takes.{IsBytes, Takes, bind_ok, got_is, octet_takes, number32_takes, number64_takes, str8_takes, blob_takes}
use Rattle.tape.specs.declared.record.TapeRecord.{TapeRecord}
use Rattle.tape.specs.declared.record.TapeKind.TheVariants.{Up, Piece, Down, Beat, Time, Message}
use Rattle.tape.specs.Reading.{up_at, piece_at, down_at, frames_at, message_at, kind_at, record_at}
use Rattle.tape.specs.Spelling.{FitsBlob, KindFits, Fits}
use Rattle.tape.specs.Tape.{Tape, taken, step, records}

-- a reader that gives only such values of octets, and leaves octets
record Yields {A : Type 0} (f : List ℕ → Read A) (P : A → Type 0) : Type 0 where
  value : (xs : List ℕ) (a : A) (rest : List ℕ) → IsBytes xs → f xs ≡ Ok (a, rest) → P a × IsBytes rest

by_takes : {A : Type 0} {f : List ℕ → Read A} {R : A → List ℕ → Type 0} (P : A → Type 0) → ((a : A) (text : List ℕ) → R a text → P a) → Takes f R → Yields f P
by_takes P so t = record { value = λ xs a rest bytes is. let p = t xs a rest bytes is in (so a p.0 p.2, p.3) }

in_order : {A B : Type 0} {f : List ℕ → Read A} {g : A → List ℕ → Read B} {P : A → Type 0} {Q : B → Type 0} → Yields f P → ((a : A) → P a → Yields (g a) Q) → Yields (then_read f g) Q
in_order {f = f} {g = g} first second = record {
  value = λ xs b rest bytes is.
      let p = bind_ok (f xs) (λ x. g x.0 x.1) (b, rest) is in
      let t = first.value xs p.0.0 p.0.1 bytes p.1 in
      (second p.0.0 t.0).value p.0.1 b rest t.1 p.2;
}

ending : {A : Type 0} {P : A → Type 0} (v : A) → P v → Yields (give v) P
ending {P = P} v p = record { value = λ xs a rest bytes is. let same = got_is v a xs rest is in (subst P same.0 p, subst IsBytes same.1 bytes) }

refused : {A : Type 0} {P : A → Type 0} → Yields refuse P
refused = record { value = λ xs a rest bytes is. absurd cc }

choice : {A : Type 0} {P : A → Type 0} (b : Bool) (f g : List ℕ → Read A) → (b ≡ true → Yields f P) → (b ≡ false → Yields g P) → Yields (either b f g) P
choice true f g first second = first refl
choice false f g first second = second refl

-- ---- fields

octet : Yields octet_at (λ n. n < 256)
octet = by_takes (λ n. n < 256) (λ n text r. r.1) octet_takes

number32 : Yields (number_at w32) (λ n. n < 2 ^ 32)
number32 = by_takes (λ n. n < 2 ^ 32) (λ n text r. r.1) number32_takes

number64 : Yields (number_at w64) (λ n. n < 2 ^ 64)
number64 = by_takes (λ n. n < 2 ^ 64) (λ n text r. r.1) number64_takes

str8 : Yields str8_at (λ s. length s < 256)
str8 = by_takes (λ s. length s < 256) (λ s text r. r.1) str8_takes

blob : Yields blob_at FitsBlob
blob = by_takes FitsBlob (λ s text r. r.1) blob_takes

channel : Yields channel_at (λ c. Unit {0})
unfolding channel_at
channel = in_order octet (λ code small. choice (code == 0) (give Hub) _ (λ is. ending Hub tt) (λ not. choice (code == 1) (give Task) _ (λ is. ending Task tt)
    (λ not. choice (code == 2) (give Mux) _ (λ is. ending Mux tt) (λ not. choice (code == 3) (give Engine) refuse (λ is. ending Engine tt) (λ not. refused)))))

-- ---- kinds

up : Yields up_at KindFits
unfolding up_at
up = in_order number32 (λ conn within. in_order channel (λ channel any. in_order octet (λ form small. choice (nat_lt 1 form) refuse _ (λ more. refused)
    (λ few. in_order str8 (λ identity short. ending (Up conn channel (form == 1) identity) (within, short))))))

piece : Yields piece_at KindFits
unfolding piece_at
piece = in_order number32 (λ conn within. in_order blob (λ octets short. ending (Piece conn octets) (within, short)))

down : Yields down_at KindFits
unfolding down_at
down = in_order number32 (λ conn within. ending (Down conn) within)

-- so many frames
abbrev AreFrames : ℕ → List (List ℕ) → Type 0
AreFrames n frames = (length frames ≡ n) × All FitsBlob frames

frame_list : (n : ℕ) → Yields (frames_at n) (AreFrames n)
frame_list zero = ending [] (refl, All-nil FitsBlob)
frame_list (suc n) = in_order blob (λ body short. in_order (frame_list n) (λ more are. ending (body ∷ more) (ap suc are.0, All-cons FitsBlob body more short are.1)))

-- a count that the test lets through
counted : (n : ℕ) → ((n == 0) || nat_lt most_frames n) ≡ false → (0 < n) × (n ≤ most_frames)
counted n few = grind (arith, nat_tests)

message_of : (conn count : ℕ) (frames : List (List ℕ)) → conn < 2 ^ 32 → ((count == 0) || nat_lt most_frames count) ≡ false → AreFrames count frames → KindFits (Message conn frames)
message_of conn count frames within few are =
    let range = counted count few in
    (within, omega (arith, range.0, are.0), omega (arith, range.1, are.0), are.1)

message : Yields message_at KindFits
unfolding message_at
message = in_order number32 (λ conn within. in_order octet (λ count small. choice ((count == 0) || nat_lt most_frames count) refuse _ (λ more. refused)
    (λ few. in_order (frame_list count) (λ frames are. ending (Message conn frames) (message_of conn count frames within few are)))))

kind : (code : ℕ) → Yields (kind_at code) KindFits
kind code =
    choice (code == 1) up_at _ (λ is. up) (λ not. choice (code == 2) piece_at _ (λ is. piece) (λ not. choice (code == 3) down_at _ (λ is. down)
    (λ not. choice (code == 4) (give Beat) _ (λ is. ending Beat tt) (λ not. choice (code == 5) (give Time) _ (λ is. ending Time tt) (λ not. choice (code == 6) message_at refuse (λ is. message) (λ not. refused))))))

-- ---- records

a_record : Yields record_at Fits
unfolding record_at
a_record = in_order octet (λ code small. in_order number64 (λ moment wide. choice (nat_lt last_moment moment) refuse _ (λ late. refused)
    (λ early. in_order number64 (λ word within. in_order (kind code) (λ told fits. ending (record { moment = moment; word = word; kind = told }) (record { moment = ltb-false _ _ early; word = within; kind = fits }))))))

pub record_fits : (octets : List ℕ) (r : TapeRecord) (rest : List ℕ) → IsBytes octets → record_at octets ≡ Ok (r, rest) → Fits r
record_fits octets r rest bytes is = (a_record.value octets r rest bytes is).0

-- ---- tapes

-- octets and one more
bytes_push : (xs : List ℕ) (x : ℕ) → IsBytes xs → x < 256 → IsBytes (xs ++ x ∷ [])
bytes_push [] x bytes small zero = small
bytes_push [] x bytes small (suc i) = omega arith
bytes_push (y ∷ ys) x bytes small zero = bytes 0
bytes_push (y ∷ ys) x bytes small (suc i) = bytes_push ys x (λ j. bytes (suc j)) small i

-- a tape whose unfinished record are octets, and the records that it gave
abbrev Sound : Tape × List TapeRecord → Type 0
Sound given = IsBytes given.0.rest × All Fits given.1

taken_sound : (at : ℕ) (rest : List ℕ) (read : Read TapeRecord) → IsBytes rest → ((r : TapeRecord) (more : List ℕ) → read ≡ Ok (r, more) → Fits r) → Sound (taken at rest read)
taken_sound at rest (Ok r) bytes so = (λ i. omega arith, All-cons Fits r.0 [] (so r.0 r.1 refl) (All-nil Fits))
taken_sound at rest (Err (Short k)) bytes so = (bytes, All-nil Fits)
taken_sound at rest (Err Bad) bytes so = (bytes, All-nil Fits)

step_as : (at : ℕ) (rest : List ℕ) (ended : Bool) (x : ℕ) → IsBytes rest → x < 256 → Sound (step (record { at = at; rest = rest; ended = ended }) x)
step_as at rest true x bytes small = (bytes, All-nil Fits)
step_as at rest false x bytes small =
    let more = bytes_push rest x bytes small in
    taken_sound at (rest ++ x ∷ []) (record_at (rest ++ x ∷ [])) more (λ r left is. record_fits (rest ++ x ∷ []) r left more is)

pub records_fit : (t : Tape) (octets : List ℕ) → IsBytes t.rest → IsBytes octets → All Fits (records t octets)
records_fit t [] rest bytes = All-nil Fits
records_fit t (x ∷ xs) rest bytes =
    let one = step_as t.at t.rest t.ended x rest (bytes 0) in
    All-append Fits (step t x).1 (records (step t x).0 xs) one.1 (records_fit (step t x).0 xs one.0 (λ i. bytes (suc i)))
