-- The record of an entry is read as this entry, whatever follows it; so no record begins another.
use Rattle.std.proofs.Common.{◌≡◌, ℕ, suc, ◌^◌, ◌<◌, ◌≤◌, true, false, List, [], ◌∷◌, ◌++◌, length, Ok, All, refl, sym, ap, ◌∙◌, append_assoc, arith}
use Rattle.std.specs.Prelude.{nat_lt, ◌==◌}
use Rattle.std.specs.Str.{is_utf8}
use Rattle.std.proofs.lemmas.Bool.{le-ltb}
use Rattle.std.proofs.lemmas.Bool.Decides.{nat_tests}
use Rattle.cluster_types.specs.declared.config.Channel.{Channel}
use Rattle.cluster_types.specs.declared.config.Scheme.{Scheme}
use Rattle.cluster_types.specs.declared.config.Scheme.TheVariants as schemes
use Rattle.cluster_types.specs.declared.verdict.Verdict.{Verdict}
use Rattle.cluster_types.specs.declared.verdict.Verdict.TheVariants as verdicts
use Rattle.cluster_types.specs.declared.verdict.Cause.{Cause}
use Rattle.cluster_types.specs.declared.verdict.Cause.TheVariants as causes
use Rattle.cluster_types.specs.declared.message.Message.{Message}
use Rattle.cluster_types.specs.declared.entry.Input.TheVariants.{Open, Up, Down, In, Beat, Time}
use Rattle.cluster_types.specs.declared.entry.Entry.{Entry}
use Rattle.cluster_types.specs.declared.entry.Entry.TheVariants.{Input, Hand, Settle, Lose}
use Rattle.edges.specs.Spelling.{be32, be64, str8, blob, channel_code}
use Rattle.edges.specs.Reading.{Read}
use Rattle.edges.proofs.Again.{number32, number64, str8_again, blob_again, channel_again}
use Rattle.record_codec.specs.Spelling.{scheme_code, verdict_code, cause_code, blobs, message_spelling, spelling, IsMoment, IsName, IsShort, HasRecord}
use Rattle.record_codec.specs.Reading.{moment_at, name_at, id_at, scheme_at, verdict_at, cause_at, blobs_at, buffers_at, message_at, open_at, up_at, down_at, in_at, beat_at, time_at, hand_at, settle_at, lose_at, entry_at}
use Rattle.cluster_types.proofs.Numbers.{not_zero}

moment_again : (n : ℕ) (rest : List ℕ) → IsMoment n → moment_at (be64 n ++ rest) ≡ Ok (n, rest)
unfolding moment_at
moment_again n rest le =
    let small : nat_lt 253402300799999 n ≡ false = le-ltb _ _ le in
    rw (number64 n rest (omega arith), small) refl

name_again : (text rest : List ℕ) → IsName text → name_at (str8 text ++ rest) ≡ Ok (text, rest)
unfolding name_at
name_again text rest is = rw (str8_again text rest, not_zero (length text) is.0) refl

id_again : (text rest : List ℕ) → IsName text → is_utf8 text ≡ true → id_at (str8 text ++ rest) ≡ Ok (text, rest)
unfolding id_at
id_again text rest is utf8 = rw (name_again text rest is, utf8) refl

scheme_again : (scheme : Scheme) (rest : List ℕ) → scheme_at (scheme_code scheme ∷ rest) ≡ Ok (scheme, rest)
unfolding scheme_at
scheme_again schemes.Lru rest = refl
scheme_again schemes.LeastLoad rest = refl
scheme_again schemes.PlainRandom rest = refl
scheme_again schemes.TwoBin rest = refl

verdict_again : (verdict : Verdict) (rest : List ℕ) → verdict_at (verdict_code verdict ∷ rest) ≡ Ok (verdict, rest)
unfolding verdict_at
verdict_again verdicts.Completed rest = refl
verdict_again verdicts.Failed rest = refl
verdict_again verdicts.Aborted rest = refl

cause_again : (cause : Cause) (rest : List ℕ) → cause_at (cause_code cause ∷ rest) ≡ Ok (cause, rest)
unfolding cause_at
cause_again causes.Reply rest = refl
cause_again causes.EngineError rest = refl
cause_again causes.ImpossibleDependency rest = refl
cause_again causes.InvalidDependency rest = refl
cause_again causes.TaskTimeout rest = refl
cause_again causes.Abort rest = refl

blobs_again : (buffers : List (List ℕ)) (rest : List ℕ) → All (λ buffer. length buffer < 2 ^ 32) buffers → blobs_at (length buffers) (blobs buffers ++ rest) ≡ Ok (buffers, rest)
unfolding blobs_at
blobs_again [] rest each = refl
blobs_again (buffer ∷ buffers) rest each =
    ap (λ (xs : List ℕ). blobs_at (suc (length buffers)) xs) (append_assoc (blob buffer) (blobs buffers) rest)
    ∙ rw (blob_again buffer (blobs buffers ++ rest) (each 0 buffer (omega arith)), blobs_again buffers rest (λ k d lt. each (suc k) d (omega arith))) refl

buffers_again : (buffers : List (List ℕ)) (rest : List ℕ) → length buffers ≤ 58 → All (λ buffer. length buffer < 2 ^ 32) buffers → buffers_at (length buffers ∷ (blobs buffers ++ rest)) ≡ Ok (buffers, rest)
unfolding buffers_at
buffers_again buffers rest number each =
    let few : nat_lt 58 (length buffers) ≡ false = le-ltb _ _ number in
    rw few (blobs_again buffers rest each)

six_parts : (a b c d e f rest : List ℕ) → (((((a ++ b) ++ c) ++ d) ++ e) ++ f) ++ rest ≡ a ++ (b ++ (c ++ (d ++ (e ++ (f ++ rest)))))
six_parts a b c d e f rest = simp append_assoc

message_again : (m : Message) (rest : List ℕ) → IsShort m → message_at (message_spelling m ++ rest) ≡ Ok (m, rest)
unfolding message_at message_spelling
message_again m rest short =
    let a : List ℕ = length m.buffers ∷ (blobs m.buffers ++ rest) in
    let b : List ℕ = blob m.content ++ a in
    let d : List ℕ = blob m.metadata ++ b in
    let e : List ℕ = blob m.parent ++ d in
    let f : List ℕ = blob m.header ++ e in
    let same : (str8 m.target ++ blob m.header ++ blob m.parent ++ blob m.metadata ++ blob m.content ++ length m.buffers ∷ blobs m.buffers) ++ rest ≡ str8 m.target ++ f = six_parts (str8 m.target) (blob m.header) (blob m.parent) (blob m.metadata) (blob m.content) (length m.buffers ∷ blobs m.buffers) rest in
    ap message_at same
    ∙ rw (str8_again m.target f, blob_again m.header e short.header, blob_again m.parent d short.parent, blob_again m.metadata b short.metadata, blob_again m.content a short.content, buffers_again m.buffers rest short.number short.buffers) refl

open_again : (moment : ℕ) (scheme : Scheme) (hwm misses : ℕ) (rest : List ℕ) → IsMoment moment → hwm < 2 ^ 32 → misses < 2 ^ 32
    → open_at ((be64 moment ++ scheme_code scheme ∷ be32 hwm ++ be32 misses) ++ rest) ≡ Ok (Input (Open moment scheme hwm misses), rest)
unfolding open_at
open_again moment scheme hwm misses rest m h k =
    let same : (be64 moment ++ scheme_code scheme ∷ be32 hwm ++ be32 misses) ++ rest ≡ be64 moment ++ (scheme_code scheme ∷ (be32 hwm ++ (be32 misses ++ rest))) = simp append_assoc in
    ap open_at same ∙ rw (moment_again moment (scheme_code scheme ∷ (be32 hwm ++ (be32 misses ++ rest))) m, scheme_again scheme (be32 hwm ++ (be32 misses ++ rest)), number32 hwm (be32 misses ++ rest) h, number32 misses rest k) refl

up_again : (conn : ℕ) (channel : Channel) (moment word : ℕ) (identity rest : List ℕ) → conn < 2 ^ 32 → IsMoment moment → word < 2 ^ 64 → IsName identity
    → up_at ((be32 conn ++ channel_code channel ∷ be64 moment ++ be64 word ++ str8 identity) ++ rest) ≡ Ok (Input (Up conn channel moment word identity), rest)
unfolding up_at
up_again conn channel moment word identity rest c m w i =
    let a : List ℕ = str8 identity ++ rest in
    let same : (be32 conn ++ channel_code channel ∷ be64 moment ++ be64 word ++ str8 identity) ++ rest ≡ be32 conn ++ (channel_code channel ∷ (be64 moment ++ (be64 word ++ a))) = simp append_assoc in
    ap up_at same ∙ rw (number32 conn (channel_code channel ∷ (be64 moment ++ (be64 word ++ a))) c, channel_again channel (be64 moment ++ (be64 word ++ a)), moment_again moment (be64 word ++ a) m, number64 word a w, name_again identity rest i) refl

down_again : (conn moment word : ℕ) (rest : List ℕ) → conn < 2 ^ 32 → IsMoment moment → word < 2 ^ 64
    → down_at ((be32 conn ++ be64 moment ++ be64 word) ++ rest) ≡ Ok (Input (Down conn moment word), rest)
unfolding down_at
down_again conn moment word rest c m w =
    let same : (be32 conn ++ be64 moment ++ be64 word) ++ rest ≡ be32 conn ++ (be64 moment ++ (be64 word ++ rest)) = simp append_assoc in
    ap down_at same ∙ rw (number32 conn (be64 moment ++ (be64 word ++ rest)) c, moment_again moment (be64 word ++ rest) m, number64 word rest w) refl

in_again : (conn moment word : ℕ) (message : Message) (rest : List ℕ) → conn < 2 ^ 32 → IsMoment moment → word < 2 ^ 64 → IsShort message
    → in_at ((be32 conn ++ be64 moment ++ be64 word ++ message_spelling message) ++ rest) ≡ Ok (Input (In conn moment word message), rest)
unfolding in_at
in_again conn moment word message rest c m w short =
    let a : List ℕ = message_spelling message ++ rest in
    let same : (be32 conn ++ be64 moment ++ be64 word ++ message_spelling message) ++ rest ≡ be32 conn ++ (be64 moment ++ (be64 word ++ a)) = simp append_assoc in
    ap in_at same ∙ rw (number32 conn (be64 moment ++ (be64 word ++ a)) c, moment_again moment (be64 word ++ a) m, number64 word a w, message_again message rest short) refl

beat_again : (moment word : ℕ) (rest : List ℕ) → IsMoment moment → word < 2 ^ 64 → beat_at ((be64 moment ++ be64 word) ++ rest) ≡ Ok (Input (Beat moment word), rest)
unfolding beat_at
beat_again moment word rest m w =
    ap beat_at (append_assoc (be64 moment) (be64 word) rest) ∙ rw (moment_again moment (be64 word ++ rest) m, number64 word rest w) refl

time_again : (moment word : ℕ) (rest : List ℕ) → IsMoment moment → word < 2 ^ 64 → time_at ((be64 moment ++ be64 word) ++ rest) ≡ Ok (Input (Time moment word), rest)
unfolding time_at
time_again moment word rest m w =
    ap time_at (append_assoc (be64 moment) (be64 word) rest) ∙ rw (moment_again moment (be64 word ++ rest) m, number64 word rest w) refl

hand_again : (id : List ℕ) (engine : ℕ) (rest : List ℕ) → IsName id → is_utf8 id ≡ true → engine < 2 ^ 32 → hand_at ((str8 id ++ be32 engine) ++ rest) ≡ Ok (Hand id engine, rest)
unfolding hand_at
hand_again id engine rest i u e =
    ap hand_at (append_assoc (str8 id) (be32 engine) rest) ∙ rw (id_again id (be32 engine ++ rest) i u, number32 engine rest e) refl

settle_again : (id : List ℕ) (verdict : Verdict) (cause : Cause) (rest : List ℕ) → IsName id → is_utf8 id ≡ true
    → settle_at ((str8 id ++ verdict_code verdict ∷ cause_code cause ∷ []) ++ rest) ≡ Ok (Settle id verdict cause, rest)
unfolding settle_at
settle_again id verdict cause rest i u =
    ap settle_at (append_assoc (str8 id) (verdict_code verdict ∷ cause_code cause ∷ []) rest)
    ∙ rw (id_again id (verdict_code verdict ∷ cause_code cause ∷ rest) i u, verdict_again verdict (cause_code cause ∷ rest), cause_again cause rest) refl

lose_again : (engine : ℕ) (rest : List ℕ) → engine < 2 ^ 32 → lose_at (be32 engine ++ rest) ≡ Ok (Lose engine, rest)
unfolding lose_at
lose_again engine rest e = rw (number32 engine rest e) refl

pub entry_again : (e : Entry) (rest : List ℕ) → HasRecord e → entry_at (spelling e ++ rest) ≡ Ok (e, rest)
unfolding entry_at
entry_again (Input (Open moment scheme hwm misses)) rest has = open_again moment scheme hwm misses rest has.0 has.1.0 has.1.1
entry_again (Input (Up conn channel moment word identity)) rest has = up_again conn channel moment word identity rest has.1.0 has.0.0 has.1.1 has.0.1
entry_again (Input (Down conn moment word)) rest has = down_again conn moment word rest has.1.0 has.0 has.1.1
entry_again (Input (In conn moment word message)) rest has = in_again conn moment word message rest has.1.0 has.0.0 has.1.1 has.0.1
entry_again (Input (Beat moment word)) rest has = beat_again moment word rest has.0 has.1
entry_again (Input (Time moment word)) rest has = time_again moment word rest has.0 has.1
entry_again (Hand id engine) rest has = hand_again id engine rest has.0 has.1.0 has.1.1
entry_again (Settle id verdict cause) rest has = settle_again id verdict cause rest has.0 has.1
entry_again (Lose engine) rest has = lose_again engine rest has.1

abbrev got : Entry → List ℕ → Read Entry
got e rest = Ok (e, rest)

pub pair_is : (a b : Entry) (x y : List ℕ) → got a x ≡ got b y → (a ≡ b) × (x ≡ y)
pair_is a b x y e =
    let p : ◌≡◌ {A = Entry × List ℕ} (a, x) (b, y) = cc in
    (ap (λ (q : Entry × List ℕ). q.0) p, ap (λ (q : Entry × List ℕ). q.1) p)

pub one_spelling : (a b : Entry) (x y : List ℕ) → HasRecord a → HasRecord b → spelling a ++ x ≡ spelling b ++ y → (a ≡ b) × (x ≡ y)
one_spelling a b x y has_a has_b e = pair_is a b x y (sym (entry_again a x has_a) ∙ ap entry_at e ∙ entry_again b y has_b)
