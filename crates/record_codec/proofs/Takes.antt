-- What is read has a record, and this record stands there.
use Rattle.std.proofs.Common.{◌≡◌, ℕ, zero, suc, ◌^◌, ◌<◌, ◌≤◌, true, false, List, [], ◌∷◌, ◌++◌, length, All, refl, sym, ap, subst, ◌∙◌, append_assoc, arith, inl, inr}
use Rattle.std.specs.Prelude.{nat_lt, ◌==◌, ◌⊎◌}
use Rattle.std.specs.Int.{w32, w64}
use Rattle.std.specs.Str.{is_utf8}
use Rattle.std.proofs.lemmas.Bool.{ltb-false, eqb-true}
use Rattle.std.proofs.lemmas.List.{append-nil}
use Rattle.std.proofs.lemmas.Bool.Decides.{nat_tests}
use Rattle.cluster_types.specs.declared.config.Channel.TheVariants as channels
use Rattle.cluster_types.specs.declared.config.Scheme.TheVariants as schemes
use Rattle.cluster_types.specs.declared.verdict.Verdict.TheVariants as verdicts
use Rattle.cluster_types.specs.declared.verdict.Cause.TheVariants as causes
use Rattle.cluster_types.specs.declared.message.Message.{Message}
use Rattle.cluster_types.specs.declared.entry.Input.TheVariants.{Open, Up, Down, In, Beat, Time}
use Rattle.cluster_types.specs.declared.entry.Entry.{Entry}
use Rattle.cluster_types.specs.declared.entry.Entry.TheVariants.{Input, Hand, Settle, Lose}
use Rattle.edges.specs.Spelling.{be32, be64, str8, blob, channel_code}
use Rattle.edges.specs.Reading.{Read, octet_at, number_at, str8_at, blob_at, channel_at}
use Rattle.edges.proofs.Extends.{then_read, either, give, refuse}
use Rattle.edges.proofs.Takes.{Takes, Joined, Made, Num32, Num64, Octet, Str8, Blob, takes_in_turn, takes_give, takes_refuse, takes_either, takes_weaker, octet_takes, number32_takes, number64_takes, str8_takes, blob_takes, joined_text, last_text}
use Rattle.record_codec.specs.Spelling.{scheme_code, verdict_code, cause_code, blobs, message_spelling, spelling, IsMoment, IsName, IsShort, HasRecord}
use Rattle.record_codec.specs.Reading.{moment_at, name_at, id_at, scheme_at, verdict_at, cause_at, blobs_at, buffers_at, message_at, open_at, up_at, down_at, in_at, beat_at, time_at, hand_at, settle_at, lose_at, kind_at, entry_at}
use Rattle.cluster_types.proofs.Numbers.{above_zero}

-- as `Takes`, with arguments that are found
record Reads {A : Type 0} (f : List ℕ → Read A) (R : A → List ℕ → Type 0) : Type 0 where
  takes : Takes f R

in_order : {A B : Type 0} {f : List ℕ → Read A} {g : A → List ℕ → Read B} {R : A → List ℕ → Type 0} {S : A → B → List ℕ → Type 0} → Reads f R → ((a : A) → Reads (g a) (S a)) → Reads (then_read f g) (Joined R S)
in_order {f = f} {g = g} {R = R} {S = S} first second = record { takes = takes_in_turn f g R S first.takes (λ a. (second a).takes) }

ending : {A : Type 0} (v : A) → Reads (give v) (Made v)
ending v = record { takes = takes_give v }

number32 : Reads (number_at w32) Num32
number32 = record { takes = number32_takes }

number64 : Reads (number_at w64) Num64
number64 = record { takes = number64_takes }

-- ---- values

limited : (n : ℕ) → Takes (either (nat_lt 253402300799999 n) refuse (give n)) (λ m t. (m ≡ n) × IsMoment n × (t ≡ []))
limited n =
    takes_weaker _ _ (λ m t. (m ≡ n) × IsMoment n × (t ≡ [])) (λ m t r. elim r [ inl p ↦ absurd p.1 | inr p ↦ (p.1.0, ltb-false _ _ p.0, p.1.1) ])
    (takes_either (nat_lt 253402300799999 n) refuse (give n) (λ m t. ⊥) (Made n) (takes_refuse (λ m t. ⊥)) (takes_give n))

abbrev AMoment : ℕ → List ℕ → Type 0
AMoment n t = (t ≡ be64 n) × IsMoment n

moment : Reads moment_at AMoment
unfolding moment_at
moment = record {
  takes = takes_weaker (then_read (number_at w64) (λ n. either (nat_lt 253402300799999 n) refuse (give n))) (Joined Num64 (λ n m t. (m ≡ n) × IsMoment n × (t ≡ []))) AMoment
      (λ m t j. (last_text t j.1 j.2 (be64 m) j.3 (j.4.0 ∙ ap be64 (sym j.5.0)) j.5.2, subst IsMoment (sym j.5.0) j.5.1))
      (takes_in_turn (number_at w64) (λ n. either (nat_lt 253402300799999 n) refuse (give n)) Num64 (λ n m t. (m ≡ n) × IsMoment n × (t ≡ [])) number64_takes limited);
}

nonempty : (s : List ℕ) → Takes (either (length s == 0) refuse (give s)) (λ r t. (r ≡ s) × (0 < length s) × (t ≡ []))
nonempty s =
    takes_weaker _ _ (λ r t. (r ≡ s) × (0 < length s) × (t ≡ [])) (λ r t p. elim p [ inl q ↦ absurd q.1 | inr q ↦ (q.1.0, above_zero _ q.0, q.1.1) ])
    (takes_either (length s == 0) refuse (give s) (λ r t. ⊥) (Made s) (takes_refuse (λ r t. ⊥)) (takes_give s))

abbrev AName : List ℕ → List ℕ → Type 0
AName s t = (t ≡ str8 s) × IsName s

name : Reads name_at AName
unfolding name_at
name = record {
  takes = takes_weaker (then_read str8_at (λ s. either (length s == 0) refuse (give s))) (Joined Str8 (λ s r t. (r ≡ s) × (0 < length s) × (t ≡ []))) AName
      (λ r t j. subst (λ (s : List ℕ). AName s t) (sym j.5.0) (last_text t j.1 j.2 (str8 j.0) j.3 j.4.0 j.5.2, (j.5.1, j.4.1)))
      (takes_in_turn str8_at (λ s. either (length s == 0) refuse (give s)) Str8 (λ s r t. (r ≡ s) × (0 < length s) × (t ≡ [])) str8_takes nonempty);
}

in_utf8 : (s : List ℕ) → Takes (either (is_utf8 s) (give s) refuse) (λ r t. (r ≡ s) × (is_utf8 s ≡ true) × (t ≡ []))
in_utf8 s =
    takes_weaker _ _ (λ r t. (r ≡ s) × (is_utf8 s ≡ true) × (t ≡ [])) (λ r t p. elim p [ inl q ↦ (q.1.0, q.0, q.1.1) | inr q ↦ absurd q.1 ])
    (takes_either (is_utf8 s) (give s) refuse (Made s) (λ r t. ⊥) (takes_give s) (takes_refuse (λ r t. ⊥)))

abbrev AnId : List ℕ → List ℕ → Type 0
AnId s t = (t ≡ str8 s) × IsName s × (is_utf8 s ≡ true)

id : Reads id_at AnId
unfolding id_at
id = record {
  takes = takes_weaker (then_read name_at (λ s. either (is_utf8 s) (give s) refuse)) (Joined AName (λ s r t. (r ≡ s) × (is_utf8 s ≡ true) × (t ≡ []))) AnId
      (λ r t j. subst (λ (s : List ℕ). AnId s t) (sym j.5.0) (last_text t j.1 j.2 (str8 j.0) j.3 j.4.0 j.5.2, j.4.1, j.5.1))
      (takes_in_turn name_at (λ s. either (is_utf8 s) (give s) refuse) AName (λ s r t. (r ≡ s) × (is_utf8 s ≡ true) × (t ≡ [])) name.takes in_utf8);
}

-- ---- values by their codes

-- a value whose code stands there
abbrev Coded : {A : Type 0} → (A → ℕ) → A → List ℕ → Type 0
Coded code a text = text ≡ code a ∷ []

-- a test of the code
by_code : {A : Type 0} (code : A → ℕ) (x n : ℕ) (a : A) (f : List ℕ → Read A) → code a ≡ n → Takes f (λ b t. (code b ≡ x) × (t ≡ [])) → Takes (either (x == n) (give a) f) (λ b t. (code b ≡ x) × (t ≡ []))
by_code code x n a f is others =
    takes_weaker (either (x == n) (give a) f) _ (λ b t. (code b ≡ x) × (t ≡ []))
    (λ b t r. elim r [ inl p ↦ (ap code p.1.0 ∙ is ∙ sym (eqb-true x n p.0), p.1.1) | inr p ↦ p.1 ])
    (takes_either (x == n) (give a) f (Made a) (λ b t. (code b ≡ x) × (t ≡ [])) (takes_give a) others)

coded : {A : Type 0} (code : A → ℕ) (choice : ℕ → List ℕ → Read A) → ((x : ℕ) → Takes (choice x) (λ b t. (code b ≡ x) × (t ≡ []))) → Takes (then_read octet_at choice) (Coded code)
coded code choice each =
    takes_weaker (then_read octet_at choice) (Joined Octet (λ x b t. (code b ≡ x) × (t ≡ []))) (Coded code)
    (λ b t j. last_text t j.1 j.2 (code b ∷ []) j.3 (j.4.0 ∙ ap (λ (n : ℕ). n ∷ []) (sym j.5.0)) j.5.1)
    (takes_in_turn octet_at choice Octet (λ x b t. (code b ≡ x) × (t ≡ [])) octet_takes each)

scheme : Reads scheme_at (Coded scheme_code)
unfolding scheme_at
scheme = record {
  takes = coded scheme_code _ (λ x. by_code scheme_code x 0 schemes.Lru _ refl (by_code scheme_code x 1 schemes.LeastLoad _ refl (by_code scheme_code x 2 schemes.PlainRandom _ refl (by_code scheme_code x 3 schemes.TwoBin refuse refl (takes_refuse (λ b t. (scheme_code b ≡ x) × (t ≡ [])))))));
}

channel : Reads channel_at (Coded channel_code)
unfolding channel_at
channel = record {
  takes = coded channel_code _ (λ x. by_code channel_code x 0 channels.Hub _ refl (by_code channel_code x 1 channels.Task _ refl (by_code channel_code x 2 channels.Mux _ refl (by_code channel_code x 3 channels.Engine refuse refl (takes_refuse (λ b t. (channel_code b ≡ x) × (t ≡ [])))))));
}

verdict : Reads verdict_at (Coded verdict_code)
unfolding verdict_at
verdict = record {
  takes = coded verdict_code _ (λ x. by_code verdict_code x 1 verdicts.Completed _ refl (by_code verdict_code x 2 verdicts.Failed _ refl (by_code verdict_code x 3 verdicts.Aborted refuse refl (takes_refuse (λ b t. (verdict_code b ≡ x) × (t ≡ []))))));
}

cause : Reads cause_at (Coded cause_code)
unfolding cause_at
cause = record {
  takes = coded cause_code _ (λ x. by_code cause_code x 0 causes.Reply _ refl (by_code cause_code x 1 causes.EngineError _ refl (by_code cause_code x 2 causes.ImpossibleDependency _ refl (by_code cause_code x 3 causes.InvalidDependency _ refl (by_code cause_code x 4 causes.TaskTimeout _ refl (by_code cause_code x 5 causes.Abort refuse refl (takes_refuse (λ b t. (cause_code b ≡ x) × (t ≡ [])))))))));
}

-- ---- messages

abbrev IsBlob : List ℕ → Type 0
IsBlob s = length s < 2 ^ 32

abbrev TheBlobs : ℕ → List (List ℕ) → List ℕ → Type 0
TheBlobs n bs t = (t ≡ blobs bs) × (length bs ≡ n) × All IsBlob bs

all_more : (b : List ℕ) (bs : List (List ℕ)) → IsBlob b → All IsBlob bs → All IsBlob (b ∷ bs)
all_more b bs first others zero d lt = first
all_more b bs first others (suc k) d lt = others k d (omega arith)

blobs_take : (n : ℕ) → Takes (blobs_at n) (TheBlobs n)
unfolding blobs_at
blobs_take zero xs a rest bytes is =
    let t = takes_give [] xs a rest bytes is in
    (t.0, t.1, (t.2.1 ∙ ap blobs (sym t.2.0), ap length t.2.0, subst (λ (bs : List (List ℕ)). All IsBlob bs) (sym t.2.0) (λ k d lt. absurd (omega arith))), t.3)
blobs_take (suc n) xs a rest bytes is =
    let r = in_order (record { takes = blob_takes }) (λ b. in_order (record { takes = blobs_take n }) (λ others. ending (b ∷ others))) in
    let t = r.takes xs a rest bytes is in
    let j = t.2 in
    let k = j.5 in
    let text-is : t.0 ≡ blob j.0 ++ blobs k.0 = joined_text t.0 j.1 j.2 (blob j.0) (blobs k.0) j.3 j.4.0 (last_text j.2 k.1 k.2 (blobs k.0) k.3 k.4.0 k.5.1) in
    let number : length (j.0 ∷ k.0) ≡ suc n = omega (arith, k.4.1) in
    (t.0, t.1, subst (λ (bs : List (List ℕ)). TheBlobs (suc n) bs t.0) (sym k.5.0) (text-is, number, all_more j.0 k.0 j.4.1 k.4.2), t.3)

few : (n : ℕ) → Takes (either (nat_lt 58 n) refuse (blobs_at n)) (λ bs t. (n ≤ 58) × TheBlobs n bs t)
few n =
    takes_weaker _ _ (λ bs t. (n ≤ 58) × TheBlobs n bs t) (λ bs t r. elim r [ inl p ↦ absurd p.1 | inr p ↦ (ltb-false _ _ p.0, p.1) ])
    (takes_either (nat_lt 58 n) refuse (blobs_at n) (λ bs t. ⊥) (TheBlobs n) (takes_refuse (λ bs t. ⊥)) (blobs_take n))

abbrev Buffers : List (List ℕ) → List ℕ → Type 0
Buffers bs t = (t ≡ length bs ∷ blobs bs) × (length bs ≤ 58) × All IsBlob bs

buffers : Reads buffers_at Buffers
unfolding buffers_at
buffers = record {
  takes = takes_weaker (then_read octet_at (λ n. either (nat_lt 58 n) refuse (blobs_at n))) (Joined Octet (λ n bs t. (n ≤ 58) × TheBlobs n bs t)) Buffers
      (λ bs t j.
      let number : length bs ≡ j.0 = j.5.1.1 in
      (joined_text t j.1 j.2 (length bs ∷ []) (blobs bs) j.3 (j.4.0 ∙ ap (λ (n : ℕ). n ∷ []) (sym number)) j.5.1.0, omega (arith, number, j.5.0), j.5.1.2))
      (takes_in_turn octet_at (λ n. either (nat_lt 58 n) refuse (blobs_at n)) Octet (λ n bs t. (n ≤ 58) × TheBlobs n bs t) octet_takes few);
}

-- six texts one after another
six_texts : (text a a_rest b b_rest c c_rest d d_rest e e_rest f f_rest : List ℕ) → text ≡ a ++ a_rest → a_rest ≡ b ++ b_rest → b_rest ≡ c ++ c_rest → c_rest ≡ d ++ d_rest → d_rest ≡ e ++ e_rest → e_rest ≡ f ++ f_rest → f_rest ≡ [] → text ≡ ((((a ++ b) ++ c) ++ d) ++ e) ++ f
six_texts text a a_rest b b_rest c c_rest d d_rest e e_rest f f_rest p q r s t u v = rw (p, q, r, s, t, u, v) (simp (append_assoc, append-nil))

str8_reads : Reads str8_at Str8
str8_reads = record { takes = str8_takes }

blob_reads : Reads blob_at Blob
blob_reads = record { takes = blob_takes }

abbrev AMessage : Message → List ℕ → Type 0
AMessage m t = (t ≡ message_spelling m) × IsShort m

message_take : Takes message_at AMessage
unfolding message_at message_spelling
message_take xs a rest bytes is =
    let r = in_order str8_reads (λ target. in_order blob_reads (λ header. in_order blob_reads (λ parent. in_order blob_reads (λ metadata. in_order blob_reads (λ content. in_order buffers (λ buffers.
    ending (let m : Message = record { target = target; header = header; parent = parent; metadata = metadata; content = content; buffers = buffers } in m))))))) in
    let t = r.takes xs a rest bytes is in
    let j = t.2 in
    let k = j.5 in
    let l = k.5 in
    let m = l.5 in
    let n = m.5 in
    let o = n.5 in
    let text-is : t.0 ≡ str8 j.0 ++ blob k.0 ++ blob l.0 ++ blob m.0 ++ blob n.0 ++ length o.0 ∷ blobs o.0 =
    six_texts t.0 (str8 j.0) j.2 (blob k.0) k.2 (blob l.0) l.2 (blob m.0) m.2 (blob n.0) n.2 (length o.0 ∷ blobs o.0) o.2
    (j.3 ∙ ap (λ (z : List ℕ). z ++ j.2) j.4.0) (k.3 ∙ ap (λ (z : List ℕ). z ++ k.2) k.4.0) (l.3 ∙ ap (λ (z : List ℕ). z ++ l.2) l.4.0)
    (m.3 ∙ ap (λ (z : List ℕ). z ++ m.2) m.4.0) (n.3 ∙ ap (λ (z : List ℕ). z ++ n.2) n.4.0) (o.3 ∙ ap (λ (z : List ℕ). z ++ o.2) o.4.0) o.5.1 in
    (t.0, t.1, subst (λ (x : Message). AMessage x t.0) (sym o.5.0) (text-is, record { target = j.4.1; header = k.4.1; parent = l.4.1; metadata = m.4.1; content = n.4.1; number = o.4.1; buffers = o.4.2 }), t.3)

message : Reads message_at AMessage
message = record { takes = message_take }

-- ---- kinds

abbrev Tail : ℕ → Entry → List ℕ → Type 0
Tail kind e text = (kind ∷ text ≡ spelling e) × HasRecord e

two_texts : (text a a_rest b b_rest : List ℕ) → text ≡ a ++ a_rest → a_rest ≡ b ++ b_rest → b_rest ≡ [] → text ≡ a ++ b
two_texts text a a_rest b b_rest p q r = rw (p, q, r) (simp (append_assoc, append-nil))

three_texts : (text a a_rest b b_rest c c_rest : List ℕ) → text ≡ a ++ a_rest → a_rest ≡ b ++ b_rest → b_rest ≡ c ++ c_rest → c_rest ≡ [] → text ≡ (a ++ b) ++ c
three_texts text a a_rest b b_rest c c_rest p q r s = rw (p, q, r, s) (simp (append_assoc, append-nil))

four_texts : (text a a_rest b b_rest c c_rest d d_rest : List ℕ) → text ≡ a ++ a_rest → a_rest ≡ b ++ b_rest → b_rest ≡ c ++ c_rest → c_rest ≡ d ++ d_rest → d_rest ≡ [] → text ≡ ((a ++ b) ++ c) ++ d
four_texts text a a_rest b b_rest c c_rest d d_rest p q r s t = rw (p, q, r, s, t) (simp (append_assoc, append-nil))

five_texts : (text a a_rest b b_rest c c_rest d d_rest e e_rest : List ℕ) → text ≡ a ++ a_rest → a_rest ≡ b ++ b_rest → b_rest ≡ c ++ c_rest → c_rest ≡ d ++ d_rest → d_rest ≡ e ++ e_rest → e_rest ≡ [] → text ≡ (((a ++ b) ++ c) ++ d) ++ e
five_texts text a a_rest b b_rest c c_rest d d_rest e e_rest p q r s t u = rw (p, q, r, s, t, u) (simp (append_assoc, append-nil))

open_take : Takes open_at (Tail 1)
unfolding open_at
open_take xs a rest bytes is =
    let r = in_order moment (λ moment. in_order scheme (λ scheme. in_order number32 (λ hwm. in_order number32 (λ misses. ending (Input (Open moment scheme hwm misses)))))) in
    let t = r.takes xs a rest bytes is in
    let j = t.2 in
    let k = j.5 in
    let l = k.5 in
    let m = l.5 in
    let text-is : t.0 ≡ ((be64 j.0 ++ (scheme_code k.0 ∷ [])) ++ be32 l.0) ++ be32 m.0 =
    four_texts t.0 (be64 j.0) j.2 (scheme_code k.0 ∷ []) k.2 (be32 l.0) l.2 (be32 m.0) m.2
    (j.3 ∙ ap (λ (z : List ℕ). z ++ j.2) j.4.0) (k.3 ∙ ap (λ (z : List ℕ). z ++ k.2) k.4) (l.3 ∙ ap (λ (z : List ℕ). z ++ l.2) l.4.0) (m.3 ∙ ap (λ (z : List ℕ). z ++ m.2) m.4.0) m.5.1 in
    let spelled : 1 ∷ t.0 ≡ spelling (Input (Open j.0 k.0 l.0 m.0)) = rw text-is (simp append_assoc) in
    (t.0, t.1, subst (λ (x : Entry). Tail 1 x t.0) (sym m.5.0) (spelled, (j.4.1, (l.4.1, m.4.1))), t.3)

up_take : Takes up_at (Tail 2)
unfolding up_at
up_take xs a rest bytes is =
    let r = in_order number32 (λ conn. in_order channel (λ channel. in_order moment (λ moment. in_order number64 (λ word. in_order name (λ identity. ending (Input (Up conn channel moment word identity))))))) in
    let t = r.takes xs a rest bytes is in
    let j = t.2 in
    let k = j.5 in
    let l = k.5 in
    let m = l.5 in
    let n = m.5 in
    let text-is : t.0 ≡ (((be32 j.0 ++ (channel_code k.0 ∷ [])) ++ be64 l.0) ++ be64 m.0) ++ str8 n.0 =
    five_texts t.0 (be32 j.0) j.2 (channel_code k.0 ∷ []) k.2 (be64 l.0) l.2 (be64 m.0) m.2 (str8 n.0) n.2
    (j.3 ∙ ap (λ (z : List ℕ). z ++ j.2) j.4.0) (k.3 ∙ ap (λ (z : List ℕ). z ++ k.2) k.4) (l.3 ∙ ap (λ (z : List ℕ). z ++ l.2) l.4.0) (m.3 ∙ ap (λ (z : List ℕ). z ++ m.2) m.4.0) (n.3 ∙ ap (λ (z : List ℕ). z ++ n.2) n.4.0) n.5.1 in
    let spelled : 2 ∷ t.0 ≡ spelling (Input (Up j.0 k.0 l.0 m.0 n.0)) = rw text-is (simp append_assoc) in
    (t.0, t.1, subst (λ (x : Entry). Tail 2 x t.0) (sym n.5.0) (spelled, ((l.4.1, n.4.1), (j.4.1, m.4.1))), t.3)

down_take : Takes down_at (Tail 3)
unfolding down_at
down_take xs a rest bytes is =
    let r = in_order number32 (λ conn. in_order moment (λ moment. in_order number64 (λ word. ending (Input (Down conn moment word))))) in
    let t = r.takes xs a rest bytes is in
    let j = t.2 in
    let k = j.5 in
    let l = k.5 in
    let text-is : t.0 ≡ (be32 j.0 ++ be64 k.0) ++ be64 l.0 =
    three_texts t.0 (be32 j.0) j.2 (be64 k.0) k.2 (be64 l.0) l.2 (j.3 ∙ ap (λ (z : List ℕ). z ++ j.2) j.4.0) (k.3 ∙ ap (λ (z : List ℕ). z ++ k.2) k.4.0) (l.3 ∙ ap (λ (z : List ℕ). z ++ l.2) l.4.0) l.5.1 in
    let spelled : 3 ∷ t.0 ≡ spelling (Input (Down j.0 k.0 l.0)) = rw text-is (simp append_assoc) in
    (t.0, t.1, subst (λ (x : Entry). Tail 3 x t.0) (sym l.5.0) (spelled, (k.4.1, (j.4.1, l.4.1))), t.3)

in_take : Takes in_at (Tail 4)
unfolding in_at
in_take xs a rest bytes is =
    let r = in_order number32 (λ conn. in_order moment (λ moment. in_order number64 (λ word. in_order message (λ message. ending (Input (In conn moment word message)))))) in
    let t = r.takes xs a rest bytes is in
    let j = t.2 in
    let k = j.5 in
    let l = k.5 in
    let m = l.5 in
    let text-is : t.0 ≡ ((be32 j.0 ++ be64 k.0) ++ be64 l.0) ++ message_spelling m.0 =
    four_texts t.0 (be32 j.0) j.2 (be64 k.0) k.2 (be64 l.0) l.2 (message_spelling m.0) m.2
    (j.3 ∙ ap (λ (z : List ℕ). z ++ j.2) j.4.0) (k.3 ∙ ap (λ (z : List ℕ). z ++ k.2) k.4.0) (l.3 ∙ ap (λ (z : List ℕ). z ++ l.2) l.4.0) (m.3 ∙ ap (λ (z : List ℕ). z ++ m.2) m.4.0) m.5.1 in
    let spelled : 4 ∷ t.0 ≡ spelling (Input (In j.0 k.0 l.0 m.0)) = rw text-is (simp append_assoc) in
    (t.0, t.1, subst (λ (x : Entry). Tail 4 x t.0) (sym m.5.0) (spelled, ((k.4.1, m.4.1), (j.4.1, l.4.1))), t.3)

beat_take : Takes beat_at (Tail 5)
unfolding beat_at
beat_take xs a rest bytes is =
    let r = in_order moment (λ moment. in_order number64 (λ word. ending (Input (Beat moment word)))) in
    let t = r.takes xs a rest bytes is in
    let j = t.2 in
    let k = j.5 in
    let text-is : t.0 ≡ be64 j.0 ++ be64 k.0 = two_texts t.0 (be64 j.0) j.2 (be64 k.0) k.2 (j.3 ∙ ap (λ (z : List ℕ). z ++ j.2) j.4.0) (k.3 ∙ ap (λ (z : List ℕ). z ++ k.2) k.4.0) k.5.1 in
    (t.0, t.1, subst (λ (x : Entry). Tail 5 x t.0) (sym k.5.0) (ap (λ (z : List ℕ). 5 ∷ z) text-is, (j.4.1, k.4.1)), t.3)

time_take : Takes time_at (Tail 6)
unfolding time_at
time_take xs a rest bytes is =
    let r = in_order moment (λ moment. in_order number64 (λ word. ending (Input (Time moment word)))) in
    let t = r.takes xs a rest bytes is in
    let j = t.2 in
    let k = j.5 in
    let text-is : t.0 ≡ be64 j.0 ++ be64 k.0 = two_texts t.0 (be64 j.0) j.2 (be64 k.0) k.2 (j.3 ∙ ap (λ (z : List ℕ). z ++ j.2) j.4.0) (k.3 ∙ ap (λ (z : List ℕ). z ++ k.2) k.4.0) k.5.1 in
    (t.0, t.1, subst (λ (x : Entry). Tail 6 x t.0) (sym k.5.0) (ap (λ (z : List ℕ). 6 ∷ z) text-is, (j.4.1, k.4.1)), t.3)

hand_take : Takes hand_at (Tail 7)
unfolding hand_at
hand_take xs a rest bytes is =
    let r = in_order id (λ id. in_order number32 (λ engine. ending (Hand id engine))) in
    let t = r.takes xs a rest bytes is in
    let j = t.2 in
    let k = j.5 in
    let text-is : t.0 ≡ str8 j.0 ++ be32 k.0 = two_texts t.0 (str8 j.0) j.2 (be32 k.0) k.2 (j.3 ∙ ap (λ (z : List ℕ). z ++ j.2) j.4.0) (k.3 ∙ ap (λ (z : List ℕ). z ++ k.2) k.4.0) k.5.1 in
    (t.0, t.1, subst (λ (x : Entry). Tail 7 x t.0) (sym k.5.0) (ap (λ (z : List ℕ). 7 ∷ z) text-is, (j.4.1, (j.4.2, k.4.1))), t.3)

settle_take : Takes settle_at (Tail 8)
unfolding settle_at
settle_take xs a rest bytes is =
    let r = in_order id (λ id. in_order verdict (λ verdict. in_order cause (λ cause. ending (Settle id verdict cause)))) in
    let t = r.takes xs a rest bytes is in
    let j = t.2 in
    let k = j.5 in
    let l = k.5 in
    let text-is : t.0 ≡ (str8 j.0 ++ (verdict_code k.0 ∷ [])) ++ (cause_code l.0 ∷ []) =
    three_texts t.0 (str8 j.0) j.2 (verdict_code k.0 ∷ []) k.2 (cause_code l.0 ∷ []) l.2 (j.3 ∙ ap (λ (z : List ℕ). z ++ j.2) j.4.0) (k.3 ∙ ap (λ (z : List ℕ). z ++ k.2) k.4) (l.3 ∙ ap (λ (z : List ℕ). z ++ l.2) l.4) l.5.1 in
    let spelled : 8 ∷ t.0 ≡ spelling (Settle j.0 k.0 l.0) = rw text-is (simp append_assoc) in
    (t.0, t.1, subst (λ (x : Entry). Tail 8 x t.0) (sym l.5.0) (spelled, (j.4.1, j.4.2)), t.3)

lose_take : Takes lose_at (Tail 9)
unfolding lose_at
lose_take xs a rest bytes is =
    let r = in_order number32 (λ engine. ending (Lose engine)) in
    let t = r.takes xs a rest bytes is in
    let j = t.2 in
    let text-is : t.0 ≡ be32 j.0 = last_text t.0 j.1 j.2 (be32 j.0) j.3 j.4.0 j.5.1 in
    (t.0, t.1, subst (λ (x : Entry). Tail 9 x t.0) (sym j.5.0) (ap (λ (z : List ℕ). 9 ∷ z) text-is, (tt, j.4.1)), t.3)

-- ---- an entry

-- a test of the kind
kind_take : (kind n : ℕ) (f g : List ℕ → Read Entry) → Takes f (Tail n) → Takes g (Tail kind) → Takes (either (kind == n) f g) (Tail kind)
kind_take kind n f g first second =
    takes_weaker (either (kind == n) f g) (λ e t. ((kind == n) ≡ true) × Tail n e t ⊎ ((kind == n) ≡ false) × Tail kind e t) (Tail kind)
    (λ e t r. elim r [ inl p ↦ subst (λ (k : ℕ). Tail k e t) (sym (eqb-true kind n p.0)) p.1 | inr p ↦ p.1 ])
    (takes_either (kind == n) f g (Tail n) (Tail kind) first second)

kinds_take : (kind : ℕ) → Takes (kind_at kind) (Tail kind)
kinds_take kind =
    kind_take kind 1 open_at _ open_take (kind_take kind 2 up_at _ up_take (kind_take kind 3 down_at _ down_take (kind_take kind 4 in_at _ in_take (kind_take kind 5 beat_at _ beat_take
    (kind_take kind 6 time_at _ time_take (kind_take kind 7 hand_at _ hand_take (kind_take kind 8 settle_at _ settle_take (kind_take kind 9 lose_at refuse lose_take (takes_refuse (Tail kind))))))))))

entry_final : (e : Entry) (text : List ℕ) → Joined Octet Tail e text → (text ≡ spelling e) × HasRecord e
entry_final e text j = (joined_text text j.1 j.2 (j.0 ∷ []) j.2 j.3 j.4.0 refl ∙ j.5.0, j.5.1)

pub entry_takes : Takes entry_at (λ e text. (text ≡ spelling e) × HasRecord e)
unfolding entry_at
entry_takes = takes_weaker (then_read octet_at kind_at) (Joined Octet Tail) (λ e text. (text ≡ spelling e) × HasRecord e) entry_final (takes_in_turn octet_at kind_at Octet Tail octet_takes kinds_take)
