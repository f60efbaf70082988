-- A message that frames within the limits are is short enough for its record.
use Rattle.std.proofs.Common.{◌≡◌, ℕ, ◌<◌, ◌≤◌, ◌^◌, List, [], ◌∷◌, length, true, false, cond, Option, Some, None, Ok, Err, refl, subst, arith}
use Rattle.std.specs.Prelude.{find, nat_le, nat_lt, bytes_eq, unwrap_or}
use Rattle.std.specs.List.{AllByRecursion as Each}
use Rattle.std.proofs.lemmas.Bool.{leb-true, and_parts}
use Rattle.std.proofs.lemmas.List.Elements.{All-from_recursion}
use Rattle.cluster_types.specs.declared.message.Message.{Message}
use Rattle.cluster_types.specs.Limits.{most_frames, message_limit}
use Rattle.jupyter_parts.specs.declared.fault.PartsError.{PartsError}
use Rattle.jupyter_parts.specs.Signed.{read_parts, is_target, target_of, identities, is_delimiter, behind, message_in, message_behind, signature}
use Rattle.record_codec.specs.Spelling.{IsShort}
use Rattle.zmtp_peer.specs.Limits.{IsShortMessage}
use Rattle.zmtp_peer.specs.Message.{body_octets}
use Rattle.link_messages.specs.Message.{signed}

-- at most 64 frames, whose lengths can be written
pub record AreShort (frames : List (List ℕ)) : Type 0 where
  pub number : length frames ≤ most_frames
  pub each : Each (λ body. length body < 2 ^ 32) frames

found_short : (frames : List (List ℕ)) → length (target_of frames) < 256
found_short [] = omega arith
found_short (f ∷ fs) =
    elim (is_target f) as (λ b. is_target f ≡ b → length (unwrap_or (cond b (Some f) (find is_target fs)) []) < 256) [
      | true ↦ λ is. let le = leb-true (length f) 255 (and_parts (nat_lt 0 (length f)) (nat_le (length f) 255) is).1 in omega (arith, le)
      | false ↦ λ is. found_short fs
    ] refl

record IsBehind (frames rest : List (List ℕ)) : Type 0 where
  pub fewer : length rest < length frames
  pub each : Each (λ body. length body < 2 ^ 32) rest

behind_short : (frames rest : List (List ℕ)) → Each (λ body. length body < 2 ^ 32) frames → behind frames ≡ Some rest → IsBehind frames rest
behind_short [] rest each is = cc
behind_short (f ∷ fs) rest each is =
    (elim (is_delimiter f) as (λ b. cond b (Some fs) (behind fs) ≡ Some rest → IsBehind (f ∷ fs) rest) [
      | true ↦ λ e. let same : fs ≡ rest = cc in subst (λ (r : List (List ℕ)). IsBehind (f ∷ fs) r) same (record { fewer = omega arith; each = each.1 })
      | false ↦ λ e. let b = behind_short fs rest each.1 e in let fewer = b.fewer in record { fewer = omega (arith, fewer); each = b.each }
    ]) is

abbrev parts_of : (target header parent metadata content : List ℕ) (buffers : List (List ℕ)) → Message
parts_of target header parent metadata content buffers = record { target = target; header = header; parent = parent; metadata = metadata; content = content; buffers = buffers }

message_short : (key target : List ℕ) (rest : List (List ℕ)) (m : Message) → length target < 256 → length rest < most_frames → Each (λ body. length body < 2 ^ 32) rest → signed (message_in key target rest) ≡ Some m → IsShort m
message_short key target [] m short few each is = cc
message_short key target (a ∷ []) m short few each is = cc
message_short key target (a ∷ b ∷ []) m short few each is = cc
message_short key target (a ∷ b ∷ c ∷ []) m short few each is = cc
message_short key target (a ∷ b ∷ c ∷ d ∷ []) m short few each is = cc
message_short key target (given ∷ header ∷ parent ∷ metadata ∷ content ∷ buffers) m short few each is =
    (elim (bytes_eq given (signature key header parent metadata content)) as (λ b. signed (cond b (Ok (parts_of target header parent metadata content buffers)) (Err (PartsError.BadSignature given))) ≡ Some m → IsShort m) [
      | true ↦ λ e.
          let same : parts_of target header parent metadata content buffers ≡ m = cc in
          subst IsShort same (record {
            target = short;
            header = each.1.0;
            parent = each.1.1.0;
            metadata = each.1.1.1.0;
            content = each.1.1.1.1.0;
            number = omega (arith, few);
            buffers = All-from_recursion (λ body. length body < 2 ^ 32) buffers each.1.1.1.1.1;
          })
      | false ↦ λ e. cc
    ]) is

behind_message : (key target : List ℕ) (frames : List (List ℕ)) (o : Option (List (List ℕ))) (m : Message) → AreShort frames → length target < 256 → behind frames ≡ o → signed (message_behind key target o) ≡ Some m → IsShort m
behind_message key target frames None m short t is e = cc
behind_message key target frames (Some rest) m short t is e =
    let b = behind_short frames rest short.each is in
    let fewer = b.fewer in
    let number = short.number in
    message_short key target rest m t (omega (arith, fewer, number)) b.each e

-- the bodies of frames that are short together
one_short : (frames : List (List ℕ)) (n : ℕ) → body_octets frames ≤ n → n < 2 ^ 32 → Each (λ body. length body < 2 ^ 32) frames
one_short [] n le small = tt
one_short (f ∷ fs) n le small = (omega (arith, le, small), one_short fs n (omega (arith, le)) small)

-- a message within the limits of a stream
pub are_short : (frames : List (List ℕ)) → IsShortMessage frames → AreShort frames
are_short frames short = record { number = short.number; each = one_short frames message_limit short.octets (omega arith) }

pub signed_short : (key : List ℕ) (frames : List (List ℕ)) (m : Message) → AreShort frames → signed (read_parts key frames) ≡ Some m → IsShort m
signed_short key frames m short is = behind_message key (target_of (identities frames)) frames (behind frames) m short (found_short (identities frames)) refl is
