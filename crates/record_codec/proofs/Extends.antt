-- What reading a record gives where more octets come: an entry stays, a fault stays, and what is short waits for as many as it says.
use Rattle.std.proofs.Common.{ℕ, zero, suc, ◌∷◌, [], length}
use Rattle.std.specs.Prelude.{nat_lt, ◌==◌}
use Rattle.std.specs.Int.{w32, w64}
use Rattle.std.specs.Str.{is_utf8}
use Rattle.cluster_types.specs.declared.config.Scheme.TheVariants as schemes
use Rattle.cluster_types.specs.declared.verdict.Verdict.TheVariants as verdicts
use Rattle.cluster_types.specs.declared.verdict.Cause.TheVariants as causes
use Rattle.cluster_types.specs.declared.message.Message.{Message}
use Rattle.cluster_types.specs.declared.entry.Input.TheVariants.{Open, Up, Down, In, Beat, Time}
use Rattle.cluster_types.specs.declared.entry.Entry.TheVariants.{Input, Hand, Settle, Lose}
use Rattle.edges.specs.Reading.{octet_at, number_at, str8_at, blob_at, channel_at}
use Rattle.edges.proofs.Extends.{Extends, in_turn, gives, refuses, eithers, octets, numbers, str8s, blobs, channels}
use Rattle.record_codec.specs.Reading.{moment_at, name_at, id_at, scheme_at, verdict_at, cause_at, blobs_at, buffers_at, message_at, open_at, up_at, down_at, in_at, beat_at, time_at, hand_at, settle_at, lose_at, kind_at, entry_at}

moments : Extends moment_at
unfolding moment_at
moments = in_turn (number_at w64) _ (numbers w64) (λ n. eithers (nat_lt 253402300799999 n) _ _ refuses (gives n))

names : Extends name_at
unfolding name_at
names = in_turn str8_at _ str8s (λ text. eithers (length text == 0) _ _ refuses (gives text))

ids : Extends id_at
unfolding id_at
ids = in_turn name_at _ names (λ name. eithers (is_utf8 name) _ _ (gives name) refuses)

scheme_codes : Extends scheme_at
unfolding scheme_at
scheme_codes = in_turn octet_at _ octets (λ x. eithers (x == 0) _ _ (gives schemes.Lru) (eithers (x == 1) _ _ (gives schemes.LeastLoad) (eithers (x == 2) _ _ (gives schemes.PlainRandom) (eithers (x == 3) _ _ (gives schemes.TwoBin) refuses))))

verdict_codes : Extends verdict_at
unfolding verdict_at
verdict_codes = in_turn octet_at _ octets (λ x. eithers (x == 1) _ _ (gives verdicts.Completed) (eithers (x == 2) _ _ (gives verdicts.Failed) (eithers (x == 3) _ _ (gives verdicts.Aborted) refuses)))

cause_codes : Extends cause_at
unfolding cause_at
cause_codes = in_turn octet_at _ octets (λ x. eithers (x == 0) _ _ (gives causes.Reply) (eithers (x == 1) _ _ (gives causes.EngineError) (eithers (x == 2) _ _ (gives causes.ImpossibleDependency)
    (eithers (x == 3) _ _ (gives causes.InvalidDependency) (eithers (x == 4) _ _ (gives causes.TaskTimeout) (eithers (x == 5) _ _ (gives causes.Abort) refuses))))))

many_blobs : (n : ℕ) → Extends (blobs_at n)
unfolding blobs_at
many_blobs zero = gives []
many_blobs (suc n) = in_turn blob_at _ blobs (λ first. in_turn (blobs_at n) _ (many_blobs n) (λ others. gives (first ∷ others)))

buffer_lists : Extends buffers_at
unfolding buffers_at
buffer_lists = in_turn octet_at _ octets (λ n. eithers (nat_lt 58 n) _ _ refuses (many_blobs n))

messages : Extends message_at
unfolding message_at
messages = in_turn str8_at _ str8s (λ target. in_turn blob_at _ blobs (λ header. in_turn blob_at _ blobs (λ parent. in_turn blob_at _ blobs (λ metadata. in_turn blob_at _ blobs (λ content. in_turn buffers_at _ buffer_lists (λ buffers.
    gives (let m : Message = record { target = target; header = header; parent = parent; metadata = metadata; content = content; buffers = buffers } in m)))))))

opens : Extends open_at
unfolding open_at
opens = in_turn moment_at _ moments (λ moment. in_turn scheme_at _ scheme_codes (λ scheme. in_turn (number_at w32) _ (numbers w32) (λ hwm. in_turn (number_at w32) _ (numbers w32) (λ misses. gives (Input (Open moment scheme hwm misses))))))

ups : Extends up_at
unfolding up_at
ups = in_turn (number_at w32) _ (numbers w32) (λ conn. in_turn channel_at _ channels (λ channel. in_turn moment_at _ moments (λ moment. in_turn (number_at w64) _ (numbers w64) (λ word. in_turn name_at _ names (λ identity. gives (Input (Up conn channel moment word identity)))))))

downs : Extends down_at
unfolding down_at
downs = in_turn (number_at w32) _ (numbers w32) (λ conn. in_turn moment_at _ moments (λ moment. in_turn (number_at w64) _ (numbers w64) (λ word. gives (Input (Down conn moment word)))))

ins : Extends in_at
unfolding in_at
ins = in_turn (number_at w32) _ (numbers w32) (λ conn. in_turn moment_at _ moments (λ moment. in_turn (number_at w64) _ (numbers w64) (λ word. in_turn message_at _ messages (λ message. gives (Input (In conn moment word message))))))

beats : Extends beat_at
unfolding beat_at
beats = in_turn moment_at _ moments (λ moment. in_turn (number_at w64) _ (numbers w64) (λ word. gives (Input (Beat moment word))))

times : Extends time_at
unfolding time_at
times = in_turn moment_at _ moments (λ moment. in_turn (number_at w64) _ (numbers w64) (λ word. gives (Input (Time moment word))))

hands : Extends hand_at
unfolding hand_at
hands = in_turn id_at _ ids (λ id. in_turn (number_at w32) _ (numbers w32) (λ engine. gives (Hand id engine)))

settles : Extends settle_at
unfolding settle_at
settles = in_turn id_at _ ids (λ id. in_turn verdict_at _ verdict_codes (λ verdict. in_turn cause_at _ cause_codes (λ cause. gives (Settle id verdict cause))))

loses : Extends lose_at
unfolding lose_at
loses = in_turn (number_at w32) _ (numbers w32) (λ engine. gives (Lose engine))

kinds : (kind : ℕ) → Extends (kind_at kind)
kinds kind =
    eithers (kind == 1) open_at _ opens (eithers (kind == 2) up_at _ ups (eithers (kind == 3) down_at _ downs (eithers (kind == 4) in_at _ ins (eithers (kind == 5) beat_at _ beats
    (eithers (kind == 6) time_at _ times (eithers (kind == 7) hand_at _ hands (eithers (kind == 8) settle_at _ settles (eithers (kind == 9) lose_at _ loses refuses))))))))

pub entries : Extends entry_at
unfolding entry_at
entries = in_turn octet_at kind_at octets kinds
