-- How the reading of a record goes on where more octets come.
use Rattle.std.proofs.Common.{ℕ, zero, suc, List, [], ◌∷◌}
use Rattle.std.specs.Prelude.{nat_lt, ◌==◌, ◌||◌}
use Rattle.std.specs.Int.{w32, w64}
use Rattle.cluster_types.specs.declared.config.Channel.{Channel}
use Rattle.edges.specs.Reading.{Read, octet_at, number_at, str8_at, blob_at, channel_at}
use Rattle.edges.proofs.Extends.{Extends, then_read, in_turn, give, gives, refuse, refuses, either, eithers, octets, numbers, str8s, blobs, channels}
use Rattle.tape.specs.declared.record.TapeRecord.{TapeRecord}
use Rattle.tape.specs.declared.record.TapeKind.{TapeKind}
use Rattle.tape.specs.declared.record.TapeKind.TheVariants.{Up, Piece, Down, Beat, Time, Message}
use Rattle.cluster_types.specs.Limits.{last_moment}
use Rattle.tape.specs.Reading.{up_at, piece_at, down_at, frames_at, message_at, kind_at, record_at}

abbrev up_rest : ℕ → Channel → ℕ → List ℕ → Read TapeKind
up_rest conn channel form = either (nat_lt 1 form) refuse (then_read str8_at (λ identity. give (Up conn channel (form == 1) identity)))

up_rests : (conn : ℕ) (channel : Channel) (form : ℕ) → Extends (up_rest conn channel form)
up_rests conn channel form =
    eithers (nat_lt 1 form) refuse (then_read str8_at (λ identity. give (Up conn channel (form == 1) identity))) refuses
    (in_turn str8_at (λ identity. give (Up conn channel (form == 1) identity)) str8s (λ identity. gives (Up conn channel (form == 1) identity)))

ups : Extends up_at
unfolding up_at
ups = in_turn (number_at w32) (λ conn. then_read channel_at (λ channel. then_read octet_at (up_rest conn channel))) (numbers w32)
    (λ conn. in_turn channel_at (λ channel. then_read octet_at (up_rest conn channel)) channels
    (λ channel. in_turn octet_at (up_rest conn channel) octets (up_rests conn channel)))

pieces : Extends piece_at
unfolding piece_at
pieces = in_turn (number_at w32) (λ conn. then_read blob_at (λ piece. give (Piece conn piece))) (numbers w32)
    (λ conn. in_turn blob_at (λ piece. give (Piece conn piece)) blobs (λ piece. gives (Piece conn piece)))

downs : Extends down_at
unfolding down_at
downs = in_turn (number_at w32) (λ conn. give (Down conn)) (numbers w32) (λ conn. gives (Down conn))

frame_lists : (n : ℕ) → Extends (frames_at n)
frame_lists zero = gives []
frame_lists (suc n) =
    in_turn blob_at (λ body. then_read (frames_at n) (λ more. give (body ∷ more))) blobs
    (λ body. in_turn (frames_at n) (λ more. give (body ∷ more)) (frame_lists n) (λ more. gives (body ∷ more)))

abbrev message_rest : ℕ → ℕ → List ℕ → Read TapeKind
message_rest conn count = either ((count == 0) || nat_lt 64 count) refuse (then_read (frames_at count) (λ frames. give (Message conn frames)))

message_rests : (conn count : ℕ) → Extends (message_rest conn count)
message_rests conn count =
    eithers ((count == 0) || nat_lt 64 count) refuse (then_read (frames_at count) (λ frames. give (Message conn frames))) refuses
    (in_turn (frames_at count) (λ frames. give (Message conn frames)) (frame_lists count) (λ frames. gives (Message conn frames)))

messages : Extends message_at
unfolding message_at
messages = in_turn (number_at w32) (λ conn. then_read octet_at (message_rest conn)) (numbers w32)
    (λ conn. in_turn octet_at (message_rest conn) octets (message_rests conn))

kinds : (kind : ℕ) → Extends (kind_at kind)
kinds kind =
    eithers (kind == 1) up_at _ ups (eithers (kind == 2) piece_at _ pieces (eithers (kind == 3) down_at _ downs
    (eithers (kind == 4) (give Beat) _ (gives Beat) (eithers (kind == 5) (give Time) _ (gives Time) (eithers (kind == 6) message_at refuse messages refuses)))))

abbrev told : ℕ → ℕ → TapeKind → List ℕ → Read TapeRecord
told moment word kind = give (record { moment = moment; word = word; kind = kind })

abbrev behind_word : ℕ → ℕ → ℕ → List ℕ → Read TapeRecord
behind_word kind moment word = then_read (kind_at kind) (told moment word)

behind_words : (kind moment word : ℕ) → Extends (behind_word kind moment word)
behind_words kind moment word = in_turn (kind_at kind) (told moment word) (kinds kind) (λ k. gives (record { moment = moment; word = word; kind = k }))

abbrev behind_moment : ℕ → ℕ → List ℕ → Read TapeRecord
behind_moment kind moment = either (nat_lt last_moment moment) refuse (then_read (number_at w64) (behind_word kind moment))

behind_moments : (kind moment : ℕ) → Extends (behind_moment kind moment)
behind_moments kind moment =
    eithers (nat_lt last_moment moment) refuse (then_read (number_at w64) (behind_word kind moment)) refuses
    (in_turn (number_at w64) (behind_word kind moment) (numbers w64) (behind_words kind moment))

pub record_extends : Extends record_at
unfolding record_at
record_extends = in_turn octet_at (λ kind. then_read (number_at w64) (behind_moment kind)) octets
    (λ kind. in_turn (number_at w64) (behind_moment kind) (numbers w64) (behind_moments kind))
