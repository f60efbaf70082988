-- What is written for an out.
use Rattle.std.specs.Prelude.{ℕ, min, List}
use Rattle.cluster_types.specs.declared.out.Out.{Out}
use Rattle.cluster_types.specs.declared.out.Out.TheVariants.{Pass, Made}
use Rattle.cluster_types.specs.Limits.{last_moment}
use Rattle.cluster_outgo.specs.Frames.{frames_of}
use Rattle.zmtp_peer.specs.Message.{message_written}

-- an out whose moment has a date: one past the last such moment counts as that
abbrev pub dated : Out → Out
dated (Pass conn message) = Pass conn message
dated (Made conn moment msg_id msg_type parent content buffers) = Made conn (min moment last_moment) msg_id msg_type parent content buffers

-- the frames of an out, signed under a key
abbrev pub out_frames : List ℕ → Out → List (List ℕ)
out_frames key out = frames_of key (dated out)

-- the octets of an out, signed under a key
abbrev pub octets_of : List ℕ → Out → List ℕ
octets_of key out = message_written (out_frames key out)
