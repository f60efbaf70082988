-- The frames that are sent.
use Rattle.std.specs.Prelude.{ℕ, ◌≤◌, List, ⊤}
use Rattle.cluster_types.specs.declared.out.Out.{Out}
use Rattle.cluster_types.specs.declared.out.Out.TheVariants.{Pass, Made}
use Rattle.cluster_types.specs.Limits.{last_moment}
use Rattle.edges.specs.Date.{date_of}
use Rattle.cluster_defs.specs.Sent.{sent_message}
use Rattle.jupyter_parts.specs.Signed.{message_frames}

-- the moment of a message that is made has a date
abbrev pub IsSendable : Out → Type 0
IsSendable (Pass conn message) = ⊤
IsSendable (Made conn moment msg_id msg_type parent content buffers) = moment ≤ last_moment

-- the frames of an out: the signed message that it is
abbrev pub frames_of : List ℕ → Out → List (List ℕ)
frames_of key out = message_frames key (sent_message date_of out)
