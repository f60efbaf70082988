-- The messages that outs are.
use Rattle.std.specs.Prelude.{ℕ, List, []}
use Rattle.cluster_types.specs.declared.message.Message.{Message}
use Rattle.cluster_types.specs.declared.out.Out.{Out}
use Rattle.cluster_types.specs.declared.out.Out.TheVariants.{Pass, Made}
use Rattle.cluster_defs.specs.Texts.{made_header, empty_object}

-- a message without identity frames
abbrev pub untargeted : Message → Message
untargeted message = record message { target = [] }

-- the message that is sent for an out, by the date of a moment; it has no identity frames
abbrev pub sent_message : (ℕ → List ℕ) → Out → Message
sent_message date (Pass conn message) = untargeted message
sent_message date (Made conn moment msg_id msg_type parent content buffers) =
    record { target = []; header = made_header msg_id msg_type (date moment); parent = parent; metadata = empty_object; content = content; buffers = buffers }
