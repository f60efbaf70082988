-- What the other end of a bare connection reads.
use Rattle.std.specs.Prelude.{ℕ, List, Option}
use Rattle.cluster_types.specs.declared.message.Message.{Message}
use Rattle.cluster_types.specs.declared.out.Out.{Out}
use Rattle.jupyter_parts.specs.Signed.{read_parts}
use Rattle.link_messages.specs.Message.{signed}
use Rattle.link_messages.specs.Outs.{out_frames}

-- the message that the frames of an out are, where they are signed
abbrev pub read_of : List ℕ → Out → Option Message
read_of key out = signed (read_parts key (out_frames key out))
