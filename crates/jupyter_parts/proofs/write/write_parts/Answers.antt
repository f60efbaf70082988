use Rattle.std.proofs.Common.{◌≡◌, rules}
use Rattle.jupyter_parts.specs.Signed.{message_frames}
use Rattle.jupyter_parts.proofs.Forms.{written_signed}
use Rattle.jupyter_parts.proofs.write.write_parts.Goals as goal

pub returns-clause-signed : goal.returns-clause-signed
returns-clause-signed c =
    let value : c.push_signed.new.frames ≡ message_frames c.args.key.now c.args.message.now = search rules in
    written_signed c.args.key.now c.args.message.now c.push_signed.new.frames c.requires.short c.requires.plain value
