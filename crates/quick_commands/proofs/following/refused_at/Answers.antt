use Rattle.std.proofs.Common.{sym, ◌∙◌}
use Rattle.quick_commands.proofs.Followed.{refused_by_head, refused_by_size}
use Rattle.quick_commands.proofs.following.refused_at.Goals as goal

pub returns-in-Some : goal.returns-in-Some
returns-in-Some c = refused_by_head c.args.octets.now c.in-Some.place c.requires (sym c.in-Some.ensures)

pub returns-in-None : goal.returns-in-None
returns-in-None c = refused_by_size c.args.octets.now c.requires
