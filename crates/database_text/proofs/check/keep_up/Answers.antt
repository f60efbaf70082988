use Rattle.database_text.proofs.Places.{kept_none}
use Rattle.database_text.proofs.check.keep_up.Goals as goal

pub returns-then-octets-reached-clause-printed : goal.returns-then-octets-reached-clause-printed
returns-then-octets-reached-clause-printed g c = kept_none g.D.Disk.tells (g.D.Disk.content c.args.disk.now) c.args.reached.now.cursor c.args.comparison.now.printed c.requires.on
