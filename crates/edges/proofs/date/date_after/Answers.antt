use Rattle.std.proofs.Common.{◌≡◌, pos, rules}
use Rattle.jiff_core.specs.Date.{epoch_day}
use Rattle.edges.proofs.DateLemmas.{civil_date-is}
use Rattle.edges.proofs.date.date_after.Goals as goal

pub returns : goal.returns
returns c =
    let is : epoch_day c.in-Ok.date ≡ pos c.args.days = search rules in
    civil_date-is c.args.days c.in-Ok.date is
