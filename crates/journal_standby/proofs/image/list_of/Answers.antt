use Rattle.std.proofs.Common.{sym, ap, ◌∙◌, subst}
use Rattle.edges.proofs.Takes.{IsBytes}
use Rattle.task_journal.specs.Journal.{StandsFor, journal}
use Rattle.journal_standby.specs.Images.{Copy}
use Rattle.journal_standby.proofs.Sizes.{journal_size}
use Rattle.journal_standby.proofs.image.list_of.Goals as goal

pub returns-clause-size : goal.returns-clause-size
returns-clause-size c =
    let bytes : IsBytes c.args.octets.items = subst IsBytes c.as_slice.ensures.value c.octets_fit.ensures in
    let stands : StandsFor c.args.octets.items c.in_ok-list.list = (c.in_ok-list.places, ap (λ (d : Copy). journal d.octets) (sym c.new-disk.ensures) ∙ c.in_ok-list.ensures.value tt) in
    journal_size c.args.octets.items c.in_ok-list.list bytes stands
