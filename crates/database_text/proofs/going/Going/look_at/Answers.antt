use Rattle.std.proofs.Common.{◌∙◌, sym, ap}
use Rattle.cluster_defs.specs.Thin.{narrowed}
use Rattle.database_text.specs.Going.{gone_by}
use Rattle.database_text.specs.Thinning.{copies_in}
use Rattle.database_text.proofs.Narrowing.{unnarrowed}
use Rattle.database_text.proofs.going.Going.look_at.Goals as goal

pub returns-in_ok-narrow-clause-gone : goal.returns-in_ok-narrow-clause-gone
returns-in_ok-narrow-clause-gone c =
    c.in_ok-narrow.ensures.gone ∙ ap (narrowed (gone_by c.args.self.now)) (c.as_slice.ensures ∙ sym (ap copies_in c.in-Makes.is))

pub returns-in_default-clause-gone : goal.returns-in_default-clause-gone
returns-in_default-clause-gone c = unnarrowed (gone_by c.args.self.now) c.args.note.now c.in_default.not-Makes
