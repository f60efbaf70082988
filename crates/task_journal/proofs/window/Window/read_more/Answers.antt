use Rattle.std.proofs.Common.{◌≡◌, ◌+◌, length, ap, ◌∙◌, arith}
use Rattle.task_journal.specs.Window.{Ready}
use Rattle.task_journal.proofs.window.Window.read_more.Goals as goal

pub returns-clause-octets : goal.returns-clause-octets
returns-clause-octets g c = λ told.
    let items : c.drop-drain.new.self.0.items ≡ c.args.self.now.octets = c.drop-drain.ensures.items ∙ c.drain.ensures.kept ∙ ap (λ (r : Ready). r.octets) c.self.view_is in
    let first : c.self.inside.place ≡ c.args.self.now.place = ap (λ (r : Ready). r.place) c.self.view_is in
    let fits = c.requires.fits told in
    let size = ap length items in
    let at : c.saturating_add-at.result ≡ c.args.self.now.place + length c.args.self.now.octets = omega (arith, first, fits, size, c.len.ensures, c.saturating_add-at.ensures) in
    rw (items, at) at (c.read_behind.ensures.octets told)
