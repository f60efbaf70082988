use Rattle.std.proofs.Common.{ap, not}
use Rattle.zmtp_frames.proofs.NameSets.{held, put}
use Rattle.zmtp_frames.proofs.names.Names.add.Goals as goal

pub returns-clause-added : goal.returns-clause-added
returns-clause-added c =
    rw (c.in_ok-fresh.ensures.added, ← c.self.view_is, ← c.in_ok-name.ensures.ok)
    (ap not (held (λ k. k.items) c.in_ok-name.name c.self.inside.lowered.keys))

pub returns-clause-names : goal.returns-clause-names
returns-clause-names c = λ q.
    rw (c.in_ok-fresh.ensures.keys, ← c.self.view_is, ← c.in_ok-name.ensures.ok)
    (put (λ k. k.items) q c.in_ok-name.name c.self.inside.lowered.keys)
