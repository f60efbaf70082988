use Rattle.std.proofs.Common.{◌≡◌, ◌∙◌, sym, ap, ℕ, reverse, take, arith}
use Rattle.cluster_core.specs.Told.{told}
use Rattle.cluster_core.proofs.Lives.{told_at, told_is}
use Rattle.cluster_core.proofs.live.channel_told.Goals as goal

pub returns-in-Some : goal.returns-in-Some
returns-in-Some c =
    sym (told_at c.args.entries.now c.loop-left.left c.index-entries-left.result c.args.number c.in-Some.channel c.loop-left-test.true c.loop-left.invariant.within c.index-entries-left.is (sym c.told_by.ensures ∙ c.in-Some.is))
    ∙ c.loop-left.invariant.rest ∙ told_is (reverse c.args.entries.now) c.requires c.args.number

pub returns : goal.returns
returns c =
    let none : 0 ≡ c.loop-left.left = omega (arith, c.loop-left-test.false) in
    ap (λ (j : ℕ). told (reverse (take j c.args.entries.now)) c.args.number) none ∙ c.loop-left.invariant.rest ∙ told_is (reverse c.args.entries.now) c.requires c.args.number
