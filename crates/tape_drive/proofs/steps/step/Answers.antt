use Rattle.std.proofs.Common.{◌≡◌, ◌∙◌, ◌∷◌, [], false, subst}
use Rattle.cluster_store.specs.Stores.{StoreView}
use Rattle.tape_drive.specs.Served.{IsOnWay, HoldsSome, IsTouched}
use Rattle.tape_drive.proofs.steps.step.Goals as goal

pub returns-then-branch-clause-any_moment : goal.returns-then-branch-clause-any_moment
returns-then-branch-clause-any_moment g c =
    subst
    (λ (v : StoreView g.row.D.Denot). g.D.Disk.tells → v.failed ≡ false → IsTouched g.D.Disk.moment g.D.Disk.image g.D.Disk.image_since v.disk c.take_step.new.store.disk c.take_step.new.store.failed (HoldsSome (IsOnWay v.limits v.history (c.args.input ∷ []))))
    (c.may_take.ensures.same ∙ c.understand.ensures.same) c.take_step.ensures.any_moment
