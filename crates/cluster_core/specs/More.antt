-- A plan with a decision more.
use Rattle.std.specs.Prelude.{◌≡◌, [], ◌∷◌, ◌++◌, suc, None}
use Rattle.cluster_types.specs.declared.entry.Entry.{Entry}
use Rattle.cluster_defs.specs.Outs.{outs_as}
use Rattle.cluster_state.specs.Plain.{facts_in, plain_after}
use Rattle.cluster_core.specs.Steps.{PlanView}

pub record IsMore (p q : PlanView) (d : Entry) : Type 0 where
  pub input : q.input ≡ p.input
  pub decisions : q.decisions ≡ p.decisions ++ d ∷ []
  pub place : q.place ≡ suc p.place
  pub plain : q.plain ≡ plain_after (facts_in p.plain) d None p.plain
  pub outs : q.outs ≡ p.outs ++ outs_as q.place (facts_in p.plain) d None
  pub kept : q.kept ≡ p.kept ++ d ∷ []
  pub stops : q.stops ≡ p.stops
