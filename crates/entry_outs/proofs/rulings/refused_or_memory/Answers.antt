use Rattle.std.proofs.Common.{sym, ◌∙◌, inl, inr}
use Rattle.entry_outs.proofs.Telling.{has_memory}
use Rattle.entry_outs.proofs.rulings.refused_or_memory.Goals as goal

pub returns : goal.returns
returns c = λ what why.
    elim why [
      | (inl is) ↦ absurd (has_memory c.args.refused (sym c.is_memory.ensures ∙ c.if-is_memory.false) is)
      | (inr is) ↦ is
    ]
