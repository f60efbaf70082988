use Rattle.std.proofs.Common.{◌∙◌, ap, to_z, of_z, neg_ℤ}
use Rattle.std.specs.Int.{w64, int_wrap, int_wrapping_neg}
use Rattle.std.proofs.lemmas.Int.{wrapping_neg_is, to_z-of_z, SFits-int_wrap}
use Rattle.arith_eval.proofs.operation.negated.Goals as goal

pub returns : goal.returns
returns c =
    let same = to_z-of_z w64 c.args.a c.ranges.a in
    let e = c.wrapping_neg.ensures ∙ ap (int_wrapping_neg w64) same ∙ wrapping_neg_is w64 c.args.a c.ranges.a in
    ap (λ z. to_z w64 (of_z w64 z)) e
    ∙ to_z-of_z w64 (int_wrap w64 (neg_ℤ c.args.a)) (SFits-int_wrap w64 (neg_ℤ c.args.a))
