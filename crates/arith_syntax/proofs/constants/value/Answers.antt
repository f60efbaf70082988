use Rattle.std.proofs.Common.{ℕ, ◌*◌, ◌+◌, ◌∙◌, ap, sym, min, take, get_or}
use Rattle.std.proofs.lemmas.List.{take_more}
use Rattle.arith_syntax.specs.Lexical.{digit_value, value_after}
use Rattle.arith_syntax.proofs.Digits.{value_after_more, value_step}
use Rattle.arith_syntax.proofs.constants.value.Goals as goal

pub loop-c-preserved : goal.loop-c-preserved
loop-c-preserved c =
    let xs = c.args.digits.now in
    let i = c.loop-c.c-index in
    let base = c.args.base in
    let d = digit_value (get_or xs i 0) in
    let cap : ℕ = 9223372036854775808 in
    c.appended-value.ensures
    ∙ ap (λ n. min (c.loop-c.value * base + n) cap) c.digit.ensures
    ∙ ap (λ v. min (v * base + d) cap) c.loop-c.invariant
    ∙ value_step base (value_after base 0 (take i xs)) d cap c.requires
    ∙ ap (λ v. min v cap) (sym (value_after_more base 0 (take i xs) (get_or xs i 0)) ∙ ap (value_after base 0) (sym (take_more xs i 0 c.loop-c-test.true)))
