use Rattle.std.proofs.Common.{◌≡◌, ◌∙◌, ◌+◌, ◌<◌, [], ℕ, List, length, true, Result, Err, sym, subst, refl, arith}
use Rattle.std.specs.Prelude.{◌⊎◌, IfErr, string_bytes}
use Rattle.std.proofs.lemmas.Result.{err_from_is_err_and}
use Rattle.std.proofs.lemmas.List.FromFn.{get_or-map-range_with_len, length-map-range_with_len}
use Rattle.array_maps.specs.declared.error.MapError.{MapError}
use Rattle.array_maps.specs.declared.error.MapError.TheVariants.{OutOfMemory}
use Rattle.array_maps.specs.Codes.{scatter_code, scatter_codes}
use Rattle.array_maps.specs.Making.{made}
use Rattle.array_maps.proofs.Fronts.{IsFront, front_more, front_done, front_refused}
use Rattle.array_maps.proofs.codes.scattered.Goals as goal

pub returns-in_err-push_code-clause-err : goal.returns-in_err-push_code-clause-err
returns-in_err-push_code-clause-err c =
    let whole : List (List ℕ) = scatter_codes c.args.name.now c.args.values.now c.args.parts in
    let i = c.loop-part.part in
    let p = err_from_is_err_and c.from_residual-in_err-push_code.result c.from_residual-in_err-push_code.ensures.1 in
    let lt = let count = length-map-range_with_len (scatter_code c.args.name.now c.args.values.now c.args.parts) 0 c.args.parts in let below = c.loop-part-test.true in let lesser : i < length whole = omega (arith, count, below) in lesser in
    let is = get_or-map-range_with_len (scatter_code c.args.name.now c.args.values.now c.args.parts) 0 c.args.parts i i [] c.loop-part-test.true (let z : 0 + i ≡ i = omega arith in z) ∙ sym c.in_ok-scatter_code.ensures in
    subst (λ (r : Result (List (List ℕ)) MapError). IfErr r (λ e. (e ≡ OutOfMemory) ⊎ (made true whole ≡ Err e))) (sym p.1)
    (subst (λ (e : MapError). (e ≡ OutOfMemory) ⊎ (made true whole ≡ Err e)) (sym p.2)
    (front_refused whole c.loop-part.codes i (string_bytes c.in_ok-scatter_code.field-0) c.in_err-push_code.field-0.0 c.loop-part.invariant lt is c.in_err-push_code.ensures.err))

pub loop-part-preserved : goal.loop-part-preserved
loop-part-preserved c =
    let whole : List (List ℕ) = scatter_codes c.args.name.now c.args.values.now c.args.parts in
    let i = c.loop-part.part in
    let lt = let count = length-map-range_with_len (scatter_code c.args.name.now c.args.values.now c.args.parts) 0 c.args.parts in let below = c.loop-part-test.true in let lesser : i < length whole = omega (arith, count, below) in lesser in
    let is = get_or-map-range_with_len (scatter_code c.args.name.now c.args.values.now c.args.parts) 0 c.args.parts i i [] c.loop-part-test.true (let z : 0 + i ≡ i = omega arith in z) ∙ sym c.in_ok-scatter_code.ensures in
    subst (λ (l : List (List ℕ)). IsFront whole l (i + 1)) (sym c.in_ok-push_code.ensures.pushed)
    (front_more whole c.loop-part.codes i (i + 1) (string_bytes c.in_ok-scatter_code.field-0) c.loop-part.invariant lt refl is c.in_ok-push_code.ensures.short)

pub returns-clause-ok : goal.returns-clause-ok
returns-clause-ok c =
    let whole : List (List ℕ) = scatter_codes c.args.name.now c.args.values.now c.args.parts in
    let i = c.loop-part.part in
    let end = let count = length-map-range_with_len (scatter_code c.args.name.now c.args.values.now c.args.parts) 0 c.args.parts in let over = c.loop-part-test.false in let under = c.loop-part.auto.part-end in let all : i ≡ length whole = omega (arith, count, over, under) in all in
    front_done whole c.loop-part.codes i c.loop-part.invariant end
