use Rattle.std.proofs.Common.{◌≡◌, ◌∙◌, ◌+◌, ◌<◌, ℕ, pos, List, length, true, Result, Err, sym, subst, refl, arith}
use Rattle.std.specs.Prelude.{◌⊎◌, IfErr, string_bytes}
use Rattle.std.proofs.lemmas.Result.{err_from_is_err_and}
use Rattle.array_maps.specs.declared.error.MapError.{MapError}
use Rattle.array_maps.specs.declared.error.MapError.TheVariants.{OutOfMemory}
use Rattle.array_maps.specs.Codes.{map_code, map_codes}
use Rattle.array_maps.specs.Making.{made}
use Rattle.array_maps.proofs.Fronts.{IsFront, front_more, front_done, front_refused, length_codes, code_at}
use Rattle.array_maps.proofs.codes.map_codes.Goals as goal

pub returns-in_err-push_code-clause-err : goal.returns-in_err-push_code-clause-err
returns-in_err-push_code-clause-err c =
    let whole : List (List ℕ) = map_codes c.args.body.now c.args.values.now in
    let i = c.loop-place.place in
    let p = err_from_is_err_and c.from_residual-in_err-push_code.result c.from_residual-in_err-push_code.ensures.1 in
    let lt = let count = length_codes (map_code c.args.body.now) c.args.values.now in let below = c.loop-place-test.true in let lesser : i < length whole = omega (arith, count, below) in lesser in
    let is = code_at (map_code c.args.body.now) c.args.values.now i (pos 0) (let below = c.loop-place-test.true in omega (arith, below)) ∙ sym c.in_ok-value_code.ensures in
    subst (λ (r : Result (List (List ℕ)) MapError). IfErr r (λ e. (e ≡ OutOfMemory) ⊎ (made true whole ≡ Err e))) (sym p.1)
    (subst (λ (e : MapError). (e ≡ OutOfMemory) ⊎ (made true whole ≡ Err e)) (sym p.2)
    (front_refused whole c.loop-place.codes i (string_bytes c.in_ok-value_code.field-0) c.in_err-push_code.field-0.0 c.loop-place.invariant lt is c.in_err-push_code.ensures.err))

pub loop-place-preserved : goal.loop-place-preserved
loop-place-preserved c =
    let whole : List (List ℕ) = map_codes c.args.body.now c.args.values.now in
    let i = c.loop-place.place in
    let lt = let count = length_codes (map_code c.args.body.now) c.args.values.now in let below = c.loop-place-test.true in let lesser : i < length whole = omega (arith, count, below) in lesser in
    let is = code_at (map_code c.args.body.now) c.args.values.now i (pos 0) (let below = c.loop-place-test.true in omega (arith, below)) ∙ sym c.in_ok-value_code.ensures in
    subst (λ (l : List (List ℕ)). IsFront whole l (i + 1)) (sym c.in_ok-push_code.ensures.pushed)
    (front_more whole c.loop-place.codes i (i + 1) (string_bytes c.in_ok-value_code.field-0) c.loop-place.invariant lt refl is c.in_ok-push_code.ensures.short)

pub returns-clause-ok : goal.returns-clause-ok
returns-clause-ok c =
    let whole : List (List ℕ) = map_codes c.args.body.now c.args.values.now in
    let i = c.loop-place.place in
    let end = let count = length_codes (map_code c.args.body.now) c.args.values.now in let over = c.loop-place-test.false in let under = c.loop-place.auto.place-end in let all : i ≡ length whole = omega (arith, count, over, under) in all in
    front_done whole c.loop-place.codes i c.loop-place.invariant end
