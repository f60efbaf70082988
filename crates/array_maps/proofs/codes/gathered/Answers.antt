use Rattle.std.proofs.Common.{◌≡◌, ◌∙◌, ◌+◌, ◌<◌, [], ℕ, List, length, true, Result, Err, sym, subst, refl, arith}
use Rattle.std.specs.Prelude.{◌⊎◌, IfErr, string_bytes}
use Rattle.std.proofs.lemmas.Result.{err_from_is_err_and}
use Rattle.std.proofs.lemmas.List.FromFn.{get_or-map-range_with_len, length-map-range_with_len}
use Rattle.array_maps.specs.declared.error.MapError.{MapError}
use Rattle.array_maps.specs.declared.error.MapError.TheVariants.{OutOfMemory}
use Rattle.array_maps.specs.Codes.{gather_codes}
use Rattle.array_maps.specs.Making.{made}
use Rattle.array_maps.specs.Names.{element}
use Rattle.array_maps.proofs.Fronts.{IsFront, front_more, front_done, front_refused}
use Rattle.array_maps.proofs.codes.gathered.Goals as goal

pub returns-in_err-push_code-clause-err : goal.returns-in_err-push_code-clause-err
returns-in_err-push_code-clause-err c =
    let whole : List (List ℕ) = gather_codes c.args.name.now c.args.n in
    let i = c.loop-place.place in
    let p = err_from_is_err_and c.from_residual-in_err-push_code.result c.from_residual-in_err-push_code.ensures.1 in
    let lt = let count = length-map-range_with_len (element c.args.name.now) 0 c.args.n in let below = c.loop-place-test.true in let lesser : i < length whole = omega (arith, count, below) in lesser in
    let is = get_or-map-range_with_len (element c.args.name.now) 0 c.args.n i i [] c.loop-place-test.true (let z : 0 + i ≡ i = omega arith in z) ∙ sym c.in_ok-element.ensures in
    subst (λ (r : Result (List (List ℕ)) MapError). IfErr r (λ e. (e ≡ OutOfMemory) ⊎ (made true whole ≡ Err e))) (sym p.1)
    (subst (λ (e : MapError). (e ≡ OutOfMemory) ⊎ (made true whole ≡ Err e)) (sym p.2)
    (front_refused whole c.loop-place.codes i (string_bytes c.in_ok-element.field-0) c.in_err-push_code.field-0.0 c.loop-place.invariant lt is c.in_err-push_code.ensures.err))

pub loop-place-preserved : goal.loop-place-preserved
loop-place-preserved c =
    let whole : List (List ℕ) = gather_codes c.args.name.now c.args.n in
    let i = c.loop-place.place in
    let lt = let count = length-map-range_with_len (element c.args.name.now) 0 c.args.n in let below = c.loop-place-test.true in let lesser : i < length whole = omega (arith, count, below) in lesser in
    let is = get_or-map-range_with_len (element c.args.name.now) 0 c.args.n i i [] c.loop-place-test.true (let z : 0 + i ≡ i = omega arith in z) ∙ sym c.in_ok-element.ensures in
    subst (λ (l : List (List ℕ)). IsFront whole l (i + 1)) (sym c.in_ok-push_code.ensures.pushed)
    (front_more whole c.loop-place.codes i (i + 1) (string_bytes c.in_ok-element.field-0) c.loop-place.invariant lt refl is c.in_ok-push_code.ensures.short)

pub returns-clause-ok : goal.returns-clause-ok
returns-clause-ok c =
    let whole : List (List ℕ) = gather_codes c.args.name.now c.args.n in
    let i = c.loop-place.place in
    let end = let count = length-map-range_with_len (element c.args.name.now) 0 c.args.n in let over = c.loop-place-test.false in let under = c.loop-place.auto.place-end in let all : i ≡ length whole = omega (arith, count, over, under) in all in
    front_done whole c.loop-place.codes i c.loop-place.invariant end
