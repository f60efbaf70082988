use Rattle.std.proofs.Common.{◌∙◌, ◌+◌, ◌++◌, List, ℕ, cond, sym, ap}
use Rattle.std.specs.Prelude.{codes, string_bytes, ◌==◌}
use Rattle.array_maps.specs.Codes.{element_setting}
use Rattle.array_maps.proofs.Fronts.{settings_next}
use Rattle.array_maps.proofs.texts.settings.Goals as goal

pub loop-i-preserved : goal.loop-i-preserved
loop-i-preserved c =
    let i = c.loop-i.i in
    let one : List ℕ = element_setting c.args.name.now c.args.values.now (c.args.start + i) in
    let text = c.as_str.ensures.value ∙ c.in_ok-setting.ensures in
    c.in_ok-push_setting.ensures
    ∙ ap (λ (l : List ℕ). string_bytes c.loop-i.text ++ cond (i == 0) l (codes ";" ++ l)) text
    ∙ ap (λ (l : List ℕ). l ++ cond (i == 0) one (codes ";" ++ one)) c.loop-i.invariant
    ∙ sym (settings_next c.args.name.now c.args.values.now c.args.start i)
