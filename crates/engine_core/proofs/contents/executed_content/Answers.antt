use Rattle.std.proofs.Common.{◌≡◌, IfOk, string_bytes, refl, subst}
use Rattle.std.specs.Int.{w64}
use Rattle.std.proofs.lemmas.Int.{to_z-of_z}
use Rattle.engine_core.specs.Contents.{executed_content}
use Rattle.engine_core.proofs.contents.executed_content.Goals as goal

pub returns : goal.returns
unfolding executed_content
returns c =
    let text : string_bytes c.push_str-6.new.self ≡ executed_content c.args.count c.args.shown.now c.args.value =
    rw (
      c.in_ok-push_str-6.ensures.bytes,
      c.in_ok-push_str-5.ensures.bytes,
      c.in_ok-push_str-4.ensures.bytes,
      c.in_ok-push_str-3.ensures.bytes,
      c.in_ok-push_str-2.ensures.bytes,
      c.in_ok-push_str.ensures.bytes,
      c.in_ok-text.ensures.ok,
      c.as_str.ensures.value,
      c.as_str-2.ensures.value,
      c.as_str-3.ensures.value,
      c.in_ok-count.ensures.ok,
      c.in_ok-expressions.ensures,
      c.in_ok-digits.ensures.ok,
      to_z-of_z w64 c.args.value c.ranges.value,
    ) refl in
    subst (λ z. IfOk c.from_string.result (λ o. o ≡ z)) text c.from_string.ensures
