use Rattle.std.proofs.Common.{refl}
use Rattle.client_core.specs.Messages.{dependency_text}
use Rattle.client_core.proofs.texts.dependency_text.Goals as goal

pub returns : goal.returns
unfolding dependency_text
returns c =
    rw (
      c.in_ok-push_str-8.ensures.bytes,
      c.in_ok-push_str-7.ensures.bytes,
      c.in_ok-push_str-6.ensures.bytes,
      c.in_ok-push_str-5.ensures.bytes,
      c.in_ok-push_str-4.ensures.bytes,
      c.in_ok-push_str-3.ensures.bytes,
      c.in_ok-push_str-2.ensures.bytes,
      c.in_ok-push_str.ensures.bytes,
      c.in_ok-text.ensures.ok,
      c.as_str.ensures.value,
      c.in_ok-ids.ensures,
      c.flag_text.ensures,
      c.flag_text-2.ensures,
      c.flag_text-3.ensures,
    ) refl
