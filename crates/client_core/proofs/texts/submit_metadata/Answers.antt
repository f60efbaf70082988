use Rattle.std.proofs.Common.{refl}
use Rattle.client_core.specs.Messages.{submit_metadata}
use Rattle.client_core.proofs.texts.submit_metadata.Goals as goal

pub returns : goal.returns
unfolding submit_metadata
returns c =
    rw (
      c.in_ok-push_str-10.ensures.bytes,
      c.in_ok-push_str-9.ensures.bytes,
      c.in_ok-push_str-8.ensures.bytes,
      c.in_ok-push_str-7.ensures.bytes,
      c.in_ok-push_str-6.ensures.bytes,
      c.in_ok-push_str-5.ensures.bytes,
      c.in_ok-push_str-4.ensures.bytes,
      c.in_ok-push_str-3.ensures.bytes,
      c.in_ok-push_str-2.ensures.bytes,
      c.in_ok-push_str.ensures.bytes,
      c.in_ok-text.ensures.ok,
      c.as_str.ensures.value,
      c.as_str-2.ensures.value,
      c.as_str-3.ensures.value,
      c.as_str-4.ensures.value,
      c.as_str-5.ensures.value,
      c.in_ok-after.ensures,
      c.in_ok-follow.ensures,
      c.in_ok-targets.ensures,
      c.in_ok-timeout.ensures.ok,
      c.in_ok-retries.ensures.ok,
    ) refl
