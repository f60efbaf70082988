use Rattle.std.proofs.Common.{refl}
use Rattle.cluster_defs.specs.Texts.{header_text}
use Rattle.jupyter_header.proofs.write.header_text.Goals as goal

pub returns : goal.returns
unfolding header_text
returns c = rw (c.in_ok-push_str-10.ensures.bytes, c.in_ok-push_str-9.ensures.bytes, c.in_ok-push_str-8.ensures.bytes, c.in_ok-push_str-7.ensures.bytes, c.in_ok-push_str-6.ensures.bytes, c.in_ok-push_str-5.ensures.bytes, c.in_ok-push_str-4.ensures.bytes, c.in_ok-push_str-3.ensures.bytes, c.in_ok-push_str-2.ensures.bytes, c.in_ok-push_str.ensures.bytes, c.in_ok-text.ensures.ok) refl
