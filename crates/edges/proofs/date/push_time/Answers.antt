use Rattle.std.proofs.Common.{append_assoc}
use Rattle.edges.specs.Date.{time_text}
use Rattle.edges.proofs.date.push_time.Goals as goal

pub returns : goal.returns
unfolding time_text
returns c = rw (c.in_ok-push_number-4.ensures, c.in_ok-push_str-3.ensures.bytes, c.in_ok-push_number-3.ensures, c.in_ok-push_str-2.ensures.bytes, c.in_ok-push_number-2.ensures, c.in_ok-push_str.ensures.bytes, c.in_ok-push_number.ensures) (simp append_assoc)
