use Rattle.std.proofs.Common.{refl}
use Rattle.edges.specs.Date.{date_of}
use Rattle.edges.proofs.date.date_text.Goals as goal

pub returns : goal.returns
unfolding date_of
returns c = rw (c.in_ok-push_str-2.ensures.bytes, c.in_ok-push_time.ensures, c.in_ok-push_str.ensures.bytes, c.in_ok-push_day.ensures, c.new-text.ensures.bytes) refl
