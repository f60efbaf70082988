use Rattle.std.proofs.Common.{rules, refl}
use Rattle.zmtp_frames.proofs.Kept.{step_kept}
use Rattle.zmtp_frames.proofs.reader.FrameReader.add_octet.Goals as goal

pub returns-in-Some-clause-kept : goal.returns-in-Some-clause-kept
returns-in-Some-clause-kept c =
    step_kept c.args.whole.now.items c.push_reserved.new.self.items c.args.self.now c.octet.new.self c.in_ok-frame.field-0 c.args.x c.is_sound.ensures
    c.in_ok-frame.ensures.ok (rw (c.push_reserved.ensures.items, c.in_ok-reserve.ensures.items, c.in-Some.is) refl)

pub returns-in_default-clause-kept : goal.returns-in_default-clause-kept
returns-in_default-clause-kept c =
    step_kept c.args.whole.now.items c.reserve.new.self.items c.args.self.now c.octet.new.self c.in_ok-frame.field-0 c.args.x c.is_sound.ensures
    c.in_ok-frame.ensures.ok (search rules)
