use Rattle.std.proofs.Common.{rules, arith}
use Rattle.zmtp_frames.proofs.Sizes.{size_fits, size_next}
use Rattle.zmtp_frames.proofs.reader.FrameReader.size_octet.Goals as goal

pub overflow_mul-size : goal.overflow_mul-size
overflow_mul-size c = omega (arith, size_fits c.args.size c.args.left c.args.x c.requires.sound.0 c.requires.sound.2 (omega arith))

pub overflow_add-size : goal.overflow_add-size
overflow_add-size c = omega (arith, size_fits c.args.size c.args.left c.args.x c.requires.sound.0 c.requires.sound.2 (omega arith))

pub invariant_of-self-2 : goal.invariant_of-self-2
invariant_of-self-2 c = (omega arith, omega arith, size_next c.args.size c.args.left c.args.x c.requires.sound.0 c.requires.sound.2 (omega arith), search rules)
