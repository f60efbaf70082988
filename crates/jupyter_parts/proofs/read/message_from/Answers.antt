use Rattle.std.proofs.Common.{◌≡◌, ◌+◌, ◌<◌, ◌∷◌, length, drop, Err, inr, ap, sym, refl, ◌∙◌, arith, false, bytes_eq, length-drop}
use Rattle.jupyter_parts.specs.Signed.{signature, message_in}
use Rattle.jupyter_parts.specs.declared.fault.PartsError.TheVariants.{BadSignature}
use Rattle.jupyter_parts.proofs.Places.{too_few, not_signed}
use Rattle.jupyter_parts.proofs.read.message_from.Goals as goal

pub returns-then-len-from-lt5-clause-err : goal.returns-then-len-from-lt5-clause-err
returns-then-len-from-lt5-clause-err c =
    let frames = c.args.frames.now in
    let from = c.args.from in
    let short : length (drop from frames) < 5 = omega (arith, length-drop from frames) in
    inr (too_few c.args.key.now c.args.target.now (drop from frames) short)

pub returns-then-not-is_signature-clause-err : goal.returns-then-not-is_signature-clause-err
returns-then-not-is_signature-clause-err c =
    let frames = c.args.frames.now in
    let from = c.args.from in
    let given = c.part-given.result.now in
    let header = c.part-header.result.now in
    let parent = c.part-parent.result.now in
    let metadata = c.part-metadata.result.now in
    let content = c.part-content.result.now in
    let first = c.part-given.ensures.first (from + 1) refl in
    let second = c.part-header.ensures.first (from + 2) (omega arith) in
    let third = c.part-parent.ensures.first (from + 3) (omega arith) in
    let fourth = c.part-metadata.ensures.first (from + 4) (omega arith) in
    let fifth = c.part-content.ensures.first (from + 5) (omega arith) in
    let all : drop from frames ≡ given ∷ header ∷ parent ∷ metadata ∷ content ∷ drop (from + 5) frames = cc (first, second, third, fourth, fifth) in
    let other : bytes_eq given (signature c.args.key.now header parent metadata content) ≡ false = cc (c.is_signature.ensures) in
    inr (ap (message_in c.args.key.now c.args.target.now) all ∙ not_signed c.args.key.now c.args.target.now given header parent metadata content (drop (from + 5) frames) other ∙ ap (λ g. Err (BadSignature g)) (sym c.in_ok-new.ensures))
