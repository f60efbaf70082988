use Rattle.std.proofs.Common.{◌≡◌, ◌++◌, ◌∷◌, ◌+◌, [], take, drop, ap, sym, refl, ◌∙◌, arith, append-nil, append_assoc, true, false}
use Rattle.jupyter_parts.specs.Signed.{identities, behind, is_delimiter}
use Rattle.jupyter_parts.proofs.Places.{stops, goes_on, looks_on}
use Rattle.jupyter_parts.proofs.read.delimiter_place.Goals as goal

pub returns-then-is_delimiter-clause-before : goal.returns-then-is_delimiter-clause-before
returns-then-is_delimiter-clause-before c =
    let frames = c.args.frames.now in
    let place = c.loop-place.place in
    let yes : is_delimiter c.part.result.now ≡ true = sym c.is_delimiter.ensures ∙ c.if-is_delimiter.true in
    let none = ap identities (c.part.ensures.first (place + 1) refl) ∙ stops c.part.result.now (drop (place + 1) frames) yes in
    (omega arith, c.loop-place.invariant.front ∙ ap (λ z. take place frames ++ z) none ∙ append-nil (take place frames))

pub loop-place-preserved : goal.loop-place-preserved
loop-place-preserved c =
    let frames = c.args.frames.now in
    let place = c.loop-place.place in
    let frame = c.part.result.now in
    let rest = drop (place + 1) frames in
    let other : is_delimiter frame ≡ false = sym c.is_delimiter.ensures ∙ c.if-is_delimiter.false in
    let first = c.part.ensures.first (place + 1) refl in
    record {
      rest = c.loop-place.invariant.rest ∙ ap behind first ∙ looks_on frame rest other;
      front = c.loop-place.invariant.front ∙ ap (λ z. take place frames ++ z) (ap identities first ∙ goes_on frame rest other)
          ∙ sym (ap (λ z. z ++ identities rest) (c.part.ensures.front (place + 1) refl) ∙ append_assoc (take place frames) (frame ∷ []) (identities rest));
    }
