use Rattle.std.proofs.Common.{◌≡◌, ◌+◌, ◌%◌, ◌∷◌, [], sym, ap, ◌∙◌, append-nil, append_assoc, arith, encode_utf8}
use Rattle.edges.specs.Date.{digits}
use Rattle.edges.proofs.DateLemmas.{digits_more}
use Rattle.edges.proofs.date.+push_number.Goals as goal

pub returns-then-width-eq0 : goal.returns-then-width-eq0
unfolding digits
returns-then-width-eq0 t c = rw c.if-width-eq0.true (sym (append-nil _))

pub returns : goal.returns
returns t c =
    let more = digits_more c.args.width c.args.n (omega arith) in
    let last : encode_utf8 c.from.result ≡ (48 + c.args.n % 10) ∷ [] = c.in_ok-push.ensures.ascii (omega arith) ∙ ap (λ d. d ∷ []) c.from.ensures in
    rw (c.in_ok-push.ensures.bytes, c.in_ok-push_number.ensures, more, last) (simp append_assoc)
