use Rattle.std.proofs.Common.{◌≡◌, ◌+◌, ◌<◌, ◌++◌, length, arith, sym, ap, ◌∙◌, length-append}
use Rattle.database_text.specs.Comparison.{Texts}
use Rattle.database_text.specs.Lines.{text}
use Rattle.database_text.proofs.Places.{ahead_more, of_within, of_behind}
use Rattle.database_text.proofs.check.take_piece.Goals as goal

pub returns-then-branch-clause-ahead : goal.returns-then-branch-clause-ahead
returns-then-branch-clause-ahead g c is =
    let old = c.args.comparison.now in
    let now = c.keep_up.new.comparison in
    let k = c.in_ok-keep_up.ensures.printed in
    let fed = c.in_ok-feed_input.ensures.ok in
    let printed = k.2 ∙ ap (λ (t : Texts). t.printed ++ text k.0) fed in
    let input = c.in_ok-keep_up.ensures.input ∙ ap (λ (t : Texts). t.input) fed in
    let enough : length now.printed + c.args.reached.now.ahead ≡ length old.printed + length c.args.piece.now + c.keep_up.new.reached.ahead = omega (arith, c.in_ok-keep_up.ensures.enough (cc), ap (λ (t : Texts). length t.printed) fed) in
    ahead_more c.requires.ahead c.keep_up.new.reached.cursor k.0 now c.args.piece.now c.keep_up.new.reached.ahead k.1 printed input enough

pub returns-then-branch-clause-differs : goal.returns-then-branch-clause-differs
returns-then-branch-clause-differs g c place is =
    let k = c.in_ok-keep_up.ensures.printed in
    let printed = k.2 ∙ ap (λ (t : Texts). t.printed ++ text k.0) c.in_ok-feed_input.ensures.ok in
    of_within c.requires.ahead c.keep_up.new.reached.cursor k.0 c.keep_up.new.comparison place k.1 printed (sym c.difference.ensures ∙ (cc))

pub returns-clause-differs : goal.returns-clause-differs
returns-clause-differs g c place is =
    let old = c.args.comparison.now in
    let now = c.keep_up.new.comparison in
    let piece = c.args.piece.now in
    let k = c.in_ok-keep_up.ensures.printed in
    let fed = c.in_ok-feed_input.ensures.ok in
    let printed = k.2 ∙ ap (λ (t : Texts). t.printed ++ text k.0) fed in
    let input = c.in_ok-keep_up.ensures.input ∙ ap (λ (t : Texts). t.input) fed in
    let long : length now.input ≡ length old.input + length piece = ap length input ∙ length-append old.input piece in
    let first = ap (λ (t : Texts). length t.printed) fed in
    let lt : length now.printed < length now.input = omega (arith, c.in_ok-keep_up.ensures.short (cc), long, first, c.requires.ahead.longer) in
    of_behind c.requires.ahead c.keep_up.new.reached.cursor k.0 now place k.1 printed (c.in_ok-keep_up.ensures.all (cc)) lt (sym c.end.ensures.place ∙ (cc))
