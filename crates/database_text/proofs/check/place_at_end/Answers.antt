use Rattle.std.proofs.Common.{◌≡◌, ◌<◌, ◌++◌, ℕ, List, Bool, true, false, length, arith, refl, sym, ap, ◌∙◌}
use Rattle.std.specs.Prelude.{is_some}
use Rattle.cluster_types.specs.declared.entry.Entry.{Entry}
use Rattle.database_text.specs.Lines.{text}
use Rattle.task_journal.specs.Journal.{StandsFor}
use Rattle.database_text.specs.Texts.{DiffersAt}
use Rattle.database_text.specs.Given.{OfText}
use Rattle.database_text.proofs.Giving.{gave_on, gave_all}
use Rattle.database_text.proofs.Places.{of_before, of_end, ahead_printed}
use Rattle.database_text.proofs.check.place_at_end.Goals as goal

pub returns-clause-differs : goal.returns-clause-differs
returns-clause-differs g c place is =
    let now = c.keep_up.new.comparison in
    let later = c.keep_up.new.reached.cursor in
    let k = c.in_ok-keep_up.ensures.printed in
    let input = c.in_ok-keep_up.ensures.input in
    let Q = OfText g.D.Disk.tells (g.D.Disk.content c.args.disk.now) (λ (lines : List ℕ). DiffersAt c.args.comparison.now.input lines place) in
    elim c.in_ok-keep_up.field-0 as (λ (b : Bool). c.in_ok-keep_up.field-0 ≡ b → Q) [
      | true ↦ λ e.
          let enough = c.in_ok-keep_up.ensures.enough (cc) in
          let lt : length now.input < length now.printed = omega (arith, enough, c.requires.longer, ap length input) in
          of_before c.requires later k.0 now place k.1 k.2 input lt (sym c.end.ensures.place ∙ (cc))
      | false ↦ λ e. of_end c.requires later k.0 now place k.1 k.2 input (c.in_ok-keep_up.ensures.all (cc)) (sym c.end.ensures.place ∙ (cc))
    ] refl

pub returns-clause-equal : goal.returns-clause-equal
returns-clause-equal g c is =
    let now = c.keep_up.new.comparison in
    let k = c.in_ok-keep_up.ensures.printed in
    let input = c.in_ok-keep_up.ensures.input in
    let none : is_some c.end.result ≡ false = cc in
    let same : now.input ≡ now.printed = c.end.ensures.equal.0 none in
    let gave = gave_on c.requires.gave k.1 in
    let Q = (list : List Entry) × (g.D.Disk.tells → StandsFor (g.D.Disk.content c.args.disk.now) list) × (c.args.comparison.now.input ≡ text list) in
    elim c.in_ok-keep_up.field-0 as (λ (b : Bool). c.in_ok-keep_up.field-0 ≡ b → Q) [
      | true ↦ λ e.
          let enough = c.in_ok-keep_up.ensures.enough (cc) in
          absurd (omega (arith, enough, c.requires.longer, ap length input, ap length same))
      | false ↦ λ e.
          (c.requires.list ++ k.0, λ told. gave_all gave (c.in_ok-keep_up.ensures.all (cc)) told, sym input ∙ same ∙ ahead_printed c.requires k.0 now.printed k.2)
    ] refl
