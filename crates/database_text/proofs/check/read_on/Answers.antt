use Rattle.std.proofs.Common.{◌≡◌, ◌++◌, ℕ, List, [], length, take, arith, sym, ap, subst, ◌∙◌}
use Rattle.edges.specs.Streams.{Took}
use Rattle.edges.proofs.Pieces.{took_more}
use Rattle.database_text.specs.Comparison.{Texts}
use Rattle.task_journal.specs.Journal.{journal}
use Rattle.task_journal.proofs.Calls.{reads_joined}
use Rattle.database_text.specs.Texts.{Told, DiffersAt}
use Rattle.database_text.specs.Given.{OfText}
use Rattle.database_text.specs.Compared.{IsAhead}
use Rattle.database_text.proofs.Giving.{gave_none, of_text}
use Rattle.database_text.proofs.Places.{began, all_came, took_none}
use Rattle.database_text.proofs.check.read_on.Goals as goal

pub loop-reached-init : goal.loop-reached-init
loop-reached-init g c =
    let disk = g.D.Disk.content c.args.disk.now in
    let blank = c.new-comparison.ensures in
    record {
      ahead = record {
        list = [];
        gave = gave_none g.D.Disk.tells disk (journal disk) c.in_ok-begin.field-0 c.in_ok-begin.ensures.on c.in_ok-begin.ensures.value;
        printed = ap (λ (t : Texts). t.printed) blank;
        longer = omega (arith, ap (λ (t : Texts). length t.input) blank, ap (λ (t : Texts). length t.printed) blank);
      };
      took = took_none c.new-comparison.result.input (g.S.Source.left c.args.input.now) (ap (λ (t : Texts). t.input) blank);
      later = omega arith;
      reads = c.begin.ensures.reads;
    }

pub loop-reached-preserved : goal.loop-reached-preserved
loop-reached-preserved g c =
    let old = c.loop-reached.comparison.input in
    let piece = take c.in-Bytes.n c.read.new.into in
    let inv = c.loop-reached.invariant in
    let new = c.take_piece.new.comparison in
    let reached = c.take_piece.new.reached in
    record {
      ahead = subst (λ (d : List ℕ). IsAhead g.D.Disk.tells d new reached.cursor reached.ahead) inv.reads.same (c.in_ok-place-in-Bytes.ensures.ahead (cc));
      took = subst (λ (xs : List ℕ). Took xs (g.S.Source.left c.args.input.now) (g.S.Source.left c.read.new.self)) (sym c.in_ok-place-in-Bytes.ensures.input) (took_more old piece _ _ _ inv.took c.in-Bytes.ensures.reads.2);
      later = omega (arith, inv.later, c.in-Bytes.ensures.cause);
      reads = reads_joined inv.reads c.take_piece.ensures.reads;
    }

pub returns-in-Some-clause-different : goal.returns-in-Some-clause-different
returns-in-Some-clause-different g c place is =
    let old = c.loop-reached.comparison.input in
    let piece = take c.in-Bytes.n c.read.new.into in
    let new = c.take_piece.new.comparison in
    let disk = g.D.Disk.content c.args.disk.now in
    let left = g.S.Source.left c.args.input.now in
    let P : List ℕ → Type 0 = λ lines. (more : List ℕ) → DiffersAt (new.input ++ more) lines place in
    let Q : List ℕ → Type 0 = λ lines. Told left (λ octets. DiffersAt octets lines place) in
    let differs : OfText g.D.Disk.tells disk P = subst (λ (d : List ℕ). OfText g.D.Disk.tells d P) c.loop-reached.invariant.reads.same (c.in_ok-place-in-Bytes.ensures.differs place (cc)) in
    let taken = took_more old piece _ _ _ c.loop-reached.invariant.took c.in-Bytes.ensures.reads.2 in
    of_text g.D.Disk.tells disk P Q differs
    (λ lines d octets told.
    let rest = began octets (old ++ piece) left (g.S.Source.left c.read.new.self) told taken in
    let whole : octets ≡ new.input ++ rest.0 = rest.1 ∙ ap (λ (xs : List ℕ). xs ++ rest.0) (sym c.in_ok-place-in-Bytes.ensures.input) in
    subst (λ (xs : List ℕ). DiffersAt xs lines place) (sym whole) (d rest.0))

pub returns-in-End-clause-different : goal.returns-in-End-clause-different
returns-in-End-clause-different g c place is =
    let came = c.loop-reached.comparison.input in
    let disk = g.D.Disk.content c.args.disk.now in
    let left = g.S.Source.left c.args.input.now in
    let P : List ℕ → Type 0 = λ lines. DiffersAt came lines place in
    let Q : List ℕ → Type 0 = λ lines. Told left (λ octets. DiffersAt octets lines place) in
    let at = c.ending_of.ensures.different place (cc) in
    let differs : OfText g.D.Disk.tells disk P = subst (λ (d : List ℕ). OfText g.D.Disk.tells d P) c.loop-reached.invariant.reads.same (c.in_ok-place-in-End.ensures.differs place (cc)) in
    of_text g.D.Disk.tells disk P Q differs
    (λ lines d octets told. subst (λ (xs : List ℕ). DiffersAt xs lines place) (sym (all_came octets came left (g.S.Source.left c.loop-reached.input) told c.loop-reached.invariant.took c.in-End.ensures.reads.0)) d)
