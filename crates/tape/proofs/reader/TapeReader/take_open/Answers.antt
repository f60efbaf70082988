use Rattle.std.proofs.Common.{arith}
use Rattle.tape.proofs.Chunk.{Taking, is_some, waits, ends_short, ends_bad, ends_record, nothing_short}
use Rattle.tape.proofs.reader.TapeReader.take_open.Goals as goal

-- the call, at each of its exits
taking-then : (c : goal.After-self-1) → Taking c.args.self.now c.self.inside.at c.self.inside.rest.items c.self.inside.left c.self.inside.ended c.args.piece.now c.extend_from_slice.new.self.items c.min-n.result
taking-then c = record { is = c.self.view_is; goes = c.requires.goes; short = c.self.invariant.1; some = c.requires.some; count = c.min-n.ensures; added = c.in_ok-extend_from_slice.ensures.items }

pub invariant_of-self-then-n-self : goal.invariant_of-self-then-n-self
invariant_of-self-then-n-self c = (c.self.invariant.0, λ goes. waits (taking-then c) c.if-n-self.true)

pub returns-then-n-self-clause-after : goal.returns-then-n-self-clause-after
returns-then-n-self-clause-after c = (ends_short (taking-then c) _ (waits (taking-then c) c.if-n-self.true)).tape

pub returns-then-n-self-clause-records : goal.returns-then-n-self-clause-records
returns-then-n-self-clause-records c = (ends_short (taking-then c) _ (waits (taking-then c) c.if-n-self.true)).list

pub invariant_of-self-in-Ok : goal.invariant_of-self-in-Ok
invariant_of-self-in-Ok c = (omega (arith, c.placed-self-inside.ensures), λ goes. rw c.clear.ensures.items nothing_short)

pub returns-in-Ok-clause-after : goal.returns-in-Ok-clause-after
returns-in-Ok-clause-after c =
    let k : Taking c.args.self.now c.self.inside.at c.self.inside.rest.items c.self.inside.left c.self.inside.ended c.args.piece.now c.extend_from_slice.new.self.items c.min-n.result
    = record { is = c.self.view_is; goes = c.requires.goes; short = c.self.invariant.1; some = c.requires.some; count = c.min-n.ensures; added = c.in_ok-extend_from_slice.ensures.items } in
    (ends_record k c.in-Ok.record c.in-Ok.ensures.ok.0 c.clear.new.self.items c.placed-self-inside.result (rw c.as_slice.ensures.value at c.in-Ok.ensures.ok.1) c.clear.ensures.items (rw c.as_slice-in-Ok.ensures.value at c.placed-self-inside.ensures)).tape

pub returns-in-Ok-clause-records : goal.returns-in-Ok-clause-records
returns-in-Ok-clause-records c =
    let k : Taking c.args.self.now c.self.inside.at c.self.inside.rest.items c.self.inside.left c.self.inside.ended c.args.piece.now c.extend_from_slice.new.self.items c.min-n.result
    = record { is = c.self.view_is; goes = c.requires.goes; short = c.self.invariant.1; some = c.requires.some; count = c.min-n.ensures; added = c.in_ok-extend_from_slice.ensures.items } in
    (ends_record k c.in-Ok.record c.in-Ok.ensures.ok.0 c.clear.new.self.items c.placed-self-inside.result (rw c.as_slice.ensures.value at c.in-Ok.ensures.ok.1) c.clear.ensures.items (rw c.as_slice-in-Ok.ensures.value at c.placed-self-inside.ensures)).list

pub returns-in-Err-Stop-Short-clause-count : goal.returns-in-Err-Stop-Short-clause-count
returns-in-Err-Stop-Short-clause-count c =
    let k : Taking c.args.self.now c.self.inside.at c.self.inside.rest.items c.self.inside.left c.self.inside.ended c.args.piece.now c.extend_from_slice.new.self.items c.min-n.result
    = record { is = c.self.view_is; goes = c.requires.goes; short = c.self.invariant.1; some = c.requires.some; count = c.min-n.ensures; added = c.in_ok-extend_from_slice.ensures.items } in
    is_some k

pub returns-in-Err-Stop-Short-clause-after : goal.returns-in-Err-Stop-Short-clause-after
returns-in-Err-Stop-Short-clause-after c =
    let k : Taking c.args.self.now c.self.inside.at c.self.inside.rest.items c.self.inside.left c.self.inside.ended c.args.piece.now c.extend_from_slice.new.self.items c.min-n.result
    = record { is = c.self.view_is; goes = c.requires.goes; short = c.self.invariant.1; some = c.requires.some; count = c.min-n.ensures; added = c.in_ok-extend_from_slice.ensures.items } in
    (ends_short k c.in-Err-Stop-Short.k (rw (c.in-Err-Stop-Short.field-0-is, c.in-Err-Stop-Short.field-0-0-is, c.as_slice.ensures.value) at c.in-Err-Stop-Short.ensures.err)).tape

pub returns-in-Err-Stop-Short-clause-records : goal.returns-in-Err-Stop-Short-clause-records
returns-in-Err-Stop-Short-clause-records c =
    let k : Taking c.args.self.now c.self.inside.at c.self.inside.rest.items c.self.inside.left c.self.inside.ended c.args.piece.now c.extend_from_slice.new.self.items c.min-n.result
    = record { is = c.self.view_is; goes = c.requires.goes; short = c.self.invariant.1; some = c.requires.some; count = c.min-n.ensures; added = c.in_ok-extend_from_slice.ensures.items } in
    (ends_short k c.in-Err-Stop-Short.k (rw (c.in-Err-Stop-Short.field-0-is, c.in-Err-Stop-Short.field-0-0-is, c.as_slice.ensures.value) at c.in-Err-Stop-Short.ensures.err)).list

pub returns-in-Err-Stop-Bad-clause-after : goal.returns-in-Err-Stop-Bad-clause-after
returns-in-Err-Stop-Bad-clause-after c =
    let k : Taking c.args.self.now c.self.inside.at c.self.inside.rest.items c.self.inside.left c.self.inside.ended c.args.piece.now c.extend_from_slice.new.self.items c.min-n.result
    = record { is = c.self.view_is; goes = c.requires.goes; short = c.self.invariant.1; some = c.requires.some; count = c.min-n.ensures; added = c.in_ok-extend_from_slice.ensures.items } in
    (ends_bad k (rw (c.in-Err-Stop-Bad.field-0-is, c.in-Err-Stop-Bad.field-0-0-is, c.as_slice.ensures.value) at c.in-Err-Stop-Bad.ensures.err)).tape

pub returns-in-Err-Stop-Bad-clause-records : goal.returns-in-Err-Stop-Bad-clause-records
returns-in-Err-Stop-Bad-clause-records c =
    let k : Taking c.args.self.now c.self.inside.at c.self.inside.rest.items c.self.inside.left c.self.inside.ended c.args.piece.now c.extend_from_slice.new.self.items c.min-n.result
    = record { is = c.self.view_is; goes = c.requires.goes; short = c.self.invariant.1; some = c.requires.some; count = c.min-n.ensures; added = c.in_ok-extend_from_slice.ensures.items } in
    (ends_bad k (rw (c.in-Err-Stop-Bad.field-0-is, c.in-Err-Stop-Bad.field-0-0-is, c.as_slice.ensures.value) at c.in-Err-Stop-Bad.ensures.err)).list
