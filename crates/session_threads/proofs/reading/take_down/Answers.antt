use Rattle.std.proofs.Common.{Result, Bool, inl, refl, subst}
use Rattle.controller_desk.specs.declared.fault.ActError.{ActError}
use Rattle.controller_desk.specs.Calls.{HasClosed}
use Rattle.session_threads.proofs.Down.{taken_gone, takes_down}
use Rattle.session_threads.proofs.Entering.{never_too_many}
use Rattle.session_threads.proofs.Finishing.{keeps_itself, keeps_refused, refused_no_stream, refused_why}
use Rattle.session_threads.proofs.reading.take_down.Goals as goal

pub returns-in-Ok-clause-down : goal.returns-in-Ok-clause-down
returns-in-Ok-clause-down g c = let t = c.close_conn.ensures.turn in takes_down g.T.Disk.Disk.faults _ _ t.0 t.1 c.args.conn t.3.0 t.3.1 c.close_conn.result t.2 t.3.2

pub returns-in-Ok-clause-keeps : goal.returns-in-Ok-clause-keeps
returns-in-Ok-clause-keeps g c = keeps_itself c.args.end

pub returns-in-Ok-clause-gone : goal.returns-in-Ok-clause-gone
returns-in-Ok-clause-gone g c =
    λ _.
    let t = c.close_conn.ensures.turn in
    taken_gone g.T.Disk.Disk.faults _ _ t.0 t.1 c.args.conn t.3.0 t.3.1 _ t.2 (subst (λ (r : Result Bool ActError). HasClosed t.0 t.3.0 t.3.1 c.args.conn r t.1) c.in-Ok.is t.3.2)

pub returns-in-Ok-clause-cause : goal.returns-in-Ok-clause-cause
returns-in-Ok-clause-cause g c = inl refl

pub refused_end-requires : goal.refused_end-requires
refused_end-requires g c =
    let t = c.close_conn.ensures.turn in
    let h = subst (λ (r : Result Bool ActError). HasClosed t.0 t.3.0 t.3.1 c.args.conn r t.1) c.in-Err.is t.3.2 in
    never_too_many t.0 _ c.in-Err.error t.1 h.1

pub returns-in-Err-clause-down : goal.returns-in-Err-clause-down
returns-in-Err-clause-down g c = let t = c.close_conn.ensures.turn in takes_down g.T.Disk.Disk.faults _ _ t.0 t.1 c.args.conn t.3.0 t.3.1 c.close_conn.result t.2 t.3.2

pub returns-in-Err-clause-keeps : goal.returns-in-Err-clause-keeps
returns-in-Err-clause-keeps g c = keeps_refused c.args.end c.in-Err.error _ c.refused_end.ensures

pub returns-in-Err-clause-gone : goal.returns-in-Err-clause-gone
returns-in-Err-clause-gone g c = λ s. absurd (refused_no_stream c.args.end c.in-Err.error _ c.refused_end.ensures s)

pub returns-in-Err-clause-cause : goal.returns-in-Err-clause-cause
returns-in-Err-clause-cause g c =
    let t = c.close_conn.ensures.turn in
    let h = subst (λ (r : Result Bool ActError). HasClosed t.0 t.3.0 t.3.1 c.args.conn r t.1) c.in-Err.is t.3.2 in
    refused_why g.T.Disk.Disk.faults _ _ t.0 t.1 _ c.args.end c.in-Err.error _ t.2 h.1 c.refused_end.ensures
