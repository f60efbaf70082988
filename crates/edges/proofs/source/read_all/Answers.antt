use Rattle.std.proofs.lemmas.Result.{err_from_is_err_and}
use Rattle.edges.proofs.Pieces.{took_more}
use Rattle.edges.proofs.source.read_all.Goals as goal

-- the octets before the last piece, and that piece
pub returns-in_err-extend_from_slice-in-Bytes-clause-front : goal.returns-in_err-extend_from_slice-in-Bytes-clause-front
returns-in_err-extend_from_slice-in-Bytes-clause-front g c =
    let p = err_from_is_err_and c.from_residual.result c.from_residual.ensures.1 in
    rw p.1 (_, took_more _ _ _ _ _ c.loop-n.invariant.took c.in-Bytes.ensures.reads.2)
