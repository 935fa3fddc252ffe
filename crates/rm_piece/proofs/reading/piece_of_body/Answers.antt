use Rattle.std.{specs.Prelude.{IsTrue}, proofs.Common.{sym, subst}}
use Rattle.rm_piece.{specs.Valid.{IsPiece}, proofs.Fitting.{fits}}
use Rattle.rm_piece.proofs.reading.piece_of_body.Goals as goal

pub returns-then-is_valid-clause-only : goal.returns-then-is_valid-clause-only
returns-then-is_valid-clause-only c p valid same = c.in-Ok.ensures.only p (fits p valid) same

pub returns-else-is_valid-clause-only : goal.returns-else-is_valid-clause-only
returns-else-is_valid-clause-only c p valid same =
    let told = c.in-Ok.ensures.only p (fits p valid) same in
    let yes : IsTrue c.is_valid.result = c.is_valid.ensures.1 (subst IsPiece (sym told) valid) in
    let no = c.if-is_valid.false in
    absurd cc

pub returns-in-Err-clause-only : goal.returns-in-Err-clause-only
returns-in-Err-clause-only c p valid same = c.in-Err.ensures.only p (fits p valid) same
