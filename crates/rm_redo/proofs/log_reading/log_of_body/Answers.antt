use Rattle.std.{specs.Prelude.{IsTrue}, proofs.Common.{sym, subst}}
use Rattle.rm_redo.{specs.LogFormat.{IsLogFile}, proofs.LogFitting.{fits}}
use Rattle.rm_redo.proofs.log_reading.log_of_body.Goals as goal

pub returns-then-is_valid_log-clause-only : goal.returns-then-is_valid_log-clause-only
returns-then-is_valid_log-clause-only c p valid same = c.in-Ok.ensures.only p (fits p valid) same

pub returns-else-is_valid_log-clause-only : goal.returns-else-is_valid_log-clause-only
returns-else-is_valid_log-clause-only c p valid same =
    let told = c.in-Ok.ensures.only p (fits p valid) same in
    let yes : IsTrue c.is_valid_log.result = c.is_valid_log.ensures.1 (subst IsLogFile (sym told) valid) in
    let no = c.if-is_valid_log.false in
    absurd cc

pub returns-in-Err-clause-only : goal.returns-in-Err-clause-only
returns-in-Err-clause-only c p valid same = c.in-Err.ensures.only p (fits p valid) same
