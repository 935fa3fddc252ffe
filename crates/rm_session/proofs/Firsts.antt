-- Logs that fit a saved site: what is so of each of them, and of the incarnation of the first.
use Rattle.std.proofs.Common.{◌+◌, ℕ, List, [], Option, All, Bool}
use Rattle.rm_catalog_typed.specs.Ledger.{Ledger}
use Rattle.rm_history.specs.Tree.{IsThere}
use Rattle.rm_machine.{specs.Loading.{inc_of_first}, proofs.FirstLogs.{OfLog, first-is, of-each}}
use Rattle.rm_base.proofs.Standing.{each-get}
use Rattle.rm_redo.specs.{LogFormat.{IsLogFile}, declared.log_file.LogFile.{LogFile}}
use Rattle.rm_session.specs.Fit.{AllAt, IsFitLog, LogFitsAt}

-- what is so of each log that fits, whatever its thread, is so of all of them
pub fit-each : (l : Ledger) (opened : Bool) (P : LogFile → Type 0) → ((t : ℕ) (a : LogFile) → IsFitLog l opened t a → P a) → (logs : List (Option LogFile)) → AllAt (LogFitsAt l opened) logs → All (OfLog P) logs
fit-each l opened P then logs all = each-get (OfLog P) logs (λ k o is. of-each (IsFitLog l opened (k + 1)) P (then (k + 1)) o (all k o is))

pub fit-there : (l : Ledger) (opened : Bool) (logs : List (Option LogFile)) → IsThere l.tree l.base.current → AllAt (LogFitsAt l opened) logs → IsThere l.tree (inc_of_first l.base.current logs)
fit-there l opened logs here all = first-is (IsThere l.tree) l.base.current logs here (fit-each l opened (λ a. IsThere l.tree a.inc) (λ t a fit. fit.fits.there) logs all)

pub fit-valid : (l : Ledger) (opened : Bool) (logs : List (Option LogFile)) → AllAt (LogFitsAt l opened) logs → All (OfLog IsLogFile) logs
fit-valid l opened logs all = fit-each l opened IsLogFile (λ t a fit. fit.valid) logs all
