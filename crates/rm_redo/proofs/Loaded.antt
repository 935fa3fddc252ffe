-- Online logs that log files tell are valid where these are.
use Rattle.std.{specs.List.{zip}, proofs.Common.{◌≡◌, ◌≤◌, ◌∷◌, [], ℕ, List, Option, Some, None, Bool, All, IfSome, arith, length}}
use Rattle.std.proofs.lemmas.{List.{length-map, Elements.{All-cons, All-head, All-nil, All-tail}}, Slice.Zip.{length-zip}}
use Rattle.rm_redo.specs.{LogFormat.{IsLogFile}, Logs.{IsLog, IsLogs}, Online.{logs_of, thread_log, thread_logs, told_log}}
use Rattle.rm_redo.{specs.declared.log_file.LogFile.{LogFile}, proofs.Logs.{lost-log-is_log, where-is_log}}

told-is_log : (o : Option LogFile) → IfSome o IsLogFile → IsLog (told_log o)
told-is_log None valid = lost-log-is_log
told-is_log (Some l) valid = record {
  numbered = valid.sequence.0;
  begun = valid.range.0;
  from = λ k d inside. (valid.records k d inside).scn.0;
  ascends = valid.ascend;
  few = valid.few;
}

are-logs : (enabled : List Bool) (logs : List (Option LogFile)) → All (λ log. IfSome log IsLogFile) logs → All IsLog (thread_logs enabled logs)
are-logs [] logs valid = All-nil IsLog
are-logs (on ∷ rest) [] valid = All-nil IsLog
are-logs (on ∷ rest) (log ∷ logs) valid =
    All-cons IsLog (thread_log on log) (thread_logs rest logs)
    (where-is_log (told_log log) on (told-is_log log (All-head (λ log. IfSome log IsLogFile) log logs valid)))
    (are-logs rest logs (All-tail (λ log. IfSome log IsLogFile) log logs valid))

pub loaded-logs : (dbid inc : ℕ) (enabled : List Bool) (logs : List (Option LogFile)) → 1 ≤ dbid → 1 ≤ inc → length enabled ≡ 4 → length logs ≡ 4 → All (λ log. IfSome log IsLogFile) logs → IsLogs (logs_of dbid inc enabled logs)
loaded-logs dbid inc enabled logs dbid-is inc-is flags four valid = record {
  dbid = dbid-is;
  inc = inc-is;
  four = omega (arith, length-map (zip enabled logs) (λ x. thread_log x.0 x.1), length-zip enabled logs, flags, four);
  each = are-logs enabled logs valid;
}
