use Rattle.std.proofs.Common.{◌≡◌, sym, subst, length, rules, List}
use Rattle.rm_redo.{specs.{Logs.{IsLogs}, declared.online.ThreadLog.{ThreadLog}}, proofs.Logs.{begun-logs}}
use Rattle.rm_redo.proofs.online.OnlineLogs.with_threads.Goals as goal

pub invariant_of-result : goal.invariant_of-result
invariant_of-result c =
    let four : length c.args.enabled ≡ 4 = search rules in
    subst (λ (ls : List ThreadLog). IsLogs (record { dbid = c.args.dbid; inc = c.args.inc; threads = ls })) (sym c.in_ok-threads.ensures)
    (begun-logs c.args.dbid c.args.inc c.args.enabled c.args.first c.requires.dbid c.requires.inc c.requires.first.0 four)
