use Rattle.std.proofs.Common.{◌≡◌, ◌+◌, ◌∙◌, ◌++◌, List, ap, sym, arith}
use Rattle.rm_redo.specs.declared.log_file.LogFile.{LogFile}
use Rattle.rm_machine.{specs.{Recovery.{online_logs}, declared.state.State.{State}}, proofs.InPlace.{online-more, online_of}}
use Rattle.rm_machine.proofs.hand.logs_in_place.Goals as goal

pub loop-index-preserved : goal.loop-index-preserved
loop-index-preserved c =
    let s : State = c.args.state.now in
    let k = c.loop-index.index in
    let next : k + 1 ≡ 1 + k = omega arith in
    c.in_ok-push_online.ensures
    ∙ ap (λ (ls : List LogFile). ls ++ online_of s (k + 1)) c.loop-index.invariant
    ∙ ap (λ n. online_logs s 1 k ++ online_of s n) next
    ∙ sym (online-more s 1 k)
