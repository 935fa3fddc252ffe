use Rattle.std.proofs.{Common.{◌≡◌, ◌≤◌, ◌∙◌, ◌∷◌, ◌++◌, [], List, ap, arith, length, min}, lemmas.Bool.Decides.{nat_tests}}
use Rattle.rm_step_backup.{specs.declared.reading.{FileRead.{FileRead}, Read.TheVariants.{OfSeveral}}, proofs.FilesRead.{groups-on}}
use Rattle.rm_step_backup.proofs.reading.groups.Goals as goal

pub loop-left-preserved : goal.loop-left-preserved
loop-left-preserved c =
    let left : List FileRead = c.loop-left.left.items in
    let more : 1 ≤ length left = search (arith, nat_tests, c.is_empty.ensures, c.loop-left-test.true, c.loop-left.left.ok.0) in
    let at : c.min.result ≡ min (length left) c.args.most = search (arith, c.min.ensures, c.len.ensures, c.from.ensures, c.loop-left.left.ok.0) in
    groups-on c.args.most c.requires.some left c.split_off.new.self.items c.in_ok-behind.behind.items more c.min.result at c.in_ok-behind.ensures.items c.in_ok-behind.ensures.tail c.loop-left.reads.items c.push.new.self.items _
    c.loop-left.invariant (c.in_ok-push.ensures.items ∙ ap (λ (fs : List FileRead). c.loop-left.reads.items ++ OfSeveral fs ∷ []) c.from_vec.ensures)
