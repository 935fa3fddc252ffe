use Rattle.std.proofs.Common.{◌≡◌, ◌∙◌, ◌∷◌, [], List, sym, ap, arith}
use Rattle.rm_channel.{specs.declared.jobs.WriteJob.{WriteJob}, proofs.Shares.{only-list, run-first, run-list}}
use Rattle.rm_channel.proofs.working.work.Goals.{then-share, else-share}
use Rattle.rm_channel.proofs.working.work.Goals as goal

pub returns-clause-run : goal.returns-clause-run
returns-clause-run g c =
    let share = c.args.share in
    let one = c.requires.one in elim c.if-share.branch [
      | then-share w ↦
          let lt = w.if-share.true in
          rw (w.pass-is, w.done-is) (run-first c.args.pass w.copy_section-done.new.pass.seen share.channels share.from share.to c.args.jobs.now share.thread c.args.writers.now _
          (omega arith) (omega arith) w.copy_section-done.ensures.run)
      | else-share w ↦
          let le = w.if-share.false in
          let order = c.requires.share.0 in
          let same : share.from ≡ share.to = omega arith in
          let list = w.as_slice-list in
          let is = only-list c.args.writers.now w.index-writers-0.result (omega arith) (sym w.index-writers-0.is) ∙ ap (λ (l : List WriteJob). l ∷ []) (sym list.ensures.value) in
          let did = w.write_list-done.ensures in
          rw (w.pass-is, w.done-is) (run-list c.args.pass w.write_list-done.new.pass.seen share.channels share.from share.to c.args.jobs.now share.thread _ list.result.now _ same is
          did.worked did.rows did.answers)
    ]
