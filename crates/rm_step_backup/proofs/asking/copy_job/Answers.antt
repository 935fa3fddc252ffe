use Rattle.std.{specs.Option.{option_map}, proofs.Common.{◌≤◌, ◌∙◌, Option, List, IfSome, ap, sym, subst, arith, length}}
use Rattle.rm_base.specs.declared.block.Row.{Row}
use Rattle.rm_channel.specs.declared.jobs.Wanted.{Wanted}
use Rattle.rm_step_backup.{specs.Copying.{IsCopyOf}, proofs.{Copying.{copy-all, copy-some}, asking.copy_job.Goals.{in-Some, in-None}}}
use Rattle.rm_step_backup.proofs.asking.copy_job.Goals as goal
use Rattle.rm_machine.proofs.Counted.{few-rows}
use Rattle.rm_track.specs.{Bits.{IsBits, marks_of}, declared.bits.Bits.{Bits}}

pub overflow_cast-wanted : goal.overflow_cast-wanted
overflow_cast-wanted c =
    let few : length c.rows_in.result.now ≤ 65536 = subst (λ rows. length rows ≤ 65536) (sym c.rows_in.ensures) (few-rows c.args.state.now c.args.job.now.file c.requires.sound) in
    search (arith, few)

pub returns : goal.returns
returns c =
    let s = c.args.state.now in
    let j = c.args.job.now in
    let known = c.in_ok-bits.ensures in
    let by : Wanted → Type 0 = λ wanted. IsCopyOf s j (record { file = j.file; wanted = wanted }) in
    elim c.match-branch-2.branch [
      | in-Some w ↦
          let bits = subst (λ (o : Option Bits). IfSome o IsBits) w.in-Some.is known.bits in
          let marks = ap (option_map marks_of) (sym w.in-Some.is) ∙ known.marks in
          subst by (sym w.wanted-is) (copy-some s j w.in-Some.bits c.requires.sound c.requires.stands bits marks)
      | in-None w ↦
          let marks = ap (option_map marks_of) (sym w.in-None.is) ∙ known.marks in
          subst by (sym w.wanted-is) (copy-all s j (length w.rows_in.result.now) c.requires.sound c.requires.stands marks (ap (λ (rows : List Row). length rows) w.rows_in.ensures))
    ]
