use Rattle.std.{specs.Vec.Iter.{into_iter_items}, proofs.Common.{◌∙◌, ◌++◌, ◌∷◌, [], List, ap, length, map, subst, sym}}
use Rattle.rm_base.specs.declared.block.Row.{Row}
use Rattle.rm_piece.specs.{Valid.{IsPiece}, declared.set.SetFile.{SetFile}}
use Rattle.rm_machine.specs.{MadeSets.{InSet, member_by}, State.{ledger}, declared.job.FileBackup.{FileBackup}}
use Rattle.rm_step_backup.specs.{Making.{member_of}, declared.reading.FileRead.{FileRead}}
use Rattle.rm_step_backup.proofs.SetMembers.{made-next, valid-here}
use Rattle.rm_step_backup.proofs.sets.members_of.Goals as goal

pub member_of-requires : goal.member_of-requires
member_of-requires c =
    let f : FileRead → InSet = member_of (ledger c.args.state.now) c.args.form.now c.args.checkpoint in
    record {
      valid = subst (λ (rs : List Row). IsPiece (member_by (ledger c.args.state.now) c.args.form.now c.args.checkpoint c.in-Some.file.job rs).piece) (sym c.as_slice-rows.ensures)
          (valid-here (map f (into_iter_items c.into_iter-file-iterator.result)) (f c.in-Some.file) (map f (into_iter_items c.next.new.self)) (map f (into_iter_items c.loop-file.file-iterator))
          (ap (map f) c.in-Some.ensures.steps.0) c.loop-file.members c.args.told.now c.loop-file.told c.loop-file.invariant);
    }

pub told_member-requires : goal.told_member-requires
told_member-requires c =
    let f : FileRead → InSet = member_of (ledger c.args.state.now) c.args.form.now c.args.checkpoint in
    let m : FileRead → List Row → SetFile = λ r rs. member_by (ledger c.args.state.now) c.args.form.now c.args.checkpoint r.job rs in
    record {
      valid = subst (λ (m : SetFile). IsPiece m.piece) (sym (c.in_ok-member.ensures ∙ ap (m c.in-Some.file) c.as_slice-rows.ensures))
          (valid-here (map f (into_iter_items c.into_iter-file-iterator.result)) (f c.in-Some.file) (map f (into_iter_items c.next.new.self)) (map f (into_iter_items c.loop-file.file-iterator))
          (ap (map f) c.in-Some.ensures.steps.0) c.loop-file.members c.args.told.now c.loop-file.told c.loop-file.invariant);
    }

pub loop-file-preserved : goal.loop-file-preserved
loop-file-preserved c =
    let f : FileRead → InSet = member_of (ledger c.args.state.now) c.args.form.now c.args.checkpoint in
    let m : FileRead → List Row → SetFile = λ r rs. member_by (ledger c.args.state.now) c.args.form.now c.args.checkpoint r.job rs in
    made-next (map f (into_iter_items c.into_iter-file-iterator.result)) (f c.in-Some.file) (map f (into_iter_items c.next.new.self)) (map f (into_iter_items c.loop-file.file-iterator))
    (ap (map f) c.in-Some.ensures.steps.0) c.loop-file.members c.args.told.now c.loop-file.told c.loop-file.invariant
    c.in_ok-member.member (c.in_ok-member.ensures ∙ ap (m c.in-Some.file) c.as_slice-rows.ensures) (length c.as_slice-rows.result.now) (ap (λ (rs : List Row). length rs) c.as_slice-rows.ensures) c.push-in-loop-file.new.self c.push.new.self
    c.in_ok-push-2.ensures.ok (c.in_ok-push.ensures.ok ∙ ap (λ (t : FileBackup). c.loop-file.told ++ t ∷ []) c.told_member.ensures)
