use Rattle.std.{specs.Vec.Iter.{into_iter_items}, proofs.Common.{map}}
use Rattle.rm_machine.specs.State.{ledger}
use Rattle.rm_step_backup.{specs.Making.{member_of}, proofs.SetMembers.{AreMade}}
use Rattle.rm_step_backup.proofs.sets.members_of.Given as goal

abbrev pub invariant-loop-file : goal.invariant-loop-file
invariant-loop-file l =
    AreMade (map (member_of (ledger l.state) l.form l.checkpoint) (into_iter_items l.initial.file-iterator)) (map (member_of (ledger l.state) l.form l.checkpoint) (into_iter_items l.file-iterator)) l.members l.fn.told l.told
