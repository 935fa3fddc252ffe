use Rattle.std.proofs.Common.{◌≡◌, map, take}
use Rattle.rm_machine.specs.Roll.{standing_member}
use Rattle.rm_step_backup.proofs.rolling.standing_set.Given as goal

abbrev pub invariant-loop-file : goal.invariant-loop-file
invariant-loop-file l = l.members ≡ map (standing_member l.state l.form l.scn) (take l.file-index l.files)
