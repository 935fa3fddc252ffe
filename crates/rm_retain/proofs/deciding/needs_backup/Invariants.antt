use Rattle.std.{specs.List.{list_any}, proofs.Common.{◌≡◌, take, false}}
use Rattle.rm_retain.specs.Needs.{needs_backup}
use Rattle.rm_retain.proofs.deciding.needs_backup.Given as goal

abbrev pub invariant-loop-need : goal.invariant-loop-need
invariant-loop-need l = list_any (needs_backup l.file l.id l.clip) (take l.need-index l.files) ≡ false
