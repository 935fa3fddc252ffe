use Rattle.std.proofs.Common.{◌≡◌, map, take}
use Rattle.rm_standby.specs.Image.{creation_in, imaged_member}
use Rattle.rm_standby.proofs.imaging.image.Given as goal

abbrev pub invariant-loop-file : goal.invariant-loop-file
invariant-loop-file l = l.members.items ≡ map (λ x. imaged_member l.dbid (creation_in l.datafiles x.file) x) (take l.file-index l.files)
