use Rattle.std.proofs.Common.{◌≡◌, map, take}
use Rattle.rm_dup.proofs.copying.numbers.Given as goal

abbrev pub invariant-loop-file : goal.invariant-loop-file
invariant-loop-file l = l.numbers.items ≡ map (λ x. x.file) (take l.file-index l.files)
