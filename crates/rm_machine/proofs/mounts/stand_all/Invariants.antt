use Rattle.std.{specs.Option.{option_map}, proofs.Common.{◌≡◌, ◌++◌, map, take, drop}}
use Rattle.rm_blocks.specs.File.{standing}
use Rattle.rm_machine.proofs.mounts.stand_all.Given as goal

abbrev pub invariant-loop-file : goal.invariant-loop-file
invariant-loop-file l =
    take l.file-index l.file-items ++ map (option_map (λ x. standing x l.inc l.checkpoint)) (drop l.file-index l.file-items) ≡ map (option_map (λ x. standing x l.inc l.checkpoint)) l.initial.file-items
