use Rattle.std.{specs.List.{enumerate_from}, proofs.Common.{◌≡◌, ◌+◌, ◌++◌, drop, map}}
use Rattle.rm_dup.specs.Copies.{copies_of, copy_as}
use Rattle.rm_dup.proofs.copying.copies.Given as goal

abbrev pub invariant-loop-file : goal.invariant-loop-file
invariant-loop-file l = record {
  next : l.number ≡ 1 + l.file-index;
  made : l.pieces.items ++ map (copy_as l.dbid l.s) (enumerate_from l.number (drop l.file-index l.files)) ≡ copies_of l.dbid l.s l.files;
}
