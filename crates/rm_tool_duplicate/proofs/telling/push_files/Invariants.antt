use Rattle.std.{specs.List.{enumerate_from}, proofs.Common.{◌≡◌, ◌+◌, ◌++◌, drop, map}}
use Rattle.rm_tool_duplicate.specs.Duplicated.{file_line, file_lines}
use Rattle.rm_tool_duplicate.proofs.telling.push_files.Given as goal

abbrev pub invariant-loop-file : goal.invariant-loop-file
invariant-loop-file l = record {
  next : l.number ≡ 1 + l.file-index;
  made : l.lines ++ map file_line (enumerate_from l.number (drop l.file-index l.from)) ≡ l.fn.lines ++ file_lines l.from;
}
