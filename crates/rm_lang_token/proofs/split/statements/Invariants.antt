use Rattle.std.proofs.Common.{◌≡◌, ◌≤◌, ◌<◌, ◌+◌, ◌^◌, ◌++◌, drop}
use Rattle.rm_lang_token.specs.{Tokens.{feeds, tokens_from}, Statements.{cut, statements}, Splitter.{begun_of}}
use Rattle.rm_lang_token.proofs.split.statements.Given as goal

abbrev pub invariant-loop-index : goal.invariant-loop-index
invariant-loop-index l = record {
  same : l.splitter.done.items ++ cut (begun_of l.splitter) (tokens_from l.line l.skip (drop l.index l.script)) ≡ statements l.script;
  lines : l.line + feeds (drop l.index l.script) < 2 ^ 32;
  depth : l.splitter.depth ≤ l.index;
}
