-- What the splitter of a script holds.
use Rattle.rm_lang_token.specs.{Statements.{Begun}, declared.split.Splitter.{Splitter}}

-- the statement that has begun
abbrev pub begun_of : Splitter → Begun
begun_of s = record { front = s.front.items; line = s.line; depth = s.depth }
