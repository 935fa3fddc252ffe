use Rattle.std.proofs.Common.{◌≡◌, take}
use Rattle.rm_lang.specs.Phrases.{worded}
use Rattle.rm_lang.proofs.phrases.words.Given as goal

abbrev pub invariant-loop-name : goal.invariant-loop-name
invariant-loop-name l = l.spelling ≡ worded (take l.name-index l.names)
