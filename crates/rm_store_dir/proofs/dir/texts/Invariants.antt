use Rattle.std.{specs.String.{string_bytes}, proofs.Common.{◌≡◌, map}}
use Rattle.rm_store_dir.proofs.dir.texts.Given as goal

abbrev pub invariant-loop-name : goal.invariant-loop-name
invariant-loop-name l = l.texts.items ≡ map (λ name. string_bytes name.now) l.yielded
