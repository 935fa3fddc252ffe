use Rattle.std.{specs.String.{string_bytes}, proofs.Common.{◌≡◌, map}}
use Rattle.rm_base.proofs.mem_store.MemStoreStore.names.Given as goal

abbrev pub invariant-loop-name : goal.invariant-loop-name
invariant-loop-name l = l.names.items ≡ map (λ name. string_bytes name.now) l.yielded
