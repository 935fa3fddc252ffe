use Rattle.std.proofs.{Common.{arith}, lemmas.Map.Text.{text_keys}}
use Rattle.rm_base.proofs.mem_store.MemStoreStore.remove.Goals as goal

pub returns-clause-others : goal.returns-clause-others
returns-clause-others c = λ n differ. grind (arith, text_keys)
