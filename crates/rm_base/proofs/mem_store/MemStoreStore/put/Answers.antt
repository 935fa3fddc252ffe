use Rattle.rm_base.proofs.mem_store.MemStoreStore.put.Goals as goal

pub returns-clause-no_memory : goal.returns-clause-no_memory
returns-clause-no_memory c = λ e. rw e at c.hold-2.ensures.no_memory
