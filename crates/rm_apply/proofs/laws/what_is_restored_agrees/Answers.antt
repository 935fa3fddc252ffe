use Rattle.rm_evidence.specs.Database.{world_of}
use Rattle.rm_apply.proofs.Agreeing.{restored-agrees}
use Rattle.rm_apply.proofs.laws.what_is_restored_agrees.Goals as goal

pub returns : goal.returns
returns c = λ held rs place i s only r origins back h x history agrees has.
    restored-agrees (world_of rs) back.evidence i s h history agrees back.numbers r.files origins x back.restored has
