use Rattle.std.proofs.Common.{refl}
use Rattle.rm_channel.proofs.There.{created-there}
use Rattle.rm_bench.proofs.copies.by_channels.Goals as goal

pub copy_file-rows-requires-clause-there : goal.copy_file-rows-requires-clause-there
copy_file-rows-requires-clause-there g c lifetimes outlive = created-there c.in-Ok.pass.opening.files _ c.args.blocks c.in-Ok.ensures.files refl refl tt
