use Rattle.std.proofs.Common.{ap, rules}
use Rattle.rm_channel.proofs.There.{created-there}
use Rattle.rm_live.specs.Passes.{Standing}
use Rattle.rm_test_channel.proofs.Opened.{can-write-as, threads-as}
use Rattle.rm_test_channel.proofs.during.copied.Goals as goal

pub copy_during-work-requires-clause-there : goal.copy_during-work-requires-clause-there
copy_during-work-requires-clause-there g c lifetimes outlive k d lt =
    let of = c.requires.jobs k d lt in
    created-there _ _ c.args.blocks (ap (λ (s : Standing). s.opening.files) c.in_ok-live.ensures) of.file of.size of.wanted

pub copy_during-work-requires-clause-threads : goal.copy_during-work-requires-clause-threads
copy_during-work-requires-clause-threads g c lifetimes outlive = threads-as c.in_ok-live.pass.opening c.args.blocks c.args.writers.now (ap (λ (s : Standing). s.opening) c.in_ok-live.ensures) c.requires.few

pub copy_during-work-requires-clause-room : goal.copy_during-work-requires-clause-room
copy_during-work-requires-clause-room g c lifetimes outlive = can-write-as _ c.args.blocks c.args.writers.now (search rules) c.requires.blocks.0 c.requires.few c.requires.writers
