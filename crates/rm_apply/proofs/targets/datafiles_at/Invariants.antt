use Rattle.std.proofs.Common.{All, map}
use Rattle.rm_evidence.specs.Database.{world_of}
use Rattle.rm_apply.{specs.Files.{AreExactly, IsTargetFile, IsAsked}, proofs.Numbers.{Below}}
use Rattle.rm_apply.proofs.targets.datafiles_at.Given as goal

abbrev pub invariant-loop-number : goal.invariant-loop-number
invariant-loop-number l = record {
  numbers : AreExactly (Below (IsAsked (world_of l.catalog) l.i l.s l.only) l.number) (map (λ x. x.number) l.found);
  each : All (IsTargetFile (world_of l.catalog) l.i l.s) l.found;
}
