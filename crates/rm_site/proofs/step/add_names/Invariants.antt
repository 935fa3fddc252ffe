use Rattle.std.proofs.Common.{◌≡◌, ◌++◌, map, take}
use Rattle.rm_evidence.specs.Names.{site_name}
use Rattle.rm_site.proofs.step.add_names.Given as goal

abbrev pub invariant-loop-part : goal.invariant-loop-part
invariant-loop-part l = l.names ≡ l.fn.names ++ map (λ p. site_name p.id) (take l.part-index l.parts)
