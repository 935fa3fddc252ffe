use Rattle.std.proofs.Common.{◌≡◌, map}
use Rattle.rm_verify.specs.Told.{with_bad}
use Rattle.rm_verify.proofs.validating.add_bad.Given as goal

abbrev pub invariant-loop-id : goal.invariant-loop-id
invariant-loop-id l = with_bad l.list (map (λ x. x.0) l.id-iterator.a.rest.now) l.id-iterator.b.rest.now ≡ with_bad l.initial.list (map (λ x. x.0) l.initial.id-iterator.a.rest.now) l.initial.id-iterator.b.rest.now
