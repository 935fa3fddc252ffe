use Rattle.std.{specs.Vec.Iter.{into_iter_items}, proofs.Common.{◌≡◌, map}}
use Rattle.rm_evidence.specs.Taking.{with_pieces}
use Rattle.rm_evidence.proofs.taking.add_members.Given as goal

abbrev pub invariant-loop-member : goal.invariant-loop-member
invariant-loop-member l = with_pieces l.evidence l.id (map (λ m. m.piece) (into_iter_items l.member-iterator)) ≡ with_pieces l.initial.evidence l.id (map (λ m. m.piece) (into_iter_items l.initial.member-iterator))
