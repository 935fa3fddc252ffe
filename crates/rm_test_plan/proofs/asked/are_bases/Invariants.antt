use Rattle.std.{specs.List.{AllWithin}, proofs.Common.{◌≢◌}}
use Rattle.rm_base.specs.declared.kinds.Kind.TheVariants.{Level1}
use Rattle.rm_evidence.specs.Known.{FitsPiece}
use Rattle.rm_test_plan.proofs.asked.are_bases.Given as goal

abbrev pub invariant-loop-piece : goal.invariant-loop-piece
invariant-loop-piece l = record {
  fit : AllWithin (λ x. FitsPiece l.tree x.1) l.pieces 0 l.piece-index;
  kind : AllWithin (λ x. x.1.kind ≢ Level1) l.pieces 0 l.piece-index;
}
