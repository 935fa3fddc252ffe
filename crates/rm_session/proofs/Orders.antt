-- A piece of an image stands in order.
use Rattle.std.proofs.{Common.{◌≡◌, ◌≢◌, ◌∙◌, sym, ap}, lemmas.Option.{get_or_from_slice_get, slice_get_within}}
use Rattle.rm_base.specs.declared.kinds.Kind.{Kind, TheVariants.{Level1, Place}}
use Rattle.rm_blocks.specs.File.{IsInOrder}
use Rattle.rm_piece.{specs.{Valid.{IsPiece}, declared.piece.Piece.{Piece}}, proofs.Whole.{placed}}

pub not-level1 : (k : Kind) → k ≡ Place → k ≢ Level1
not-level1 k is other = let both : Place ≡ Level1 = sym is ∙ other in absurd (cc)

pub in-order : (a : Piece) → IsPiece a → a.kind ≡ Place → IsInOrder a.rows
in-order a valid kind k r is =
    let at = placed a valid (not-level1 a.kind kind) k r (slice_get_within a.rows k r is) in
    sym (ap (λ x. x.block) (get_or_from_slice_get a.rows k r r is)) ∙ at
