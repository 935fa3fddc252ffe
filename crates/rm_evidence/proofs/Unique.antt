-- What is at hand is one: the store and the records leave no choice.
use Rattle.std.proofs.Common.{◌≡◌, ◌∙◌, ◌++◌, inl, inr, ℕ, List, ap, sym, arith}
use Rattle.rm_base.{specs.{Store.{Held}, declared.kinds.Bad.{Bad}}, proofs.OneOrder.{IsOneWay, one-order}}
use Rattle.rm_catalog.specs.declared.record.Record.{Record}
use Rattle.rm_evidence.specs.{Gathered.{ById, ByIdAndFile, IsGathered, ListsBy}, declared.evidence.{Evidence.{Evidence}, InPlace.{InPlace}}}
use Rattle.rm_piece.specs.declared.piece.Piece.{Piece}
use Rattle.rm_redo.specs.declared.log_file.LogFile.{LogFile}

by_id : {A : Type 0} → IsOneWay {X = ℕ × A} ById
by_id x y less more = omega (arith, less, more)

by_id_and_file : IsOneWay ByIdAndFile
by_id_and_file x y (inl less) (inl more) = omega (arith, less, more)
by_id_and_file x y (inl less) (inr same) = let id = same.0 in omega (arith, less, id)
by_id_and_file x y (inr same) (inl more) = let id = same.0 in omega (arith, more, id)
by_id_and_file x y (inr same) (inr also) = let less = same.1 in let more = also.1 in omega (arith, less, more)

module _ {A : Type 0} (R : ℕ × A → ℕ × A → Type 0) (one-way : IsOneWay R) where
  lists_one : (first : List (ℕ × A)) (Is : ℕ → A → Type 0) (xs ys : List (ℕ × A)) → ListsBy A R first Is xs → ListsBy A R first Is ys → xs ≡ ys
  lists_one first Is xs ys one two =
      one.list ∙ ap (λ rest. first ++ rest) (one-order R one-way one.rest two.rest one.ascends two.ascends
      (λ p. ((λ has. (two.exact p.0 p.1).1 ((one.exact p.0 p.1).0 has)), (λ has. (one.exact p.0 p.1).1 ((two.exact p.0 p.1).0 has)))))
      ∙ sym two.list

pub evidence_one : (held : Held) (rs : List Record) (place : InPlace) (e d : Evidence) → IsGathered held rs place e → IsGathered held rs place d → e ≡ d
evidence_one held rs place e d one two =
    ap (λ (xs : List (ℕ × Piece)). record e { bases = xs }) (lists_one ByIdAndFile by_id_and_file _ _ e.bases d.bases one.bases two.bases)
    ∙ ap (λ (xs : List (ℕ × Piece)). record e { bases = d.bases; level1s = xs }) (lists_one ByIdAndFile by_id_and_file _ _ e.level1s d.level1s one.level1s two.level1s)
    ∙ ap (λ (xs : List (ℕ × LogFile)). record e { bases = d.bases; level1s = d.level1s; logs = xs }) (lists_one ById by_id _ _ e.logs d.logs one.logs two.logs)
    ∙ ap (λ (xs : List (ℕ × Bad)). record e { bases = d.bases; level1s = d.level1s; logs = d.logs; skipped = xs }) (lists_one ById by_id _ _ e.skipped d.skipped one.skipped two.skipped)
