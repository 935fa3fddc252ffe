-- One record more among those that start above a checkpoint.
use Rattle.std.proofs.{Common.{◌≡◌, ◌∙◌, ℕ, List, Some, None, [], ◌∷◌, ◌++◌, refl, ap, sym, subst}, lemmas.List.{map-append}}
use Rattle.rm_catalog.specs.{Keys.{piece_in}, declared.record.{PieceEntry.{PieceEntry}, Record.{Record}}}
use Rattle.rm_catalog.specs.declared.record.Record.TheVariants.{Base, Incarnation, Datafile, Log, Piece, Mark, Part, Head, Set, Switch}
use Rattle.rm_backup.specs.{Level1s.{AreKept, StartAbove, StartsAbove, of_none, takes, leaves}, Looking.{IsPassing}, Records.{pieces}}
use Rattle.rm_backup.proofs.Choices.{pieces_more, pieces_none}

module _ (f : ℕ) (tag : List ℕ) (k : ℕ) where
  pub above_none : StartAbove [] f tag k []
  above_none = record { kept = []; are = of_none; is = refl }

  pub above_more : (rs : List Record) (row : Record) (p : PieceEntry) (xs new : List (ℕ × ℕ)) → StartAbove rs f tag k xs → IsPassing (StartsAbove f tag k) row (Some p) → new ≡ xs ++ (p.id, p.from) ∷ [] → StartAbove (rs ++ row ∷ []) f tag k new
  above_more rs row p xs new was is grown = record {
    kept = was.kept ++ p ∷ [];
    are = subst (λ (ps : List PieceEntry). AreKept (StartsAbove f tag k) ps (was.kept ++ p ∷ [])) (sym (ap (λ y. pieces (rs ++ y ∷ [])) is.0 ∙ pieces_more rs p)) (takes (pieces rs) was.kept p was.are is.1);
    is = grown ∙ ap (λ (ys : List (ℕ × ℕ)). ys ++ (p.id, p.from) ∷ []) was.is ∙ sym (map-append (λ (q : PieceEntry). (q.id, q.from)) was.kept (p ∷ []));
  }

  same_above : (rs : List Record) (row : Record) (xs : List (ℕ × ℕ)) → StartAbove rs f tag k xs → piece_in row ≡ None → StartAbove (rs ++ row ∷ []) f tag k xs
  same_above rs row xs was none = record { kept = was.kept; are = subst (λ (ps : List PieceEntry). AreKept (StartsAbove f tag k) ps was.kept) (sym (pieces_none rs row none)) was.are; is = was.is }

  pub above_passed : (rs : List Record) (row : Record) (xs : List (ℕ × ℕ)) → StartAbove rs f tag k xs → IsPassing (StartsAbove f tag k) row None → StartAbove (rs ++ row ∷ []) f tag k xs
  above_passed rs (Base b) xs was none = same_above rs (Base b) xs was refl
  above_passed rs (Incarnation i) xs was none = same_above rs (Incarnation i) xs was refl
  above_passed rs (Datafile d) xs was none = same_above rs (Datafile d) xs was refl
  above_passed rs (Log l) xs was none = same_above rs (Log l) xs was refl
  above_passed rs (Piece p) xs was none = record { kept = was.kept; are = subst (λ (ps : List PieceEntry). AreKept (StartsAbove f tag k) ps was.kept) (sym (pieces_more rs p)) (leaves (pieces rs) was.kept p was.are (none p refl)); is = was.is }
  above_passed rs (Mark m) xs was none = same_above rs (Mark m) xs was refl
  above_passed rs (Part p) xs was none = same_above rs (Part p) xs was refl
  above_passed rs (Head h) xs was none = same_above rs (Head h) xs was refl
  above_passed rs (Set e) xs was none = same_above rs (Set e) xs was refl
  above_passed rs (Switch x) xs was none = same_above rs (Switch x) xs was refl
