-- One member for each part, one after another.
use Rattle.std.proofs.Common.{◌≡◌, ◌-◌, ◌≤◌, cond, ℕ, List, [], ◌∷◌, arith, ap, All, Contains, None, subst, slice_get, inl, inr}
use Rattle.std.proofs.lemmas.Bool.{ne_eqb}
use Rattle.rm_base.proofs.Members.{in-front, behind, none-in, first-or-rest}
use Rattle.rm_catalog.specs.declared.record.SetPart.{SetPart}
use Rattle.rm_history.specs.{World.{file_of}, declared.world.World.{World}}
use Rattle.rm_piece.specs.{Sets.{IsSet}, declared.set.{Set.{Set}, SetFile.{SetFile}}}
use Rattle.rm_evidence.specs.Objects.{AreParts, HasPartFields}

-- each member has a part of the record
pub part-of : (ps : List SetPart) (ms : List SetFile) (m : SetFile) → AreParts ps ms → Contains ms m → (p : SetPart) × Contains ps p × HasPartFields p m
part-of [] [] m are has = absurd (none-in m has)
part-of [] (n ∷ ms) m are has = absurd are
part-of (p ∷ ps) [] m are has = absurd are
part-of (p ∷ ps) (n ∷ ms) m are has = elim (first-or-rest n ms m has) [
  | inl same ↦ (p, in-front p ps, subst (HasPartFields p) same are.0)
  | inr later ↦ let found = part-of ps ms m are.1 later in (found.0, behind p ps found.0 found.1, found.2)
]

-- the datafile of a number from 1 on, by its place among all
pub file-at : (w : World) (f : ℕ) → 1 ≤ f → file_of w f ≡ slice_get w.files (f - 1)
file-at w f above = ap (λ b. cond b None (slice_get w.files (f - 1))) (ne_eqb f 0 (λ none. absurd (omega (arith, none, above))))

-- the members of a set are of datafiles with such a number
pub numbered : (s : Set) → IsSet s → All (λ m. 1 ≤ m.piece.file) s.members
numbered s is k d inside = (is.members k d inside).piece.file.0
