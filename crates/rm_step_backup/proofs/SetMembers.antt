-- The members of a set are made, one after another.
use Rattle.std.proofs.{Common.{◌≡◌, ◌++◌, ℕ, List, [], ◌∷◌, All, subst, arith, map, refl}, lemmas.List.{get_or-map, length-map}}
use Rattle.std.proofs.lemmas.List.Elements.{All-head, All-tail}
use Rattle.rm_piece.specs.{Sets.{IsSet}, Valid.{IsPiece}, declared.set.SetFile.{SetFile}}
use Rattle.rm_catalog_typed.specs.Ledger.{Ledger}
use Rattle.rm_machine.specs.{MadeSets.{InSet, set_of, told_member}, declared.job.FileBackup.{FileBackup}}
use Rattle.rm_base.proofs.Filled.{filled-on}

-- its piece is valid
abbrev IsValidIn : InSet → Type 0
IsValidIn x = IsPiece x.member.piece

-- of all of these but the rest the members are made, and what is told of them is added
pub record AreMade (all rest : List InSet) (members : List SetFile) (old now : List FileBackup) : Type 0 where
  pub valid : All IsValidIn rest
  pub made : members ++ map (λ x. x.member) rest ≡ map (λ x. x.member) all
  pub told : now ++ map told_member rest ≡ old ++ map told_member all

module _ (all : List InSet) (x : InSet) (rest before : List InSet) (next : before ≡ x ∷ rest) (members : List SetFile) (old now : List FileBackup) (way : AreMade all before members old now) where
  way-here : AreMade all (x ∷ rest) members old now
  way-here = subst (λ (xs : List InSet). AreMade all xs members old now) next way

  pub valid-here : IsPiece x.member.piece
  valid-here = All-head IsValidIn x rest way-here.valid

  -- one more
  pub made-next : (m : SetFile) → m ≡ x.member → (reads : ℕ) → reads ≡ x.reads → (members' : List SetFile) (now' : List FileBackup) → members' ≡ members ++ m ∷ []
      → now' ≡ now ++ told_member (record { member = m; reads = reads }) ∷ [] → AreMade all rest members' old now'
  made-next m made reads many members' now' more told = record {
    valid = All-tail IsValidIn x rest way-here.valid;
    made = filled-on members members' _ _ (map (λ y. y.member) rest) x.member m refl made way-here.made more;
    told = filled-on now now' _ _ (map told_member rest) (told_member x) (told_member (record { member = m; reads = reads })) refl (λ i. told_member (record { member = made i; reads = many i })) way-here.told told;
  }

-- the members of a valid set are valid pieces
pub set-members : (l : Ledger) (checkpoint : ℕ) (xs : List InSet) → IsSet (set_of l checkpoint xs) → All IsValidIn xs
set-members l checkpoint xs is k d inside =
    let f : InSet → SetFile = λ x. x.member in
    subst (λ (m : SetFile). IsPiece m.piece) (get_or-map f xs k d d.member inside) (is.members k d.member (omega (arith, inside, length-map xs f))).piece
