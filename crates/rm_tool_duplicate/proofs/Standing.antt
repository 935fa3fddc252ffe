-- The copies of a duplicate stand under their names after they were put.
use Rattle.std.specs.List.{enumerate_from}
use Rattle.std.proofs.Common.{◌≡◌, ◌≢◌, ◌<◌, ◌≤◌, ◌+◌, ◌^◌, ◌∙◌, ℕ, true, List, [], ◌∷◌, Some, All, length, map, ap, sym, subst, arith}
use Rattle.std.proofs.lemmas.List.{Elements.{All-cons, All-contains, All-nil}, Kept.{AllPairs-cons}}
use Rattle.rm_base.{specs.Store.{Held}, proofs.Lists.{map_to}}
use Rattle.rm_blocks.specs.File.{File}
use Rattle.rm_commit.specs.{Carrying.{AreMoved}, Names.{bytes_of, name_of}, declared.commit.Object.{Object}}
use Rattle.rm_commit.proofs.Standing.{AreApart, each-stands}
use Rattle.rm_dup.specs.{Copies.{copies_of, copy_as}, Entries.{HoldsCopies}, declared.database.Duplicate.{Duplicate}}
use Rattle.rm_evidence.proofs.Names.{piece-name-tells}
use Rattle.rm_piece.specs.Spelling.{spelling}
use Rattle.rm_tool_duplicate.specs.{Duplicated.{commit_of, object_of}, Refused.{copy_name}}

module _ (dbid s : ℕ) where
  -- the objects of the copies of these datafiles, numbered from k on
  abbrev objects : ℕ → List File → List Object
  objects k files = map object_of (map (copy_as dbid s) (enumerate_from k files))

  -- none of them has the name of a copy of a lower number
  behind : (j k : ℕ) (files : List File) → j < k → k + length files < 2 ^ 64 → All (λ x. copy_name j ≢ name_of x) (objects k files)
  behind j k [] less few = All-nil (λ x. copy_name j ≢ name_of x)
  behind j k (f ∷ fs) less few =
      All-cons (λ x. copy_name j ≢ name_of x) (object_of (copy_as dbid s (k, f))) (objects (k + 1) fs)
      (λ same. let one = (piece-name-tells true true j k (omega (arith, less, few)) (omega (arith, few)) same).1 in omega (arith, one, less))
      (behind j (k + 1) fs (omega (arith, less)) (omega (arith, few)))

  apart : (k : ℕ) (files : List File) → k + length files < 2 ^ 64 → AreApart name_of (objects k files)
  apart k [] few = λ i j d less inside. absurd (omega (arith, inside))
  apart k (f ∷ fs) few = AllPairs-cons (λ x y. name_of x ≢ name_of y) (object_of (copy_as dbid s (k, f))) (objects (k + 1) fs)
      (behind k (k + 1) fs (omega arith) (omega (arith, few))) (apart (k + 1) fs (omega (arith, few)))

  -- each copy stands under its name
  pub holds-copies : (d : Duplicate) (files : List File) (before after : Held) → d.pieces ≡ copies_of dbid s files → length files ≤ 64 → AreMoved (commit_of d) before after → HoldsCopies after d.pieces
  holds-copies d files before after pieces few moved a has =
      let is : map object_of d.pieces ≡ objects 1 files = ap (λ copies. map object_of copies) pieces in
      let each = each-stands name_of bytes_of (map object_of d.pieces) before moved.put moved.puts (subst (AreApart name_of) (sym is) (apart 1 files (omega (arith, few)))) in
      let put : moved.put (copy_name a.file) ≡ Some (spelling a) = All-contains (λ (x : Object). moved.put (name_of x) ≡ bytes_of x) (map object_of d.pieces) (object_of a) each (map_to object_of d.pieces a has) in
      moved.removes (copy_name a.file) ∙ put
