-- What a recovery of a duplicate brings back is exactly what the source's history made.
use Rattle.std.specs.{Prelude.{◌&&◌, nat_lt}, List.{enumerate_from}, Option.{option_map}}
use Rattle.std.proofs.Common.{◌≡◌, ◌==◌, ◌<◌, ◌+◌, ◌-◌, ◌∙◌, ℕ, true, List, [], ◌∷◌, Some, map, slice_get, Contains, sym, ap, subst, arith}
use Rattle.std.proofs.lemmas.{Bool.Decides.{nat_tests}, Option.{same_Some, slice_get-map}}
use Rattle.rm_base.{specs.declared.block.Change.{Change}, proofs.Lists.{map_from, map_to, pairs-mapped, unmapped-pairs}}
use Rattle.rm_base.proofs.{Numbered.{numbered-at, numbered-of, numbers-ascend}, OneOrder.{one-order}}
use Rattle.rm_blocks.specs.File.{File}
use Rattle.rm_evidence.proofs.Parts.{file-at}
use Rattle.rm_history.specs.{Evidence.{Agrees, Evidence}, History.{IsHistory}, Tree.{owner}, World.{creation_of, file_of}}
use Rattle.rm_history.{specs.declared.world.World.{World}, proofs.Owners.{owner-first}}
use Rattle.rm_plan.specs.Plan.{IsFileTarget}
use Rattle.rm_apply.specs.Told.{AreFilesAt}
use Rattle.rm_dup.specs.Copies.{as_first, duplicated, first_until, made_as, made_of}
use Rattle.rm_dup.proofs.Back.{AreCopies, all-solid, mapped, true-to-source}

exists-at : (creation s owned inc : ℕ) → creation < s → owned ≡ inc → (nat_lt creation s && (owned == inc)) ≡ true
exists-at creation s owned inc below is = grind (arith, nat_tests)

-- item k of the datafiles is datafile 1 + k of the duplicate
pub datafile-there : (w : World) (s : ℕ) (files : List File) (k : ℕ) (x : File) → slice_get files k ≡ Some x → file_of (duplicated w s files) (1 + k) ≡ Some (as_first w x.file)
datafile-there w s files k x is =
    let back : 1 + k - 1 ≡ k = omega arith in
    file-at (duplicated w s files) (1 + k) (omega arith) ∙ ap (λ n. slice_get (duplicated w s files).files n) back
    ∙ slice_get-map (λ (y : File). as_first w y.file) files k ∙ ap (λ o. option_map (λ (y : File). as_first w y.file) o) is

-- and exists there
pub exists-there : (w : World) (s : ℕ) (files : List File) (k : ℕ) (x : File) → slice_get files k ≡ Some x → creation_of w x.file < s → IsFileTarget (duplicated w s files) 1 s (1 + k)
exists-there w s files k x is below = record {
  there = (omega arith, omega arith);
  datafile = as_first w x.file;
  is = datafile-there w s files k x is;
  exists = exists-at (creation_of w x.file) s (owner (first_until w s ∷ []) 1 (creation_of w x.file)) 1 below (owner-first (first_until w s ∷ []) (creation_of w x.file));
}

-- a lesser number
abbrev Before : File → File → Type 0
Before x y = x.file < y.file

module _ (w : World) (e copies : Evidence) (i s : ℕ) (files : List File) (at : AreFilesAt w e i s files) (are : AreCopies s files copies) (h : List Change) (back : List File)
    (history : IsHistory w h) (agrees : Agrees w h e) (there : AreFilesAt (duplicated w s files) copies 1 s back) where
  abbrev numbers : List ℕ
  numbers = map (λ (x : File). x.file) files

  to-made : (y : File) → Contains back y → Contains (made_of w h i s numbers) y
  to-made y has =
      let found = true-to-source w e copies i s files at are h back history agrees there y has in
      let some = found.2 in
      let number : 1 + (y.file - 1) ≡ y.file = omega (arith, some) in
      let named : slice_get numbers (y.file - 1) ≡ Some found.0.file = slice_get-map (λ (x : File). x.file) files (y.file - 1) ∙ ap (λ o. option_map (λ (x : File). x.file) o) found.1 in
      let made = map_to (made_as w h i s) (enumerate_from 1 numbers) (1 + (y.file - 1), found.0.file) (numbered-at 1 numbers (y.file - 1) found.0.file named) in
      subst (λ (z : File). Contains (made_of w h i s numbers) z) (ap (λ (n : ℕ). made_as w h i s (n, found.0.file)) number ∙ sym found.3) made

  from-made : (z : File) → Contains (made_of w h i s numbers) z → Contains back z
  from-made z has =
      let of = map_from (made_as w h i s) (enumerate_from 1 numbers) z has in
      let item = numbered-of 1 numbers of.item of.held in
      let k = item.place in
      let found = mapped (λ (x : File). x.file) (slice_get files k) of.item.1 (sym (slice_get-map (λ (x : File). x.file) files k) ∙ item.there) in
      let x = found.0 in
      let target = exists-there w s files k x found.1 (all-solid w e i s files at k x found.1).created in
      let y = map_from (λ (f : File). f.file) back (1 + k) ((there.numbers.exact (1 + k)).1 target) in
      let told = true-to-source w e copies i s files at are h back history agrees there y.item y.held in
      let place : y.item.file - 1 ≡ k = omega (arith, y.is) in
      let one : told.0 ≡ x = same_Some told.0 x (sym told.1 ∙ ap (λ n. slice_get files n) place ∙ found.1) in
      let named : told.0.file ≡ of.item.1 = ap (λ (f : File). f.file) one ∙ found.2 in
      let number : y.item.file ≡ of.item.0 = y.is ∙ item.number in
      let same : y.item ≡ z = told.3 ∙ (λ j. made_as w h i s (number j, named j)) ∙ of.is in
      subst (λ (f : File). Contains back f) same y.held

  pub back-is : back ≡ made_of w h i s numbers
  back-is =
      one-order Before (λ x y less more. omega (arith, less, more)) back (made_of w h i s numbers) (unmapped-pairs (λ (m n : ℕ). m < n) (λ (x : File). x.file) back there.numbers.ascends)
      (pairs-mapped (made_as w h i s) (λ (p q : ℕ × ℕ). p.0 < q.0) Before (λ p q less. less) (enumerate_from 1 numbers) (numbers-ascend 1 numbers)) (λ x. (to-made x, from-made x))
