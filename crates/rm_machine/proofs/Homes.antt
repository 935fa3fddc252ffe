-- Each datafile that stands in place comes home.
use Rattle.std.proofs.Common.{◌≡◌, ◌+◌, ◌-◌, ◌∙◌, ◌++◌, ℕ, suc, List, [], ◌∷◌, Option, Some, None, refl, ap, sym, arith, length, length-append, length-set, append_assoc, replicate, slice_set, All}
use Rattle.std.proofs.{lemmas.{List.Elements.{All-rest}, Option.{slice_get_within}}, Math.Seq.{set-append_seam}}
use Rattle.rm_blocks.specs.File.{File}
use Rattle.rm_machine.{specs.Running.{HasNumber, at_home}, proofs.{Following.{AreFrom, present}, Opening.{present-all}}}

-- their numbers are those of their places
pub present-numbers : (place : List (Option File)) → AreFrom 0 place → All (HasNumber (length place)) (present place)
present-numbers place are =
    present-all (HasNumber (length place)) place (λ k x is. (omega (arith, are k x is), omega (arith, are k x is, slice_get_within place k (Some x) is)))

-- as many places, of which each is empty
abbrev emptied : List (Option File) → List (Option File)
emptied [] = []
emptied (o ∷ place) = None ∷ emptied place

emptied-is : (place : List (Option File)) → replicate (length place) None ≡ emptied place
emptied-is [] = refl
emptied-is (o ∷ place) =
    let long : length (o ∷ place) ≡ suc (length place) = omega arith in
    ap (λ n. replicate n None) long ∙ ap (λ xs. None ∷ xs) (emptied-is place)

from-tail : (done : List (Option File)) (o : Option File) (place : List (Option File)) → AreFrom (length done) (o ∷ place) → AreFrom (length (done ++ o ∷ [])) place
from-tail done o place are k x is =
    let long : length (done ++ o ∷ []) ≡ length done + 1 = length-append done (o ∷ []) in
    omega (arith, are (suc k) x is, long)

-- the first places are done
home-from : (done place : List (Option File)) → AreFrom (length done) place → at_home (done ++ emptied place) (present place) ≡ done ++ place
home-from done [] are = refl
home-from done (None ∷ place) are =
    ap (λ xs. at_home xs (present place)) (sym (append_assoc done (None ∷ []) (emptied place)))
    ∙ home-from (done ++ None ∷ []) place (from-tail done None place are)
    ∙ append_assoc done (None ∷ []) place
home-from done (Some x ∷ place) are =
    let at : x.file - 1 ≡ length done = omega (arith, are 0 x refl) in
    ap (λ k. at_home (slice_set (done ++ None ∷ emptied place) k (Some x)) (present place)) at
    ∙ ap (λ xs. at_home xs (present place)) (set-append_seam done None (emptied place) (Some x) ∙ sym (append_assoc done (Some x ∷ []) (emptied place)))
    ∙ home-from (done ++ Some x ∷ []) place (from-tail done (Some x) place are)
    ∙ append_assoc done (Some x ∷ []) place

pub home : (place : List (Option File)) → AreFrom 0 place → at_home (replicate (length place) None) (present place) ≡ place
home place are = ap (λ xs. at_home xs (present place)) (emptied-is place) ∙ home-from [] place are

-- those that are left come home to these places, as the first ones to empty ones
pub record IsHoming (n : ℕ) (first : List File) (place : List (Option File)) (left : List File) : Type 0 where
  pub home : at_home place left ≡ at_home (replicate n None) first
  pub many : length place ≡ n
  pub numbers : All (HasNumber n) left

-- and one more is at home
pub homing-next : (n : ℕ) (first : List File) (place : List (Option File)) (x : File) (number : ℕ) (files rest : List File) → files ≡ x ∷ rest → number ≡ x.file → IsHoming n first place files → IsHoming n first (slice_set place (number - 1) (Some x)) rest
homing-next n first place x number files rest steps is before = record {
  home = ap (λ k. at_home (slice_set place (k - 1) (Some x)) rest) is ∙ sym (ap (at_home place) steps) ∙ before.home;
  many = length-set place (number - 1) (Some x) ∙ before.many;
  numbers = All-rest (HasNumber n) x rest files steps before.numbers;
}
