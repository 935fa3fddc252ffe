-- The datafiles of a catalog have the numbers 1, 2, 3 and so on.
use Rattle.std.specs.{List.{cons_option}, Option.{option_map}}
use Rattle.std.proofs.Common.{◌≡◌, ℕ, zero, suc, ◌-◌, Bool, cond, List, [], ◌∷◌, map, Option, Some, None, refl, ap, ◌∙◌, arith, slice_get}
use Rattle.std.proofs.lemmas.Option.{slice_get-map}
use Rattle.rm_catalog.specs.{Keys.{datafile, datafile_in}, Rules.{IsCatalog}, declared.record.DatafileEntry.{DatafileEntry}}
use Rattle.rm_catalog.{specs.declared.record.Record.{Record}, proofs.{Found.{differ}, Datafiles.{datafile-rule, datafile-there}}}
use Rattle.rm_catalog.proofs.DatafileNumbers.{entries, entry-is}
use Rattle.rm_catalog.specs.declared.record.Record.TheVariants as records
use Rattle.rm_history.specs.{World.{file_of}, declared.world.Datafile.{Datafile}}
use Rattle.rm_evidence.specs.Database.{created_by, datafiles, world_of}

pub datafiles-are : (rs : List Record) → datafiles rs ≡ map created_by (entries rs)
datafiles-are [] = refl
datafiles-are (r ∷ rs) = step (datafile_in r) (datafiles-are rs)
  where
    step : (o : Option DatafileEntry) → datafiles rs ≡ map created_by (entries rs) → cons_option (option_map created_by o) (datafiles rs) ≡ map created_by (cons_option o (entries rs))
    step None h = h
    step (Some f) h = ap (λ (x : List Datafile). created_by f ∷ x) h

-- the datafile of a number is that of the record of this number
pub file_of-is : (rs : List Record) (n : ℕ) → IsCatalog rs → file_of (world_of rs) n ≡ option_map created_by (datafile n rs)
file_of-is rs zero c = decide (datafile 0 rs) refl
  where
    decide : (o : Option DatafileEntry) → datafile 0 rs ≡ o → None ≡ option_map created_by o
    decide None e = refl
    decide (Some f) e =
        let there = datafile-there rs 0 f c e in
        let is = there.1 in
        let number = (datafile-rule rs f c there.0).number in
        absurd (omega arith)
file_of-is rs (suc k) c =
    let under : suc k - 1 ≡ k = omega arith in
    ap (λ (b : Bool). cond b None (slice_get (datafiles rs) (suc k - 1))) (differ (suc k) 0 (λ e. omega arith))
    ∙ ap (λ (j : ℕ). slice_get (datafiles rs) j) under
    ∙ ap (λ (x : List Datafile). slice_get x k) (datafiles-are rs)
    ∙ slice_get-map created_by (entries rs) k
    ∙ ap (λ (o : Option DatafileEntry). option_map created_by o) (entry-is rs k (suc k) c (omega arith))
