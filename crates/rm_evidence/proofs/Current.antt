-- What the records of a catalog say of the current incarnation and of datafiles.
use Rattle.std.specs.Option.{option_map, option_map_or}
use Rattle.std.proofs.Common.{◌≡◌, ◌∙◌, ◌<◌, ◌≤◌, ℕ, List, Option, Some, None, refl, ap, sym, subst}
use Rattle.rm_catalog.specs.{Keys.{base, datafile}, Rules.{IsCatalog, HasDatabase}, declared.record.BaseEntry.{BaseEntry}}
use Rattle.rm_catalog.specs.declared.record.{DatafileEntry.{DatafileEntry}, Record.{Record}}
use Rattle.rm_catalog.proofs.{Datafiles.{datafile-rule, datafile-there}, Current.{has_base, current_there, current_ends}}
use Rattle.rm_catalog.specs.declared.record.Record.TheVariants as records
use Rattle.rm_history.specs.{World.{file_of}, declared.world.Datafile.{Datafile}}
use Rattle.rm_history.specs.Tree as tree
use Rattle.rm_evidence.{specs.Database.{created_by, current_in, world_of, IsCurrent}, proofs.Files.{file_of-is}}
use Rattle.rm_evidence.proofs.DatabaseWorlds.{is-sound}

-- the current incarnation of a catalog is there, and ends in time
pub current_is : (rs : List Record) → IsCatalog rs → HasDatabase rs → IsCurrent rs (current_in rs)
current_is rs catalog database = by (base rs) refl
  where
    by : (o : Option BaseEntry) → base rs ≡ o → IsCurrent rs (current_in rs)
    by None e = absurd (has_base rs database e)
    by (Some b) e =
        subst (IsCurrent rs) (sym (ap (λ (o : Option BaseEntry). option_map_or (λ x. x.current) o 0) e))
        (record { there = current_there rs b catalog e; end = current_ends rs b catalog e })

-- the number of a datafile that is there is 1 to 64
pub file_number : (rs : List Record) (f : ℕ) (d : Datafile) → IsCatalog rs → file_of (world_of rs) f ≡ Some d → (1 ≤ f) × (f ≤ 64)
file_number rs f d catalog is = by (datafile f rs) refl (sym (file_of-is rs f catalog) ∙ is)
  where
    by : (o : Option DatafileEntry) → datafile f rs ≡ o → option_map created_by o ≡ Some d → (1 ≤ f) × (f ≤ 64)
    by None e some = let both : None ≡ Some d = some in absurd (cc)
    by (Some entry) e some =
        let there = datafile-there rs f entry catalog e in
        subst (λ n. (1 ≤ n) × (n ≤ 64)) there.1 (datafile-rule rs entry catalog there.0).number

-- and it was created at 1 or later
pub created_above : (rs : List Record) (f : ℕ) (d : Datafile) → IsCatalog rs → HasDatabase rs → file_of (world_of rs) f ≡ Some d → 0 < d.creation
created_above rs f d catalog database is = ((is-sound rs catalog database).files f d is).creation
