-- The database of a catalog is sound.
use Rattle.std.specs.{Prelude.{IsSomeAnd}, Option.{option_map}}
use Rattle.std.proofs.{Common.{◌≡◌, ℕ, List, [], Option, Some, None, refl, sym, subst, ◌∙◌, arith}, lemmas.Option.{same_Some}}
use Rattle.rm_catalog.specs.{Facts.{IsCreatedOn}, Keys.{datafile, incarnation}, Rules.{HasDatabase, IsCatalog}, Trees.{nodes}}
use Rattle.rm_catalog.specs.declared.record.{DatafileEntry.{DatafileEntry}, IncarnationEntry.{IncarnationEntry}, Record.{Record}}
use Rattle.rm_catalog.proofs.{Numbering.{incarnation-rule}, Switching.{switch-late}, Datafiles.{datafile-there, datafile-rule}}
use Rattle.rm_catalog.proofs.{SwitchRules.{one-switch}, Incarnations.{found-there, reset-is, is-tree}}
use Rattle.rm_history.specs.{World.{file_of}, declared.world.Datafile.{Datafile}}
use Rattle.rm_history.specs.declared.tree.Incarnation as tree
use Rattle.rm_evidence.{specs.Database.{created_by, world_of, IsCreated, IsSoundWorld}, proofs.Files.{file_of-is}}

-- a datafile was created on an incarnation that is there
created : (rs : List Record) (f : DatafileEntry) (n : ℕ) → IsCatalog rs → datafile n rs ≡ Some f → IsCreated (nodes rs) (created_by f)
created rs f n c h = decide (incarnation f.inc rs) refl (datafile-rule rs f c (datafile-there rs n f c h).0).creation
  where
    decide : (o : Option IncarnationEntry) → incarnation f.inc rs ≡ o → IsSomeAnd o (IsCreatedOn f) → IsCreated (nodes rs) (created_by f)
    decide None e on = absurd on
    decide (Some i) e on =
        let blocks = (datafile-rule rs f c (datafile-there rs n f c h).0).blocks in
        let reset = reset-is rs f.inc i c e in
        let low = (incarnation-rule rs f.inc i c e).range.0 in
        let begun = on.reset in
        record {
          inc = found-there rs f.inc i c e;
          reset = omega arith;
          creation = omega arith;
          blocks = (omega arith, omega arith);
        }

file-created : (rs : List Record) (n : ℕ) (d : Datafile) → IsCatalog rs → file_of (world_of rs) n ≡ Some d → IsCreated (nodes rs) d
file-created rs n d c h = decide (datafile n rs) refl (sym (file_of-is rs n c) ∙ h)
  where
    decide : (o : Option DatafileEntry) → datafile n rs ≡ o → option_map created_by o ≡ Some d → IsCreated (nodes rs) d
    decide None e some = absurd cc
    decide (Some f) e some = subst (λ (x : Datafile). IsCreated (nodes rs) x) (same_Some (created_by f) d some) (created rs f n c e)

pub is-sound : (rs : List Record) → IsCatalog rs → HasDatabase rs → IsSoundWorld (world_of rs)
is-sound rs c database = record {
  tree = is-tree rs c database;
  files = λ f d h. file-created rs f d c h;
  late = λ x has. switch-late rs c x has;
  switches = λ x y one two inc scn. one-switch rs x y c one two inc scn;
}
