-- What is told of datafiles is told of the database of the records.
use Rattle.std.proofs.Common.{ℕ, List, Option, subst}
use Rattle.rm_base.specs.Store.{Held}
use Rattle.rm_apply.specs.{Recover.{TellsAll}, Told.{AreFilesAt}, declared.recovering.Recovered.{Recovered}}
use Rattle.rm_evidence.specs.Known.{FitsTree, known_of}
use Rattle.rm_history.specs.declared.{tree.Incarnation.{Incarnation}, world.World.{World}}
use Rattle.rm_catalog_typed.{specs.TypedCatalog.{records_of}, proofs.Records.{tree-told, world-told}}
use Rattle.rm_machine.specs.{Recovery.{in_place}, State.{tree, world}, declared.state.State.{State}}

-- what is told, of the database that the records tell
pub tells-files : (s : State) (held : Option Held) (i at : ℕ) (back : Recovered) (tells : TellsAll held (records_of s.catalog) (in_place s) i at back) → AreFilesAt (world s) (known_of tells.evidence) i at back.files
tells-files s held i at back tells = subst (λ (w : World). AreFilesAt w (known_of tells.evidence) i at back.files) (world-told s.catalog) tells.files

pub tells-fits : (s : State) (held : Option Held) (i at : ℕ) (back : Recovered) (tells : TellsAll held (records_of s.catalog) (in_place s) i at back) → FitsTree (tree s) tells.evidence
tells-fits s held i at back tells = subst (λ (ns : List Incarnation). FitsTree ns tells.evidence) (tree-told s.catalog) tells.is.fits
