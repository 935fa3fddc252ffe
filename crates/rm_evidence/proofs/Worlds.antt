-- The database of a catalog is a world.
use Rattle.std.proofs.Common.{List}
use Rattle.rm_catalog.specs.{Rules.{HasDatabase, IsCatalog}, declared.record.Record.{Record}}
use Rattle.rm_history.specs.Unknown.{IsWorld}
use Rattle.rm_evidence.{specs.Database.{world_of}, proofs.DatabaseWorlds.{is-sound}}

pub is_world : (rs : List Record) → IsCatalog rs → HasDatabase rs → IsWorld (world_of rs)
is_world rs catalog database =
    let sound = is-sound rs catalog database in
    record { tree = sound.tree; files = λ f d is. (sound.files f d is).reset }
