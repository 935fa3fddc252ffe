use Rattle.std.proofs.Common.{ℕ, List, refl}
use Rattle.rm_base.specs.declared.{block.Change.{Change}, kinds.Policy.TheVariants.{Window}}
use Rattle.rm_catalog.specs.{Rules.{HasDatabase, IsCatalog}, declared.record.Record.{Record}}
use Rattle.rm_evidence.{specs.{Known.{known_of}, Database.{world_of}, declared.evidence.Evidence.{Evidence}}, proofs.Current.{current_is}}
use Rattle.rm_evidence.proofs.Worlds.{is_world}
use Rattle.rm_history.specs.{History.{IsHistory}, Evidence.{Agrees}}
use Rattle.rm_retain.{specs.{Catalogued.{by_records}, Losing.{FitsHistory}}, proofs.Clearing.{gathered_left}}
use Rattle.rm_retain.proofs.{Safe.{safe_told, safe_recoverable}, WholeCopies.{copies_whole}}
use Rattle.rm_retain.proofs.laws.safe_deletion.Goals as goal

fits_history : (h : List Change) (rs : List Record) (old : Evidence) (days start : ℕ) → IsCatalog rs → HasDatabase rs → IsHistory (world_of rs) h → Agrees (world_of rs) h (known_of old) → FitsHistory h (by_records rs old (Window days) start) (known_of old)
fits_history h rs old days start catalog database history agrees =
    let current = current_is rs catalog database in
    record { world = is_world rs catalog database; there = current.there; end = current.end; history = history; agrees = agrees }

pub returns-clause-told : goal.returns-clause-told
returns-clause-told c h held now rs left place old new days start i s f b v x catalog database before after same history agrees cleared target block told =
    let r = by_records rs old (Window days) start in
    safe_told h r (known_of old) (known_of new) days i s refl (fits_history h rs old days start catalog database history agrees) (gathered_left held now rs left r cleared same place old new refl (copies_whole held rs place old catalog before) before after) target f b v x block told

pub returns-clause-recoverable : goal.returns-clause-recoverable
returns-clause-recoverable c h held now rs left place old new days start i s catalog database before after same history agrees cleared target recoverable =
    let r = by_records rs old (Window days) start in
    safe_recoverable h r (known_of old) (known_of new) days i s refl (fits_history h rs old days start catalog database history agrees) (gathered_left held now rs left r cleared same place old new refl (copies_whole held rs place old catalog before) before after) target recoverable
