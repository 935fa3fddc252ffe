-- The bytes of each kind of record, field by field, and what they tell.
use Rattle.std.proofs.Common.{◌≡◌, ℕ, List, ◌∷◌, ◌++◌, append_assoc}
use Rattle.rm_base.specs.Number.{four, eight}
use Rattle.rm_catalog.specs.declared.record.{BaseEntry.{BaseEntry}, IncarnationEntry.{IncarnationEntry}, DatafileEntry.{DatafileEntry}}
use Rattle.rm_catalog.specs.declared.record.{LogEntry.{LogEntry}, PieceEntry.{PieceEntry}, MarkEntry.{MarkEntry}, PartEntry.{PartEntry}}
use Rattle.rm_catalog.specs.declared.record.{HeadEntry.{HeadEntry}, SetEntry.{SetEntry}, SetPart.{SetPart}, SwitchEntry.{SwitchEntry}}
use Rattle.rm_catalog_bytes.specs.Spelling.{flag, status_code, kind_code, policy_code, policy_number, base_bytes, incarnation_bytes, datafile_bytes, log_bytes, ending_front, piece_head, mark_bytes, part_bytes, head_bytes, set_part_bytes, set_head, switch_bytes}
use Rattle.rm_catalog_bytes.specs.declared.ending.Ending.{Ending}

-- ---- each field, and what follows it

pub base_fields : (r : BaseEntry) (x : List ℕ) → base_bytes r ++ x ≡ four r.dbid ++ (r.threads ∷ (four r.current ++ (four r.next_id ++ (eight r.moment ++ (policy_code r.policy ∷ (four (policy_number r.policy) ++ (four r.parallelism ++ (flag r.tracking ∷ x))))))))
unfolding base_bytes
base_fields r x = simp append_assoc

pub incarnation_fields : (r : IncarnationEntry) (x : List ℕ) → incarnation_bytes r ++ x ≡ four r.parent ++ (eight r.reset ++ (eight r.end ++ x))
unfolding incarnation_bytes
incarnation_fields r x = simp append_assoc

pub datafile_fields : (r : DatafileEntry) (x : List ℕ) → datafile_bytes r ++ x ≡ four r.inc ++ (eight r.creation ++ (four r.blocks ++ x))
unfolding datafile_bytes
datafile_fields r x = simp append_assoc

pub log_fields : (r : LogEntry) (x : List ℕ) → log_bytes r ++ x ≡ flag r.archived ∷ (four r.inc ++ (r.thread ∷ (four r.sequence ++ (eight r.first ++ (eight r.next ++ (eight r.size ++ (r.sha ++ (status_code r.status ∷ flag r.keep ∷ x))))))))
unfolding log_bytes
log_fields r x = simp append_assoc

pub ending_fields : (e : Ending) (n : ℕ) (x : List ℕ) → ending_front e n ++ x ≡ eight e.size ++ (e.sha ++ (status_code e.status ∷ flag e.keep ∷ (eight n ++ x)))
unfolding ending_front
ending_fields e n x = simp append_assoc

pub piece_fields : (r : PieceEntry) (x : List ℕ) → piece_head r ++ x ≡ flag r.copy ∷ kind_code r.kind ∷ (four r.inc ++ (four r.file ++ (eight r.from ++ (eight r.checkpoint ++ (eight r.high ++ (four r.rows ++ x))))))
unfolding piece_head
piece_fields r x = simp append_assoc

pub mark_fields : (r : MarkEntry) (x : List ℕ) → mark_bytes r ++ x ≡ eight r.moment ++ (four r.inc ++ (eight r.scn ++ x))
unfolding mark_bytes
mark_fields r x = simp append_assoc

pub part_fields : (r : PartEntry) (x : List ℕ) → part_bytes r ++ x ≡ four r.file ++ (r.thread ∷ (eight r.size ++ (r.sha ++ x)))
unfolding part_bytes
part_fields r x = simp append_assoc

pub head_fields : (r : HeadEntry) (x : List ℕ) → head_bytes r ++ x ≡ flag r.opened ∷ (four r.inc ++ (eight r.scn ++ x))
unfolding head_bytes
head_fields r x = simp append_assoc

pub set_part_fields : (p : SetPart) (x : List ℕ) → set_part_bytes p ++ x ≡ four p.file ++ (kind_code p.kind ∷ (eight p.from ++ (eight p.high ++ (four p.rows ++ x))))
unfolding set_part_bytes
set_part_fields p x = simp append_assoc

pub set_fields : (r : SetEntry) (n : ℕ) (x : List ℕ) → set_head r n ++ x ≡ four r.inc ++ (eight r.checkpoint ++ (eight n ++ x))
unfolding set_head
set_fields r n x = simp append_assoc

pub switch_fields : (r : SwitchEntry) (x : List ℕ) → switch_bytes r ++ x ≡ r.thread ∷ (four r.inc ++ (eight r.scn ++ (flag r.on ∷ (four r.sequence ++ x))))
unfolding switch_bytes
switch_fields r x = simp append_assoc
