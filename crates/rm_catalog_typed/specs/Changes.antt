-- A typed catalog after one change, and the edits that make its records follow.
use Rattle.std.specs.Prelude.{◌≡◌, ◌+◌, ℕ, List, [], ◌∷◌, ◌++◌, filter, length, map, nat_lt, Option, Some, None}
use Rattle.rm_base.specs.declared.block.Mark.{Mark}
use Rattle.rm_catalog.specs.{Edits.{after_edits}, declared.record.{BaseEntry.{BaseEntry}, Edit.{Edit, TheVariants.{Put, Drop}}}}
use Rattle.rm_catalog.specs.declared.record.{LogEntry.{LogEntry}, PartEntry.{PartEntry}, PieceEntry.{PieceEntry}, Record.{Record}}
use Rattle.rm_catalog.specs.declared.record.SetEntry.{SetEntry}
use Rattle.rm_history.specs.{Tree.{with_branch, with_end}, declared.world.Datafile.{Datafile}}
use Rattle.rm_catalog_typed.specs.{Ledger.{Ledger}, TypedCatalog.{TypedCatalog, Saved, records_of, saved_records}}
use Rattle.rm_catalog_typed.specs.declared.thread_switch.ThreadSwitch.{ThreadSwitch}

-- with another ledger
abbrev with_ledger : TypedCatalog → Ledger → TypedCatalog
with_ledger r l = record r { ledger = l }

-- with these base facts
abbrev pub with_base : TypedCatalog → BaseEntry → TypedCatalog
with_base r b = with_ledger r (record r.ledger { base = b })

-- at this latest moment
abbrev pub with_moment : TypedCatalog → ℕ → TypedCatalog
with_moment r moment = with_base r (record r.ledger.base { moment = moment })

-- where incarnation i has this end
abbrev pub with_end_at : TypedCatalog → ℕ → ℕ → TypedCatalog
with_end_at r i end = with_ledger r (record r.ledger { tree = with_end r.ledger.tree i end })

-- with one datafile, one mark, or one switch of a redo thread, more
abbrev pub with_file : TypedCatalog → Datafile → TypedCatalog
with_file r d = with_ledger r (record r.ledger { files = r.ledger.files ++ d ∷ [] })

abbrev pub with_mark : TypedCatalog → Mark → TypedCatalog
with_mark r m = with_ledger r (record r.ledger { marks = r.ledger.marks ++ m ∷ [] })

abbrev pub with_switch : TypedCatalog → ThreadSwitch → TypedCatalog
with_switch r x = with_ledger r (record r.ledger { switches = r.ledger.switches ++ x ∷ [] })

-- with one incarnation more, which branches off from this one at an SCN, and its first mark
abbrev pub with_incarnation : TypedCatalog → ℕ → ℕ → ℕ → TypedCatalog
with_incarnation r parent at moment =
    with_ledger r (record r.ledger {
      tree = with_branch r.ledger.tree parent at;
      marks = r.ledger.marks ++ record { moment = moment; inc = length r.ledger.tree + 1; scn = at } ∷ [];
    })

-- those of lower ids, and those of higher ids
abbrev pub lower : {A : Type 0} → (A → ℕ) → ℕ → List A → List A
lower id n xs = filter (λ y. nat_lt (id y) n) xs

abbrev pub higher : {A : Type 0} → (A → ℕ) → ℕ → List A → List A
higher id n xs = filter (λ y. nat_lt n (id y)) xs

-- of objects that ascend by id: this one in place of that of its id, or at its place; and without that of an id
abbrev pub with_one : {A : Type 0} → (A → ℕ) → A → List A → List A
with_one id x xs = lower id (id x) xs ++ x ∷ higher id (id x) xs

abbrev pub without_one : {A : Type 0} → (A → ℕ) → ℕ → List A → List A
without_one id n xs = lower id n xs ++ higher id n xs

-- with this log, piece or set
abbrev pub with_log : TypedCatalog → LogEntry → TypedCatalog
with_log r e = with_ledger r (record r.ledger { logs = with_one (λ x. x.id) e r.ledger.logs })

abbrev pub with_piece : TypedCatalog → PieceEntry → TypedCatalog
with_piece r e = with_ledger r (record r.ledger { pieces = with_one (λ x. x.id) e r.ledger.pieces })

abbrev pub with_set : TypedCatalog → SetEntry → TypedCatalog
with_set r e = with_ledger r (record r.ledger { sets = with_one (λ x. x.id) e r.ledger.sets })

-- with a log more, which takes the next id
abbrev pub with_new_log : TypedCatalog → LogEntry → TypedCatalog
with_new_log r e = with_ledger r (record r.ledger { base = record r.ledger.base { next_id = r.ledger.base.next_id + 1 }; logs = r.ledger.logs ++ e ∷ [] })

-- with a piece more, which takes the next id
abbrev pub with_new_piece : TypedCatalog → PieceEntry → TypedCatalog
with_new_piece r e = with_ledger r (record r.ledger { base = record r.ledger.base { next_id = r.ledger.base.next_id + 1 }; pieces = r.ledger.pieces ++ e ∷ [] })

-- with a set more, which takes the next id
abbrev pub with_new_set : TypedCatalog → SetEntry → TypedCatalog
with_new_set r e = with_ledger r (record r.ledger { base = record r.ledger.base { next_id = r.ledger.base.next_id + 1 }; sets = r.ledger.sets ++ e ∷ [] })

-- without the log, the piece or the set of this id
abbrev pub without_log : TypedCatalog → ℕ → TypedCatalog
without_log r n = with_ledger r (record r.ledger { logs = without_one (λ x. x.id) n r.ledger.logs })

abbrev pub without_piece : TypedCatalog → ℕ → TypedCatalog
without_piece r n = with_ledger r (record r.ledger { pieces = without_one (λ x. x.id) n r.ledger.pieces })

abbrev pub without_set : TypedCatalog → ℕ → TypedCatalog
without_set r n = with_ledger r (record r.ledger { sets = without_one (λ x. x.id) n r.ledger.sets })

-- with this saved site, and without one
abbrev pub with_saved : TypedCatalog → Saved → TypedCatalog
with_saved r s = record r { saved = Some s }

abbrev pub without_saved : TypedCatalog → TypedCatalog
without_saved r = record r { saved = None }

-- the edits that put a saved site, and that take it away
abbrev pub saved_edits : Saved → List Edit
saved_edits s = map Put (saved_records (Some s))

abbrev pub part_drop : PartEntry → Edit
part_drop p = Drop (record { kind = 7; id = p.id })

abbrev pub unsaved_edits : Option Saved → List Edit
unsaved_edits None = []
unsaved_edits (Some s) = map part_drop s.parts ++ Drop (record { kind = 8; id = 0 }) ∷ []

-- The edits follow a change from one typed catalog to another: where those before it lead from some records to
-- those of the old typed catalog, those after it lead from them to those of the new one.
pub record EditsFollow (before after : List Edit) (old new : TypedCatalog) : Type 0 where
  pub lead : (rs : List Record) → after_edits before rs ≡ records_of old → after_edits after rs ≡ records_of new
