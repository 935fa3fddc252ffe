-- Pieces and sets are recorded, one after another.
use Rattle.std.proofs.{Common.{◌≡◌, ◌∙◌, ◌+◌, ℕ, List, ◌∷◌, refl, arith, length}, lemmas.List.Elements.{All-head, All-tail, All-weaker}}
use Rattle.rm_base.specs.declared.kinds.Kind.{Kind, TheVariants.{Full, Level0, Level1, Place}}
use Rattle.rm_catalog.specs.{Objects.{FitsKind}, declared.record.{PieceEntry.{PieceEntry}, SetEntry.{SetEntry}, SetPart.{SetPart}}}
use Rattle.rm_catalog_typed.specs.{Ledger.{ledger_records}, LedgerFacts.{IsSetPart}, Fitting.{FitsNewPiece, FitsNewSet}}
use Rattle.rm_lang_statement.specs.declared.command.BackupForm.{BackupForm}
use Rattle.rm_machine.specs.{MadeObjects.{CanRecord, IsRecordable, Packed, after_object, alone, in_set}, MadePieces.{entry_for}}
use Rattle.rm_machine.specs.{MadeSets.{set_entry_for, set_of}, Sound.{IsSound}, State.{ledger, tree}, declared.state.State.{State}}
use Rattle.rm_machine.proofs.Pieces.{count-recorded, count-recorded_set, sound-recorded, sound-recorded_set}

-- what fits a kind goes by a few fields
kind-next : (k : Kind) (p q : PieceEntry) → q.copy ≡ p.copy → q.from ≡ p.from → q.checkpoint ≡ p.checkpoint → FitsKind k p → FitsKind k q
kind-next Full p q copy from checkpoint is = from ∙ is
kind-next Level0 p q copy from checkpoint is = from ∙ is
kind-next Level1 p q copy from checkpoint is = let some = is.1 in let most = is.2 in (copy ∙ is.0, omega (arith, from, some), omega (arith, from, checkpoint, most))
kind-next Place p q copy from checkpoint is = is

-- what the recording of an object leaves as it was
pub record Stays (s q : State) : Type 0 where
  pub dbid : (ledger q).base.dbid ≡ (ledger s).base.dbid
  pub current : (ledger q).base.current ≡ (ledger s).base.current
  pub files : (ledger q).files ≡ (ledger s).files
  pub saved : q.catalog.saved ≡ s.catalog.saved

module _ (b : BackupForm) (tag : List ℕ) where
  abbrev pub next : State → Packed → State
  next s x = after_object s b tag x

  -- its record fits
  abbrev pub Fits : State → Packed → Type 0
  Fits s (alone x) = FitsNewPiece s.catalog (entry_for s b tag x.copy x.piece)
  Fits s (in_set checkpoint xs) = FitsNewSet s.catalog (set_entry_for s b tag (set_of (ledger s) checkpoint xs))

  -- so does that of the first of them
  pub next-fits : (s : State) (x : Packed) (xs : List Packed) → CanRecord s b tag (x ∷ xs) → Fits s x
  next-fits s (alone x) xs can =
      record { piece = (All-head (IsRecordable s b tag) (alone x) xs can.each).1; id = refl; last = omega (arith, can.ids); room = omega (arith, can.records) }
  next-fits s (in_set checkpoint ms) xs can =
      record { set = (All-head (IsRecordable s b tag) (in_set checkpoint ms) xs can.each).1; id = refl; last = omega (arith, can.ids); room = omega (arith, can.records) }

  pub next-sound : (s : State) (x : Packed) (xs : List Packed) → IsSound s → CanRecord s b tag (x ∷ xs) → IsSound (next s x)
  next-sound s (alone x) xs sound can = sound-recorded s (entry_for s b tag x.copy x.piece) sound (next-fits s (alone x) xs can)
  next-sound s (in_set checkpoint ms) xs sound can =
      sound-recorded_set s (set_entry_for s b tag (set_of (ledger s) checkpoint ms)) sound (next-fits s (in_set checkpoint ms) xs can)

  -- one record more, under the next id
  next-records : (s : State) (x : Packed) → length (ledger_records (ledger (next s x))) ≡ length (ledger_records (ledger s)) + 1
  next-records s (alone x) = count-recorded s (entry_for s b tag x.copy x.piece)
  next-records s (in_set checkpoint ms) = count-recorded_set s (set_entry_for s b tag (set_of (ledger s) checkpoint ms))

  pub next-id : (s : State) (x : Packed) → (ledger (next s x)).base.next_id ≡ (ledger s).base.next_id + 1
  next-id s (alone x) = refl
  next-id s (in_set checkpoint ms) = refl

  -- the state with other records of pieces and sets
  abbrev other : State → ℕ → List PieceEntry → List SetEntry → State
  other s id pieces sets =
      record s { catalog = record s.catalog { ledger = record s.catalog.ledger { base = record s.catalog.ledger.base { next_id = id }; pieces = pieces; sets = sets } } }

  -- they do not matter to the next record
  still : (s : State) (id : ℕ) (pieces : List PieceEntry) (sets : List SetEntry) (y : Packed) → IsRecordable s b tag y → IsRecordable (other s id pieces sets) b tag y
  still s id pieces sets (alone y) both =
      let q : State = other s id pieces sets in
      let is = both.1 in
      let of = is.file in (
        both.0,
        record {
          there = is.there;
          file = record { number = of.number; datafile = of.datafile; is = of.is; path = of.path; rows = of.rows };
          checkpoint = is.checkpoint;
          high = is.high;
          kind = kind-next y.piece.kind (entry_for s b tag y.copy y.piece) (entry_for q b tag y.copy y.piece) refl refl refl is.kind;
          tag = is.tag;
          size = is.size;
        },
      )
  still s id pieces sets (in_set checkpoint ms) both =
      let q : State = other s id pieces sets in
      let set = set_of (ledger s) checkpoint ms in
      let is = both.1 in (
        both.0,
        record {
          there = is.there;
          checkpoint = is.checkpoint;
          count = is.count;
          ascend = is.ascend;
          parts = All-weaker (IsSetPart (tree s) (ledger s).files (set_entry_for s b tag set)) (IsSetPart (tree q) (ledger q).files (set_entry_for q b tag set))
              (λ (p : SetPart) of. record { number = of.number; datafile = of.datafile; is = of.is; path = of.path; creation = of.creation; rows = of.rows; kind = of.kind; high = of.high })
              (set_entry_for s b tag set).parts is.parts;
          tag = is.tag;
          size = is.size;
        },
      )

  next-still : (s : State) (x y : Packed) → IsRecordable s b tag y → IsRecordable (next s x) b tag y
  next-still s (alone x) y is = let l = ledger (next s (alone x)) in still s l.base.next_id l.pieces l.sets y is
  next-still s (in_set checkpoint ms) y is = let l = ledger (next s (in_set checkpoint ms)) in still s l.base.next_id l.pieces l.sets y is

  pub can-next : (s : State) (x : Packed) (xs : List Packed) → CanRecord s b tag (x ∷ xs) → CanRecord (next s x) b tag xs
  can-next s x xs can =
      record {
        each = All-weaker (IsRecordable s b tag) (IsRecordable (next s x) b tag) (next-still s x) xs (All-tail (IsRecordable s b tag) x xs can.each);
        records = let most = can.records in omega (arith, next-records s x, most);
        ids = let most = can.ids in omega (arith, next-id s x, most);
      }

  pub next-stays : (s : State) (x : Packed) → Stays s (next s x)
  next-stays s (alone x) = record { dbid = refl; current = refl; files = refl; saved = refl }
  next-stays s (in_set checkpoint ms) = record { dbid = refl; current = refl; files = refl; saved = refl }
