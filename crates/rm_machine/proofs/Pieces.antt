-- A piece or a set is recorded under the next id.
use Rattle.std.proofs.Common.{◌≡◌, ◌+◌, [], ◌∷◌, arith, length, length-append}
use Rattle.rm_catalog.specs.declared.record.{PieceEntry.{PieceEntry}, SetEntry.{SetEntry}}
use Rattle.rm_catalog_typed.specs.{Ledger.{ledger_records}, Changes.{with_new_piece, with_new_set}, Fitting.{FitsNewPiece, FitsNewSet}}
use Rattle.rm_catalog_typed.proofs.Fitted.{many, new_piece_fits, new_set_fits}
use Rattle.rm_machine.{specs.{Sound.{IsSound}, State.{ledger}, declared.state.State.{State}}, proofs.Later.{sound-with}}

-- the state with this record more, for which an id was drawn
abbrev pub with_recorded : State → PieceEntry → State
with_recorded s e = record s { catalog = with_new_piece s.catalog e }

-- one record more
pub count-recorded : (s : State) (e : PieceEntry) → length (ledger_records (ledger (with_recorded s e))) ≡ length (ledger_records (ledger s)) + 1
count-recorded s e =
    omega (arith, many (ledger s), many (ledger (with_recorded s e)), length-append s.catalog.ledger.pieces (e ∷ []))

module _ (s : State) (e : PieceEntry) (sound : IsSound s) (fits : FitsNewPiece s.catalog e) where
  abbrev pub q : State
  q = with_recorded s e

  pub sound-recorded : IsSound q
  sound-recorded = sound-with s q.catalog (new_piece_fits s.catalog e sound.catalog fits) sound

-- the same of a set
abbrev pub with_recorded_set : State → SetEntry → State
with_recorded_set s e = record s { catalog = with_new_set s.catalog e }

pub count-recorded_set : (s : State) (e : SetEntry) → length (ledger_records (ledger (with_recorded_set s e))) ≡ length (ledger_records (ledger s)) + 1
count-recorded_set s e =
    omega (arith, many (ledger s), many (ledger (with_recorded_set s e)), length-append s.catalog.ledger.sets (e ∷ []))

pub sound-recorded_set : (s : State) (e : SetEntry) → IsSound s → FitsNewSet s.catalog e → IsSound (with_recorded_set s e)
sound-recorded_set s e sound fits = sound-with s (with_recorded_set s e).catalog (new_set_fits s.catalog e sound.catalog fits) sound
