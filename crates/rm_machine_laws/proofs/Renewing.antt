-- RECOVER COPY: a changed copy has a record of its own, and the old record goes.
use Rattle.std.specs.Option.{option_map_or}
use Rattle.std.proofs.Common.{◌≡◌, ◌<◌, ◌≤◌, ◌+◌, ◌∙◌, ◌++◌, ℕ, List, [], ◌∷◌, Option, Some, None, true, refl, sym, subst, arith, length, All}
use Rattle.std.proofs.lemmas.List.{append-nil, append_assoc, Elements.{All-head, All-tail}}
use Rattle.rm_base.specs.{Store.{Held}, declared.block.Change.{Change}}
use Rattle.rm_backup.specs.declared.renewing.Renewed.{Renewed}
use Rattle.rm_catalog.specs.declared.record.PieceEntry.{PieceEntry}
use Rattle.rm_commit.specs.{Names.{HasPuts}, declared.commit.Object.{Object}}
use Rattle.rm_history.specs.declared.world.World.{World}
use Rattle.rm_evidence.specs.Names.{piece_name}
use Rattle.rm_piece.specs.{Spelling.{spelling}, declared.piece.Piece.{Piece}}
use Rattle.rm_catalog_typed.specs.{Changes.{without_piece}, Fitting.{FitsNewPiece}}
use Rattle.rm_machine.specs.{Effect.{Made, a_piece}, Machine.{IsBorneOut, IsTrueArtefact}}
use Rattle.rm_machine.specs.{RecoverCopy.{after_copies, after_copy, changed, copies_made, copies_put}, Sound.{IsSound}}
use Rattle.rm_machine.{specs.{State.{ledger, world}, declared.state.State.{State}}, proofs.{Entries.{GoesOn}, Kept.{stand-same}}}
use Rattle.rm_machine.proofs.{Later.{borne-beside}, Pieces.{with_recorded}}
use Rattle.rm_machine.proofs.Renewing.{CanRenew, CanRenewAll, CanRenewTo, count-changed, drawn, first-can, first-room, next-to, renewed_to, rest-can, sound-to}
use Rattle.rm_machine.proofs.Renewing as shared
use Rattle.rm_machine_laws.proofs.{Pieces.{borne-recorded, object_of}, NewObjects.{puts-rest, with_puts}}

-- One copy

module _ (s : State) (tag : List ℕ) (n : ℕ) (last : Piece) (sound : IsSound s) (can : CanRenew s tag n last) (below : (ledger s).base.next_id < 4294967295) where
  abbrev e : PieceEntry
  e = shared.e s tag n last sound can below

  abbrev q : State
  q = shared.q s tag n last sound can below

  drops : GoesOn s (without_piece s.catalog n)
  drops = shared.drops s tag n last sound can below

  fits : FitsNewPiece (without_piece s.catalog n) e
  fits = shared.fits s tag n last sound can below

  renewed-borne : (h : List Change) (objects : Held) (made : List Made) (touched : List (List ℕ)) → IsTrueArtefact (world s) h (a_piece last) → IsBorneOut s h objects made touched
      → IsBorneOut (with_recorded q e) h (with_puts (object_of true (ledger s).base.next_id last ∷ []) objects) (made ++ record { name = piece_name true (ledger s).base.next_id; artefact = a_piece last } ∷ []) touched
  renewed-borne h objects made touched agrees stands =
      borne-recorded q h objects made touched (drops.borne h objects made touched stands) e fits last
      (record { kind = refl; inc = refl; file = refl; from = refl; checkpoint = refl; high = refl; rows = refl }) (record { size = refl; sha = refl }) agrees

abbrev pub IsTrueTo : World → List Change → Option Piece → Type 0
IsTrueTo w h None = Unit {0}
IsTrueTo w h (Some last) = IsTrueArtefact w h (a_piece last)

abbrev made_to : State → Option Piece → List Made
made_to s o = option_map_or (λ last. record { name = piece_name true (ledger s).base.next_id; artefact = a_piece last } ∷ []) o []

abbrev pub put_to : State → Option Piece → List Object
put_to s o = option_map_or (λ last. record { name = piece_name true (ledger s).base.next_id; bytes = spelling last } ∷ []) o []

world-to : (s : State) (tag : List ℕ) (n : ℕ) (o : Option Piece) → world (renewed_to s tag n o) ≡ world s
world-to s tag n None = refl
world-to s tag n (Some last) = refl

saved-to : (s : State) (tag : List ℕ) (n : ℕ) (o : Option Piece) → (renewed_to s tag n o).catalog.saved ≡ s.catalog.saved
saved-to s tag n None = refl
saved-to s tag n (Some last) = refl

borne-to : (s : State) (tag : List ℕ) (n : ℕ) (o : Option Piece) (h : List Change) (objects : Held) (made : List Made) (touched : List (List ℕ)) → CanRenewTo s tag n o → (ledger s).base.next_id + drawn o ≤ 4294967295
    → IsTrueTo (world s) h o → IsBorneOut s h objects made touched → IsBorneOut (renewed_to s tag n o) h (with_puts (put_to s o) objects) (made ++ made_to s o) touched
borne-to s tag n None h objects made touched can room agrees stands = subst (λ k. IsBorneOut s h objects k touched) (sym (append-nil made)) stands
borne-to s tag n (Some last) h objects made touched can room agrees stands = renewed-borne s tag n last stands.state can (omega (arith, room)) h objects made touched agrees stands

-- All of them

pub renewals-sound : (xs : List (ℕ × Renewed)) (s : State) (tag : List ℕ) → IsSound s → CanRenewAll s tag xs → IsSound (after_copies s tag xs)
renewals-sound [] s tag sound can = sound
renewals-sound (x ∷ xs) s tag sound can =
    renewals-sound xs (after_copy s tag x) tag (sound-to s tag x.1.id x.1.merged sound (first-can s tag x xs can) (first-room s tag x xs can)) (rest-can s tag x xs can)

pub renewals-borne : (xs : List (ℕ × Renewed)) (s : State) (tag : List ℕ) (h : List Change) (objects : Held) (made : List Made) (touched : List (List ℕ)) (after : Held) → CanRenewAll s tag xs → All (λ x. IsTrueTo (world s) h x.1.merged) xs
    → IsBorneOut s h objects made touched → HasPuts (copies_put s tag xs) objects after → IsBorneOut (after_copies s tag xs) h after (made ++ copies_made s tag xs) touched
renewals-borne [] s tag h objects made touched after can agree stands puts =
    subst (λ k. IsBorneOut s h after k touched) (sym (append-nil made))
    (borne-beside s h objects after made touched touched stands (stand-same objects after touched (ledger s) (ledger s) puts))
renewals-borne (x ∷ xs) s tag h objects made touched after can agree stands puts =
    let q : State = after_copy s tag x in
    let o : Option Piece = x.1.merged in
    let agrees = All-head (λ (y : ℕ × Renewed). IsTrueTo (world s) h y.1.merged) x xs agree in
    let others = All-tail (λ (y : ℕ × Renewed). IsTrueTo (world s) h y.1.merged) x xs agree in
    let one : IsBorneOut q h (with_puts (put_to s o) objects) (made ++ made_to s o) touched = borne-to s tag x.1.id o h objects made touched (first-can s tag x xs can) (first-room s tag x xs can) agrees stands in
    let rest = renewals-borne xs q tag h (with_puts (put_to s o) objects) (made ++ made_to s o) touched after (rest-can s tag x xs can)
    (subst (λ w. All (λ (y : ℕ × Renewed). IsTrueTo w h y.1.merged) xs) (sym (world-to s tag x.1.id o)) others) one
    (puts-rest (put_to s o) (copies_put q tag xs) objects after puts) in
    subst (λ k. IsBorneOut (after_copies q tag xs) h after k touched) (append_assoc made (made_to s o) (copies_made q tag xs)) rest

-- a saved site that was not there is not there after it
pub renewals-saved : (xs : List (ℕ × Renewed)) (s : State) (tag : List ℕ) → (after_copies s tag xs).catalog.saved ≡ s.catalog.saved
renewals-saved [] s tag = refl
renewals-saved (x ∷ xs) s tag = renewals-saved xs (after_copy s tag x) tag ∙ saved-to s tag x.1.id x.1.merged

-- each changed copy draws an id
pub renewals-next : (xs : List (ℕ × Renewed)) (s : State) (tag : List ℕ) → (ledger (after_copies s tag xs)).base.next_id ≡ (ledger s).base.next_id + length (changed xs)
renewals-next [] s tag = omega arith
renewals-next (x ∷ xs) s tag =
    omega (arith, renewals-next xs (after_copy s tag x) tag, next-to s tag x.1.id x.1.merged, count-changed x xs)
