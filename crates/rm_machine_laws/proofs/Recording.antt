-- Pieces and sets are recorded, one after another.
use Rattle.std.{specs.Prelude.{IsSomeAnd}, proofs.Common.{◌≡◌, ◌-◌, ◌∙◌, ◌++◌, ℕ, List, [], ◌∷◌, refl, sym, subst, map, slice_get, All}}
use Rattle.std.proofs.lemmas.List.{append-nil, append_assoc, Elements.{All-head, All-map, All-tail}}
use Rattle.rm_base.specs.{Store.{Held}, declared.block.Change.{Change}}
use Rattle.rm_commit.specs.Names.{HasPuts}
use Rattle.rm_evidence.specs.Objects.{AreParts, HasSetFields, IsAsCreated}
use Rattle.rm_history.specs.declared.world.World.{World}
use Rattle.rm_piece.specs.{Sets.{IsSet}, declared.set.{Set.{Set}, SetFile.{SetFile}}}
use Rattle.rm_lang_statement.specs.declared.command.BackupForm.{BackupForm}
use Rattle.rm_machine.specs.{Backup.{part_of}, Effect.{Made, a_piece, a_set}, Machine.{IsBorneOut, IsTrueArtefact}}
use Rattle.rm_machine.specs.MadeObjects.{CanRecord, IsRecordable, Packed, after_objects, alone, in_set, object_made, object_put, objects_made, objects_put}
use Rattle.rm_machine.specs.{MadePieces.{Copied, entry_for}, MadeSets.{InSet, set_entry_for, set_of}, Sound.{IsSound}}
use Rattle.rm_machine.{specs.{State.{ledger, world}, declared.state.State.{State}}, proofs.{Copies.{OfEach}, Kept.{stand-same}}}
use Rattle.rm_machine.proofs.{Later.{borne-beside}, Recording.{can-next, next, next-fits, next-sound, next-stays}}
use Rattle.rm_catalog_typed.specs.Worlds.{database_of}
use Rattle.rm_machine_laws.proofs.{NewObjects.{puts-rest, with_puts}, Pieces.{borne-recorded, borne-recorded_set}}

-- what is shown of a member of a set: it is true as a piece, and of its datafile as that was created
pub record IsTrueMember (w : World) (h : List Change) (m : SetFile) : Type 0 where
  pub piece : IsTrueArtefact w h (a_piece m.piece)
  pub created : IsSomeAnd (slice_get w.files (m.piece.file - 1)) (IsAsCreated m)

-- and of an object that is to be recorded
abbrev pub IsTrueObject : World → List Change → Packed → Type 0
IsTrueObject w h x = OfEach (λ (y : Copied). IsTrueArtefact w h (a_piece y.piece)) (λ (y : InSet). IsTrueMember w h y.member) x

-- a valid set of true members is true
set-true : (w : World) (h : List Change) (a : Set) → IsSet a → All (IsTrueMember w h) a.members → IsTrueArtefact w h (a_set a)
set-true w h a valid all = record {
  agrees = λ k d inside. (all k d inside).piece.agrees;
  valid = valid;
  within = λ k d inside. (all k d inside).piece.within;
  of = λ k d inside. (all k d inside).piece.of;
}

-- a record has a part for each member
parts-are : (ms : List SetFile) → AreParts (map part_of ms) ms
parts-are [] = tt
parts-are (m ∷ ms) = (record { file = refl; kind = refl; from = refl; high = refl; rows = refl }, parts-are ms)

module _ (b : BackupForm) (tag : List ℕ) where
  pub objects-sound : (xs : List Packed) (s : State) → IsSound s → CanRecord s b tag xs → IsSound (after_objects s b tag xs)
  objects-sound [] s sound can = sound
  objects-sound (x ∷ xs) s sound can = objects-sound xs (next b tag s x) (next-sound b tag s x xs sound can) (can-next b tag s x xs can)

  -- no saved site comes back
  pub objects-saved : (xs : List Packed) (s : State) → (after_objects s b tag xs).catalog.saved ≡ s.catalog.saved
  objects-saved [] s = refl
  objects-saved (x ∷ xs) s = objects-saved xs (next b tag s x) ∙ (next-stays b tag s x).saved

  world-next : (s : State) (x : Packed) → world (next b tag s x) ≡ world s
  world-next s (alone x) = refl
  world-next s (in_set checkpoint ms) = refl

  -- each agrees with the history, and so does what is recorded
  module _ (h : List Change) (touched : List (List ℕ)) where
    next-borne : (s : State) (x : Packed) (xs : List Packed) (objects : Held) (made : List Made) → CanRecord s b tag (x ∷ xs) → IsTrueObject (world s) h x → IsBorneOut s h objects made touched
        → IsBorneOut (next b tag s x) h (with_puts (object_put s x ∷ []) objects) (made ++ object_made s x ∷ []) touched
    next-borne s (alone x) xs objects made can is stands =
        borne-recorded s h objects made touched stands (entry_for s b tag x.copy x.piece) (next-fits b tag s (alone x) xs can) x.piece
        (record { kind = refl; inc = refl; file = refl; from = refl; checkpoint = refl; high = refl; rows = refl }) (record { size = refl; sha = refl }) is
    next-borne s (in_set checkpoint ms) xs objects made can is stands =
        let a : Set = set_of (ledger s) checkpoint ms in
        let all : All (IsTrueMember (world s) h) a.members = All-map (IsTrueMember (world s) h) (λ (x : InSet). x.member) ms is in
        let fields : HasSetFields (database_of (ledger s)) (set_entry_for s b tag a) a =
        record { dbid = refl; inc = refl; checkpoint = refl; parts = parts-are a.members; files = λ k d inside. (all k d inside).created } in
        borne-recorded_set s h objects made touched stands (set_entry_for s b tag a) (next-fits b tag s (in_set checkpoint ms) xs can) a fields (record { size = refl; sha = refl })
        (set-true (world s) h a (All-head (IsRecordable s b tag) (in_set checkpoint ms) xs can.each).0 all)

    pub objects-borne : (xs : List Packed) (s : State) (objects : Held) (made : List Made) (after : Held) → CanRecord s b tag xs → All (IsTrueObject (world s) h) xs → IsBorneOut s h objects made touched
        → HasPuts (objects_put s b tag xs) objects after → IsBorneOut (after_objects s b tag xs) h after (made ++ objects_made s b tag xs) touched
    objects-borne [] s objects made after can all stands puts =
        subst (λ k. IsBorneOut s h after k touched) (sym (append-nil made))
        (borne-beside s h objects after made touched touched stands (stand-same objects after touched (ledger s) (ledger s) puts))
    objects-borne (x ∷ xs) s objects made after can all stands puts =
        let q : State = next b tag s x in
        let object = object_put s x in
        let new : Made = object_made s x in
        let one = next-borne s x xs objects made can (All-head (IsTrueObject (world s) h) x xs all) stands in
        let others : All (IsTrueObject (world q) h) xs = subst (λ (w : World). All (IsTrueObject w h) xs) (sym (world-next s x)) (All-tail (IsTrueObject (world s) h) x xs all) in
        let rest = objects-borne xs q (with_puts (object ∷ []) objects) (made ++ new ∷ []) after (can-next b tag s x xs can) others one
        (puts-rest (object ∷ []) (objects_put q b tag xs) objects after puts) in
        subst (λ k. IsBorneOut (after_objects q b tag xs) h after k touched) (append_assoc made (new ∷ []) (objects_made q b tag xs)) rest
