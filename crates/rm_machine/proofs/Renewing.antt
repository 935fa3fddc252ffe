-- RECOVER COPY: a changed copy has a record of its own, the old record goes, and there is room for the rest.
use Rattle.std.specs.Option.{option_map_or}
use Rattle.std.proofs.Common.{◌≡◌, ◌≢◌, ◌<◌, ◌≤◌, ◌+◌, ◌∙◌, cond, ℕ, List, [], ◌∷◌, Option, Some, None, Bool, true, false, refl, rules, ap, sym, subst, arith, get_or, is_some, length, All, AllPairs, Contains}
use Rattle.std.proofs.lemmas.List.{get_or-map, length-map, Edits.{length-remove}}
use Rattle.std.proofs.lemmas.List.Elements.{All-contains, All-head, All-tail, Contains-append_left, Contains-get_or}
use Rattle.rm_base.{specs.declared.kinds.Kind.{Kind, TheVariants.{Full, Level0, Level1, Place}}, proofs.Keyed.{same_item}}
use Rattle.rm_base.proofs.{Lists.{pairs-head, pairs-tail}, Standing.{each-in}}
use Rattle.rm_backup.specs.{Records.{pieces}, declared.renewing.Renewed.{Renewed}}
use Rattle.rm_catalog.specs.{Objects.{FitsKind}, declared.record.PieceEntry.{PieceEntry}}
use Rattle.rm_evidence.specs.{Objects.{piece_entry}, declared.evidence.Evidence.{Evidence}}
use Rattle.rm_catalog_typed.specs.{LedgerFacts.{IsPieceEntry}, Changes.{with_new_piece, without_one, without_piece}, Fitting.{FitsNewPiece}}
use Rattle.rm_catalog_typed.{specs.TypedCatalog.{records_of}, proofs.{Fitted.{many}, Records.{pieces-told}, Splits.{place-of-one}}}
use Rattle.rm_catalog_typed.proofs.Deleting.{stays-one}
use Rattle.rm_piece.specs.declared.piece.Piece.{Piece}
use Rattle.rm_machine.specs.{RecoverCopy.{AreRenewed, after_copy, changed, is_kept, renewed_entry, renewed_refusal}, Sound.{IsSound}}
use Rattle.rm_machine.specs.{Upkeep.{with_catalog}, State.{ledger, tree}, declared.state.State.{State}}
use Rattle.rm_machine.proofs.{Entries.{GoesOn, piece-out}, Pieces.{sound-recorded, with_recorded}}

-- What copies that take over level 1s have

-- an image copy is no level 1
pub copy-kind : (k : Kind) (p : PieceEntry) → FitsKind k p → p.copy ≡ true → k ≢ Level1
copy-kind Level1 p is copy same = let clash : false ≡ true = sym is.0 ∙ copy in absurd (cc)
copy-kind Full p is copy same = absurd (cc)
copy-kind Level0 p is copy same = absurd (cc)
copy-kind Place p is copy same = absurd is

-- copies of two datafiles have two records
pub renewed-apart : (s : State) (e : Evidence) (tag : List ℕ) (at : ℕ) (xs : List (ℕ × Renewed)) → IsSound s → AreRenewed s e tag at xs → AllPairs (λ x y. x.1.id ≢ y.1.id) xs
renewed-apart s e tag at xs sound are i j d less inside same =
    let taken : (p : PieceEntry) → Contains (pieces (records_of s.catalog)) p → Contains (ledger s).pieces p = λ p has. subst (λ ps. Contains ps p) (pieces-told s.catalog) has in
    let x : ℕ × Renewed = get_or xs i d in
    let y : ℕ × Renewed = get_or xs j d in
    let before : i < length xs = omega (arith, less, inside) in
    let first = are.each x (Contains-get_or xs i d before) in
    let second = are.each y (Contains-get_or xs j d inside) in
    let one = same_item (λ (p : PieceEntry). p.id) (ledger s).pieces sound.catalog.ledger.ids.pieces_ascend first.copy second.copy (taken first.copy first.taken.held) (taken second.copy second.taken.held) (sym first.id ∙ same ∙ second.id) in
    let files : x.0 ≡ y.0 = sym first.taken.passes.on.file ∙ ap (λ (p : PieceEntry). p.file) one ∙ second.taken.passes.on.file in
    let up = are.exact.ascends i j d.0 less (omega (arith, length-map xs (λ (z : ℕ × Renewed). z.0), inside)) in
    let low = get_or-map (λ (z : ℕ × Renewed). z.0) xs i d d.0 before in
    let high = get_or-map (λ (z : ℕ × Renewed). z.0) xs j d d.0 inside in
    absurd (omega (arith, up, low, high, files))

-- the ids of those that changed are left
pub ids-left : (s : State) (xs : List (ℕ × Renewed)) → renewed_refusal s xs ≡ None → (ledger s).base.next_id + length (changed xs) + 68 ≤ 4294967295
ids-left s xs is = search rules

-- The record of one

-- where that of an id goes there is one fewer
one-fewer : (xs : List PieceEntry) (p : PieceEntry) → AllPairs (λ x y. x.id < y.id) xs → Contains xs p → length (without_one (λ x. x.id) p.id xs) + 1 ≡ length xs
one-fewer xs p up (k, inside, is) =
    let gone = (place-of-one (λ (x : PieceEntry). x.id) p.id xs k p up inside (ap (λ (x : PieceEntry). x.id) is)).gone in
    omega (arith, length-remove xs k inside, ap length gone)

-- a copy that took over level 1s can be recorded in the place of the record of this id
pub record CanRenew (s : State) (tag : List ℕ) (n : ℕ) (last : Piece) : Type 0 where
  pub entry : (keep : Bool) (moment id : ℕ) → IsPieceEntry (tree s) (ledger s).files (piece_entry true keep tag moment id last)
  pub old : PieceEntry
  pub recorded : Contains (ledger s).pieces old
  pub id : old.id ≡ n

-- One copy

module _ (s : State) (tag : List ℕ) (n : ℕ) (last : Piece) (sound : IsSound s) (can : CanRenew s tag n last) (below : (ledger s).base.next_id < 4294967295) where
  abbrev pub e : PieceEntry
  e = renewed_entry s tag n last

  abbrev pub q : State
  q = with_catalog s (without_piece s.catalog n)

  pub drops : GoesOn s (without_piece s.catalog n)
  drops = piece-out s n sound

  pub fits : FitsNewPiece (without_piece s.catalog n) e
  fits =
      let fewer = subst (λ k. length (without_one (λ x. x.id) k (ledger s).pieces) + 1 ≡ length (ledger s).pieces) can.id (one-fewer (ledger s).pieces can.old sound.catalog.ledger.ids.pieces_ascend can.recorded) in
      record {
        piece = can.entry (is_kept s n) (ledger s).base.moment (ledger s).base.next_id;
        id = refl;
        last = below;
        room = omega (arith, many (ledger s), many (ledger q), fewer, sound.catalog.ledger.few);
      }

  renewed-sound : IsSound (with_recorded q e)
  renewed-sound = sound-recorded q e (drops.sound sound) fits

-- the same of a copy that may have changed: one that stays asks for nothing
abbrev pub CanRenewTo : State → List ℕ → ℕ → Option Piece → Type 0
CanRenewTo s tag n None = Unit {0}
CanRenewTo s tag n (Some last) = CanRenew s tag n last

-- the state after it, what is made of it, and its object
abbrev pub renewed_to : State → List ℕ → ℕ → Option Piece → State
renewed_to s tag n o = option_map_or (λ last. record s { catalog = with_new_piece (without_piece s.catalog n) (renewed_entry s tag n last) }) o s

-- the ids that it draws
abbrev pub drawn : Option Piece → ℕ
drawn o = cond (is_some o) 1 0

pub next-to : (s : State) (tag : List ℕ) (n : ℕ) (o : Option Piece) → (ledger (renewed_to s tag n o)).base.next_id ≡ (ledger s).base.next_id + drawn o
next-to s tag n None = omega arith
next-to s tag n (Some last) = refl

pub sound-to : (s : State) (tag : List ℕ) (n : ℕ) (o : Option Piece) → IsSound s → CanRenewTo s tag n o → (ledger s).base.next_id + drawn o ≤ 4294967295 → IsSound (renewed_to s tag n o)
sound-to s tag n None sound can room = sound
sound-to s tag n (Some last) sound can room = renewed-sound s tag n last sound can (omega (arith, room))

-- another copy can be recorded after it
next-can : (s : State) (tag : List ℕ) (n m : ℕ) (o p : Option Piece) → n ≢ m → CanRenewTo s tag m p → CanRenewTo (renewed_to s tag n o) tag m p
next-can s tag n m o None other can = tt
next-can s tag n m None (Some last) other can = can
next-can s tag n m (Some first) (Some last) other can = record {
  entry = can.entry;
  old = can.old;
  recorded = Contains-append_left (without_one (λ x. x.id) n (ledger s).pieces) (renewed_entry s tag n first ∷ []) can.old (stays-one (λ (x : PieceEntry). x.id) n (ledger s).pieces can.old can.recorded (λ same. other (sym same ∙ can.id)));
  id = can.id;
}

-- All of them

-- they can be recorded one after another, each in the place of another record
pub record CanRenewAll (s : State) (tag : List ℕ) (xs : List (ℕ × Renewed)) : Type 0 where
  pub each : All (λ x. CanRenewTo s tag x.1.id x.1.merged) xs
  pub apart : AllPairs (λ x y. x.1.id ≢ y.1.id) xs
  pub room : (ledger s).base.next_id + length (changed xs) + 68 ≤ 4294967295

count-by : (b : Bool) (x : ℕ × Renewed) (xs : List (ℕ × Renewed)) → length (cond b (x ∷ xs) xs) ≡ cond b 1 0 + length xs
count-by true x xs = omega arith
count-by false x xs = omega arith

pub count-changed : (x : ℕ × Renewed) (xs : List (ℕ × Renewed)) → length (changed (x ∷ xs)) ≡ drawn x.1.merged + length (changed xs)
count-changed x xs = count-by (is_some x.1.merged) x (changed xs)

pub first-can : (s : State) (tag : List ℕ) (x : ℕ × Renewed) (xs : List (ℕ × Renewed)) → CanRenewAll s tag (x ∷ xs) → CanRenewTo s tag x.1.id x.1.merged
first-can s tag x xs can = All-head (λ (y : ℕ × Renewed). CanRenewTo s tag y.1.id y.1.merged) x xs can.each

pub first-room : (s : State) (tag : List ℕ) (x : ℕ × Renewed) (xs : List (ℕ × Renewed)) → CanRenewAll s tag (x ∷ xs) → (ledger s).base.next_id + drawn x.1.merged ≤ 4294967295
first-room s tag x xs can =
    omega (arith, count-changed x xs, can.room)

pub rest-can : (s : State) (tag : List ℕ) (x : ℕ × Renewed) (xs : List (ℕ × Renewed)) → CanRenewAll s tag (x ∷ xs) → CanRenewAll (after_copy s tag x) tag xs
rest-can s tag x xs can =
    record {
      each = each-in (λ (y : ℕ × Renewed). CanRenewTo (after_copy s tag x) tag y.1.id y.1.merged) xs (λ y has.
          next-can s tag x.1.id y.1.id x.1.merged y.1.merged (pairs-head (λ (y z : ℕ × Renewed). y.1.id ≢ z.1.id) x xs y can.apart has)
          (All-contains (λ (y : ℕ × Renewed). CanRenewTo s tag y.1.id y.1.merged) xs y (All-tail (λ (y : ℕ × Renewed). CanRenewTo s tag y.1.id y.1.merged) x xs can.each) has));
      apart = pairs-tail (λ (y z : ℕ × Renewed). y.1.id ≢ z.1.id) x xs can.apart;
      room = omega (arith, count-changed x xs, can.room, next-to s tag x.1.id x.1.merged);
    }
