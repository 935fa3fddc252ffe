-- RECOVER COPY: the names that come are of new ids, and those that go are those of no record that is left.
use Rattle.std.specs.Option.{option_map_or}
use Rattle.std.proofs.Common.{◌≡◌, ◌≢◌, ◌<◌, ◌≤◌, ◌+◌, ◌^◌, inl, inr, ℕ, List, [], ◌∷◌, Option, Some, None, true, refl, ap, sym, arith, All, Contains}
use Rattle.std.proofs.lemmas.List.Elements.{All-append, All-cons, All-nil, Contains-append_cases, Contains-push_cases}
use Rattle.rm_base.proofs.Members.{first-or-rest, none-in}
use Rattle.rm_backup.specs.declared.renewing.Renewed.{Renewed}
use Rattle.rm_catalog.specs.declared.record.PieceEntry.{PieceEntry}
use Rattle.rm_commit.specs.declared.commit.Object.{Object}
use Rattle.rm_catalog_typed.{specs.Changes.{without_one}, proofs.Lookups.{piece-id-within}}
use Rattle.rm_evidence.specs.Names.{piece_name, roll_name, site_name}
use Rattle.rm_evidence.proofs.Names.{log-no-piece, piece-name-tells, piece-no-roll, piece-no-set, piece-no-site}
use Rattle.rm_piece.specs.{Spelling.{spelling}, declared.piece.Piece.{Piece}}
use Rattle.rm_machine.specs.Names.{IsObjectName, of_log, of_piece, of_set}
use Rattle.rm_machine.specs.{RecoverCopy.{after_copies, after_copy, copies_gone, copies_put, renewed_entry, renewed_name}, Sound.{IsSound}}
use Rattle.rm_machine.specs.{State.{ledger}, declared.state.State.{State}}
use Rattle.rm_machine.proofs.Renewing.{CanRenewAll, CanRenewTo, drawn, first-can, first-room, next-to, renewed_to, rest-can, sound-to}
use Rattle.rm_machine_laws.proofs.{Deleting.{left-one}, Renewing.{put_to, renewals-sound}}

-- an id that was drawn before
abbrev IsDrawn : State → PieceEntry → Type 0
IsDrawn s p = p.id < (ledger s).base.next_id

-- where a copy changed, a record of an id that was drawn before was there, and is not the one that went
left-to : (s : State) (tag : List ℕ) (n : ℕ) (last : Piece) (p : PieceEntry) → Contains (ledger (renewed_to s tag n (Some last))).pieces p → IsDrawn s p → Contains (ledger s).pieces p × (p.id ≢ n)
left-to s tag n last p has low = elim (Contains-push_cases (without_one (λ x. x.id) n (ledger s).pieces) (renewed_entry s tag n last) p has) [
  | inl old ↦ left-one (λ (x : PieceEntry). x.id) n (ledger s).pieces p old
  | inr same ↦ absurd (let new : (ledger s).base.next_id ≡ p.id = ap (λ (x : PieceEntry). x.id) same in omega (arith, low, new))
]

from-to : (s : State) (tag : List ℕ) (n : ℕ) (o : Option Piece) (p : PieceEntry) → Contains (ledger (renewed_to s tag n o)).pieces p → IsDrawn s p → Contains (ledger s).pieces p
from-to s tag n None p has low = has
from-to s tag n (Some last) p has low = (left-to s tag n last p has low).0

drawn-on : (s : State) (tag : List ℕ) (x : ℕ × Renewed) (p : PieceEntry) → IsDrawn s p → IsDrawn (after_copy s tag x) p
drawn-on s tag x p low = let next = next-to s tag x.1.id x.1.merged in omega (arith, low, next)

from-all : (xs : List (ℕ × Renewed)) (s : State) (tag : List ℕ) (p : PieceEntry) → Contains (ledger (after_copies s tag xs)).pieces p → IsDrawn s p → Contains (ledger s).pieces p
from-all [] s tag p has low = has
from-all (x ∷ xs) s tag p has low = from-to s tag x.1.id x.1.merged p (from-all xs (after_copy s tag x) tag p has (drawn-on s tag x p low)) low

-- the name of the record that went is not that of a record that is left
free-to : (s : State) (tag : List ℕ) (n : ℕ) (o : Option Piece) (p : PieceEntry) → IsSound s → CanRenewTo s tag n o → p.id < 2 ^ 64 → (IsDrawn s p → Contains (ledger (renewed_to s tag n o)).pieces p)
    → ¬ Contains (option_map_or (λ last. piece_name true n ∷ []) o []) (piece_name p.copy p.id)
free-to s tag n None p sound can small left gone = none-in (piece_name p.copy p.id) gone
free-to s tag n (Some last) p sound can small left gone = elim (first-or-rest (piece_name true n) [] (piece_name p.copy p.id) gone) [
  | inr none ↦ none-in (piece_name p.copy p.id) none
  | inl same ↦
      let below = (piece-id-within (ledger s) can.old sound.catalog.ledger can.recorded).1 in
      let id : n ≡ p.id = (piece-name-tells true p.copy n p.id (omega (arith, can.id, below, sound.catalog.ledger.base.next_id.1)) small same).1 in
      let low : p.id < (ledger s).base.next_id = omega (arith, can.id, below, id) in
      (left-to s tag n last p (left low) low).1 (sym id)
]

free : (xs : List (ℕ × Renewed)) (s : State) (tag : List ℕ) (p : PieceEntry) → IsSound s → CanRenewAll s tag xs → p.id < 2 ^ 64 → Contains (ledger (after_copies s tag xs)).pieces p → ¬ Contains (copies_gone xs) (piece_name p.copy p.id)
free [] s tag p sound can small has gone = none-in (piece_name p.copy p.id) gone
free (x ∷ xs) s tag p sound can small has gone =
    let q : State = after_copy s tag x in
    elim (Contains-append_cases (renewed_name x) (copies_gone xs) (piece_name p.copy p.id) gone) [
      | inl here ↦ free-to s tag x.1.id x.1.merged p sound (first-can s tag x xs can) small (λ low. from-all xs q tag p has (drawn-on s tag x p low)) here
      | inr later ↦ free xs q tag p (sound-to s tag x.1.id x.1.merged sound (first-can s tag x xs can) (first-room s tag x xs can)) (rest-can s tag x xs can) small has later
    ]

-- each name that goes is that of a copy
name-to : (n : ℕ) (o : Option Piece) (name : List ℕ) → Contains (option_map_or (λ last. piece_name true n ∷ []) o []) name → (k : ℕ) × (piece_name true k ≡ name)
name-to n None name has = absurd (none-in name has)
name-to n (Some last) name has = elim (first-or-rest (piece_name true n) [] name has) [
  | inl same ↦ (n, same)
  | inr none ↦ absurd (none-in name none)
]

of-copy : (xs : List (ℕ × Renewed)) (name : List ℕ) → Contains (copies_gone xs) name → (k : ℕ) × (piece_name true k ≡ name)
of-copy [] name has = absurd (none-in name has)
of-copy (x ∷ xs) name has = elim (Contains-append_cases (renewed_name x) (copies_gone xs) name has) [
  | inl here ↦ name-to x.1.id x.1.merged name here
  | inr later ↦ of-copy xs name later
]

-- no record that is left names what goes, and no part of a saved site does
pub old-free : (xs : List (ℕ × Renewed)) (s : State) (tag : List ℕ) → IsSound s → CanRenewAll s tag xs → (name : List ℕ) → IsObjectName (ledger (after_copies s tag xs)) name → ¬ Contains (copies_gone xs) name
old-free xs s tag sound can _ (of_log e has) gone = let copy = of-copy xs _ gone in log-no-piece e.id true copy.0 (sym copy.1)
old-free xs s tag sound can _ (of_piece p has) gone =
    let rules = (renewals-sound xs s tag sound can).catalog.ledger in
    let below = (piece-id-within (ledger (after_copies s tag xs)) p rules has).1 in
    free xs s tag p sound can (omega (arith, below, rules.base.next_id.1)) has gone
old-free xs s tag sound can _ (of_set e has) gone = let copy = of-copy xs _ gone in piece-no-set true copy.0 e.id copy.1

pub old-no-part : (xs : List (ℕ × Renewed)) (id : ℕ) → ¬ Contains (copies_gone xs) (site_name id)
old-no-part xs id gone = let copy = of-copy xs (site_name id) gone in piece-no-site true copy.0 id copy.1

-- nor is it the name of an increment
pub old-no-roll : (xs : List (ℕ × Renewed)) (id : ℕ) → ¬ Contains (copies_gone xs) (roll_name id)
old-no-roll xs id gone = let copy = of-copy xs (roll_name id) gone in piece-no-roll true copy.0 id copy.1

-- the name is that of a copy of an id that was not drawn before
pub record IsNewCopy (s : State) (name : List ℕ) : Type 0 where
  pub id : ℕ
  pub next : (ledger s).base.next_id ≤ id
  pub most : id ≤ 4294967295
  pub is : piece_name true id ≡ name

new-to : (first s : State) (o : Option Piece) → (ledger first).base.next_id ≤ (ledger s).base.next_id → (ledger s).base.next_id + drawn o ≤ 4294967295 → All (λ x. IsNewCopy first x.name) (put_to s o)
new-to first s None low most = All-nil (λ (x : Object). IsNewCopy first x.name)
new-to first s (Some last) low most =
    All-cons (λ (x : Object). IsNewCopy first x.name) (record { name = piece_name true (ledger s).base.next_id; bytes = spelling last }) []
    (record { id = (ledger s).base.next_id; next = low; most = omega (arith, most); is = refl }) (All-nil (λ (x : Object). IsNewCopy first x.name))

-- each object that comes bears such a name
pub copies-new : (xs : List (ℕ × Renewed)) (s first : State) (tag : List ℕ) → (ledger first).base.next_id ≤ (ledger s).base.next_id → CanRenewAll s tag xs → All (λ x. IsNewCopy first x.name) (copies_put s tag xs)
copies-new [] s first tag low can = All-nil (λ (x : Object). IsNewCopy first x.name)
copies-new (x ∷ xs) s first tag low can =
    let q : State = after_copy s tag x in
    let next = next-to s tag x.1.id x.1.merged in
    All-append (λ (y : Object). IsNewCopy first y.name) (put_to s x.1.merged) (copies_put q tag xs)
    (new-to first s x.1.merged low (first-room s tag x xs can)) (copies-new xs q first tag (omega (arith, low, next)) (rest-can s tag x xs can))
