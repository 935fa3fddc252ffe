-- What stands under the names of records tells of them, and what that adds to the evidence.
use Rattle.std.specs.Prelude.{◌≡◌, ◌≢◌, ℕ, List, [], ◌∷◌, ◌++◌, Option, Some, Ok, Err, IfSome, map, option_and_then, slice_get}
use Rattle.std.specs.{List.{AllZip}, Option.{option_map_or}}
use Rattle.rm_base.specs.{Store.{Held}, declared.kinds.Status.TheVariants.{Available}}
use Rattle.rm_catalog.specs.declared.record.Record.{Record}
use Rattle.rm_catalog.specs.declared.record.Record.TheVariants as kind
use Rattle.rm_evidence.specs.{Database.{Database}, Names.{log_name, object_id, object_name, piece_name, set_name}}
use Rattle.rm_evidence.specs.{Objects.{IsLogObject, IsPieceObject, IsSetObject}, Seen.{IsSeen}, Taking.{IsTold, with_piece, with_pieces}}
use Rattle.rm_evidence.specs.declared.{evidence.Evidence.{Evidence}, telling.Told.{Told, TheVariants.{Nothing, OfLog, OfPiece, OfSet}}}

-- what stands under the name of the record's object
abbrev pub stands_in : Held → Record → Option (List ℕ)
stands_in held r = option_and_then held (object_name r)

-- this stands there, where the record counts as available
abbrev pub StandsUnder : Held → Record → Option (List ℕ) → Type 0
StandsUnder held (kind.Log l) stands = l.status ≡ Available → stands ≡ held (log_name l.id)
StandsUnder held (kind.Piece p) stands = p.status ≡ Available → stands ≡ held (piece_name p.copy p.id)
StandsUnder held (kind.Set e) stands = e.status ≡ Available → stands ≡ held (set_name e.id)
StandsUnder held _ stands = Unit {0}

-- what stands there tells this: of a record that counts as available its artefact, or why it can't be used; of others nothing
abbrev pub Tells : Database → Record → Option (List ℕ) → Told → Type 0
Tells base (kind.Log l) stands Nothing = l.status ≢ Available
Tells base (kind.Log l) stands (OfLog told) = (l.status ≡ Available) × IsTold (IsLogObject l) stands told
Tells base (kind.Log l) stands _ = ⊥
Tells base (kind.Piece p) stands Nothing = p.status ≢ Available
Tells base (kind.Piece p) stands (OfPiece told) = (p.status ≡ Available) × IsTold (IsPieceObject p) stands told
Tells base (kind.Piece p) stands _ = ⊥
Tells base (kind.Set e) stands Nothing = e.status ≢ Available
Tells base (kind.Set e) stands (OfSet told) = (e.status ≡ Available) × IsTold (IsSetObject base e) stands told
Tells base (kind.Set e) stands _ = ⊥
Tells base _ stands Nothing = Unit {0}
Tells base _ stands _ = ⊥

-- what stands for the record at place k tells this of it
abbrev pub TellsAt : {X : Type 0} → Database → (X → Record) → List X → List (Option (List ℕ)) → ℕ → Told → Type 0
TellsAt {X} base see xs ss k t = (x : X) (s : Option (List ℕ)) → slice_get xs k ≡ Some x → slice_get ss k ≡ Some s → Tells base (see x) s t

-- one after the other
abbrev pub StandUnder : Option Held → List Record → List (Option (List ℕ)) → Type 0
StandUnder o rs ss = AllZip (λ r s. IfSome o (λ h. StandsUnder h r s)) rs ss

abbrev pub TellAll : Database → List Record → List (Option (List ℕ)) → List Told → Type 0
TellAll base [] [] [] = Unit {0}
TellAll base [] [] (t ∷ ts) = ⊥
TellAll base [] (s ∷ ss) ts = ⊥
TellAll base (r ∷ rs) [] ts = ⊥
TellAll base (r ∷ rs) (s ∷ ss) [] = ⊥
TellAll base (r ∷ rs) (s ∷ ss) (t ∷ ts) = Tells base r s t × TellAll base rs ss ts

-- each of these records tells this, by what is seen of the store
abbrev pub AreTold : Option Held → Database → List Record → List Told → Type 0
AreTold o base rs ts = AllZip (λ r t. IsSeen o (λ h. Tells base r (stands_in h r) t)) rs ts

-- the evidence with the artefact of this id, or with why it is skipped
abbrev pub with_artefact : Evidence → ℕ → Told → Evidence
with_artefact e id Nothing = e
with_artefact e id (OfLog (Ok a)) = record e { logs = e.logs ++ (id, a) ∷ [] }
with_artefact e id (OfLog (Err bad)) = record e { skipped = e.skipped ++ (id, bad) ∷ [] }
with_artefact e id (OfPiece (Ok a)) = with_piece e id a
with_artefact e id (OfPiece (Err bad)) = record e { skipped = e.skipped ++ (id, bad) ∷ [] }
with_artefact e id (OfSet (Ok s)) = with_pieces e id (map (λ m. m.piece) s.members)
with_artefact e id (OfSet (Err bad)) = record e { skipped = e.skipped ++ (id, bad) ∷ [] }

-- the evidence with what the record tells
abbrev pub with_told : Evidence → Record → Told → Evidence
with_told e r t = option_map_or (λ id. with_artefact e id t) (object_id r) e
