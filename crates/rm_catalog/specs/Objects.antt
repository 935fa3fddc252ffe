-- What a log and a piece obey in a list of records.
use Rattle.std.specs.Prelude.{◌≡◌, ◌≢◌, ℕ, ◌<◌, ◌≤◌, ◌==◌, zero, suc, Bool, false, ◌&&◌, ◌||◌, IsTrue, All, List, [], ◌∷◌, IsSomeAnd, length, nat_le, if◌then◌else◌}
use Rattle.std.specs.{List.{list_all}, Option.{option_map_or}}
use Rattle.rm_base.specs.{Numbers.{most_bytes}, declared.kinds.Kind.{Kind, TheVariants.{Level1, Place}}}
use Rattle.rm_catalog.specs.{Keys.{IsThere, base, incarnation, datafile}, declared.record.IncarnationEntry.{IncarnationEntry}}
use Rattle.rm_catalog.specs.declared.record.{DatafileEntry.{DatafileEntry}, LogEntry.{LogEntry}, PieceEntry.{PieceEntry}, Record.{Record}}

-- the kinds of records whose ids are those of objects: logs, pieces, the parts of a saved site, and sets
abbrev pub id_kinds : List ℕ
id_kinds = 4 ∷ 5 ∷ 7 ∷ 9 ∷ []

-- the id of a record of one kind is free in another kind: no record of that kind has it
abbrev pub IsFree : List Record → ℕ → ℕ → ℕ → Type 0
IsFree rs kind id other = other ≢ kind → ¬ IsThere other id rs

-- the id of a record of this kind, which stands in no other kind of objects
pub record IdRule (rs : List Record) (kind id : ℕ) : Type 0 where
  pub number : 1 ≤ id
  pub below : IsSomeAnd (base rs) (λ b. id < b.next_id)
  pub free : All (IsFree rs kind id) id_kinds

-- the log's SCNs are some of the incarnation
pub record IsRange (l : LogEntry) (i : IncarnationEntry) : Type 0 where
  pub first : i.reset ≤ l.first
  pub some : l.first < l.next
  pub next : l.next ≤ i.end

-- a log, by a redo thread from 1 to 4
pub record LogRule (rs : List Record) (l : LogEntry) : Type 0 where
  pub id : IdRule rs 4 l.id
  pub size : l.size ≤ most_bytes
  pub thread : (1 ≤ l.thread) × (l.thread ≤ 4)
  pub sequence : 1 ≤ l.sequence
  pub range : IsSomeAnd (incarnation l.inc rs) (IsRange l)

-- The incarnation that owns g on the path of i, by at most so many steps: the nearest one to i that
-- began at or below g, or else 1.
unfoldable pub owner_in : ℕ → ℕ → ℕ → List Record → ℕ
owner_in zero i g rs = 1
owner_in (suc n) i g rs = option_map_or (λ x. if nat_le x.reset g then i else owner_in n x.parent g rs) (incarnation i rs) 1

-- a level 1 has some of the blocks, and each other kind has all
abbrev pub FitsRows : Kind → ℕ → ℕ → Type 0
FitsRows Level1 rows blocks = rows ≤ blocks
FitsRows _ rows blocks = rows ≡ blocks

-- the datafile was created on the piece's path
pub record FitsDatafile (rs : List Record) (p : PieceEntry) (f : DatafileEntry) : Type 0 where
  pub path : owner_in 256 p.inc f.creation rs ≡ f.inc
  pub rows : FitsRows p.kind p.rows f.blocks

-- A level 1 is no copy and begins at an SCN, a full piece and a level 0 begin at 0. A datafile in
-- place has no record of this kind.
abbrev pub FitsKind : Kind → PieceEntry → Type 0
FitsKind Level1 p = (p.copy ≡ false) × (1 ≤ p.from) × (p.from ≤ p.checkpoint)
FitsKind Place p = ⊥
FitsKind _ p = p.from ≡ 0

-- a letter, a digit or _
abbrev pub is_tag_byte : ℕ → Bool
is_tag_byte c = (nat_le 48 c && nat_le c 57) || (nat_le 65 c && nat_le c 90) || (nat_le 97 c && nat_le c 122) || c == 95

-- 1 to 30 letters, digits and _
pub record IsTag (tag : List ℕ) : Type 0 where
  pub some : 1 ≤ length tag
  pub few : length tag ≤ 30
  pub bytes : IsTrue (list_all is_tag_byte tag)

-- a piece
pub record PieceRule (rs : List Record) (p : PieceEntry) : Type 0 where
  pub id : IdRule rs 5 p.id
  pub size : p.size ≤ most_bytes
  pub end : IsSomeAnd (incarnation p.inc rs) (λ i. p.high ≤ i.end)
  pub file : IsSomeAnd (datafile p.file rs) (FitsDatafile rs p)
  pub checkpoint : (1 ≤ p.checkpoint) × (p.checkpoint ≤ p.high)
  pub kind : FitsKind p.kind p
  pub tag : IsTag p.tag
