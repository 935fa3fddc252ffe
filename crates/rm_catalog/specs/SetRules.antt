-- What a backup set obeys in a list of records.
use Rattle.std.specs.Prelude.{◌≡◌, ℕ, ◌<◌, ◌≤◌, List, IsSomeAnd, length, All, AllPairs}
use Rattle.rm_base.specs.{Numbers.{most_bytes}, declared.kinds.Kind.{Kind, TheVariants.{Level1, Place}}}
use Rattle.rm_catalog.specs.{Keys.{datafile, incarnation}, Objects.{IdRule, IsTag, owner_in}, declared.record.DatafileEntry.{DatafileEntry}}
use Rattle.rm_catalog.specs.declared.record.{SetEntry.{SetEntry}, SetPart.{SetPart}, Record.{Record}}

-- A level 1 begins at an SCN up to the checkpoint, a full part and a level 0 begin at 0. A datafile
-- in place is no part.
abbrev pub FitsPartKind : Kind → ℕ → SetPart → Type 0
FitsPartKind Level1 checkpoint p = (1 ≤ p.from) × (p.from ≤ checkpoint)
FitsPartKind Place checkpoint p = ⊥
FitsPartKind _ checkpoint p = p.from ≡ 0

-- the datafile was created on the set's path, below its checkpoint, and has no fewer blocks than
-- stand in the bytes
pub record FitsSetFile (rs : List Record) (s : SetEntry) (p : SetPart) (f : DatafileEntry) : Type 0 where
  pub path : owner_in 256 s.inc f.creation rs ≡ f.inc
  pub creation : f.creation < s.checkpoint
  pub rows : p.rows ≤ f.blocks

-- what a set has of one datafile
pub record SetPartRule (rs : List Record) (s : SetEntry) (p : SetPart) : Type 0 where
  pub file : IsSomeAnd (datafile p.file rs) (FitsSetFile rs s p)
  pub kind : FitsPartKind p.kind s.checkpoint p
  pub high : s.checkpoint ≤ p.high
  pub end : IsSomeAnd (incarnation s.inc rs) (λ i. p.high ≤ i.end)

-- datafiles ascend strictly
abbrev pub IsBeforePart : SetPart → SetPart → Type 0
IsBeforePart p q = p.file < q.file

-- all its parts
pub record PartsRule (rs : List Record) (s : SetEntry) (parts : List SetPart) : Type 0 where
  pub some : 1 ≤ length parts
  pub few : length parts ≤ 64
  pub ascend : AllPairs IsBeforePart parts
  pub each : All (SetPartRule rs s) parts

-- a set
pub record SetRule (rs : List Record) (s : SetEntry) : Type 0 where
  pub id : IdRule rs 9 s.id
  pub size : s.size ≤ most_bytes
  pub checkpoint : 1 ≤ s.checkpoint
  pub parts : PartsRule rs s s.parts
  pub tag : IsTag s.tag
