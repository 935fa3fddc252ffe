-- Which record is the parent of a level 1.
use Rattle.std.specs.{Prelude.{ℕ, ◌≡◌, Bool, true, false, Option, Some, None, List, Contains}, Option.{option_map}}
use Rattle.rm_base.specs.{Choice.{IsLatest}, declared.kinds.Kind.{Kind, TheVariants.{Full, Level0, Level1, Place}}}
use Rattle.rm_catalog.specs.{Keys.{backups}, declared.record.{PieceEntry.{PieceEntry}, Record.{Record}}}
use Rattle.rm_backup.specs.Records.{IsOnPath, pieces, told}

-- level 0, or level 1 where it need not be cumulative
abbrev pub IsLevel : Bool → Kind → Type 0
IsLevel cumulative Full = ⊥
IsLevel cumulative Level0 = Unit {0}
IsLevel cumulative Level1 = cumulative ≡ false
IsLevel cumulative Place = ⊥

-- with a tag: it has the tag, and if it is a level 0 it is an image copy
pub record IsOfTag (tag : List ℕ) (p : PieceEntry) : Type 0 where
  pub is : p.tag ≡ tag
  pub copy : p.kind ≡ Level0 → p.copy ≡ true

abbrev pub IsTagged : Option (List ℕ) → PieceEntry → Type 0
IsTagged None p = Unit {0}
IsTagged (Some tag) p = IsOfTag tag p

-- a backup that may be the parent
pub record MayBeParent (rs : List Record) (f : ℕ) (cumulative : Bool) (tag : Option (List ℕ)) (p : PieceEntry) : Type 0 where
  pub on : IsOnPath rs f p
  pub level : IsLevel cumulative p.kind
  pub tagged : IsTagged tag p

-- the backups among which it is chosen: pieces, copies and the parts of sets, and with a tag no part of a set
abbrev pub among : Option (List ℕ) → List Record → List PieceEntry
among None rs = backups rs
among (Some tag) rs = pieces rs

-- of these the one of the greatest checkpoint, ties by the greatest id
abbrev pub IsLast : List Record → ℕ → Bool → Option (List ℕ) → Option PieceEntry → Type 0
IsLast rs f cumulative tag o = IsLatest told (MayBeParent rs f cumulative tag) (among tag rs) o

-- with a tag: some level 0 image copy that has it may be a parent
abbrev pub HasCopy : List Record → ℕ → Option (List ℕ) → Type 0
HasCopy rs f None = Unit {0}
HasCopy rs f (Some tag) = (p : PieceEntry) × Contains (pieces rs) p × MayBeParent rs f true (Some tag) p

-- The parent of a level 1, by its id and its checkpoint. With a tag there is none without a copy.
pub record IsParent (rs : List Record) (f : ℕ) (cumulative : Bool) (tag : Option (List ℕ)) (told : Option (ℕ × ℕ)) : Type 0 where
  pub entry : Option PieceEntry
  pub last : HasCopy rs f tag → IsLast rs f cumulative tag entry
  pub none : ¬ HasCopy rs f tag → entry ≡ None
  pub is : told ≡ option_map (λ p. (p.id, p.checkpoint)) entry
