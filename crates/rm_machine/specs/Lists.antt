-- LIST BACKUP, LIST COPY and LIST ARCHIVELOG ALL
use Rattle.std.specs.{Prelude.{ℕ, ◌≡◌, if◌then◌else◌, Bool, Option, Some, None, List, [], ◌∷◌, map, Contains}, List.{flat_map}}
use Rattle.rm_base.specs.declared.kinds.{Class.{Class}, Kind.{Kind}}
use Rattle.rm_base.specs.declared.kinds.Kind.TheVariants as kind
use Rattle.rm_catalog.specs.declared.record.{Record.{Record, TheVariants.{Log, Piece, Set}}, SetEntry.{SetEntry}, SetPart.{SetPart}}
use Rattle.rm_evidence.specs.Gathered.{Lists}
use Rattle.rm_report.specs.declared.line.{Line.{Line, TheVariants.{LogIs, PieceIs}}, Packing.{Packing}, Shape.{Shape}}
use Rattle.rm_report.specs.declared.line.Packing.TheVariants as packing
use Rattle.rm_report.specs.declared.line.Shape.TheVariants as shape
use Rattle.rm_catalog_typed.specs.TypedCatalog.{records_of}
use Rattle.rm_verify.specs.Classes.{is_of}
use Rattle.rm_machine.specs.{Effect.{Outcome, told}, declared.state.State.{State}}

-- what a piece of this kind has, from this SCN on
abbrev pub shape_by : Kind → ℕ → Shape
shape_by kind.Level0 from = shape.Level0
shape_by kind.Level1 from = shape.Level1 from
shape_by _ from = shape.Full

-- how a piece is packed that is an image copy or not
abbrev pub packing_by : Bool → Packing
packing_by copy = if copy then packing.Copy else packing.Piece

-- the line of what a set has of one datafile
abbrev pub part_line : SetEntry → SetPart → Line
part_line e p = PieceIs packing.Set e.id p.file (shape_by p.kind p.from) e.checkpoint p.high e.status e.tag e.keep

-- the id and the lines of a record of a log, a piece or a set
abbrev pub lines_in : Record → Option (ℕ × List Line)
lines_in (Log l) = Some (l.id, LogIs l.id l.thread l.sequence l.first l.next l.inc l.status l.keep ∷ [])
lines_in (Piece p) = Some (p.id, PieceIs (packing_by p.copy) p.id p.file (shape_by p.kind p.from) p.checkpoint p.high p.status p.tag p.keep ∷ [])
lines_in (Set e) = Some (e.id, map (part_line e) e.parts)
lines_in _ = None

-- those of a record of the class
abbrev pub listed : Class → Record → Option (ℕ × List Line)
listed class r = if is_of class r then lines_in r else None

-- a record of the class has this id and these lines
abbrev pub IsListed : List Record → Class → ℕ → List Line → Type 0
IsListed rs class id lines = (r : Record) × Contains rs r × (listed class r ≡ Some (id, lines))

-- it tells exactly the records of the class, ascending by id
pub record IsListOutcome (s : State) (class : Class) (o : Outcome) : Type 0 where
  pub all : List (ℕ × List Line)
  pub lists : Lists (List Line) [] (IsListed (records_of s.catalog) class) all
  pub is : o ≡ told (flat_map (λ x. x.1) all)
