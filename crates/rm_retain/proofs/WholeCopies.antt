-- A copy that a record names has each block of its datafile.
use Rattle.std.specs.{Prelude.{IsSomeAnd}, Option.{option_map, option_map_or}}
use Rattle.std.proofs.Common.{◌≡◌, ◌≢◌, ◌<◌, ◌∙◌, ◌-◌, inl, inr, ℕ, List, length, get_or, slice_get, Option, Some, None, Contains, refl, ap, sym, subst, arith}
use Rattle.std.proofs.lemmas.List.Elements.{All-contains, Contains-get_or}
use Rattle.rm_base.specs.{Content.{zero_block}, Store.{Held}, declared.{block.Row.{Row}, kinds.Kind.{Kind}}}
use Rattle.rm_base.specs.declared.kinds.Kind.TheVariants.{Full, Level0, Level1, Place}
use Rattle.rm_catalog.specs.{Keys.{datafile}, Objects.{FitsRows, FitsDatafile, PieceRule}, Rules.{IsCatalog}}
use Rattle.rm_catalog.specs.declared.record.{DatafileEntry.{DatafileEntry}, PieceEntry.{PieceEntry}, Record.{Record}}
use Rattle.rm_catalog.proofs.Numbering.{obeys}
use Rattle.rm_catalog.specs.declared.record.Record.TheVariants as records
use Rattle.rm_evidence.specs.{Gathered.{IsGathered, IsPieceAmong}, Objects.{IsAsCreated}, Database.{created_by, database_in, world_of}}
use Rattle.rm_evidence.{specs.declared.evidence.{Evidence.{Evidence}, InPlace.{InPlace}}, proofs.Backups.{base-recorded}}
use Rattle.rm_evidence.proofs.{Files.{file_of-is}, Parts.{file-at}}
use Rattle.rm_history.specs.{World.{blocks_of}, declared.world.{Datafile.{Datafile}, World.{World}}}
use Rattle.rm_piece.specs.{Artefacts.{base_of}, Sets.{IsMember}, Valid.{IsPiece}, declared.{piece.Piece.{Piece}, set.SetFile.{SetFile}}}
use Rattle.rm_piece.proofs.Whole.{full, placed as rows_placed}
use Rattle.rm_retain.{specs.Losing.{IsWhole}, proofs.Clearing.{piece_valid}}

entry_all : (k : Kind) (rows blocks : ℕ) → k ≢ Level1 → FitsRows k rows blocks → rows ≡ blocks
entry_all Full rows blocks other fits = fits
entry_all Level0 rows blocks other fits = fits
entry_all Level1 rows blocks other fits = absurd (other refl)
entry_all Place rows blocks other fits = fits

-- a record's piece has as many blocks as its datafile
entry_blocks : (rs : List Record) (p : PieceEntry) → IsCatalog rs → Contains rs (records.Piece p) → p.kind ≢ Level1 → blocks_of (world_of rs) p.file ≡ p.rows
entry_blocks rs p catalog held other = by (datafile p.file rs) refl rule.file
  where
    rule : PieceRule rs p
    rule = (obeys rs (records.Piece p) catalog held).own

    by : (o : Option DatafileEntry) → datafile p.file rs ≡ o → IsSomeAnd o (FitsDatafile rs p) → blocks_of (world_of rs) p.file ≡ p.rows
    by None e some = absurd some
    by (Some f) e fits =
        ap (λ (o : Option Datafile). option_map_or (λ d. d.blocks) o 0) (file_of-is rs p.file catalog ∙ ap (λ (o : Option DatafileEntry). option_map created_by o) e)
        ∙ sym (entry_all p.kind p.rows f.blocks other fits.rows)

created_blocks : (m : SetFile) (o : Option Datafile) → IsSomeAnd o (IsAsCreated m) → option_map_or (λ (d : Datafile). d.blocks) o 0 ≡ m.piece.blocks
created_blocks m None some = absurd some
created_blocks m (Some d) is = sym is.blocks

-- so has each member of a set
member_blocks : (w : World) (m : SetFile) → IsPiece m.piece → IsSomeAnd (slice_get w.files (m.piece.file - 1)) (IsAsCreated m) → blocks_of w m.piece.file ≡ m.piece.blocks
member_blocks w m valid is =
    ap (λ (o : Option Datafile). option_map_or (λ d. d.blocks) o 0) (file-at w m.piece.file valid.file.0) ∙ created_blocks m (slice_get w.files (m.piece.file - 1)) is

base_blocks : (held : Held) (rs : List Record) (id : ℕ) (a : Piece) → IsCatalog rs → a.kind ≢ Level1 → IsPieceAmong held (database_in rs) rs id a → blocks_of (world_of rs) a.file ≡ a.blocks
base_blocks held rs id a catalog other (inl own) =
    let object = own.3.object in
    let fields = object.fields in
    ap (blocks_of (world_of rs)) fields.file ∙ entry_blocks rs own.0 catalog own.1 (λ level. other (fields.kind ∙ level)) ∙ sym fields.rows ∙ full a object.valid other
base_blocks held rs id a catalog other (inr set) =
    let object = set.4.object in
    let m = set.5 in
    let valid = (All-contains (IsMember set.3) set.3.members m object.valid.members set.6).piece in
    let created = All-contains (λ (m : SetFile). IsSomeAnd (slice_get (world_of rs).files (m.piece.file - 1)) (IsAsCreated m)) set.3.members m object.fields.files set.6 in
    subst (λ (b : Piece). blocks_of (world_of rs) b.file ≡ b.blocks) set.7 (member_blocks (world_of rs) m valid created)

base_whole : (w : World) (a : Piece) → IsPiece a → a.kind ≢ Level1 → blocks_of w a.file ≡ a.blocks → IsWhole w (base_of a)
base_whole w a valid other blocks b inside =
    let all = full a valid other in
    let within : b < length a.rows = omega (arith, inside, blocks, all) in
    let none : Row = record { block = 0; version = 0; content = zero_block } in
    (get_or a.rows b none, Contains-get_or a.rows b none within, rows_placed a valid other b none within)

-- each copy that a record names has a row of each block of its datafile
abbrev pub HasWholeCopies : List Record → Evidence → Type 0
HasWholeCopies rs e = (x : ℕ × Piece) → Contains e.bases x → 0 < x.0 → IsWhole (world_of rs) (base_of x.1)

pub copies_whole : (held : Held) (rs : List Record) (place : InPlace) (e : Evidence) → IsCatalog rs → IsGathered held rs place e → HasWholeCopies rs e
copies_whole held rs place e catalog gathered x at some =
    let is = base-recorded held rs place e gathered x.0 x.1 some at in
    base_whole (world_of rs) x.1 (piece_valid held (database_in rs) rs x.0 x.1 is.0) is.1 (base_blocks held rs x.0 x.1 catalog is.1 is.0)
