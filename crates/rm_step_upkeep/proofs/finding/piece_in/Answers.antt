use Rattle.std.proofs.Common.{rules, ◌≡◌, refl, subst, sym}
use Rattle.sha2.specs.Sha256.{sha256}
use Rattle.rm_catalog.specs.declared.record.PieceEntry.{PieceEntry}
use Rattle.rm_piece.specs.{Spelling.{spelling}, Valid.{IsPiece}}
use Rattle.rm_step_upkeep.{specs.Catalogued.{IsEntryOf}, proofs.Read.{other-piece, piece-read}}
use Rattle.rm_step_upkeep.specs.declared.finding.Entry.TheVariants as entry
use Rattle.rm_step_upkeep.specs.declared.naming.Named.TheVariants as named
use Rattle.rm_step_upkeep.proofs.finding.piece_in.Goals as goal

pub returns-then-not-is_piece_here : goal.returns-then-not-is_piece_here
returns-then-not-is_piece_here c =
    let valid : IsPiece c.in-Some.read.0 = search rules in
    let spelled : c.args.bytes.now ≡ spelling c.in-Some.read.0 = search rules in
    let elsewhere = c.if-not-is_piece_here.ensures.1 in
    other-piece c.args.state.now c.args.copy c.args.id c.args.bytes.now c.in-Some.read.0 valid spelled (λ here. let clash = elsewhere here in absurd cc)

pub returns : goal.returns
returns c =
    let valid : IsPiece c.in-Some.read.0 = search rules in
    let spelled : c.args.bytes.now ≡ spelling c.in-Some.read.0 = search rules in
    let digest : c.in-Some.read.1 ≡ sha256 c.args.bytes.now = search rules in
    let s = c.args.state.now in
    let bytes = c.args.bytes.now in
    subst (λ (p : PieceEntry). IsEntryOf s (named.Piece c.args.copy c.args.id) bytes (entry.Piece p)) (sym c.in_ok-entry.ensures)
    (piece-read s c.args.copy c.args.id c.in-Some.read.0 bytes c.in-Some.read.1 valid spelled digest (c.if-not-is_piece_here.ensures.0 refl))
