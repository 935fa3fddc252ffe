-- A piece with its ending.
use Rattle.std.proofs.{Common.{◌≡◌, ◌∙◌, ◌+◌, ◌≤◌, List, ℕ, [], ◌++◌, length, refl, sym, ap, arith}, lemmas.List.{length-append}}
use Rattle.rm_base.proofs.{Wide.{fronts_same}, Fronts.{whole}}
use Rattle.rm_catalog.specs.declared.record.PieceEntry.{PieceEntry}
use Rattle.rm_catalog_bytes.specs.{Fits.{PieceFits}, Spelling.{flag, kind_code, piece_head, piece_ending, piece_bytes, ending_bytes}}
use Rattle.rm_catalog_bytes.{specs.declared.ending.Ending.{Ending}, proofs.{Bodies.{piece_fields}, Endings.{ending_same}}}
use Rattle.rm_catalog_bytes.proofs.Told.{piece_told, length-piece, flag_same, kind_same}

pub front_told : (r : PieceEntry) (bytes front rest : List ℕ) → length front ≡ 38 → bytes ≡ front ++ rest → bytes ≡ piece_bytes r → (front ≡ piece_head r) × (rest ≡ ending_bytes (piece_ending r))
front_told r bytes front rest len parts is = fronts_same front (piece_head r) rest _ (len ∙ sym (length-piece r)) (sym parts ∙ is)

pub piece_found : (r : PieceEntry) (e : Ending) (bytes front rest after : List ℕ) → length front ≡ 38 → bytes ≡ front ++ rest → front ≡ piece_head r ++ after → length front ≡ 38 + length after → rest ≡ ending_bytes e → piece_ending r ≡ e → bytes ≡ piece_bytes r
piece_found r e bytes front rest after len parts head more ends ending =
    let first = whole 38 front (piece_head r) after head len more in
    parts ∙ (λ i. first i ++ (ends ∙ ap ending_bytes (sym ending)) i)

pub long : (r : PieceEntry) (bytes : List ℕ) → bytes ≡ piece_bytes r → 38 ≤ length bytes
long r bytes is =
    let all = ap (λ (z : List ℕ). length z) is in
    let both = length-append (piece_head r) (ending_bytes (piece_ending r)) in
    omega (arith, all, both, length-piece r)

pub piece_same : (r s : PieceEntry) → PieceFits r → PieceFits s → r.id ≡ s.id → piece_bytes r ≡ piece_bytes s → r ≡ s
piece_same r s fr fs same_id e =
    let parts = front_told s (piece_bytes r) (piece_head r) (ending_bytes (piece_ending r)) (length-piece r) refl e in
    let head : piece_head r ++ [] ≡ piece_head s ++ [] = ap (λ (z : List ℕ). z ++ []) parts.0 in
    let told = piece_told s (flag r.copy) (kind_code r.kind) r.inc r.file r.from r.checkpoint r.high r.rows [] [] fs.head fr.head.inc fr.head.file fr.head.from fr.head.checkpoint fr.head.high fr.head.rows (sym (piece_fields r []) ∙ head) in
    let copy = flag_same r.copy s.copy told.copy in
    let kind = kind_same r.kind s.kind told.kind in
    let ending = ending_same (piece_ending r) (piece_ending s) fr.ending fs.ending parts.1 in
    λ i. record {
      id = same_id i;
      copy = copy i;
      kind = kind i;
      inc = told.inc i;
      file = told.file i;
      from = told.from i;
      checkpoint = told.checkpoint i;
      high = told.high i;
      rows = told.rows i;
      size = (ending i).size;
      sha = (ending i).sha;
      status = (ending i).status;
      keep = (ending i).keep;
      tag = (ending i).tag;
      moment = (ending i).moment;
    }
