-- What is true of records stays true where a tree and the datafiles grow.
use Rattle.std.proofs.Common.{◌≡◌, ◌∙◌, ℕ, ◌-◌, ◌≤◌, ◌⊎◌, inl, inr, List, [], ◌∷◌, ◌++◌, Some, slice_get, ap, arith}
use Rattle.std.proofs.lemmas.{List.Elements.{All-weaker}, Option.{slice_get_within}}
use Rattle.rm_base.{specs.declared.block.Mark.{Mark}, proofs.Members.{slice_get-front}}
use Rattle.rm_catalog.specs.declared.record.{LogEntry.{LogEntry}, PieceEntry.{PieceEntry}, SetEntry.{SetEntry}}
use Rattle.rm_history.specs.declared.{tree.Incarnation.{Incarnation}, world.Datafile.{Datafile}}
use Rattle.rm_catalog_typed.{specs.LedgerFacts.{IsLogEntry, IsMark, IsPieceEntry, IsSetEntry, IsSetPart}, proofs.Trees.{Keeps}}

-- a log's entry keeps its facts
pub log_kept : (old new : List Incarnation) → Keeps old new → (e : LogEntry) → IsLogEntry old e → IsLogEntry new e
log_kept old new keeps e is =
    let reset = keeps.reset e.inc is.there in
    let end = keeps.end e.inc is.there in
    let range = is.range in
    record {
      there = keeps.there e.inc is.there;
      thread = is.thread;
      sequence = is.sequence;
      range = (omega arith, range.1, omega arith);
      size = is.size;
    }

-- the datafiles stay, or there is one more
abbrev pub FilesGrow : List Datafile → List Datafile → Type 0
FilesGrow old new = (new ≡ old) ⊎ ((d : Datafile) × (new ≡ old ++ d ∷ []))

-- a datafile that was there stays at its place
file_kept : (old new : List Datafile) (k : ℕ) (d : Datafile) → FilesGrow old new → slice_get old k ≡ Some d → slice_get new k ≡ Some d
file_kept old new k d (inl same) is = ap (λ (x : List Datafile). slice_get x k) same ∙ is
file_kept old new k d (inr more) is = ap (λ (x : List Datafile). slice_get x k) more.1 ∙ slice_get-front old more.0 k (slice_get_within old k d is) ∙ is

-- a piece's entry keeps its facts
pub piece_kept : (old new : List Incarnation) (files more : List Datafile) → Keeps old new → FilesGrow files more → (p : PieceEntry) → IsPieceEntry old files p → IsPieceEntry new more p
piece_kept old new files more keeps grows p is =
    let end = keeps.end p.inc is.there in
    let high = is.high in
    let file = is.file in
    record {
      there = keeps.there p.inc is.there;
      file = record {
        number = file.number;
        datafile = file.datafile;
        is = file_kept files more (p.file - 1) file.datafile grows file.is;
        path = keeps.owners p.inc file.datafile.creation is.there ∙ file.path;
        rows = file.rows;
      };
      checkpoint = is.checkpoint;
      high = omega arith;
      kind = is.kind;
      tag = is.tag;
      size = is.size;
    }

-- a set's entry keeps its facts
pub set_kept : (old new : List Incarnation) (files more : List Datafile) → Keeps old new → FilesGrow files more → (e : SetEntry) → IsSetEntry old files e → IsSetEntry new more e
set_kept old new files more keeps grows e is =
    let end = keeps.end e.inc is.there in
    record {
      there = keeps.there e.inc is.there;
      checkpoint = is.checkpoint;
      count = is.count;
      ascend = is.ascend;
      parts = All-weaker (IsSetPart old files e) (IsSetPart new more e) (λ p was.
          let high = was.high in
          record {
            number = was.number;
            datafile = was.datafile;
            is = file_kept files more (p.file - 1) was.datafile grows was.is;
            path = keeps.owners e.inc was.datafile.creation is.there ∙ was.path;
            creation = was.creation;
            rows = was.rows;
            kind = was.kind;
            high = (high.0, omega arith);
          }) e.parts is.parts;
      tag = is.tag;
      size = is.size;
    }

pub mark_kept : (old new : List Incarnation) (before after : ℕ) → Keeps old new → before ≤ after → (m : Mark) → IsMark old before m → IsMark new after m
mark_kept old new before after keeps le m is =
    let reset = keeps.reset m.inc is.there in
    let end = keeps.end m.inc is.there in
    let scn = is.scn in
    let moment = is.moment in
    record { there = keeps.there m.inc is.there; scn = (omega arith, omega arith); moment = omega arith }
