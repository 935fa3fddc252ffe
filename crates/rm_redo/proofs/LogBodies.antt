-- The bytes before the digest tell the log.
use Rattle.std.specs.List.{flat_map}
use Rattle.std.proofs.Common.{◌≡◌, ◌∙◌, ◌+◌, ◌*◌, ◌^◌, ◌<◌, ℕ, List, ◌∷◌, ◌++◌, length, All, refl, ap, sym, arith, append_assoc}
use Rattle.std.proofs.lemmas.List.{length-append}
use Rattle.rm_base.{specs.Number.{four, eight}, proofs.Items.{items_same, length-items}}
use Rattle.rm_base.proofs.Wide.{length-four, length-eight, fronts_same, four_same, eight_same}
use Rattle.rm_redo.specs.{LogFits.{RecordFits, HeadFits, Fits}, LogFormat.{magic, record_bytes, head_bytes, body_of}}
use Rattle.rm_redo.specs.declared.{log_file.LogFile.{LogFile}, online.LogRecord.{LogRecord}}

-- ---- records

record_of : ℕ → ℕ → ℕ → List ℕ → LogRecord
record_of scn file block content = record { scn = scn; file = file; block = block; content = record { 0 = content } }

record_is : (r : LogRecord) → record_of r.scn r.file r.block r.content.0 ≡ r
unfolding record_of
record_is r = refl

record_same : (r s : LogRecord) (x y : List ℕ) → RecordFits r → RecordFits s → record_bytes r ++ x ≡ record_bytes s ++ y → (r ≡ s) × (x ≡ y)
unfolding record_bytes
record_same r s x y fr fs e =
    let apart : eight r.scn ++ (four r.file ++ (four r.block ++ (r.content.0 ++ x))) ≡ eight s.scn ++ (four s.file ++ (four s.block ++ (s.content.0 ++ y))) = simp append_assoc at e in
    let scn = eight_same r.scn s.scn _ _ fr.scn fs.scn apart in
    let file = four_same r.file s.file _ _ fr.file fs.file scn.1 in
    let block = four_same r.block s.block _ _ fr.block fs.block file.1 in
    let content = fronts_same r.content.0 s.content.0 x y (fr.content ∙ sym fs.content) block.1 in
    let made : record_of r.scn r.file r.block r.content.0 ≡ record_of s.scn s.file s.block s.content.0 = cc (scn.0, file.0, block.0, content.0) in
    (sym (record_is r) ∙ made ∙ record_is s, content.1)

length-record : (r : LogRecord) → RecordFits r → length (record_bytes r) ≡ 80
unfolding record_bytes
length-record r fits = let long = fits.content in simp (length-append, length-four, length-eight) (omega arith)

pub length-records : (records : List LogRecord) → All RecordFits records → length (flat_map record_bytes records) ≡ 80 * length records
length-records records fits = length-items record_bytes RecordFits 80 length-record records fits

-- ---- the head

-- each field, and what follows it
pub head_fields : (l : LogFile) (n : ℕ) (x : List ℕ) → head_bytes l n ++ x ≡ magic ++ (four l.dbid ++ (four l.inc ++ (l.thread ∷ (four l.sequence ++ (eight l.first ++ (eight l.next ++ (four n ++ x)))))))
unfolding head_bytes
head_fields l n x = simp append_assoc

pub length-head : (l : LogFile) (n : ℕ) → length (head_bytes l n) ≡ 38
unfolding head_bytes
length-head l n = simp (length-append, length-four, length-eight)

-- two heads that the same bytes tell
pub record SameHead (l m : LogFile) (i n : ℕ) (x y : List ℕ) : Type 0 where
  pub dbid : l.dbid ≡ m.dbid
  pub inc : l.inc ≡ m.inc
  pub thread : l.thread ≡ m.thread
  pub sequence : l.sequence ≡ m.sequence
  pub first : l.first ≡ m.first
  pub next : l.next ≡ m.next
  pub count : i ≡ n
  pub rest : x ≡ y

magic_same : (x y : List ℕ) → magic ++ x ≡ magic ++ y → x ≡ y
magic_same x y e = cc

byte_same : (a b : ℕ) (x y : List ℕ) → a ∷ x ≡ b ∷ y → (a ≡ b) × (x ≡ y)
byte_same a b x y e = (cc, cc)

pub head_same : (l m : LogFile) (i n : ℕ) (x y : List ℕ) → HeadFits l → HeadFits m → i < 2 ^ 32 → n < 2 ^ 32 → head_bytes l i ++ x ≡ head_bytes m n ++ y → SameHead l m i n x y
head_same l m i n x y fl fm fi fn e =
    let opened = magic_same _ _ (sym (head_fields l i x) ∙ e ∙ head_fields m n y) in
    let dbid = four_same l.dbid m.dbid _ _ fl.dbid fm.dbid opened in
    let inc = four_same l.inc m.inc _ _ fl.inc fm.inc dbid.1 in
    let thread = byte_same _ _ _ _ inc.1 in
    let sequence = four_same l.sequence m.sequence _ _ fl.sequence fm.sequence thread.1 in
    let first = eight_same l.first m.first _ _ fl.first fm.first sequence.1 in
    let next = eight_same l.next m.next _ _ fl.next fm.next first.1 in
    let count = four_same i n x y fi fn next.1 in
    record {
      dbid = dbid.0;
      inc = inc.0;
      thread = thread.0;
      sequence = sequence.0;
      first = first.0;
      next = next.0;
      count = count.0;
      rest = count.1;
    }

-- ---- the whole

log_of : ℕ → ℕ → ℕ → ℕ → ℕ → ℕ → List LogRecord → LogFile
log_of dbid inc thread sequence first next records =
    record { dbid = dbid; inc = inc; thread = thread; sequence = sequence; first = first; next = next; records = records }

log_is : (l : LogFile) → log_of l.dbid l.inc l.thread l.sequence l.first l.next l.records ≡ l
unfolding log_of
log_is l = refl

pub body_same : (l m : LogFile) → Fits l → Fits m → body_of l ≡ body_of m → l ≡ m
body_same l m fl fm e =
    let same = head_same l m (length l.records) (length m.records) _ _ fl.head fm.head fl.count fm.count e in
    let records = items_same record_bytes RecordFits record_same l.records m.records same.count fl.records fm.records same.rest in
    let made : log_of l.dbid l.inc l.thread l.sequence l.first l.next l.records ≡ log_of m.dbid m.inc m.thread m.sequence m.first m.next m.records = cc (same.dbid, same.inc, same.thread, same.sequence, same.first, same.next) in
    sym (log_is l) ∙ made ∙ log_is m

pub length-body : (l : LogFile) → Fits l → length (body_of l) ≡ 38 + 80 * length l.records
length-body l fits =
    let both = length-append (head_bytes l (length l.records)) (flat_map record_bytes l.records) in
    let head = length-head l (length l.records) in
    let records = length-records l.records fits.records in
    omega arith

-- a head, and the records behind it
pub whole : (l : LogFile) (records : List LogRecord) (n : ℕ) (body rest : List ℕ) → body ≡ head_bytes l n ++ rest → rest ≡ flat_map record_bytes records → length records ≡ n → body ≡ body_of (record l { records = records })
unfolding head_bytes
whole l records n body rest parts spelled count = rw count (parts ∙ ap (λ (r : List ℕ). head_bytes l n ++ r) spelled)

pub whole_fits : (l : LogFile) (records : List LogRecord) (n : ℕ) → HeadFits l → n < 2 ^ 32 → length records ≡ n → All RecordFits records → Fits (record l { records = records })
whole_fits l records n head few count fits = record {
  head = record { dbid = head.dbid; inc = head.inc; sequence = head.sequence; first = head.first; next = head.next };
  count = omega arith;
  records = fits;
}
