-- What is valid fits the types of its fields, and a spelling tells the log.
use Rattle.std.proofs.Common.{◌≡◌, ◌∙◌, ◌⊎◌, inl, inr, ◌<◌, ◌≤◌, ℕ, arith}
use Rattle.rm_base.{specs.Numbers.{last_scn}, proofs.Sealing.{sealed_same}}
use Rattle.rm_redo.specs.{LogFits.{Fits, RecordFits}, LogFormat.{spelling, IsLogFile, IsLogRecord}, Logs.{IsBefore}}
use Rattle.rm_redo.{specs.declared.{log_file.LogFile.{LogFile}, online.LogRecord.{LogRecord}}, proofs.LogBodies.{body_same}}

record_fits : (r : LogRecord) (first next : ℕ) → next ≤ last_scn → IsLogRecord first next r → RecordFits r
record_fits r first next last is = record {
  scn = let below = is.scn.1 in omega (arith, last, below);
  file = let file = is.file.1 in omega (arith, file);
  block = let block = is.block in omega (arith, block);
  content = is.content;
}

pub fits : (l : LogFile) → IsLogFile l → Fits l
fits l valid =
    let last : l.next ≤ last_scn = valid.range.2 in
    let first = valid.range.1 in
    let few = valid.few in
    record {
      head = record {
        dbid = valid.dbid.1;
        inc = valid.inc.1;
        sequence = valid.sequence.1;
        first = omega arith;
        next = omega arith;
      };
      count = omega arith;
      records = λ k d inside. record_fits _ l.first l.next last (valid.records k d inside);
    }

-- a spelling tells the log
pub spelling_same : (l m : LogFile) → IsLogFile l → IsLogFile m → spelling l ≡ spelling m → l ≡ m
spelling_same l m vl vm same = body_same l m (fits l vl) (fits m vm) (sealed_same _ _ same)

-- by datafile, then by block
within_scn : (a b c : LogRecord) → (a.file < b.file) ⊎ ((a.file ≡ b.file) × (a.block < b.block)) → (b.file < c.file) ⊎ ((b.file ≡ c.file) × (b.block < c.block)) → (a.file < c.file) ⊎ ((a.file ≡ c.file) × (a.block < c.block))
within_scn a b c (inl x) (inl y) = inl (omega (arith, x, y))
within_scn a b c (inl x) (inr y) = let same = y.0 in inl (omega (arith, x, same))
within_scn a b c (inr x) (inl y) = let same = x.0 in inl (omega (arith, y, same))
within_scn a b c (inr x) (inr y) = let lower = x.1 in let upper = y.1 in inr (x.0 ∙ y.0, omega (arith, lower, upper))

-- the order is transitive
pub before_then : (a b c : LogRecord) → IsBefore a b → IsBefore b c → IsBefore a c
before_then a b c (inl x) (inl y) = inl (omega (arith, x, y))
before_then a b c (inl x) (inr y) = let same = y.0 in inl (omega (arith, x, same))
before_then a b c (inr x) (inl y) = let same = x.0 in inl (omega (arith, y, same))
before_then a b c (inr x) (inr y) = inr (x.0 ∙ y.0, within_scn a b c x.1 y.1)
