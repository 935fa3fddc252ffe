-- How many records a sound state has, and how many bytes.
use Rattle.std.{specs.Prelude.{sum_by}, proofs.{Common.{◌≤◌, ◌^◌, arith, length, All}, lemmas.List.Elements.{All-weaker}}}
use Rattle.std.proofs.lemmas.List.Sums.{sum_by-le}
use Rattle.rm_base.specs.Numbers.{most_bytes}
use Rattle.rm_catalog.specs.declared.record.{LogEntry.{LogEntry}, PieceEntry.{PieceEntry}, SetEntry.{SetEntry}}
use Rattle.rm_catalog_typed.{specs.{LedgerFacts.{IsLedger, IsLogEntry, IsPieceEntry, IsSetEntry}, Ledger.{Ledger}}, proofs.Fitted.{many}}

pub logs-small : (l : Ledger) → IsLedger l → sum_by (λ e. e.size) l.logs ≤ 2 ^ 44
logs-small l is =
    let sizes = sum_by-le (λ (e : LogEntry). e.size) most_bytes l.logs (All-weaker (IsLogEntry l.tree) (λ (e : LogEntry). e.size ≤ most_bytes) (λ e fits. fits.size) l.logs is.logs) in
    omega (arith, sizes, many l, is.few)

pub pieces-small : (l : Ledger) → IsLedger l → sum_by (λ p. p.size) l.pieces ≤ 2 ^ 44
pieces-small l is =
    let sizes = sum_by-le (λ (p : PieceEntry). p.size) most_bytes l.pieces (All-weaker (IsPieceEntry l.tree l.files) (λ (p : PieceEntry). p.size ≤ most_bytes) (λ p fits. fits.size) l.pieces is.pieces) in
    omega (arith, sizes, many l, is.few)

pub sets-few : (l : Ledger) → IsLedger l → length l.sets ≤ 65536
sets-few l is = omega (arith, many l, is.few)

pub parts-few : (l : Ledger) → IsLedger l → All (λ e. length e.parts ≤ 64) l.sets
parts-few l is = All-weaker (IsSetEntry l.tree l.files) (λ (e : SetEntry). length e.parts ≤ 64) (λ e fits. fits.count.1) l.sets is.sets
