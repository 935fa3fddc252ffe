use Rattle.std.{specs.Prelude.{sum_by}, proofs.Common.{◌≡◌, ◌≤◌, ◌+◌, ◌^◌, ◌∙◌, List, subst, sym, ap, arith, length, All, ℕ}}
use Rattle.rm_catalog.specs.declared.record.{LogEntry.{LogEntry}, PieceEntry.{PieceEntry}, SetEntry.{SetEntry}}
use Rattle.rm_catalog_typed.{specs.{Ledger.{Ledger}, LedgerFacts.{IsLedger}}, proofs.Sizes.{logs-small, parts-few, pieces-small, sets-few}}
use Rattle.rm_machine.specs.State.{ledger}
use Rattle.rm_machine.proofs.room.recorded_bytes.Goals as goal

abbrev log_sizes : List LogEntry → ℕ
log_sizes xs = sum_by (λ e. e.size) xs

abbrev piece_sizes : List PieceEntry → ℕ
piece_sizes xs = sum_by (λ p. p.size) xs

pub log_bytes-requires : goal.log_bytes-requires
log_bytes-requires c = subst (λ (xs : List LogEntry). log_sizes xs ≤ 2 ^ 44) (sym c.logs.ensures) (logs-small (ledger c.args.state.now) c.requires.catalog.ledger)

pub piece_bytes-requires : goal.piece_bytes-requires
piece_bytes-requires c = subst (λ (xs : List PieceEntry). piece_sizes xs ≤ 2 ^ 44) (sym c.pieces.ensures) (pieces-small (ledger c.args.state.now) c.requires.catalog.ledger)

pub set_bytes-requires-clause-few : goal.set_bytes-requires-clause-few
set_bytes-requires-clause-few c = subst (λ (es : List SetEntry). length es ≤ 65536) (sym c.sets.ensures) (sets-few (ledger c.args.state.now) c.requires.catalog.ledger)

pub set_bytes-requires-clause-parts : goal.set_bytes-requires-clause-parts
set_bytes-requires-clause-parts c =
    subst (λ (es : List SetEntry). All (λ e. length e.parts ≤ 64) es) (sym c.sets.ensures) (parts-few (ledger c.args.state.now) c.requires.catalog.ledger)

small : (l : Ledger) (a b : ℕ) → IsLedger l → a ≡ log_sizes l.logs → b ≡ piece_sizes l.pieces → a + b ≤ 2 ^ 45
small l a b is logs pieces = omega (arith, logs, pieces, logs-small l is, pieces-small l is)

pub overflow_add-result : goal.overflow_add-result
overflow_add-result c =
    omega (arith, small (ledger c.args.state.now) c.log_bytes.result c.piece_bytes.result c.requires.catalog.ledger (c.log_bytes.ensures ∙ ap log_sizes c.logs.ensures) (c.piece_bytes.ensures ∙ ap piece_sizes c.pieces.ensures))

pub overflow_add-result-2 : goal.overflow_add-result-2
overflow_add-result-2 c =
    omega (arith, small (ledger c.args.state.now) c.log_bytes.result c.piece_bytes.result c.requires.catalog.ledger (c.log_bytes.ensures ∙ ap log_sizes c.logs.ensures) (c.piece_bytes.ensures ∙ ap piece_sizes c.pieces.ensures))

pub returns-clause-most : goal.returns-clause-most
returns-clause-most c =
    omega (arith, small (ledger c.args.state.now) c.log_bytes.result c.piece_bytes.result c.requires.catalog.ledger (c.log_bytes.ensures ∙ ap log_sizes c.logs.ensures) (c.piece_bytes.ensures ∙ ap piece_sizes c.pieces.ensures))
