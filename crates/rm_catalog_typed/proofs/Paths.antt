-- The path over the records of a ledger is the path of its tree.
use Rattle.std.specs.{Prelude.{IsSome, option_and_then}, Option.{option_map_or}}
use Rattle.std.proofs.Common.{◌≡◌, ◌∙◌, ℕ, zero, suc, ◌≤◌, leb, cond, length, Option, Some, None, refl, ap, sym, subst, arith}
use Rattle.rm_history.{specs.Tree.{IsThere, parent_of, reset_of, owner}, proofs.Owners.{owner-step, owner-none}}
use Rattle.rm_catalog.specs.{Keys.{place, at, incarnation, incarnation_in, IsThere as HasKey}, Objects.{owner_in}}
use Rattle.rm_catalog.specs.declared.record.{IncarnationEntry.{IncarnationEntry}, Record.{Record}}
use Rattle.rm_catalog_typed.specs.{Ledger.{Ledger, ledger_records}, LedgerFacts.{IsLedger}}
use Rattle.rm_catalog_typed.proofs.{Lookups.{incarnation-found, no-incarnation}, Trees.{parents_below}}

-- without a path the owner is 1
path-none : (l : Ledger) (most g : ℕ) → owner_in most 0 g (ledger_records l) ≡ 1
unfolding owner_in
path-none l zero g = refl
path-none l (suc most) g = decide (at (place 2 0) (ledger_records l)) refl (no-incarnation l)
  where
    decide : (o : Option Record) → at (place 2 0) (ledger_records l) ≡ o → ¬ HasKey 2 0 (ledger_records l)
        → option_map_or (λ (x : IncarnationEntry). cond (leb x.reset g) 0 (owner_in most x.parent g (ledger_records l))) (incarnation 0 (ledger_records l)) 1 ≡ 1
    decide None e none = ap (λ (o : Option Record). option_map_or (λ (x : IncarnationEntry). cond (leb x.reset g) 0 (owner_in most x.parent g (ledger_records l))) (option_and_then incarnation_in o) 1) e
    decide (Some r) e none = absurd (none (subst (λ (o : Option Record). IsSome o) (sym e) refl))

-- steps enough along the records lead to the owner
path-within : (l : Ledger) → IsLedger l → (most i g : ℕ) → i ≤ most → i ≤ length l.tree → owner_in most i g (ledger_records l) ≡ owner l.tree i g
unfolding owner_in
path-within l is most zero g few there = path-none l most g ∙ sym (owner-none l.tree g)
path-within l is zero (suc i) g few there = absurd (omega arith)
path-within l is (suc most) (suc i) g few there =
    let below = parents_below l.tree is.incarnations in
    let less = below (suc i) (omega arith) in
    let p = parent_of l.tree (suc i) in
    let b = leb (reset_of l.tree (suc i)) g in
    ap (λ (o : Option IncarnationEntry). option_map_or (λ (x : IncarnationEntry). cond (leb x.reset g) (suc i) (owner_in most x.parent g (ledger_records l))) o 1) (incarnation-found l (suc i) is (omega arith, there))
    ∙ ap (λ (n : ℕ). cond b (suc i) n) (path-within l is most p g (omega arith) (omega arith))
    ∙ sym (owner-step l.tree below (suc i) g (omega arith))

pub path-is : (l : Ledger) (i g : ℕ) → IsLedger l → IsThere l.tree i → owner_in 256 i g (ledger_records l) ≡ owner l.tree i g
path-is l i g is there = let few = is.incarnations.few in let high = there.1 in path-within l is 256 i g (omega arith) high
