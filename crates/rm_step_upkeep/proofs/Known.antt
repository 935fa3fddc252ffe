-- The record of an id, where there is one.
use Rattle.std.proofs.Common.{◌≡◌, ◌<◌, ◌==◌, ◌&&◌, inl, inr, ℕ, Some, None, Bool, true, false, is_none, cond, refl, subst, arith}
use Rattle.std.proofs.lemmas.Bool.{cases_Bool, eqb-true}
use Rattle.rm_base.{specs.declared.refusal.Refusal.{Refusal}, proofs.Lists.{find_cases}}
use Rattle.rm_catalog.specs.declared.record.{LogEntry.{LogEntry}, PieceEntry.{PieceEntry}, SetEntry.{SetEntry}}
use Rattle.rm_catalog_typed.{specs.{Facts.{IsTypedCatalog}, TypedCatalog.{TypedCatalog}}, proofs.Ids.{IsId, log-id, piece-id, set-id}}
use Rattle.rm_machine.specs.{Marks.{lacks_ids}, Upkeep.{is_unknown, record_refusal}, declared.state.State.{State}}

module _ (r : TypedCatalog) (rules : IsTypedCatalog r) where
  -- what is there has such an id
  pub known-id : (n : ℕ) → is_unknown r n ≡ false → IsId n
  known-id n known = elim (find_cases (λ (e : LogEntry). e.id == n) r.ledger.logs) [
    | inr found ↦ subst IsId (eqb-true found.item.id n found.passes) (log-id r rules found.item found.held)
    | inl no_log ↦ elim (find_cases (λ (p : PieceEntry). p.id == n) r.ledger.pieces) [
      | inr found ↦ subst IsId (eqb-true found.item.id n found.passes) (piece-id r rules found.item found.held)
      | inl no_piece ↦ elim (find_cases (λ (e : SetEntry). e.id == n) r.ledger.sets) [
        | inr found ↦ subst IsId (eqb-true found.item.id n found.passes) (set-id r rules found.item found.held)
        | inl no_set ↦ absurd (let none : is_unknown r n ≡ true = λ i. is_none (no_log i) && is_none (no_piece i) && is_none (no_set i) in cc)
      ]
    ]
  ]

  -- an id that fits no u32 names nothing
  pub large-unknown : (n : ℕ) → 4294967295 < n → is_unknown r n ≡ true
  large-unknown n large = elim (cases_Bool (is_unknown r n)) [
    | inl unknown ↦ unknown
    | inr known ↦ absurd (omega (arith, (known-id n known).1, large))
  ]

-- a statement on a record that is not refused
pub accepted-id : (s : State) (n : ℕ) → IsTypedCatalog s.catalog → record_refusal s n ≡ None → IsId n
accepted-id s n rules accepted = known-id s.catalog rules n (known (lacks_ids s 0) (is_unknown s.catalog n) _ _ accepted)
  where
    known : (b c : Bool) (x y : Refusal) → cond b (Some x) (cond c (Some y) None) ≡ None → c ≡ false
    known b false x y is = refl
    known true true x y is = absurd cc
    known false true x y is = absurd cc
