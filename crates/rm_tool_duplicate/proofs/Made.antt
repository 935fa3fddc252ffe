-- What the duplicate of a source is, of the calls that made it.
use Rattle.std.specs.Prelude.{IfErr}
use Rattle.std.proofs.Common.{◌≡◌, ◌∙◌, ◌≤◌, ◌<◌, ◌^◌, ℕ, All, List, Option, Some, None, Result, Ok, Err, IfOk, ap, sym, subst}
use Rattle.rm_base.specs.declared.refusal.Refusal.{Refusal}
use Rattle.rm_catalog.specs.{Rules.{IsCatalog}, declared.record.Record.{Record}}
use Rattle.rm_catalog_typed.{specs.TypedCatalog.{records_of}, proofs.Records.{world-told}}
use Rattle.rm_commit.specs.declared.commit.Stop.{Stop}
use Rattle.rm_dup.specs.{Duplicate.{IsDuplicate}, declared.database.Duplicate.{Duplicate}}
use Rattle.rm_evidence.specs.Database.{world_of}
use Rattle.rm_lang_words.specs.Duplicate.{DuplicateSaid}
use Rattle.rm_machine.specs.{Recovery.{in_place}, Sound.{IsSound}, declared.state.State.{State}}
use Rattle.rm_piece.specs.Valid.{IsPiece}
use Rattle.rm_step_recover.specs.Gap.{NamesGap}
use Rattle.rm_tool_duplicate.specs.{Asked.{Sides, target_inc}, Duplicated.{IsMadeOf}}
use Rattle.rm_tool_duplicate.{specs.Refused.{IsNameReason, IsNumberReason, IsReason, IsRefused, by_gap}, proofs.Reasons.{by-names}}

module _ (x : DuplicateSaid) (a : Sides) (s : State) where
  -- no refusal by the numbers: the reason is that of the names, which were looked at by the records and their incarnation
  pub reason-by-names : (o p q : Option Refusal) (rs : List Record) (i : ℕ) → o ≡ None → p ≡ q → rs ≡ records_of s.catalog → i ≡ target_inc x s
      → IsNumberReason x a.target s o → IsNameReason (world_of rs) i x.until a.to p → IsReason x a (Some s) q
  reason-by-names o p q rs i none is records inc why names =
      let told = ap world_of records ∙ world-told s.catalog in
      by-names x a s o q none why (coe 0 1 (k. IsNameReason (told k) (inc k) x.until a.to (is k)) names)

  module _ (source : Option State) (shown : source ≡ Some s) (accepted : IsReason x a (Some s) None) (r : Result (Result Duplicate Refusal) Stop) where
    -- what was made
    pub made-all : IsSound s → (1 ≤ x.dbid) × (x.dbid < 2 ^ 32) → IfOk r (λ y. IfOk y (IsDuplicate a.from (records_of s.catalog) (in_place s) (target_inc x s) x.until x.dbid))
        → IfOk r (λ y. IfOk y (λ d. All IsPiece d.pieces)) → IfOk r (λ y. IfOk y (λ d. IsCatalog d.records)) → IfOk r (λ y. IfOk y (IsMadeOf x a source))
    made-all sound dbid = by-result r
      where
        by-result : (r : Result (Result Duplicate Refusal) Stop) → IfOk r (λ y. IfOk y (IsDuplicate a.from (records_of s.catalog) (in_place s) (target_inc x s) x.until x.dbid))
            → IfOk r (λ y. IfOk y (λ d. All IsPiece d.pieces)) → IfOk r (λ y. IfOk y (λ d. IsCatalog d.records)) → IfOk r (λ y. IfOk y (IsMadeOf x a source))
        by-result (Err e) is pieces records = tt
        by-result (Ok (Err refusal)) is pieces records = tt
        by-result (Ok (Ok d)) is pieces records =
            subst (λ o. IsMadeOf x a o d) (sym shown) (record { sound = sound; dbid = dbid; accepted = accepted; is = is; pieces = pieces; records = records })

    -- or the gap
    pub refused-all : IfOk r (λ y. IfErr y (NamesGap a.from s (target_inc x s) x.until)) → IfOk r (λ y. IfErr y (IsRefused x a source))
    refused-all = by-result r
      where
        by-result : (r : Result (Result Duplicate Refusal) Stop) → IfOk r (λ y. IfErr y (NamesGap a.from s (target_inc x s) x.until)) → IfOk r (λ y. IfErr y (IsRefused x a source))
        by-result (Err e) gap = tt
        by-result (Ok (Ok d)) gap = tt
        by-result (Ok (Err refusal)) gap = subst (λ o. IsRefused x a o refusal) (sym shown) (by_gap s refusal accepted gap)
