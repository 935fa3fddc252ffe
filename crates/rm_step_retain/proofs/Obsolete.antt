-- The ids of the obsolete records.
use Rattle.std.specs.Prelude.{IfSome}
use Rattle.std.proofs.Common.{◌≡◌, ◌≤◌, ◌<◌, ◌^◌, ◌∙◌, ℕ, List, Option, Some, All, AllPairs, Contains, refl, ap, length, subst}
use Rattle.std.proofs.lemmas.Option.{IfSome_then}
use Rattle.rm_base.specs.{Store.{Held}, declared.kinds.Policy.{Policy}}
use Rattle.rm_catalog.specs.{Keys.{key_of}, declared.record.Record.{Record, TheVariants.{Log, Piece, Set}}}
use Rattle.rm_evidence.specs.{Names.{object_id}, declared.evidence.Evidence.{Evidence}}
use Rattle.rm_catalog_typed.{specs.TypedCatalog.{records_of}, proofs.Ids.{few-ids, row-id, some-ids, IsId}}
use Rattle.rm_retain.specs.{Catalogued.{AreObsolete, IsObsoleteRecord, by_records}, Chosen.{Retention}}
use Rattle.rm_machine.specs.{Obsolete.{AreObsoleteIn, retention_of, start_by}, Recovery.{IsAtHand}, Sound.{IsSound}, State.{ledger}}
use Rattle.rm_machine.specs.declared.state.State.{State}
use Rattle.rm_step_retain.proofs.Hand.{of-state}

-- only a record of an object is obsolete
numbered : (r : Retention) (x : Record) → IsObsoleteRecord r x → object_id x ≡ Some (key_of x).id
numbered r (Log l) is = refl
numbered r (Piece p) is = refl
numbered r (Set e) is = refl
numbered r _ is = absurd is

-- so each id can be one
each-id : (s : State) (r : Retention) (ids : List ℕ) → IsSound s → AreObsolete (records_of s.catalog) r ids → (n : ℕ) → Contains ids n → IsId n
each-id s r ids sound are n has =
    let x = (are n).0 has in
    row-id s.catalog x.row n sound.catalog (numbered r x.row x.is ∙ ap Some x.number) x.held

module _ (s : State) (sound : IsSound s) (rs : List Record) (records : rs ≡ records_of s.catalog) (e : Evidence) (policy : Policy) (start : ℕ) (same : policy ≡ (ledger s).base.policy) (starts : start ≡ start_by s policy)
    (ids : List ℕ) (are : AreObsolete rs (by_records rs e policy start) ids) where
  exact : AreObsolete (records_of s.catalog) (retention_of s e) ids
  exact = subst (λ (xs : List Record). AreObsolete xs (retention_of s e) ids) records (subst (λ (r : Retention). AreObsolete rs r ids) (of-state s rs records e policy start same starts) are)

  pub ids-some : All (λ n. 1 ≤ n) ids
  ids-some = some-ids ids (each-id s (retention_of s e) ids sound exact)

  module _ (up : AllPairs (λ m n. m < n) ids) where
    pub ids-few : length ids < 2 ^ 32
    ids-few = few-ids (λ (n : ℕ). n) ids (each-id s (retention_of s e) ids sound exact) up

    pub obsolete-in : (held : Option Held) → IfSome held (λ h. IsAtHand s h e) → IfSome held (λ h. AreObsoleteIn s h ids)
    obsolete-in held here = IfSome_then held here (λ h at. record { evidence = e; at_hand = at; exact = exact; ascends = up })

-- where the store tells what it holds
pub told : (held : Option Held) (s : State) (ids : List ℕ) → IfSome held (λ h. AreObsoleteIn s h ids) → (objects : Held) → held ≡ Some objects → AreObsoleteIn s objects ids
told held s ids are objects tells = subst (λ (o : Option Held). IfSome o (λ h. AreObsoleteIn s h ids)) tells are
