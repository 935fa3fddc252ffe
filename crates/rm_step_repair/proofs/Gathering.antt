-- What is gathered tells of blocks of a state.
use Rattle.std.{specs.Prelude.{IfSome}, proofs.{Common.{◌≡◌, ◌∙◌, ℕ, List, Option, ap, subst, All}, lemmas.Option.{IfSome_then}}}
use Rattle.rm_base.specs.{Store.{Held}, declared.{block.BlockId.{BlockId}, refusal.Refusal.{Refusal, TheVariants.{Rm08}}}}
use Rattle.rm_catalog.specs.{Trees.{nodes}, declared.record.Record.{Record}}
use Rattle.rm_catalog_typed.{specs.TypedCatalog.{records_of}, proofs.Records.{tree-told, world-told}}
use Rattle.rm_evidence.specs.{Database.{world_of}, Gathered.{IsGathered}, Known.{FitsTree, known_of}, Place.{FitsPlace}, Seen.{IsSeen}}
use Rattle.rm_evidence.{specs.declared.evidence.{Evidence.{Evidence}, InPlace.{InPlace}}, proofs.Seen.{seen-told}}
use Rattle.rm_history.specs.{FirstGap.{IsTarget}, declared.tree.Incarnation.{Incarnation}}
use Rattle.rm_plan.specs.{Chosen.{IsFaultOf}, declared.plan.{Gap.{Gap}, PlanFault.{PlanFault}}}
use Rattle.rm_plan.specs.declared.plan.PlanFault.TheVariants as kind
use Rattle.rm_repair.specs.Jobs.{AreMendJobs}
use Rattle.rm_machine.specs.{Recovery.{IsAtHand, in_place}, Sound.{IsSound}, State.{current_of, now_of, world}}
use Rattle.rm_machine.{specs.declared.state.State.{State}, proofs.Fitting.{gathered-hand, place-fits}}
use Rattle.rm_step_repair.specs.{Told.{IsTargetNow, IsTold, NamesGap}, declared.telling.Told.{Told}}

module _ (s : State) (rs : List Record) (place : InPlace) (records : rs ≡ records_of s.catalog) (is : place ≡ in_place s) where
  pub place-fits-records : IsSound s → FitsPlace rs place
  place-fits-records sound = coe 1 0 (i. FitsPlace (records i) (is i)) (place-fits s sound)

  world-is : world_of rs ≡ world s
  world-is = ap world_of records ∙ world-told s.catalog

  module _ (i at : ℕ) (inc : i ≡ current_of s) (now : at ≡ now_of s) (xs : List BlockId) where
    pub targets : All (IsTargetNow s) xs → All (λ x. IsTarget (world_of rs) i at x.file x.block) xs
    targets all = coe 1 0 (j. All (λ (x : BlockId). IsTarget (world-is j) (inc j) (now j) x.file x.block) xs) all

    module _ (held : Option Held) (e : Evidence) (seen : IsSeen held (λ h. IsGathered h rs place e)) where
      hand : IfSome held (λ h. IsAtHand s h e)
      hand = IfSome_then held (seen-told held (λ h. IsGathered h rs place e) seen) (λ h it. gathered-hand s rs place h e records is it)

      pub told-by : (t : Told) → FitsTree (nodes rs) e → AreMendJobs (world_of rs) (known_of e) i at xs t.jobs.items → t.skipped ≡ e.skipped → IsTold held s xs t
      told-by t fits are misses = record {
        evidence = e;
        at_hand = hand;
        fits = subst (λ (ns : List Incarnation). FitsTree ns e) (ap nodes records ∙ tree-told s.catalog) fits;
        are = coe 0 1 (j. AreMendJobs (world-is j) (known_of e) (inc j) (now j) xs t.jobs.items) are;
        misses = misses;
      }

      pub gap-by : (fault : PlanFault) (gap : Gap) (r : Refusal) → fault ≡ kind.Gap gap → IsFaultOf (world_of rs) (known_of e) i at xs fault → r ≡ Rm08 gap.file gap.block gap.scn gap.inc → NamesGap held s xs r
      gap-by fault gap r is_gap first names = record {
        evidence = e;
        at_hand = hand;
        gap = gap;
        first = coe 0 1 (j. IsFaultOf (world-is j) (known_of e) (inc j) (now j) xs (is_gap j)) first;
        names = names;
      }
