-- The first fault of all datafiles: each block of the datafiles before it is determined.
use Rattle.std.proofs.Common.{◌≡◌, ◌<◌, ◌++◌, ◌∷◌, [], inl, inr, ℕ, List, Option, Some, None, IfNone, IfSome, Contains, map, sym, subst, arith}
use Rattle.std.proofs.lemmas.List.Elements.{Contains-append_cases, Contains-append_right}
use Rattle.rm_base.proofs.{Members.{first-or-rest, in-front}, Lists.{pairs-behind, pairs-head}}
use Rattle.rm_history.specs.{Evidence.{Evidence}, FirstGap.{IsFirstGap, IsRecoverable}, Unknown.{IsUnknown}, declared.world.World.{World}}
use Rattle.rm_plan.specs.{FirstGap.{FilesBelow}, Plan.{IsFileFault, IsFileTarget}, declared.plan.{Gap.{Gap}, PlanFault.{PlanFault}}}
use Rattle.rm_plan.proofs.Firsts.{first_of_all, gap_of_file}
use Rattle.rm_plan.specs.declared.plan.PlanFault.TheVariants as planned
use Rattle.rm_apply.specs.{Applying.{ArePlanned, applied}, Files.{AreExactly}, Told.{IsFaultOfAll, IsGapOrNone}, declared.plans.Plan.{Plan}}
use Rattle.rm_apply.proofs.Rows.{applied-numbers, applied-told, member-determined}

-- in a list that ascends, a lower number than one of its own stands before that
before : (ms rest : List ℕ) (W : ℕ → Type 0) (n f : ℕ) → AreExactly W (ms ++ n ∷ rest) → W f → f < n → Contains ms f
before ms rest W n f are wanted less = elim (Contains-append_cases ms (n ∷ rest) f ((are.exact f).1 wanted)) [
  | inl front ↦ front
  | inr back ↦ elim (first-or-rest n rest f back) [
    | inl same ↦ absurd (omega (arith, less, same))
    | inr late ↦ let up : n < f = pairs-head (λ (a b : ℕ). a < b) n rest f (pairs-behind (λ (a b : ℕ). a < b) ms (n ∷ rest) are.ascends) late in absurd (omega (arith, less, up))
  ]
]

module _ (w : World) (e : Evidence) (i s : ℕ) (ms : List ℕ) (n : ℕ) (rest : List ℕ) (exact : AreExactly (IsFileTarget w i s) (ms ++ n ∷ rest)) (plans : List Plan) (are : ArePlanned w e i s ms plans) where
  target : IsFileTarget w i s n
  target = (exact.exact n).0 (Contains-append_right ms (n ∷ rest) n (in-front n rest))

  below : FilesBelow w e i s n
  below f less b at =
      let file : IsFileTarget w i s f = record { there = at.there; datafile = at.datafile; is = at.is; exists = at.exists } in
      let has = before ms rest (IsFileTarget w i s) n f exact file less in
      member-determined w e i s (map (applied i s) plans) f (applied-told w e i s ms plans are)
      (subst (λ ks. Contains ks f) (sym (applied-numbers w e i s ms plans are)) has) b at

  -- the fault of the next datafile is the first of all
  pub first-fault : (x : PlanFault) → IsFileFault w e i s n x → IsFaultOfAll w e i s x
  first-fault (planned.Gap x) names =
      let same : n ≡ x.file = sym names.names.file in
      record {
        first = first_of_all w e i s n x below (gap_of_file w e i s n x target names);
        unknown = subst (λ f. IsUnknown w e i s f x.block x.inc x.scn) same names.names.unknown;
      }
  first-fault planned.NoMemory names = tt

-- what a planner finds of all datafiles
pub gap_or_none : (w : World) (e : Evidence) (i s : ℕ) (o : Option Gap)
    → IfNone o (IsRecoverable w e i s) → IfSome o (λ x. IsFirstGap w e i s x.file x.block x.inc x.scn) → IfSome o (λ x. IsUnknown w e i s x.file x.block x.inc x.scn)
    → IsGapOrNone w e i s o
gap_or_none w e i s None none first unknown = none
gap_or_none w e i s (Some x) none first unknown = record { first = first; unknown = unknown }
