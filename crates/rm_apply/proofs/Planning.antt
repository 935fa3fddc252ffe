-- Plans that are made part by part: those so far, and the datafiles that are left.
use Rattle.std.specs.Prelude.{Result, Ok, Err, Some}
use Rattle.std.proofs.Common.{◌≡◌, ◌∙◌, ◌++◌, ◌∷◌, [], ℕ, suc, List, All, append_assoc, length, map, slice_get, refl, sym, ap, subst, arith}
use Rattle.std.proofs.lemmas.List.{append-nil, map-append, nil_from_length}
use Rattle.std.proofs.lemmas.{List.Elements.{All-cons, All-head, All-nil, All-push, All-same, All-tail}, Slice.Zip.{AllZip-long}}
use Rattle.rm_history.specs.{Evidence.{Evidence}, declared.world.World.{World}}
use Rattle.rm_plan.specs.{Plan.{IsFileTarget}, declared.plan.PlanFault.{PlanFault}}
use Rattle.rm_apply.specs.{Applying.{AreFirst, ArePlanned, AreTried, IsPlanned, IsTried, TriedAt}, Files.{AreExactly, IsTargetFile}}
use Rattle.rm_apply.specs.{Told.{IsFaultOfAll}, declared.{plans.Plan.{Plan}, targets.TargetFile.{TargetFile}}}
use Rattle.rm_apply.proofs.{Firsts.{first-fault}, Numbers.{number}}

abbrev pub of_plan : Plan → ℕ
of_plan p = p.number

All-front : {X : Type 0} (P : X → Type 0) (xs ys : List X) → All P (xs ++ ys) → All P xs
All-front P [] ys all = All-nil P
All-front P (x ∷ xs) ys all = All-cons P x xs (All-head P x (xs ++ ys) all) (All-front P xs ys (All-tail P x (xs ++ ys) all))

All-behind : {X : Type 0} (P : X → Type 0) (xs ys : List X) → All P (xs ++ ys) → All P ys
All-behind P [] ys all = all
All-behind P (x ∷ xs) ys all = All-behind P xs ys (All-tail P x (xs ++ ys) all)

module _ (w : World) (e : Evidence) (i s : ℕ) where
  -- what is tried at each place is tried in order
  pub tried-in-order : (ts : List TargetFile) (rs : List (Result Plan PlanFault)) → length rs ≡ length ts → ((k : ℕ) (r : Result Plan PlanFault) → slice_get rs k ≡ Some r → TriedAt w e i s ts k r) → AreTried w e i s (map number ts) rs
  tried-in-order [] [] many each = tt
  tried-in-order [] (r ∷ rs) many each = absurd (omega (arith, many))
  tried-in-order (t ∷ ts) [] many each = absurd (omega (arith, many))
  tried-in-order (t ∷ ts) (r ∷ rs) many each = (each 0 r refl t refl, tried-in-order ts rs (omega (arith, many)) (λ k x is. each (suc k) x is))

  -- what was tried of a part, and is not taken yet
  pub record AreLeft (whole : List ℕ) (plans : List Plan) (rs : List (Result Plan PlanFault)) : Type 0 where
    pub left : List ℕ
    pub tried : AreTried w e i s left rs
    pub numbers : map of_plan plans ++ left ≡ whole
    pub planned : All (IsPlanned w e i s) plans

  -- a plan is taken
  pub next-left : (whole : List ℕ) (plans new : List Plan) (r : Result Plan PlanFault) (rest : List (Result Plan PlanFault)) (p : Plan) → AreLeft whole plans (r ∷ rest) → r ≡ Ok p → new ≡ plans ++ p ∷ [] → AreLeft whole new rest
  next-left whole plans new r rest p is ok longer = by is.left is.tried is.numbers
    where
      by : (left : List ℕ) → AreTried w e i s left (r ∷ rest) → map of_plan plans ++ left ≡ whole → AreLeft whole new rest
      by [] tried numbers = absurd tried
      by (n ∷ ns) tried numbers =
          let one : IsTried w e i s n (Ok p) = subst (IsTried w e i s n) ok tried.0 in
          let same : p.number ≡ n = one.number in
          record {
            left = ns;
            tried = tried.1;
            numbers =
                ap (λ (ps : List Plan). map of_plan ps ++ ns) longer
                ∙ ap (λ (ms : List ℕ). ms ++ ns) (map-append of_plan plans (p ∷ []))
                ∙ append_assoc (map of_plan plans) (p.number ∷ []) ns
                ∙ ap (λ (m : ℕ). map of_plan plans ++ m ∷ ns) same
                ∙ numbers;
            planned = All-same (IsPlanned w e i s) new (plans ++ p ∷ []) longer (All-push (IsPlanned w e i s) plans p is.planned one.planned);
          }

  -- the first fault of a part is that of all
  pub fault-left : (whole : List ℕ) (plans : List Plan) (r : Result Plan PlanFault) (rest : List (Result Plan PlanFault)) (x : PlanFault) → AreLeft whole plans (r ∷ rest) → r ≡ Err x → AreFirst w i s whole → IsFaultOfAll w e i s x
  fault-left whole plans r rest x is err first = by is.left is.tried is.numbers
    where
      by : (left : List ℕ) → AreTried w e i s left (r ∷ rest) → map of_plan plans ++ left ≡ whole → IsFaultOfAll w e i s x
      by [] tried numbers = absurd tried
      by (n ∷ ns) tried numbers =
          let one : IsTried w e i s n (Err x) = subst (IsTried w e i s n) err tried.0 in
          let split : whole ++ first.0 ≡ map of_plan plans ++ n ∷ (ns ++ first.0) = ap (λ (ms : List ℕ). ms ++ first.0) (sym numbers) ∙ append_assoc (map of_plan plans) (n ∷ ns) first.0 in
          first-fault w e i s (map of_plan plans) n (ns ++ first.0) (subst (AreExactly (IsFileTarget w i s)) split first.1) plans (record { numbers = refl; each = is.planned }) x one.gap

  -- none is left
  pub none-left : (whole : List ℕ) (plans : List Plan) (rs : List (Result Plan PlanFault)) → AreLeft whole plans rs → length rs ≡ 0 → map of_plan plans ≡ whole
  none-left whole plans rs is none =
      let gone : is.left ≡ [] = nil_from_length is.left (omega (arith, none, AllZip-long (IsTried w e i s) is.left rs is.tried)) in
      sym (append-nil (map of_plan plans)) ∙ ap (λ (ns : List ℕ). map of_plan plans ++ ns) (sym gone) ∙ is.numbers

  -- the plans of the first parts, and the datafiles behind them
  pub record IsPartWay (all left : List TargetFile) (plans : List Plan) : Type 0 where
    pub numbers : map of_plan plans ++ map number left ≡ map number all
    pub planned : All (IsPlanned w e i s) plans
    pub each : All (IsTargetFile w i s) left

  pub at-start : (all left : List TargetFile) (plans : List Plan) → plans ≡ [] → left ≡ all → All (IsTargetFile w i s) all → IsPartWay all left plans
  at-start all left plans none same each = record {
    numbers = ap (λ (ps : List Plan). map of_plan ps ++ map number left) none ∙ ap (map number) same;
    planned = All-same (IsPlanned w e i s) plans [] none (All-nil (IsPlanned w e i s));
    each = All-same (IsTargetFile w i s) left all same each;
  }

  module _ (all part rest : List TargetFile) (plans : List Plan) (is : IsPartWay all (part ++ rest) plans) where
    pub part-each : All (IsTargetFile w i s) part
    part-each = All-front (IsTargetFile w i s) part rest is.each

    joined : (map of_plan plans ++ map number part) ++ map number rest ≡ map number all
    joined = append_assoc (map of_plan plans) (map number part) (map number rest) ∙ ap (λ (ms : List ℕ). map of_plan plans ++ ms) (sym (map-append number part rest)) ∙ is.numbers

    pub part-first : AreExactly (IsFileTarget w i s) (map number all) → AreFirst w i s (map of_plan plans ++ map number part)
    part-first exact = (map number rest, subst (AreExactly (IsFileTarget w i s)) (sym joined) exact)

    pub part-next : (new : List Plan) → map of_plan new ≡ map of_plan plans ++ map number part → All (IsPlanned w e i s) new → IsPartWay all rest new
    part-next new numbers planned = record {
      numbers = ap (λ (ms : List ℕ). ms ++ map number rest) numbers ∙ joined;
      planned = planned;
      each = All-behind (IsTargetFile w i s) part rest is.each;
    }

  pub at-end : (all left : List TargetFile) (plans : List Plan) → IsPartWay all left plans → length left ≡ 0 → ArePlanned w e i s (map number all) plans
  at-end all left plans is none = record {
    numbers = sym (append-nil (map of_plan plans)) ∙ ap (λ (ts : List TargetFile). map of_plan plans ++ map number ts) (sym (nil_from_length left none)) ∙ is.numbers;
    each = is.planned;
  }
