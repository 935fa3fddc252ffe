-- The datafiles of a target, by their numbers.
use Rattle.std.specs.Prelude.{ℕ, ◌≡◌, ◌<◌, ◌↔◌, Option, Some, None, List, Contains, AllPairs}
use Rattle.rm_history.specs.{World.{file_of}, declared.world.{Datafile.{Datafile}, World.{World}}}
use Rattle.rm_plan.specs.Plan.{IsFileTarget}
use Rattle.rm_apply.specs.declared.targets.TargetFile.{TargetFile}

-- the numbers ascend, and are exactly those of which this is true
pub record AreExactly (Is : ℕ → Type 0) (ns : List ℕ) : Type 0 where
  pub ascends : AllPairs (λ m n. m < n) ns
  pub exact : (n : ℕ) → Contains ns n ↔ Is n

-- the number is the one that is named, if one is
abbrev pub IsNamed : Option ℕ → ℕ → Type 0
IsNamed None f = Unit {0}
IsNamed (Some n) f = n ≡ f

-- datafile f exists at (i, s), and is the one that is named, if one is
abbrev pub IsAsked : World → ℕ → ℕ → Option ℕ → ℕ → Type 0
IsAsked w i s only f = IsFileTarget w i s f × IsNamed only f

-- datafile f was created so, and exists at (i, s)
abbrev pub IsCreatedSo : World → ℕ → ℕ → ℕ → Datafile → Type 0
IsCreatedSo w i s f d = (file_of w f ≡ Some d) × IsFileTarget w i s f

-- the same, of a number with its datafile
abbrev pub IsTargetFile : World → ℕ → ℕ → TargetFile → Type 0
IsTargetFile w i s x = IsCreatedSo w i s x.number x.datafile
