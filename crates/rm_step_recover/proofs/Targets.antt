-- A target that is not refused lies in its incarnation.
use Rattle.std.specs.Option.{option_map}
use Rattle.std.proofs.Common.{◌≡◌, ◌<◌, ◌≤◌, ◌==◌, ◌||◌, ℕ, Bool, true, false, Option, Some, None, if◌then◌else◌, length, rules, refl, ap, nat_lt}
use Rattle.rm_apply.specs.Recover.{outside}
use Rattle.rm_base.specs.declared.refusal.Refusal.TheVariants.{Rm06, Rm07}
use Rattle.rm_history.specs.Tree.{IsThere}
use Rattle.rm_lang_statement.specs.declared.command.Until.TheVariants.{Scn}
use Rattle.rm_machine.specs.{RecoverTest.{is_no_incarnation, test_refusal, tested}, Recovery.{range_refusal}, State.{tree}}
use Rattle.rm_machine.specs.declared.state.State.{State}

-- the incarnation is there, and the target in its range
by-target : (i at : ℕ) (b : Bool) (o : Option (ℕ × ℕ)) → (if b then Some (Rm07 i) else option_map (λ (y : ℕ × ℕ). Rm06 at y.0 y.1) o) ≡ None → (b ≡ false) × (o ≡ None)
by-target i at true o is = absurd (cc)
by-target i at false None is = (refl, refl)
by-target i at false (Some y) is = absurd (cc)

is-there : (i n : ℕ) → ((i == 0) || nat_lt n i) ≡ false → (0 < i) × (i ≤ n)
is-there i n is = search rules

module _ (s : State) (at : ℕ) (inc : Option ℕ) (none : test_refusal s (Some (Scn at)) inc ≡ None) where
  both : (is_no_incarnation s (tested s inc) ≡ false) × (outside (tree s) (tested s inc) at ≡ None)
  both = by-target (tested s inc) at (is_no_incarnation s (tested s inc)) (outside (tree s) (tested s inc) at) none

  pub target-there : IsThere (tree s) (tested s inc)
  target-there = is-there (tested s inc) (length (tree s)) both.0

  pub target-inside : outside (tree s) (tested s inc) at ≡ None
  target-inside = both.1

  pub target-range : range_refusal (tree s) (tested s inc) at ≡ None
  target-range = ap (option_map (λ (y : ℕ × ℕ). Rm06 at y.0 y.1)) both.1
