-- What is true of the source and of the target.
use Rattle.std.specs.{Prelude.{nat_lt, ◌||◌}, Option.{option_map_or}}
use Rattle.std.proofs.Common.{◌≡◌, ◌≤◌, ◌∙◌, inl, inr, ℕ, Bool, cond, List, Option, Some, None, refl, sym, ap}
use Rattle.std.proofs.lemmas.{Bool.{cases_lt, lt-ltb, le-ltb}, Option.{none-some}}
use Rattle.rm_base.specs.Numbers.{last_moment}
use Rattle.rm_catalog.specs.{Facts.{BaseRule}, Keys.{base}, Rules.{HasDatabase, IsCatalog}, Switches.{began_with}}
use Rattle.rm_catalog.{specs.declared.record.{BaseEntry.{BaseEntry}, Record.{Record}}, proofs.Current.{has_base}}
use Rattle.rm_catalog_typed.proofs.Told.{base-rule}
use Rattle.rm_dup.specs.Entries.{moment_in}

-- where no range is told, the number is in it
pub within : {P : Type 0} (s a b : ℕ) (p : P) → cond (nat_lt s a || nat_lt b s) (Some p) None ≡ None → (a ≤ s) × (s ≤ b)
within s a b p none = elim (cases_lt s a) [
  | inl low ↦ absurd (none-some p (sym none ∙ ap (λ (t : Bool). cond (t || nat_lt b s) (Some p) None) (lt-ltb s a low)))
  | inr above ↦ elim (cases_lt b s) [
    | inl over ↦ absurd (none-some p (sym none ∙ ap (λ (t : Bool). cond (t || nat_lt b s) (Some p) None) (le-ltb s a above) ∙ ap (λ (t : Bool). cond t (Some p) None) (lt-ltb b s over)))
    | inr upto ↦ (above, upto)
  ]
]

-- and where it is, none is told
pub none-told : {P : Type 0} (s a b : ℕ) (p : P) → a ≤ s → s ≤ b → cond (nat_lt s a || nat_lt b s) (Some p) None ≡ None
none-told s a b p above upto =
    ap (λ (t : Bool). cond (t || nat_lt b s) (Some p) None) (le-ltb s a above) ∙ ap (λ (t : Bool). cond t (Some p) None) (le-ltb b s upto)

-- the number of threads with which it began, and its latest moment
by-base : (rs : List Record) (o : Option BaseEntry) → ¬ (o ≡ None) → ((b : BaseEntry) → o ≡ Some b → BaseRule rs b)
    → ((1 ≤ option_map_or (λ b. b.threads) o 0) × (option_map_or (λ b. b.threads) o 0 ≤ 4)) × (option_map_or (λ b. b.moment) o 0 ≤ last_moment)
by-base rs None some rule = absurd (some refl)
by-base rs (Some b) some rule = let is = rule b refl in (is.threads, is.moment)

pub facts : (rs : List Record) → IsCatalog rs → HasDatabase rs → ((1 ≤ began_with rs) × (began_with rs ≤ 4)) × (moment_in rs ≤ last_moment)
facts rs catalog database = by-base rs (base rs) (has_base rs database) (λ b is. base-rule rs b catalog is)
