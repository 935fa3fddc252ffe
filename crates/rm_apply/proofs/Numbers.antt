-- Numbers that are exactly those that are wanted, one after the other.
use Rattle.std.proofs.Common.{◌≡◌, ◌<◌, ◌≤◌, ◌+◌, ◌∙◌, inl, inr, ℕ, List, [], ◌∷◌, ◌++◌, Option, None, Contains, get_or, length, map, take, ap, sym, subst, arith}
use Rattle.std.proofs.lemmas.{Bool.{cases_lt}, List.{map-append, take_more, Elements.{Contains-get_or}, Quantifiers.{all_pairs_push}}}
use Rattle.rm_base.proofs.Lists.{at_end, few-between, front_or_end, in_front_part}
use Rattle.rm_catalog.specs.{Rules.{IsCatalog}, declared.record.Record.{Record}}
use Rattle.rm_evidence.{specs.Database.{world_of}, proofs.Current.{file_number}}
use Rattle.rm_history.specs.declared.world.World.{World}
use Rattle.rm_plan.specs.Plan.{IsFileTarget}
use Rattle.rm_apply.specs.{Files.{AreExactly, IsAsked}, declared.targets.TargetFile.{TargetFile}}

abbrev pub number : TargetFile → ℕ
number t = t.number

-- what stands past the end of a list
abbrev pub no_file : TargetFile
no_file = record { number = 0; datafile = record { inc = 0; creation = 0; blocks = 0 } }

-- the numbers of the first k + 1 datafiles
pub numbers_more : (ts : List TargetFile) (k : ℕ) → k < length ts → map number (take (k + 1) ts) ≡ map number (take k ts) ++ (get_or ts k no_file).number ∷ []
numbers_more ts k inside = ap (λ (xs : List TargetFile). map number xs) (take_more ts k no_file inside) ∙ map-append number (take k ts) (get_or ts k no_file ∷ [])

-- a number below n that is wanted
abbrev pub Below : (ℕ → Type 0) → ℕ → ℕ → Type 0
Below W n f = (f < n) × W f

module _ (W : ℕ → Type 0) (n : ℕ) where
  -- the next number is not wanted
  pub one_past : (ns : List ℕ) → AreExactly (Below W n) ns → ¬ W n → AreExactly (Below W (n + 1)) ns
  one_past ns are not_wanted = record {
    ascends = are.ascends;
    exact = λ f. (
      (λ has. let old = (are.exact f).0 has in let less = old.0 in (omega (arith, less), old.1)),
      (λ wanted. elim (cases_lt f n) [
        | inl less ↦ (are.exact f).1 (less, wanted.1)
        | inr ge ↦ let less = wanted.0 in let is : f ≡ n = omega (arith, less, ge) in absurd (not_wanted (subst W is wanted.1))
      ]),
    );
  }

  -- it is, and comes to the list
  pub one_more : (ns : List ℕ) → AreExactly (Below W n) ns → W n → AreExactly (Below W (n + 1)) (ns ++ n ∷ [])
  one_more ns are wanted = record {
    ascends = all_pairs_push (λ (a b : ℕ). a < b) ns n are.ascends (λ k d inside. ((are.exact (get_or ns k d)).0 (Contains-get_or ns k d inside)).0);
    exact = λ f. (
      (λ has. elim (front_or_end ns n f has) [
        | inl front ↦ let old = (are.exact f).0 front in let less = old.0 in (omega (arith, less), old.1)
        | inr last ↦ (omega (arith, last), subst W last wanted)
      ]),
      (λ want. elim (cases_lt f n) [
        | inl less ↦ in_front_part ns n f ((are.exact f).1 (less, want.1))
        | inr ge ↦ let less = want.0 in let is : n ≡ f = omega (arith, less, ge) in subst (Contains (ns ++ n ∷ [])) is (at_end ns n)
      ]),
    );
  }

  -- none from n on is wanted
  pub all_numbers : (ns : List ℕ) → ((f : ℕ) → W f → f < n) → AreExactly (Below W n) ns → AreExactly W ns
  all_numbers ns most are = record {
    ascends = are.ascends;
    exact = λ f. ((λ has. ((are.exact f).0 has).1), (λ wanted. (are.exact f).1 (most f wanted, wanted)));
  }

module _ (w : World) (i s : ℕ) where
  -- where none is named, all that exist are wanted
  pub unnamed : (ts us : List TargetFile) → us ≡ ts → AreExactly (IsAsked w i s None) (map number ts) → AreExactly (IsFileTarget w i s) (map number us)
  unnamed ts us same are = subst (λ xs. AreExactly (IsFileTarget w i s) (map number xs)) (sym same) (record {
    ascends = are.ascends;
    exact = λ f. ((λ has. ((are.exact f).0 has).0), (λ target. (are.exact f).1 (target, tt)));
  })

-- none has a greater number than 64
pub asked_below : (rs : List Record) (i s n : ℕ) (only : Option ℕ) → IsCatalog rs → 64 < n → (f : ℕ) → IsAsked (world_of rs) i s only f → f < n
asked_below rs i s n only catalog past f wanted = let most = (file_number rs f wanted.0.datafile catalog wanted.0.is).1 in omega (arith, most, past)

-- datafiles of a catalog are at most 64
pub few-targets : (rs : List Record) (i s : ℕ) (ns : List ℕ) → IsCatalog rs → AreExactly (IsFileTarget (world_of rs) i s) ns → length ns ≤ 64
few-targets rs i s ns catalog are = few-between (λ (m : ℕ). m) ns 1 64 are.ascends (λ m has.
    let target = (are.exact m).0 has in
    let number = file_number rs m target.datafile catalog target.is in
    (number.0, (let most = number.1 in omega (arith, most))))
