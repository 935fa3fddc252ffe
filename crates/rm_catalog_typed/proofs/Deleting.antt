-- A record goes, and those of other ids are left.
use Rattle.std.proofs.{Common.{◌≢◌, nat_lt, inl, inr, ℕ, List, arith, Contains}, lemmas.Bool.{cases_lt, lt-ltb}}
use Rattle.std.proofs.lemmas.List.Elements.{Contains-append_left, Contains-append_right}
use Rattle.rm_base.proofs.Lists.{filter_to}
use Rattle.rm_catalog_typed.specs.Changes.{higher, lower, without_one}

module _ {A : Type 0} (id : A → ℕ) (n : ℕ) (xs : List A) (x : A) where
  -- and what has another id is left
  pub stays-one : Contains xs x → id x ≢ n → Contains (without_one id n xs) x
  stays-one has other = elim (cases_lt (id x) n) [
    | inl below ↦ Contains-append_left (lower id n xs) (higher id n xs) x (filter_to (λ y. nat_lt (id y) n) xs x has (lt-ltb (id x) n below))
    | inr above ↦ Contains-append_right (lower id n xs) (higher id n xs) x (filter_to (λ y. nat_lt n (id y)) xs x has (lt-ltb n (id x) (grind (arith, above, other))))
  ]
