-- Where an object of an id stands among those that ascend by id, or would stand.
use Rattle.std.specs.{Prelude.{◌≡◌, ◌==◌, ◌<◌, ◌≤◌, ℕ, List, None, find, length, slice_get, slice_set}, List.{insert, remove}}
use Rattle.rm_catalog_typed.specs.Changes.{with_one, without_one}

-- the one of id n stands at place i
pub record IsAt {A : Type 0} (id : A → ℕ) (n : ℕ) (xs : List A) (i : ℕ) : Type 0 where
  pub inside : i < length xs
  pub set : (x : A) → id x ≡ n → slice_set xs i x ≡ with_one id x xs
  pub gone : remove xs i ≡ without_one id n xs
  pub found : find (λ x. id x == n) xs ≡ slice_get xs i

-- none has id n, and one of this id would stand at place i
pub record IsGap {A : Type 0} (id : A → ℕ) (n : ℕ) (xs : List A) (i : ℕ) : Type 0 where
  pub inside : i ≤ length xs
  pub put : (x : A) → id x ≡ n → insert xs i x ≡ with_one id x xs
  pub none : xs ≡ without_one id n xs
  pub missing : find (λ x. id x == n) xs ≡ None
