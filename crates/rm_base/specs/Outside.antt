-- What a read takes, what a write adds, and when a count rose.
use Rattle.std.specs.{Prelude.{ℕ, ◌+◌, ◌<◌, ◌≡◌, ◌↔◌, ◌^◌, Bool, IsTrue, List, [], ◌++◌, Option, IfSome}, Option.{option_map}}

-- Where the source tells what is left: it was these bytes, and what is left now. One that tells nothing goes on so.
abbrev pub HasTaken : Option (List ℕ) → Option (List ℕ) → List ℕ → Type 0
HasTaken before after bytes = before ≡ option_map (λ left. bytes ++ left) after

-- Where the sink tells what it holds: it is what it held, and these bytes. One that tells nothing goes on so.
abbrev pub Appends : Option (List ℕ) → Option (List ℕ) → List ℕ → Type 0
Appends before after bytes = after ≡ option_map (λ held. held ++ bytes) before

-- the number of bytes taken grows by n, where it stays in its range
abbrev pub Counts : ℕ → ℕ → ℕ → Type 0
Counts before after n = before + n < 2 ^ 64 → after ≡ before + n

-- 0 bytes are the end of input, and then nothing was left
pub record EndsAt (n : ℕ) (left : Option (List ℕ)) (at_end : Bool) : Type 0 where
  pub told : IsTrue at_end ↔ (n ≡ 0)
  pub empty : n ≡ 0 → IfSome left (λ bytes. bytes ≡ [])

-- the count rose
abbrev pub Rose : ℕ → ℕ → Type 0
Rose before now = before < now
