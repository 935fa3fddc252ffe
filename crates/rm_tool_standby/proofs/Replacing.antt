-- What is left of a standby's store where a new standby takes the place of that of before.
use Rattle.std.specs.{Prelude.{IsSome, OnErr, Ok, Err, Result}, Option.{option_map}}
use Rattle.std.proofs.Common.{◌≡◌, ◌≢◌, ◌+◌, ◌∙◌, ℕ, List, Option, Some, None, IfSome, refl, arith}
use Rattle.rm_base.{specs.Store.{Both, HasNow, Held, SameBut}, proofs.Both.{both-map, both-then, both-two}}
use Rattle.rm_piece.specs.{SetSpelling.{set_spelling}, declared.set.Set.{Set}}
use Rattle.rm_standby_store.{specs.Names.{standby_name}, proofs.Naming.{name-apart}}
use Rattle.rm_tool_standby.specs.Kept.{IsGone, IsNoneOf, OthersAre, Replaced, Replaces, StoppedIn, Stops, in_put, in_remove, next_number}
use Rattle.rm_tool_standby.{specs.Refused.{number_refusal}, proofs.Stopped.{next-fits}}

-- the name of the standby that was found
abbrev old_of : Option (ℕ × Set) → Option (List ℕ)
old_of found = option_map (λ x. standby_name x.0) found

-- the next name is another one
next-apart : (found : Option (ℕ × Set)) → number_refusal found ≡ None → IfSome (old_of found) (λ m. standby_name (next_number found) ≢ m)
next-apart None left = tt
next-apart (Some x) left = λ same.
    let fits = (next-fits (Some x) left).1 in
    let is : x.0 + 1 ≡ x.0 = name-apart (x.0 + 1) x.0 (omega (arith, fits)) (omega (arith, fits)) same in absurd (omega (arith, is))

none-of : (found : Option (ℕ × Set)) (n : List ℕ) → IsNoneOf found n → IfSome (old_of found) (λ m. n ≢ m)
none-of None n apart = tt
none-of (Some x) n apart = apart

gone-of : (found : Option (ℕ × Set)) (after : Held) → IfSome (old_of found) (λ n. after n ≡ None) → IfSome found (λ x. after (standby_name x.0) ≡ None)
gone-of None after gone = tt
gone-of (Some x) after gone = gone

module _ (found : Option (ℕ × Set)) (new : Set) (fits : number_refusal found ≡ None) where
  abbrev name : List ℕ
  name = standby_name (next_number found)

  -- put, and then gone
  pub replaced : (a b d : Option Held) → Both (HasNow name (Some (set_spelling new))) a b → Both (SameBut name) a b → Both (IsGone (old_of found)) b d → Both (OthersAre (old_of found)) b d
      → Replaces found new a d
  replaced a b d stands others gone left =
      both-then (λ x y. HasNow name (Some (set_spelling new)) x y × SameBut name x y) (λ y z. IsGone (old_of found) y z × OthersAre (old_of found) y z) (Replaced found new)
      (λ x y z put removed. record {
        stands = removed.1 name (next-apart found fits) ∙ put.0;
        gone = gone-of found z removed.0;
        others = λ n not_new not_old. removed.1 n (none-of found n not_old) ∙ put.1 n not_new;
      })
      a b d (both-two (HasNow name (Some (set_spelling new))) (SameBut name) a b stands others) (both-two (IsGone (old_of found)) (OthersAre (old_of found)) b d gone left)

  -- stopped in the put
  pub stopped-put : (a b : Option Held) → Both (SameBut name) a b → Stops found new a b
  stopped-put a b others = both-map (SameBut name) (StoppedIn found new) (λ x y same. in_put same) a b others

-- stopped in the removal of the one of before
pub stopped-remove : (found : Option (ℕ × Set)) (new : Set) → number_refusal found ≡ None → (a b d : Option Held) → Both (HasNow (standby_name (next_number found)) (Some (set_spelling new))) a b
    → Both (SameBut (standby_name (next_number found))) a b → IsSome (old_of found) → Both (OthersAre (old_of found)) b d → Stops found new a d
stopped-remove None new fits a b d stands others some left = absurd (cc)
stopped-remove (Some x) new fits a b d stands others some left =
    let next = standby_name (x.0 + 1) in
    both-then (λ y z. HasNow next (Some (set_spelling new)) y z × SameBut next y z) (OthersAre (Some (standby_name x.0))) (StoppedIn (Some x) new)
    (λ y z w put kept. in_remove x.0 x.1 refl (kept next (next-apart (Some x) fits) ∙ put.0) (λ n not_new not_old. kept n not_old ∙ put.1 n not_new))
    a b d (both-two (HasNow next (Some (set_spelling new))) (SameBut next) a b stands others) left

-- what is so is so where it is an error
pub always-err : {T E : Type 0} (P : Type 0) (r : Result T E) → P → OnErr r P
always-err P (Ok x) p = tt
always-err P (Err e) p = p
