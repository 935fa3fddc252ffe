-- What stays of a shelf, from call to call.
use Rattle.std.proofs.{Common.{◌≡◌, ◌≢◌, ◌⊎◌, inl, inr, ℕ, Option, Some, None, refl, ap, sym, subst, ◌∙◌}, lemmas.Bool.{cases_eq}}
use Rattle.rm_base.proofs.Both.{both-map, both-then}
use Rattle.rm_shelf.specs.Shelved.{AllStay, IsNoted, OthersStay, Same, SameBut, Shelved, under}

-- where all stay, one number does
pub under-stays : (n : ℕ) (a b : Option Shelved) → AllStay a b → under n b ≡ under n a
under-stays n None None stay = refl
under-stays n None (Some y) stay = absurd (cc)
under-stays n (Some x) None stay = absurd stay
under-stays n (Some x) (Some y) stay = ap Some (stay n)

-- and so do the others
pub others-of : (n : ℕ) (a b : Option Shelved) → AllStay a b → OthersStay n a b
others-of n a b stay = both-map Same (SameBut n) (λ x y same m apart. same m) a b stay

pub all-then : (a b c : Option Shelved) → AllStay a b → AllStay b c → AllStay a c
all-then a b c first then = both-then Same Same Same (λ x y z one two n. two n ∙ one n) a b c first then

pub others-then : (n : ℕ) (a b c : Option Shelved) → AllStay a b → OthersStay n b c → OthersStay n a c
others-then n a b c first then = both-then Same (SameBut n) (SameBut n) (λ x y z one two m apart. two m apart ∙ one m) a b c first then

-- where all stay twice, and then the others
pub others-after : (n : ℕ) (a b c d : Option Shelved) → AllStay a b → AllStay b c → OthersStay n c d → OthersStay n a d
others-after n a b c d first then last = others-then n a c d (all-then a b c first then) last

-- the others stay, and so does the one
pub all-stay : (n : ℕ) (a b : Option Shelved) → OthersStay n a b → under n b ≡ under n a → AllStay a b
all-stay n None b others kept = others
all-stay n (Some x) None others kept = absurd others
all-stay n (Some x) (Some y) others kept = λ m. by-number m (cases_eq m n)
  where
    by-number : (m : ℕ) → (m ≡ n) ⊎ (m ≢ n) → y m ≡ x m
    by-number m (inl is) = let same : Some (y n) ≡ Some (x n) = kept in let one : y n ≡ x n = cc in subst (λ k. y k ≡ x k) (sym is) one
    by-number m (inr apart) = others m apart

-- What is noted of a shelf

all-same : (a : Option Shelved) → AllStay a a
all-same None = refl
all-same (Some x) = λ n. refl

module _ (noted : Option (ℕ × Option Shelved)) (n : ℕ) (old : Option Shelved) (is : noted ≡ Some (n, old)) where
  -- where a number and what is told are noted
  pub noted-first : IsNoted noted n old
  noted-first = subst (λ o. IsNoted o n old) (sym is) (refl, others-of n old old (all-same old))

  -- it is that number, and the others stay
  pub noted-after : (m : ℕ) (now : Option Shelved) → IsNoted noted m now → (m ≡ n) × OthersStay n old now
  noted-after m now kept = subst (λ o. IsNoted o m now) is kept
