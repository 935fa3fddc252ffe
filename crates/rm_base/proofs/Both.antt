-- What is told before and after, from call to call; and what stands under each name where one was put.
use Rattle.std.specs.Str.{bytes_eq}
use Rattle.std.proofs.Common.{◌≡◌, Option, Some, None, subst, refl, ◌≢◌, ℕ, Bool, true, false, cond, List, ap, sym, ◌∙◌, inl, inr}
use Rattle.std.proofs.lemmas.{Bool.{cases_Bool}, Slice.Eq.{bytes_eq-Decides}}
use Rattle.rm_base.specs.Store.{Both, Held, HasNow, SameBut}

pub both-then : {X : Type 0} (R Q S : X → X → Type 0) → ((a b c : X) → R a b → Q b c → S a c) → (x y z : Option X) → Both R x y → Both Q y z → Both S x z
both-then R Q S f None None z r q = q
both-then R Q S f None (Some b) z r q = absurd (cc)
both-then R Q S f (Some a) None z r q = absurd r
both-then R Q S f (Some a) (Some b) None r q = absurd q
both-then R Q S f (Some a) (Some b) (Some c) r q = f a b c r q

pub both-map : {X : Type 0} (R S : X → X → Type 0) → ((a b : X) → R a b → S a b) → (x y : Option X) → Both R x y → Both S x y
both-map R S f None y r = r
both-map R S f (Some a) None r = absurd r
both-map R S f (Some a) (Some b) r = f a b r

-- what is told afterwards, where something was told before
pub both-told : {X : Type 0} (R : X → X → Type 0) (x y : Option X) (a : X) → x ≡ Some a → Both R x y → (b : X) × R a b × (y ≡ Some b)
both-told R None y a e r = absurd (cc)
both-told R (Some b) None a e r = absurd r
both-told R (Some b) (Some d) a e r = let same : b ≡ a = cc in (d, subst (λ v. R v d) same r, refl)

pub both-two : {X : Type 0} (R Q : X → X → Type 0) (x y : Option X) → Both R x y → Both Q x y → Both (λ a b. R a b × Q a b) x y
both-two R Q None y r q = r
both-two R Q (Some a) None r q = absurd r
both-two R Q (Some a) (Some b) r q = (r, q)

pub same-name : (n m : List ℕ) → bytes_eq n m ≡ true → n ≡ m
same-name n m e = (bytes_eq-Decides n m).0 e

pub other-name : (n m : List ℕ) → bytes_eq n m ≡ false → n ≢ m
other-name n m e is = let yes : bytes_eq n m ≡ true = (bytes_eq-Decides n m).1 is in absurd (cc)

pub one-put : (now next : Held) (m n : List ℕ) (v : Option (List ℕ)) → HasNow m v now next → SameBut m now next → next n ≡ cond (bytes_eq n m) v (now n)
one-put now next m n v at others = elim (cases_Bool (bytes_eq n m)) [
  | inl e ↦ ap next (same-name n m e) ∙ at ∙ sym (ap (λ (b : Bool). cond b v (now n)) e)
  | inr e ↦ others n (other-name n m e) ∙ sym (ap (λ (b : Bool). cond b v (now n)) e)
]
