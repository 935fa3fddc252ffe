-- How far a list of puts came.
use Rattle.std.specs.Str.{bytes_eq}
use Rattle.std.proofs.Common.{◌≡◌, ℕ, ◌+◌, ◌<◌, ◌++◌, false, cond, List, [], ◌∷◌, length, get_or, take, Option, refl, ap, sym, subst, ◌∙◌}
use Rattle.std.proofs.Math.Seq.{take-length}
use Rattle.rm_base.{specs.Store.{Held, Both, HasNow, SameBut}, proofs.Lists.{take_more}}
use Rattle.rm_base.proofs.Both.{both-map, both-then, both-two, one-put, other-name}
use Rattle.rm_commit.specs.{Names.{HasAll, HasPuts, after_all, bytes_of, is_named, name_of}, Carrying.{PutsFront}}
use Rattle.rm_commit.{specs.declared.commit.Object.{Object}, proofs.Named.{head-of, left-false}}

-- one item behind the others
after-more : {X : Type 0} (name : X → List ℕ) (value : X → Option (List ℕ)) (xs : List X) (x : X) (n : List ℕ) (o : Option (List ℕ))
    → after_all name value (xs ++ x ∷ []) n o ≡ cond (bytes_eq n (name x)) (value x) (after_all name value xs n o)
after-more name value [] x n o = refl
after-more name value (y ∷ ys) x n o = after-more name value ys x n (cond (bytes_eq n (name y)) (value y) o)

more-put : {X : Type 0} (name : X → List ℕ) (value : X → Option (List ℕ)) (xs : List X) (i : ℕ) (x : X) (before now next : Held)
    → i < length xs → x ≡ get_or xs i x → HasAll name value (take i xs) before now → HasNow (name x) (value x) now next → SameBut (name x) now next
    → HasAll name value (take (i + 1) xs) before next
more-put {X = X} name value xs i x before now next within is far at others n =
    one-put now next (name x) n (value x) at others
    ∙ ap (λ (o : Option (List ℕ)). cond (bytes_eq n (name x)) (value x) o) (far n)
    ∙ sym (after-more name value (take i xs) x n (before n))
    ∙ ap (λ (ys : List X). after_all name value ys n (before n)) (sym (take_more xs i x within is))

-- one object more was put
pub more-puts : (xs : List Object) (i : ℕ) (it : Object) (x y z : Option Held)
    → i < length xs → it ≡ get_or xs i it → Both (HasPuts (take i xs)) x y → Both (HasNow (name_of it) (bytes_of it)) y z → Both (SameBut (name_of it)) y z
    → Both (HasPuts (take (i + 1) xs)) x z
more-puts xs i it x y z within is far at others =
    both-then (HasPuts (take i xs)) (λ b c. HasNow (name_of it) (bytes_of it) b c × SameBut (name_of it) b c) (HasPuts (take (i + 1) xs))
    (λ a b c put now. more-put name_of bytes_of xs i it a b c within is put now.0 now.1) x y z far (both-two (HasNow (name_of it) (bytes_of it)) (SameBut (name_of it)) y z at others)

front-at : (xs : List Object) (i : ℕ) (it : Object) (before now next : Held)
    → i < length xs → it ≡ get_or xs i it → HasPuts (take i xs) before now → SameBut (name_of it) now next → PutsFront xs before next
front-at xs i it before now next within is far others = record {
  many = i;
  put = now;
  puts = far;
  next = λ n free.
      let none : is_named name_of (it ∷ []) n ≡ false = sym (ap (λ (ys : List Object). is_named name_of (take 1 ys) n) (head-of xs i it within is)) ∙ free in
      others n (other-name n (name_of it) (left-false (bytes_eq n (name_of it)) false none));
}

-- the next object failed
pub stops-at : (xs : List Object) (i : ℕ) (it : Object) (x y z : Option Held)
    → i < length xs → it ≡ get_or xs i it → Both (HasPuts (take i xs)) x y → Both (SameBut (name_of it)) y z → Both (PutsFront xs) x z
stops-at xs i it x y z within is far others =
    both-then (HasPuts (take i xs)) (SameBut (name_of it)) (PutsFront xs) (λ a b c. front-at xs i it a b c within is) x y z far others

-- all were put
pub front-of-all : (xs : List Object) (x y : Option Held) → Both (HasPuts xs) x y → Both (PutsFront xs) x y
front-of-all xs x y all = both-map (HasPuts xs) (PutsFront xs)
    (λ a b put. record { many = length xs; put = b; puts = subst (λ (ys : List Object). HasPuts ys a b) (sym (take-length xs)) put; next = λ n free. refl }) x y all
