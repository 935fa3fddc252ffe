-- Reading as many parts as stand there, one after another.
use Rattle.std.proofs.Common.{◌≡◌, refl, ap, sym, ◌∙◌, arith, ◌<◌, ◌+◌, ◌-◌, ◌++◌, append-nil, append_assoc, ℕ, zero, suc, List, [], ◌∷◌, Option, Some, None, Bool, true, false}
use Rattle.rm_lang_token.specs.declared.token.Token.{Token}
use Rattle.rm_lang_grammar.specs.{Reading.{◌>>=◌, many_at, Fails}, declared.unread.Unread.{Unread, TheVariants.{Other, NoMemory}}}

-- parts in front of those that were read
abbrev pub put_before : {A : Type 0} → List A → Option (List A × List Token) → Option (List A × List Token)
put_before xs o = o >>= λ y. Some (xs ++ y.0, y.1)

pub before_nil : {A : Type 0} (o : Option (List A × List Token)) → put_before [] o ≡ o
before_nil (Some y) = refl
before_nil None = refl

before_more : {A : Type 0} (xs : List A) (x : A) (o : Option (List A × List Token)) → put_before xs (o >>= λ y. Some (x ∷ y.0, y.1)) ≡ put_before (xs ++ x ∷ []) o
before_more {A} xs x (Some y) = ap (λ (zs : List A). Some (zs, y.1)) (sym (append_assoc xs (x ∷ []) y.0))
before_more xs x None = refl

less : (n i : ℕ) → i < n → n - i ≡ suc (n - (i + 1))
less n i l = omega (arith, l)

-- one part more
pub many_step : {A : Type 0} (b : List Token → Bool) (r : List Token → Option (A × List Token)) (n i : ℕ) (ts us : List Token) (xs : List A) (x : A) → i < n → b ts ≡ true → r ts ≡ Some (x, us)
    → put_before xs (many_at b r (n - i) ts) ≡ put_before (xs ++ x ∷ []) (many_at b r (n - (i + 1)) us)
many_step b r n i ts us xs x l e h = rw (less n i l) (rw e (rw h (before_more xs x (many_at b r (n - (i + 1)) us))))

-- a part that is not read
pub many_fails : {A : Type 0} (b : List Token → Bool) (r : List Token → Option (A × List Token)) (n i : ℕ) (ts : List Token) (xs : List A) → i < n → b ts ≡ true → r ts ≡ None
    → put_before xs (many_at b r (n - i) ts) ≡ None
many_fails b r n i ts xs l e h = rw (less n i l) (rw e (rw h refl))

-- no part more
pub many_stops : {A : Type 0} (b : List Token → Bool) (r : List Token → Option (A × List Token)) (m : ℕ) (ts : List Token) (xs : List A) → b ts ≡ false → put_before xs (many_at b r m ts) ≡ Some (xs, ts)
many_stops {A} b r zero ts xs e = rw e (ap (λ (zs : List A). Some (zs, ts)) (append-nil xs))
many_stops {A} b r (suc m) ts xs e = rw e (ap (λ (zs : List A). Some (zs, ts)) (append-nil xs))

-- more parts than tokens
pub many_ends : {A : Type 0} (b : List Token → Bool) (r : List Token → Option (A × List Token)) (m : ℕ) (ts : List Token) (xs : List A) → m ≡ 0 → b ts ≡ true → put_before xs (many_at b r m ts) ≡ None
many_ends b r m ts xs z e = rw z (rw e refl)

-- a part that is not read leaves nothing read, unless memory ran out
pub many_err : {A : Type 0} (b : List Token → Bool) (r : List Token → Option (A × List Token)) (n i : ℕ) (ts : List Token) (xs : List A) (e : Unread) (all : Option (List A × List Token))
    → i < n → b ts ≡ true → Fails e (r ts) → put_before xs (many_at b r (n - i) ts) ≡ all → Fails e all
many_err b r n i ts xs Other all l t f h = sym h ∙ many_fails b r n i ts xs l t f
many_err b r n i ts xs NoMemory all l t f h = tt

-- nothing is read yet
pub many_first : {A : Type 0} (b : List Token → Bool) (r : List Token → Option (A × List Token)) (n : ℕ) (ts : List Token) → put_before [] (many_at b r (n - 0) ts) ≡ many_at b r n ts
many_first b r n ts = let all : n - 0 ≡ n = omega arith in rw all (before_nil (many_at b r n ts))
