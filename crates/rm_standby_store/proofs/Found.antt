-- The standby that is found, name by name.
use Rattle.std.specs.Prelude.{Contains, IfSome, is_some}
use Rattle.std.proofs.Common.{◌≡◌, ◌∙◌, ◌+◌, ◌++◌, ◌<◌, ◌∷◌, [], ℕ, true, false, List, Option, Some, None, inl, inr, ap, sym, subst, arith, get_or, length, take}
use Rattle.std.proofs.lemmas.Option.{same_Some}
use Rattle.rm_base.{specs.Store.{AreTheNames, Held}, proofs.{Lists.{front_or_end, take_more}, Members.{none-in}}}
use Rattle.rm_piece.{specs.{SetSpelling.{set_spelling}, declared.set.Set.{Set}}, proofs.SetFitting.{spelling_same}}
use Rattle.rm_standby_store.specs.Names.{standby_name, IsAmong, IsBelow, IsNumbered, IsStandby, SpellsSet, StandsAs}
use Rattle.rm_standby_store.proofs.Naming.{name-apart}
use Rattle.rm_standby.specs.Standby.{is_standby}

-- what is found where one name more is looked at
abbrev pub Goes : Held → List ℕ → Option (ℕ × Set) → Option (ℕ × Set) → Type 0
Goes held name best found = (names : List (List ℕ)) → IsAmong held names best → IsAmong held (names ++ name ∷ []) found

-- no standby of the name has a number above that of the best one
abbrev pub IsPassed : Held → List ℕ → Option (ℕ × Set) → Type 0
IsPassed held name best = (k : ℕ) (s : Set) → IsBelow best k → name ≡ standby_name k → ¬ StandsAs held k s

pub passed : (held : Held) (name : List ℕ) (best : Option (ℕ × Set)) → IsPassed held name best → Goes held name best best
passed held name None none names among = λ k s has stands. elim (front_or_end names name (standby_name k) has) [
  | inl front ↦ among k s front stands
  | inr is ↦ none k s tt is stands
]
passed held name (Some x) none names among = (
  among.0,
  λ k s above has stands. elim (front_or_end names name (standby_name k) has) [
    | inl front ↦ among.1 k s above front stands
    | inr is ↦ none k s above is stands
  ],
)

-- a name of no standby
pub no-number : (held : Held) (name : List ℕ) (best : Option (ℕ × Set)) → ((k : ℕ) → ¬ IsNumbered name k) → Goes held name best best
no-number held name best none = passed held name best (λ k s below is stands. none k (record { number = stands.number; is = is }))

-- of a standby that is not above the best one
pub not-above : (held : Held) (name : List ℕ) (n : ℕ) (best : Option (ℕ × Set)) → IsNumbered name n → ¬ IsBelow best n → Goes held name best best
not-above held name n best of low = passed held name best (λ k s below is stands.
    low (subst (IsBelow best) (name-apart k n (omega (arith, stands.number.1)) (omega (arith, of.number.1)) (sym is ∙ of.is)) below))

-- with no object, or one that spells no set
pub no-set : (held : Held) (name : List ℕ) (best : Option (ℕ × Set)) → SpellsSet held name None → Goes held name best best
no-set held name best none = passed held name best (λ k s below is stands. none s stands.spelled.0 (ap held is ∙ stands.spelled.1))

-- two sets that the object of a name spells are one
one-set : (held : Held) (name : List ℕ) (s t : Set) → SpellsSet held name (Some s) → SpellsSet held name (Some t) → s ≡ t
one-set held name s t a b = spelling_same s t a.0 b.0 (same_Some (set_spelling s) (set_spelling t) (sym a.1 ∙ b.1))

-- or one that is no standby
pub other-set : (held : Held) (name : List ℕ) (best : Option (ℕ × Set)) (t : Set) → SpellsSet held name (Some t) → is_standby t ≡ false → Goes held name best best
other-set held name best t spelled other = passed held name best (λ k s below is stands.
    let same : s ≡ t = one-set held name s t (subst (λ (n : List ℕ). SpellsSet held n (Some s)) (sym is) stands.spelled) spelled in
    absurd (let clash = sym stands.standby ∙ ap is_standby same ∙ other in cc))

-- a standby above the best one
pub found-above : (held : Held) (name : List ℕ) (n : ℕ) (best : Option (ℕ × Set)) (s : Set) → IsNumbered name n → IsBelow best n → SpellsSet held name (Some s) → is_standby s ≡ true → Goes held name best (Some (n, s))
found-above held name n best s of below spelled standby names among = (
  record { number = of.number; spelled = subst (λ (m : List ℕ). SpellsSet held m (Some s)) of.is spelled; standby = standby },
  λ k t above has stands. elim (front_or_end names name (standby_name k) has) [
    | inl front ↦ still best below among k t above front stands
    | inr is ↦ let same = name-apart k n (omega (arith, stands.number.1)) (omega (arith, of.number.1)) (sym is ∙ of.is) in absurd (omega (arith, same, above))
  ],
)
  where
    still : (best : Option (ℕ × Set)) → IsBelow best n → IsAmong held names best → (k : ℕ) (t : Set) → n < k → Contains names (standby_name k) → ¬ StandsAs held k t
    still None below among k t above = among k t
    still (Some x) below among k t above = among.1 k t (omega (arith, below, above))

-- of all names that have something it is the standby
pub among-all : (held : Held) (names : List (List ℕ)) (found : Option (ℕ × Set)) → AreTheNames names held → IsAmong held names found → IsStandby held found
among-all held names None all among = λ k s stands. among k s ((all (standby_name k)).1 (ap is_some stands.spelled.1)) stands
among-all held names (Some x) all among = (among.0, λ k s above stands. among.1 k s above ((all (standby_name k)).1 (ap is_some stands.spelled.1)) stands)

-- whatever the store tells
pub whatever : (o : Option Held) (P : Held → Type 0) → ((held : Held) → P held) → IfSome o P
whatever None P all = tt
whatever (Some held) P all = all held

-- by what the store tells: one name more
pub one-more : (o p : Option Held) (names : List (List ℕ)) (k : ℕ) (x name : List ℕ) (best found : Option (ℕ × Set)) → p ≡ o → k < length names → x ≡ get_or names k x → name ≡ x
    → IfSome o (λ held. IsAmong held (take k names) best) → IfSome p (λ held. Goes held name best found) → IfSome o (λ held. IsAmong held (take (k + 1) names) found)
one-more None p names k x name best found same inside is item among goes = tt
one-more (Some held) p names k x name best found same inside is item among goes =
    let step : Goes held name best found = coe 0 1 (i. IfSome (same i) (λ (h : Held). Goes h name best found)) goes in
    let more : take k names ++ name ∷ [] ≡ take (k + 1) names = ap (λ (n : List ℕ). take k names ++ n ∷ []) item ∙ sym (take_more names k x inside is) in
    subst (λ (ns : List (List ℕ)). IsAmong held ns found) more (step (take k names) among)

-- and all of them
pub all-told : (o : Option Held) (names : List (List ℕ)) (k : ℕ) (found : Option (ℕ × Set)) → take k names ≡ names → IfSome o (AreTheNames names) → IfSome o (λ held. IsAmong held (take k names) found) → IfSome o (λ held. IsStandby held found)
all-told None names k found all are among = tt
all-told (Some held) names k found all are among = among-all held names found are (subst (λ (ns : List (List ℕ)). IsAmong held ns found) all among)

-- before any name none is found
pub none-yet : (o : Option Held) → IfSome o (λ held. IsAmong held [] None)
none-yet None = tt
none-yet (Some held) = λ k s has stands. none-in (standby_name k) has
