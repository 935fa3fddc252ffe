-- Lists that grow by one item, each at its place.
use Rattle.std.proofs.Common.{◌≡◌, ◌∙◌, ◌+◌, inl, inr, ℕ, Bool, List, [], ◌∷◌, ◌++◌, Option, Some, None, IfSome, sym, ap, subst, length, get_or, slice_get}
use Rattle.std.proofs.lemmas.Option.{get_or_from_slice_get, same_Some}
use Rattle.rm_base.{specs.Store.{Held}, proofs.Slots.{get-push}}
use Rattle.rm_blocks.specs.File.{File}
use Rattle.rm_history.specs.declared.world.Datafile.{Datafile}
use Rattle.rm_catalog_typed.specs.{Ledger.{Ledger}, TypedCatalog.{Saved}}
use Rattle.rm_machine.specs.Loading.{IsLoadedFile}
use Rattle.rm_session.specs.Fit.{AllAt, FitsAt, IsFitFile, IsLoadedAt}

-- one item more
pub all-push : {X : Type 0} (P : ℕ → X → Type 0) (xs : List X) (x : X) → AllAt P xs → P (length xs) x → AllAt P (xs ++ x ∷ [])
all-push P xs x all new k y is = elim (get-push xs x y k is) [
  | inl last ↦ let at : P (length xs) y = subst (P (length xs)) last.1 new in subst (λ n. P n y) (sym last.0) at
  | inr front ↦ all k y front
]

pub fits-more : {X : Type 0} (P : ℕ → X → Type 0) (xs after : List X) (x : X) (i : ℕ) → length xs ≡ i → after ≡ xs ++ x ∷ [] → AllAt P xs → P i x → AllAt P after
fits-more P xs after x i many is all new =
    let at : P (length xs) x = subst (λ n. P n x) (sym many) new in
    subst (AllAt P) (sym is) (all-push P xs x all at)

-- and what the store tells of it, where it tells
pub told-more : {X : Type 0} (P : Held → ℕ → X → Type 0) (o before : Option Held) (xs after : List X) (x : X) (i : ℕ) → before ≡ o → length xs ≡ i → after ≡ xs ++ x ∷ [] → IfSome o (λ h. AllAt (P h) xs) → IfSome before (λ h. P h i x) → IfSome o (λ h. AllAt (P h) after)
told-more P None before xs after x i same many is all new = tt
told-more P (Some h) None xs after x i same many is all new = absurd (cc)
told-more P (Some h) (Some g) xs after x i same many is all new =
    let one : g ≡ h = same_Some g h same in
    fits-more (P h) xs after x i many is all (subst (λ q. P q i x) one new)

-- the datafile that was read at a place is the one that stands there
the-datafile : (ds files : List Datafile) (i : ℕ) (a d : Datafile) → ds ≡ files → slice_get files i ≡ Some d → get_or ds i a ≡ d
the-datafile ds files i a d same is = ap (λ xs. get_or xs i a) same ∙ get_or_from_slice_get files i d a is

pub loaded-at : (h : Held) (l : Ledger) (site : Saved) (ds : List Datafile) (i : ℕ) (a : Datafile) (x : Option File) → ds ≡ l.files → IsLoadedFile h l site (i + 1) (get_or ds i a) x → IsLoadedAt h l site i x
loaded-at h l site ds i a x same loaded d is = subst (λ d. IsLoadedFile h l site (i + 1) d x) (the-datafile ds l.files i a d same is) loaded

pub fits-at : (l : Ledger) (opened : Bool) (ds : List Datafile) (i : ℕ) (a : Datafile) (x : Option File) → ds ≡ l.files → IfSome x (IsFitFile l opened (i + 1) (get_or ds i a)) → FitsAt l opened i x
fits-at l opened ds i a x same fit d is = subst (λ d. IfSome x (IsFitFile l opened (i + 1) d)) (the-datafile ds l.files i a d same is) fit
