-- What stands under a name spells one artefact, or it is bad for one reason.
use Rattle.std.{specs.Prelude.{Ok, Err}, proofs.Common.{◌≡◌, ◌∙◌, ℕ, List, Option, Some, None, refl, sym, subst}}
use Rattle.std.proofs.lemmas.Option.{same_Some}
use Rattle.rm_base.specs.declared.kinds.Bad.{Bad, TheVariants.{Missing, Damaged}}
use Rattle.rm_catalog.specs.declared.record.{LogEntry.{LogEntry}, PieceEntry.{PieceEntry}, SetEntry.{SetEntry}}
use Rattle.rm_evidence.specs.{Database.{Database}, Taking.{IsTold}, Objects.{IsLogObject, IsPieceObject, IsSetObject}}
use Rattle.rm_piece.proofs.{Fitting.{spelling_same as piece_same}, SetFitting.{spelling_same as set_same}}
use Rattle.rm_redo.proofs.LogFitting.{spelling_same as log_same}

-- bytes spell one artefact at most
abbrev pub IsUnique : {A : Type 0} → (List ℕ → A → Type 0) → Type 0
IsUnique {A} Is = (bytes : List ℕ) (a b : A) → Is bytes a → Is bytes b → a ≡ b

pub one-log : (l : LogEntry) → IsUnique (IsLogObject l)
one-log l bytes a b x y = log_same a b x.valid y.valid (sym x.spelled ∙ y.spelled)

pub one-piece : (p : PieceEntry) → IsUnique (IsPieceObject p)
one-piece p bytes a b x y = piece_same a b x.valid y.valid (sym x.spelled ∙ y.spelled)

pub one-set : (base : Database) (e : SetEntry) → IsUnique (IsSetObject base e)
one-set base e bytes a b x y = set_same a b x.valid y.valid (sym x.spelled ∙ y.spelled)

pub told-one : {A : Type 0} (Is : List ℕ → A → Type 0) (stands : Option (List ℕ)) (a b : A) → IsUnique Is → IsTold Is stands (Ok a) → IsTold Is stands (Ok b) → a ≡ b
told-one Is stands a b unique x y =
    let same : x.0 ≡ y.0 = same_Some x.0 y.0 (sym x.1 ∙ y.1) in
    unique y.0 a b (subst (λ bytes. Is bytes a) same x.2) y.2

pub not-both : {A : Type 0} (Is : List ℕ → A → Type 0) (stands : Option (List ℕ)) (a : A) (bad : Bad) → IsTold Is stands (Ok a) → IsTold Is stands (Err bad) → ⊥
not-both {A} Is None a bad x y = absurd (let no : None ≡ Some x.0 = x.1 in cc)
not-both {A} Is (Some bytes) a Missing x y = y
not-both {A} Is (Some bytes) a Damaged x y = y (a, subst (λ b. Is b a) (sym (same_Some bytes x.0 x.1)) x.2)

pub bad-one : {A : Type 0} (Is : List ℕ → A → Type 0) (stands : Option (List ℕ)) (bad other : Bad) → IsTold Is stands (Err bad) → IsTold Is stands (Err other) → bad ≡ other
bad-one Is None Missing Missing x y = refl
bad-one Is None Missing Damaged x y = absurd y
bad-one Is None Damaged other x y = absurd x
bad-one Is (Some bytes) Missing other x y = absurd x
bad-one Is (Some bytes) Damaged Missing x y = absurd y
bad-one Is (Some bytes) Damaged Damaged x y = refl
