-- Pieces that are added one after the other, each among those of its kind.
use Rattle.std.proofs.Common.{◌≡◌, ◌≢◌, ◌∙◌, ◌<◌, ℕ, Bool, true, false, cond, not, List, [], ◌∷◌, ◌++◌, filter, map, AllPairs, Contains, ap, sym, subst, inr, refl}
use Rattle.std.proofs.lemmas.List.{append-nil, append_assoc, Kept.{AllPairs-filter}}
use Rattle.rm_base.specs.declared.kinds.Kind.{Kind, TheVariants.{Full, Level0, Level1, Place}}
use Rattle.rm_base.proofs.Lists.{filter_from, filter_to, map_from, map_to, pairs-mapped}
use Rattle.rm_evidence.specs.{Gathered.{ByIdAndFile}, Taking.{Extends, with_piece_of, with_pieces}, declared.evidence.Evidence.{Evidence}}
use Rattle.rm_piece.specs.declared.piece.Piece.{Piece}

abbrev is_level1 : Kind → Bool
is_level1 Level1 = true
is_level1 _ = false

is-level1 : (k : Kind) → is_level1 k ≡ true → k ≡ Level1
is-level1 Full is = absurd cc
is-level1 Level0 is = absurd cc
is-level1 Level1 is = refl
is-level1 Place is = absurd cc

is-whole : (k : Kind) → not (is_level1 k) ≡ true → k ≢ Level1
is-whole k passes level = absurd (let no : false ≡ true = sym (ap (λ (x : Kind). not (is_level1 x)) level) ∙ passes in cc)

whole-passes : (k : Kind) → k ≢ Level1 → not (is_level1 k) ≡ true
whole-passes Full whole = refl
whole-passes Level0 whole = refl
whole-passes Level1 whole = absurd (whole refl)
whole-passes Place whole = refl

-- those that pass, each with the id
abbrev numbered : (Piece → Bool) → ℕ → List Piece → List (ℕ × Piece)
numbered passes id pieces = map (λ (a : Piece). (id, a)) (filter passes pieces)

abbrev pub bases_in : ℕ → List Piece → List (ℕ × Piece)
bases_in = numbered (λ a. not (is_level1 a.kind))

abbrev pub level1s_in : ℕ → List Piece → List (ℕ × Piece)
level1s_in = numbered (λ a. is_level1 a.kind)

-- the evidence with these at the ends of its lists
abbrev pub with_lists : Evidence → List (ℕ × Piece) → List (ℕ × Piece) → Evidence
with_lists e bases level1s = record e { bases = e.bases ++ bases; level1s = e.level1s ++ level1s }

pub grown : (e : Evidence) (id : ℕ) (pieces : List Piece) → with_pieces e id pieces ≡ with_lists e (bases_in id pieces) (level1s_in id pieces)
grown e id [] = λ i. record e { bases = sym (append-nil e.bases) i; level1s = sym (append-nil e.level1s) i }
grown e id (a ∷ rest) = grown (with_piece_of a.kind e id a) id rest ∙ step a.kind
  where
    bases : List (ℕ × Piece)
    bases = bases_in id rest

    level1s : List (ℕ × Piece)
    level1s = level1s_in id rest

    step : (k : Kind) → with_lists (with_piece_of k e id a) bases level1s
        ≡ with_lists e (map (λ (x : Piece). (id, x)) (cond (not (is_level1 k)) (a ∷ filter (λ x. not (is_level1 x.kind)) rest) (filter (λ x. not (is_level1 x.kind)) rest)))
        (map (λ (x : Piece). (id, x)) (cond (is_level1 k) (a ∷ filter (λ x. is_level1 x.kind) rest) (filter (λ x. is_level1 x.kind) rest)))
    step Full = λ i. record e { bases = append_assoc e.bases ((id, a) ∷ []) bases i; level1s = e.level1s ++ level1s }
    step Level0 = λ i. record e { bases = append_assoc e.bases ((id, a) ∷ []) bases i; level1s = e.level1s ++ level1s }
    step Level1 = λ i. record e { bases = e.bases ++ bases; level1s = append_assoc e.level1s ((id, a) ∷ []) level1s i }
    step Place = λ i. record e { bases = append_assoc e.bases ((id, a) ∷ []) bases i; level1s = e.level1s ++ level1s }

-- a list grows by those of the pieces that pass, where Is tells of exactly these under the id
extends-by : (passes : Piece → Bool) (Is : ℕ → Piece → Type 0) (id : ℕ) (pieces : List Piece) (old new : List (ℕ × Piece)) → AllPairs (λ a b. a.file < b.file) pieces
    → ((j : ℕ) (a : Piece) → Is j a → (id ≡ j) × Contains pieces a × (passes a ≡ true)) → ((a : Piece) → Contains pieces a → passes a ≡ true → Is id a)
    → new ≡ old ++ numbered passes id pieces → Extends Piece ByIdAndFile old Is new
extends-by passes Is id pieces old new ascend told tells same = record {
  rest = numbered passes id pieces;
  list = same;
  related = pairs-mapped (λ (a : Piece). (id, a)) (λ (a b : Piece). a.file < b.file) ByIdAndFile (λ a b less. inr (refl, less)) (filter passes pieces) (AllPairs-filter (λ (a b : Piece). a.file < b.file) passes pieces ascend);
  exact = λ j a. (there j a, here j a);
}
  where
    pair : (j : ℕ) (a : Piece) → id ≡ j → ◌≡◌ {A = ℕ × Piece} (id, a) (j, a)
    pair j a is = ap (λ (n : ℕ). (n, a)) is

    there : (j : ℕ) (a : Piece) → Contains {X = ℕ × Piece} (numbered passes id pieces) (j, a) → Is j a
    there j a has =
        let from = map_from (λ (x : Piece). (id, x)) (filter passes pieces) (j, a) has in
        let kept = filter_from passes pieces from.item from.held in
        subst (λ (x : ℕ × Piece). Is x.0 x.1) from.is (tells from.item kept.0 kept.1)

    here : (j : ℕ) (a : Piece) → Is j a → Contains {X = ℕ × Piece} (numbered passes id pieces) (j, a)
    here j a is =
        let parts = told j a is in
        subst (λ (x : ℕ × Piece). Contains (numbered passes id pieces) x) (pair j a parts.0) (map_to (λ (x : Piece). (id, x)) (filter passes pieces) a (filter_to passes pieces a parts.1 parts.2))

module _ (Is : ℕ → Piece → Type 0) (id : ℕ) (pieces : List Piece) (ascend : AllPairs (λ a b. a.file < b.file) pieces) (told : (j : ℕ) (a : Piece) → Is j a → (id ≡ j) × Contains pieces a) (tells : (a : Piece) → Contains pieces a → Is id a) (e : Evidence) where
  pub bases-grown : Extends Piece ByIdAndFile e.bases (λ j a. Is j a × (a.kind ≢ Level1)) (with_pieces e id pieces).bases
  bases-grown = extends-by (λ a. not (is_level1 a.kind)) (λ j a. Is j a × (a.kind ≢ Level1)) id pieces e.bases _ ascend
      (λ j a is. let parts = told j a is.0 in (parts.0, parts.1, whole-passes a.kind is.1))
      (λ a has passes. (tells a has, is-whole a.kind passes))
      (ap (λ (x : Evidence). x.bases) (grown e id pieces))

  pub level1s-grown : Extends Piece ByIdAndFile e.level1s (λ j a. Is j a × (a.kind ≡ Level1)) (with_pieces e id pieces).level1s
  level1s-grown = extends-by (λ a. is_level1 a.kind) (λ j a. Is j a × (a.kind ≡ Level1)) id pieces e.level1s _ ascend
      (λ j a is. let parts = told j a is.0 in (parts.0, parts.1, ap is_level1 is.1))
      (λ a has passes. (tells a has, is-level1 a.kind passes))
      (ap (λ (x : Evidence). x.level1s) (grown e id pieces))
