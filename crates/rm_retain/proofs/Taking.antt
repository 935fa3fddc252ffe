-- The copies among the pieces at hand, one piece after the other.
use Rattle.std.proofs.Common.{◌≡◌, ◌<◌, ◌≤◌, ◌+◌, ◌∙◌, ◌⊎◌, ◌==◌, ◌&&◌, ◌||◌, inl, inr, nat_lt, ℕ, List, [], ◌∷◌, ◌++◌, Bool, true, false, cond, refl, ap, sym, subst, arith, map, filter, take, drop, get_or, length, Contains}
use Rattle.std.proofs.lemmas.Bool.{and_parts, cases_lt, eqb-true, ltb-true, or_cases, Decides.{nat_tests}}
use Rattle.std.proofs.lemmas.List.{append-nil, map-append, take-append-drop, Elements.{filter-append}}
use Rattle.rm_base.proofs.{Lists.{at_end, front_or_end, take_more, pairs-append, only-in}, Members.{AllPairs-front, AllPairs-last}}
use Rattle.rm_piece.specs.declared.piece.Piece.{Piece}
use Rattle.rm_retain.{specs.{Catalogued.{backup_of}, Chosen.{Ascend}, declared.copies.Backup.{Backup}}, proofs.Ranks.{IsEarlier}}

-- the copies that have a record
abbrev pub copies_of : List (ℕ × Piece) → List Backup
copies_of xs = map backup_of (filter (λ x. nat_lt 0 x.0) xs)

-- the copy stands behind those of this id and datafile
abbrev pub is_behind : ℕ → ℕ → Backup → Bool
is_behind id file y = nat_lt id y.id || ((id == y.id) && nat_lt file y.file)

abbrev IsBehind : ℕ → ℕ → Backup → Type 0
IsBehind id file y = (id < y.id) ⊎ ((id ≡ y.id) × (file < y.file))

-- the copies ascend up to this id and datafile, which the last of them has
pub record AscendTo (id file : ℕ) (ys : List Backup) : Type 0 where
  pub ascend : Ascend ys
  pub most : (y : Backup) → Contains ys y → (y.id < id) ⊎ ((y.id ≡ id) × (y.file ≤ file))
  pub reached : 0 < id → (y : Backup) × Contains ys y × (y.id ≡ id) × (y.file ≡ file)

behind_of : (id file : ℕ) (y : Backup) → is_behind id file y ≡ true → IsBehind id file y
behind_of id file y is = elim (or_cases (nat_lt id y.id) ((id == y.id) && nat_lt file y.file) is) [
  | inl less ↦ inl (ltb-true id y.id less)
  | inr also ↦ let parts = and_parts (id == y.id) (nat_lt file y.file) also in inr (eqb-true id y.id parts.0, ltb-true file y.file parts.1)
]

not_behind : (i f j g : ℕ) → (nat_lt i j || ((i == j) && nat_lt f g)) ≡ false → (i < j) ⊎ ((i ≡ j) × (f < g)) → ⊥
not_behind i f j g off is = grind (arith, nat_tests)

earlier_of : (id file : ℕ) (x y : Backup) → (x.id < id) ⊎ ((x.id ≡ id) × (x.file ≤ file)) → IsBehind id file y → IsEarlier x y
earlier_of id file x y (inl low) (inl up) = inl (omega (arith, low, up))
earlier_of id file x y (inl low) (inr same) = let at = same.0 in inl (omega (arith, low, at))
earlier_of id file x y (inr here) (inl up) = let at = here.0 in inl (omega (arith, at, up))
earlier_of id file x y (inr here) (inr same) =
    let one = here.0 in
    let low = here.1 in
    let two = same.0 in
    let up = same.1 in
    inr (omega (arith, one, two), omega (arith, low, up))

at_most : (x y : Backup) → IsEarlier x y → (x.id < y.id) ⊎ ((x.id ≡ y.id) × (x.file ≤ y.file))
at_most x y (inl less) = inl less
at_most x y (inr same) = let less = same.1 in inr (same.0, omega (arith, less))

more : (id file : ℕ) (ys : List Backup) (y : Backup) → AscendTo id file ys → IsBehind id file y → AscendTo y.id y.file (ys ++ y ∷ [])
more id file ys y up behind =
    let earlier : (x : Backup) → Contains ys x → IsEarlier x y = λ x held. earlier_of id file x y (up.most x held) behind in
    record {
      ascend = pairs-append IsEarlier ys (y ∷ []) up.ascend (λ i j d less inside. absurd (omega arith)) (λ a b held one. subst (IsEarlier a) (only-in y b one) (earlier a held));
      most = λ z held. elim (front_or_end ys y z held) [
        | inl before ↦ at_most z y (earlier z before)
        | inr same ↦ subst (λ (x : Backup). (x.id < y.id) ⊎ ((x.id ≡ y.id) × (x.file ≤ y.file))) same (inr (refl, omega arith))
      ];
      reached = λ some. (y, at_end ys y, refl, refl);
    }

module _ (xs : List (ℕ × Piece)) (i id file : ℕ) (x : ℕ × Piece) (inside : i < length xs) (is : x ≡ get_or xs i x) (up : AscendTo id file (copies_of (take i xs))) where
  abbrev p : (ℕ × Piece) → Bool
  p y = nat_lt 0 y.0

  -- the copies of one piece more
  grown : (b : Bool) → nat_lt 0 x.0 ≡ b → copies_of (take (i + 1) xs) ≡ copies_of (take i xs) ++ map backup_of (cond b (x ∷ []) [])
  grown b has =
      ap copies_of (take_more xs i x inside is) ∙ ap (map backup_of) (filter-append p (take i xs) (x ∷ [])) ∙ map-append backup_of (filter p (take i xs)) (filter p (x ∷ []))
      ∙ ap (λ c. copies_of (take i xs) ++ map backup_of (cond c (x ∷ []) [])) has

  -- one piece more, which has a record and stands behind them
  pub taken : nat_lt 0 x.0 ≡ true → is_behind id file (backup_of x) ≡ true → AscendTo x.0 x.1.file (copies_of (take (i + 1) xs))
  taken some behind = subst (AscendTo x.0 x.1.file) (sym (grown true some)) (more id file (copies_of (take i xs)) (backup_of x) up (behind_of id file (backup_of x) behind))

  -- one that has none
  pub passed : nat_lt 0 x.0 ≡ false → AscendTo id file (copies_of (take (i + 1) xs))
  passed none = subst (AscendTo id file) (sym (grown false none ∙ append-nil (copies_of (take i xs)))) up

  -- one that does not stand behind them: then they do not ascend
  pub falls : nat_lt 0 x.0 ≡ true → is_behind id file (backup_of x) ≡ false → ¬ Ascend (copies_of xs)
  falls some off ascend =
      let before = copies_of (take i xs) in
      let behind = drop (i + 1) xs in
      let parts : copies_of xs ≡ copies_of (take (i + 1) xs) ++ copies_of behind =
      ap copies_of (sym (take-append-drop (i + 1) xs)) ∙ ap (map backup_of) (filter-append p (take (i + 1) xs) behind) ∙ map-append backup_of (filter p (take (i + 1) xs)) (filter p behind) in
      let front = AllPairs-front IsEarlier (copies_of (take (i + 1) xs)) (copies_of behind) (subst Ascend parts ascend) in
      let above = ltb-true 0 x.0 some in
      elim (cases_lt 0 id) [
        | inr first ↦ not_behind id file x.0 x.1.file off (inl (omega (arith, above, first)))
        | inl later ↦
            let y = up.reached later in
            not_behind id file x.0 x.1.file off (same_behind y.0 y.2 y.3 (AllPairs-last IsEarlier before (backup_of x) y.0 (subst Ascend (grown true some) front) y.1))
      ]
    where
      same_behind : (y : Backup) → y.id ≡ id → y.file ≡ file → IsEarlier y (backup_of x) → IsBehind id file (backup_of x)
      same_behind y same also earlier = subst (λ f. IsBehind id f (backup_of x)) also (subst (λ n. IsBehind n y.file (backup_of x)) same earlier)
