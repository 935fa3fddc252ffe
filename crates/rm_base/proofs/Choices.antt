-- The first of the items that pass, where one item more is looked at; and the order of backups.
use Rattle.std.proofs.Common.{◌≡◌, ◌∙◌, ◌<◌, ◌≤◌, ◌⊎◌, ℕ, inl, inr, List, Option, Some, None, [], ◌∷◌, ◌++◌, arith, refl, sym, subst}
use Rattle.std.proofs.lemmas.Bool.{cases_lt}
use Rattle.rm_base.{specs.Choice.{ComesFirst, IsChoice}, proofs.Lists.{in_front_part, at_end, front_or_end}}

module _ {X : Type 0} (P : X → Type 0) (R : X → X → Type 0) where
  -- one that does not pass changes nothing
  pub choice_passed : (xs : List X) (x : X) (o : Option X) → IsChoice P R xs o → ¬ P x → IsChoice P R (xs ++ x ∷ []) o
  choice_passed xs x None none fails = λ y held passes. elim (front_or_end xs x y held) [
    | inl front ↦ none y front passes
    | inr last ↦ fails (subst P (sym last) passes)
  ]
  choice_passed xs x (Some b) is fails = record {
    held = in_front_part xs x b is.held;
    passes = is.passes;
    first = λ y held passes. elim (front_or_end xs x y held) [
      | inl front ↦ is.first y front passes
      | inr last ↦ absurd (fails (subst P (sym last) passes))
    ];
  }

  -- it is the first where it is the only one
  pub choice_only : (xs : List X) (x : X) → IsChoice P R xs None → P x → R x x → IsChoice P R (xs ++ x ∷ []) (Some x)
  choice_only xs x none is same = record {
    held = at_end xs x;
    passes = is;
    first = λ y held passes. elim (front_or_end xs x y held) [
      | inl front ↦ absurd (none y front passes)
      | inr last ↦ subst (λ (a : X). R x a) last same
    ];
  }

  -- or comes before the one that was
  pub choice_taken : (xs : List X) (x b : X) → IsChoice P R xs (Some b) → P x → R x x → R x b → ((y : X) → R x b → R b y → R x y) → IsChoice P R (xs ++ x ∷ []) (Some x)
  choice_taken xs x b is passes same before through = record {
    held = at_end xs x;
    passes = passes;
    first = λ y held also. elim (front_or_end xs x y held) [
      | inl front ↦ through y before (is.first y front also)
      | inr last ↦ subst (λ (a : X). R x a) last same
    ];
  }

  -- and else it stays
  pub choice_stays : (xs : List X) (x b : X) → IsChoice P R xs (Some b) → R b x → IsChoice P R (xs ++ x ∷ []) (Some b)
  choice_stays xs x b is before = record {
    held = in_front_part xs x b is.held;
    passes = is.passes;
    first = λ y held also. elim (front_or_end xs x y held) [
      | inl front ↦ is.first y front also
      | inr last ↦ subst (λ (a : X). R b a) last before
    ];
  }

-- the greater checkpoint first, ties by any order of the ids
module _ (Tie : ℕ → ℕ → Type 0) where
  abbrev pub Leads : ℕ × ℕ → ℕ × ℕ → Type 0
  Leads x y = (y.1 < x.1) ⊎ ((y.1 ≡ x.1) × Tie x.0 y.0)

  pub leads_through : ((m n k : ℕ) → Tie m n → Tie n k → Tie m k) → (x b y : ℕ × ℕ) → Leads x b → Leads b y → Leads x y
  leads_through on x b y (inl first) (inl second) = inl (omega (arith, first, second))
  leads_through on x b y (inl first) (inr second) = inl (omega (arith, first, second.0))
  leads_through on x b y (inr first) (inl second) = inl (omega (arith, first.0, second))
  leads_through on x b y (inr first) (inr second) = inr (second.0 ∙ first.0, on x.0 b.0 y.0 first.1 second.1)

  pub leads_other_way : ((m n : ℕ) → ¬ Tie m n → Tie n m) → (b x : ℕ × ℕ) → ¬ Leads b x → Leads x b
  leads_other_way other b x behind = elim (cases_lt b.1 x.1) [
    | inl less ↦ inl less
    | inr most ↦ elim (cases_lt x.1 b.1) [
      | inl more ↦ absurd (behind (inl more))
      | inr least ↦ inr (omega (arith, most, least), other b.0 x.0 (λ tie. behind (inr (omega (arith, most, least), tie))))
    ]
  ]

-- the greater id first
pub first_itself : (x : ℕ × ℕ) → ComesFirst x x
first_itself x = inr (refl, omega arith)

pub first_through : (x b y : ℕ × ℕ) → ComesFirst x b → ComesFirst b y → ComesFirst x y
first_through = leads_through (λ m n. n ≤ m) (λ m n k first second. omega (arith, first, second))

pub first_other_way : (b x : ℕ × ℕ) → ¬ ComesFirst b x → ComesFirst x b
first_other_way = leads_other_way (λ m n. n ≤ m) (λ m n above. elim (cases_lt n m) [
  | inl below ↦ absurd (above (omega (arith, below)))
  | inr least ↦ omega (arith, least)
])
