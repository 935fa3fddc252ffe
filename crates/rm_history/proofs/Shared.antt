-- Where two paths part.
use Rattle.std.proofs.{Common.{◌≡◌, ◌≢◌, ◌<◌, ◌≤◌, ◌∙◌, inl, inr, ℕ, List, sym, arith, min}, lemmas.Bool.{cases_lt}}
use Rattle.rm_base.specs.Numbers.{last_scn}
use Rattle.rm_history.specs.{Tree.{HasParentsBelow, owner, parent_of, reset_of}, declared.tree.Incarnation.{Incarnation}}
use Rattle.rm_history.proofs.Owners.{owner-here, owner-above, owner-below}

-- Below `fork` the paths of i and j have the owners of those of a and b. From it on they have others.
pub record IsFork (tree : List Incarnation) (i j a b fork : ℕ) : Type 0 where
  pub first : (g : ℕ) → g < fork → owner tree i g ≡ owner tree a g
  pub second : (g : ℕ) → g < fork → owner tree j g ≡ owner tree b g
  pub apart : (g : ℕ) → fork ≤ g → g < last_scn → owner tree i g ≢ owner tree j g
  pub last : fork ≤ last_scn

pub fork-back : (tree : List Incarnation) (i j a b fork : ℕ) → IsFork tree i j a b fork → IsFork tree j i b a fork
fork-back tree i j a b fork is = record { first = is.second; second = is.first; apart = λ g high low same. is.apart g high low (sym same); last = is.last }

-- one step from the later of both
pub fork-first : (tree : List Incarnation) → HasParentsBelow tree → (i j a b fork new : ℕ) → IsFork tree i j a b fork → 0 < b → b < a → new ≡ min fork (reset_of tree a) → IsFork tree i j (parent_of tree a) b new
fork-first tree below i j a b fork new is up later least = record {
  first = λ g low. is.first g (omega (arith, least)) ∙ owner-above tree below a g (omega arith) (omega (arith, least));
  second = λ g low. is.second g (omega (arith, least));
  apart = λ g high low. elim (cases_lt g fork) [
    | inr past ↦ is.apart g past low
    | inl before ↦ λ same.
        let here : owner tree a g ≡ a = owner-here tree below a g (omega arith) (omega (arith, least, high, before)) in
        let there = owner-below tree below b g up in
        let met : a ≡ owner tree b g = sym here ∙ sym (is.first g before) ∙ same ∙ is.second g before in
        absurd (omega (arith, met, there.1, later))
  ];
  last = let low = is.last in omega (arith, least, low);
}

pub fork-second : (tree : List Incarnation) → HasParentsBelow tree → (i j a b fork new : ℕ) → IsFork tree i j a b fork → 0 < a → a < b → new ≡ min fork (reset_of tree b) → IsFork tree i j a (parent_of tree b) new
fork-second tree below i j a b fork new is up later least =
    fork-back tree j i (parent_of tree b) a new (fork-first tree below j i b a fork new (fork-back tree i j a b fork is) up later least)
