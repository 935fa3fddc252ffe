-- The last mark, by its place.
use Rattle.std.proofs.Common.{◌≡◌, ◌∙◌, ◌-◌, ℕ, List, [], ◌∷◌, Some, None, refl, ap, subst, arith, length, get_or, slice_get}
use Rattle.std.proofs.lemmas.Option.{get_or_from_slice_get, slice_get-get_or}
use Rattle.rm_base.specs.declared.block.Mark.{Mark}
use Rattle.rm_machine.specs.Marks.{last_marked}

last-at : (d : ℕ) (m e : Mark) (ms : List Mark) → last_marked d (m ∷ ms) ≡ (get_or (m ∷ ms) (length ms) e).moment
last-at d m e [] = refl
last-at d m e (n ∷ ns) = last-at m.moment n e ns

pub last-some : (d : ℕ) (ms : List Mark) (x : Mark) → slice_get ms (length ms - 1) ≡ Some x → last_marked d ms ≡ x.moment
last-some d [] x is = absurd (cc)
last-some d (m ∷ ms) x is =
    let end : length (m ∷ ms) - 1 ≡ length ms = omega arith in
    let at : slice_get (m ∷ ms) (length ms) ≡ Some x = subst (λ k. slice_get (m ∷ ms) k ≡ Some x) end is in
    last-at d m x ms ∙ ap (λ (y : Mark). y.moment) (get_or_from_slice_get (m ∷ ms) (length ms) x x at)

pub last-none : (d : ℕ) (ms : List Mark) → slice_get ms (length ms - 1) ≡ None → last_marked d ms ≡ d
last-none d [] is = refl
last-none d (m ∷ ms) is =
    let some : slice_get (m ∷ ms) (length (m ∷ ms) - 1) ≡ Some (get_or (m ∷ ms) (length (m ∷ ms) - 1) m) = slice_get-get_or (m ∷ ms) (length (m ∷ ms) - 1) m (omega arith) in
    absurd (cc)
