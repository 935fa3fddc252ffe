-- A list that is filled, one item after another.
use Rattle.std.proofs.Common.{◌≡◌, ◌∙◌, ◌++◌, List, [], ◌∷◌, ap, append_assoc, sym}

-- the next of what is still to come is added
pub filled-on : {A : Type 0} (done done' all before rest : List A) (x y : A) → before ≡ x ∷ rest → y ≡ x → done ++ before ≡ all → done' ≡ done ++ y ∷ [] → done' ++ rest ≡ all
filled-on done done' all before rest x y next is was more =
    ap (λ xs. xs ++ rest) (more ∙ ap (λ z. done ++ z ∷ []) is) ∙ append_assoc done (x ∷ []) rest ∙ ap (λ xs. done ++ xs) (sym next) ∙ was
