-- Bytes that are taken or written after others, and counts that rise.
use Rattle.std.specs.Option.{option_map}
use Rattle.std.proofs.Common.{◌≡◌, ◌≤◌, ◌+◌, ◌-◌, ◌∙◌, ◌++◌, ℕ, List, [], ◌∷◌, Option, Some, None, refl, ap, sym, append_assoc, arith, IfSome, length, take, drop, length-drop}
use Rattle.std.proofs.lemmas.List.{take-append-drop, drop-drop, take_at, length-take-le}
use Rattle.rm_base.specs.Outside.{Appends, HasTaken, Rose}

append-none : (xs : List ℕ) → xs ++ [] ≡ xs
append-none [] = refl
append-none (x ∷ xs) = ap (λ ys. x ∷ ys) (append-none xs)

pub appends-nothing : (o : Option (List ℕ)) → Appends o o []
appends-nothing None = refl
appends-nothing (Some held) = ap Some (sym (append-none held))

pub appends-then : (a b c : Option (List ℕ)) (xs ys : List ℕ) → Appends a b xs → Appends b c ys → Appends a c (xs ++ ys)
appends-then None b c xs ys h k = k ∙ ap (option_map (λ held. held ++ ys)) h
appends-then (Some held) b c xs ys h k = k ∙ ap (option_map (λ zs. zs ++ ys)) h ∙ ap Some (append_assoc held xs ys)

pub taken-nothing : (o : Option (List ℕ)) → HasTaken o o []
taken-nothing None = refl
taken-nothing (Some left) = refl

pub taken-then : (a b c : Option (List ℕ)) (xs ys : List ℕ) → HasTaken a b xs → HasTaken b c ys → HasTaken a c (xs ++ ys)
taken-then a b None xs ys h k = h ∙ ap (option_map (λ left. xs ++ left)) k
taken-then a b (Some left) xs ys h k = h ∙ ap (option_map (λ zs. xs ++ zs)) k ∙ ap Some (sym (append_assoc xs ys left))

-- where nothing is left, the bytes that were taken were all
pub taken-all : (a b : Option (List ℕ)) (xs : List ℕ) → HasTaken a b xs → IfSome b (λ left. left ≡ []) → a ≡ option_map (λ left. xs) b
taken-all a None xs h e = h
taken-all a (Some left) xs h e = h ∙ ap (λ zs. Some (xs ++ zs)) e ∙ ap Some (append-none xs)

-- a count that rose in between rose
pub rose-within : (a b c d : ℕ) → a ≤ b → Rose b c → c ≤ d → Rose a d
rose-within a b c d low rose high = omega (arith, low, rose, high)

-- n bytes from `at` on, put in front of others
pub front-taken : (xs rest : List ℕ) (at n : ℕ) → n ≤ length xs - at → drop at xs ≡ take n (take n (drop at xs) ++ rest) ++ drop (at + n) xs
front-taken xs rest at n h =
    let left = drop at xs in
    let len : length (take n left) ≡ n = length-take-le n left (omega (arith, length-drop at xs, h)) in
    sym (take-append-drop n left) ∙ ap (λ ys. take n left ++ ys) (drop-drop n at xs) ∙ ap (λ ys. ys ++ drop (at + n) xs) (sym (take_at (take n left) rest n len))
