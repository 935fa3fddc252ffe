-- The edits of each kind of record.
use Rattle.std.specs.Prelude.{slice_set}
use Rattle.std.proofs.Common.{◌≡◌, ◌∙◌, ℕ, zero, suc, ◌+◌, ◌<◌, ◌≤◌, List, [], ◌∷◌, ◌++◌, length, map, refl, ap, sym, subst, arith, All}
use Rattle.std.proofs.lemmas.List.{length-append}
use Rattle.rm_catalog.specs.{Keys.{place, place_of}, Edits.{after_edit}, declared.record.{Record.{Record}, Edit.TheVariants.{Put}}}
use Rattle.rm_catalog.proofs.{PartEdits.{IsPart, after_first, after_rest, more_part}, Running.{Runs, runs-within}}
use Rattle.rm_history.specs.declared.tree.Incarnation.{Incarnation}
use Rattle.rm_catalog_typed.{specs.Ledger.{numbered, incarnation_record}, proofs.Order.{runs-numbered}}

numbered_append : {A : Type 0} (make : ℕ → A → Record) (k : ℕ) (xs ys : List A) → numbered make k (xs ++ ys) ≡ numbered make k xs ++ numbered make (k + length xs) ys
numbered_append make k [] ys = ap (λ (n : ℕ). numbered make n ys) (omega arith)
numbered_append make k (x ∷ xs) ys =
    ap (λ (rs : List Record). make k x ∷ rs) (numbered_append make (k + 1) xs ys
    ∙ ap (λ (n : ℕ). numbered make (k + 1) xs ++ numbered make n ys) (omega arith))

-- more of what is numbered
pub numbered_part : {A : Type 0} (make : ℕ → A → Record) (of : ℕ) (old new : List A) → ((k : ℕ) (x : A) → place_of (make k x) ≡ place of k) → 1 + length (old ++ new) ≤ 4294967295
    → IsPart (place of 1) (place (of + 1) 0) (map Put (numbered make (length old + 1) new)) (numbered make 1 old) (numbered make 1 (old ++ new))
numbered_part make of old new is few =
    let long = length-append old new in
    let next : 1 + length old ≡ length old + 1 = omega arith in
    let more : numbered make 1 (old ++ new) ≡ numbered make 1 old ++ numbered make (length old + 1) new =
    numbered_append make 1 old new ∙ ap (λ (n : ℕ). numbered make 1 old ++ numbered make n new) next in
    let all = runs-numbered make of 1 (old ++ new) is few in
    subst (λ (x : List Record). IsPart (place of 1) (place (of + 1) 0) (map Put (numbered make (length old + 1) new)) (numbered make 1 old) x) (sym more)
    (more_part (place of 1) (place (of + 1) 0) (numbered make 1 old) (numbered make (length old + 1) new)
    (runs-numbered make of 1 old is (omega arith))
    (subst (λ (x : List Record). Runs (place of 1) (place (of + 1) 0) x) more all))

-- the incarnation of number i is replaced
pub replaced : (n : Incarnation) (xs : List Incarnation) (k j i : ℕ) → i ≡ k + j → j < length xs → k + length xs ≤ 4294967295 → after_edit (Put (incarnation_record i n)) (numbered incarnation_record k xs) ≡ numbered incarnation_record k (slice_set xs j n)
replaced n [] k j i is lt few = absurd (omega arith)
replaced n (x ∷ xs) k zero i is lt few =
    let rest = numbered incarnation_record (k + 1) xs in
    let within = runs-within (place 2 (k + 1)) (place 3 0) rest (runs-numbered incarnation_record 2 (k + 1) xs (λ m y. refl) (omega arith)) in
    let same : i ≡ k = omega arith in
    let over : All (λ (r : Record). place 2 k < place_of r) rest = λ m d inside. let h = (within m d inside).0 in omega arith in
    ap (λ (m : ℕ). after_edit (Put (incarnation_record m n)) (numbered incarnation_record k (x ∷ xs))) same
    ∙ after_first (incarnation_record k n) (incarnation_record k x) rest refl over
replaced n (x ∷ xs) k (suc j) i is lt few =
    after_rest (Put (incarnation_record i n)) (incarnation_record k x) (numbered incarnation_record (k + 1) xs) (omega arith)
    ∙ ap (λ (rs : List Record). incarnation_record k x ∷ rs) (replaced n xs (k + 1) j i (omega arith) (omega arith) (omega arith))
