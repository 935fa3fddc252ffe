-- Writes of lists, by one thread each.
use Rattle.std.proofs.Common.{◌≡◌, ℕ, suc, ◌+◌, ◌<◌, ◌≤◌, Result, List, [], ◌∷◌, ◌++◌, length, filter, map, refl, sym, ap, ◌∙◌, arith, append_assoc, ne_eqb}
use Rattle.std.proofs.lemmas.List.Elements.{filter-append}
use Rattle.rm_live.specs.declared.history.{Answer.TheVariants.{Wrote}, Call.{Call, TheVariants.{Write}}, LiveFault.{LiveFault}}
use Rattle.rm_channel.specs.{Jobs.{Deed, writes, writes_of, wrote, wrote_of, AreAsLong}, Made.{call, is_by}}
use Rattle.rm_channel.specs.declared.jobs.WriteJob.{WriteJob}

abbrev Answers : Type 0
Answers = List (Result ℕ LiveFault)

pub writes-append : (t : ℕ) (xs ys : List WriteJob) → writes t (xs ++ ys) ≡ writes t xs ++ writes t ys
writes-append t [] ys = refl
writes-append t (x ∷ xs) ys = ap (λ (l : List Call). Write t x.file x.block x.content ∷ l) (writes-append t xs ys)

pub wrote-append : (t : ℕ) (xs ys : List WriteJob) (rs bs : Answers) → length xs ≡ length rs → wrote t (xs ++ ys) (rs ++ bs) ≡ wrote t xs rs ++ wrote t ys bs
wrote-append t [] ys [] bs e = refl
wrote-append t [] ys (a ∷ rs) bs e = absurd (omega arith)
wrote-append t (x ∷ xs) ys [] bs e = absurd (omega arith)
wrote-append t (x ∷ xs) ys (a ∷ rs) bs e = ap (λ (l : List Deed). (Write t x.file x.block x.content, Wrote a) ∷ l) (wrote-append t xs ys rs bs (omega arith))

pub writes_of-append : (t : ℕ) (xs ys : List (List WriteJob)) → writes_of t (xs ++ ys) ≡ writes_of t xs ++ writes_of (t + length xs) ys
writes_of-append t [] ys = let k : t ≡ t + 0 = omega arith in ap (λ (n : ℕ). writes_of n ys) k
writes_of-append t (x ∷ xs) ys =
    let k : suc t + length xs ≡ t + suc (length xs) = omega arith in
    ap (λ (l : List Call). writes t x ++ l) (writes_of-append (suc t) xs ys ∙ ap (λ (n : ℕ). writes_of (suc t) xs ++ writes_of n ys) k)
    ∙ sym (append_assoc (writes t x) (writes_of (suc t) xs) (writes_of (t + suc (length xs)) ys))

pub wrote_of-append : (t : ℕ) (xs ys : List (List WriteJob)) (rs bs : List Answers) → AreAsLong rs xs → wrote_of t (xs ++ ys) (rs ++ bs) ≡ wrote_of t xs rs ++ wrote_of (t + length xs) ys bs
wrote_of-append t [] ys [] bs fit = let k : t ≡ t + 0 = omega arith in ap (λ (n : ℕ). wrote_of n ys bs) k
wrote_of-append t [] ys (a ∷ rs) bs fit = absurd (cc fit)
wrote_of-append t (x ∷ xs) ys [] bs fit = absurd (cc fit)
wrote_of-append t (x ∷ xs) ys (a ∷ rs) bs fit =
    let k : suc t + length xs ≡ t + suc (length xs) = omega arith in
    let rest : AreAsLong rs xs = cc fit in
    ap (λ (l : List Deed). wrote t x a ++ l) (wrote_of-append (suc t) xs ys rs bs rest ∙ ap (λ (n : ℕ). wrote_of (suc t) xs rs ++ wrote_of n ys bs) k)
    ∙ sym (append_assoc (wrote t x a) (wrote_of (suc t) xs rs) (wrote_of (t + suc (length xs)) ys bs))

-- the calls of what was written
pub calls-wrote : (t : ℕ) (xs : List WriteJob) (rs : Answers) → length xs ≡ length rs → map call (wrote t xs rs) ≡ writes t xs
calls-wrote t [] rs e = refl
calls-wrote t (x ∷ xs) [] e = absurd (omega arith)
calls-wrote t (x ∷ xs) (a ∷ rs) e = ap (λ (l : List Call). Write t x.file x.block x.content ∷ l) (calls-wrote t xs rs (omega arith))

-- of another thread there are none
writes-other : (u t : ℕ) (xs : List WriteJob) → ¬ (u ≡ t) → filter (is_by u) (writes t xs) ≡ []
writes-other u t [] ne = refl
writes-other u t (x ∷ xs) ne = let e = ne_eqb u t ne in rw e (writes-other u t xs ne)

pub writes_of-before : (u t : ℕ) (xs : List (List WriteJob)) → u < t → filter (is_by u) (writes_of t xs) ≡ []
writes_of-before u t [] lt = refl
writes_of-before u t (x ∷ xs) lt =
    filter-append (is_by u) (writes t x) (writes_of (suc t) xs) ∙ (λ i. writes-other u t x (λ e. omega arith) i ++ writes_of-before u (suc t) xs (omega arith) i)

pub writes_of-after : (u t : ℕ) (xs : List (List WriteJob)) → t + length xs ≤ u → filter (is_by u) (writes_of t xs) ≡ []
writes_of-after u t [] le = refl
writes_of-after u t (x ∷ xs) le =
    filter-append (is_by u) (writes t x) (writes_of (suc t) xs) ∙ (λ i. writes-other u t x (λ e. omega arith) i ++ writes_of-after u (suc t) xs (omega arith) i)
