-- The statements of a token list are where its endings are.
use Rattle.std.proofs.Common.{◌≡◌, ◌<◌, ◌++◌, ◌∷◌, ◌==◌, ◌&&◌, ◌∙◌, inl, inr, ℕ, Bool, List, [], true, false, length, refl, ap, sym, arith, append_assoc, subst}
use Rattle.std.proofs.lemmas.Bool.{and_parts, or_cases, or_parts, cases_lt, eqb-true, Decides.{nat_tests}}
use Rattle.std.proofs.lemmas.List.{append-nil, map-append, take-append-le, get_or_append_left, length-append, Sums.{fold-append}}
use Rattle.std.proofs.Math.Seq.{take-append_seam, get_or-append_seam}
use Rattle.rm_lang_token.specs.Statements.{is_the_sign, depth_after, begins_run, ends_at, cut}
use Rattle.rm_lang_token.specs.Cuts.{open_braces, Ends, HasNoEnding, without_lines, Cuts, nothing, skipped, ended, left}
use Rattle.rm_lang_token.specs.declared.token.Token.{Token, TheVariants.{Word, Number, Quoted, Sign, Bad}}

sign-same : (c : ℕ) (t : Token) → is_the_sign c t ≡ true → t ≡ Sign c
sign-same c (Sign d) h = ap Sign (eqb-true d c h)
sign-same c (Word w) h = cc
sign-same c (Number n) h = cc
sign-same c (Quoted w) h = cc
sign-same c Bad h = cc

ends_at-Ends : (before : List Token) (t : Token) → ends_at before (open_braces before) t ≡ true → Ends before t
ends_at-Ends before t h =
    let depth : ℕ = open_braces before in
    elim (or_cases ((depth == 0) && is_the_sign 59 t) ((begins_run before && (depth == 1)) && is_the_sign 125 t) h) [
      | inl e ↦
          let parts = and_parts (depth == 0) (is_the_sign 59 t) e in
          inl (eqb-true depth 0 parts.0, sign-same 59 t parts.1)
      | inr e ↦
          let parts = and_parts (begins_run before && (depth == 1)) (is_the_sign 125 t) e in
          let run = and_parts (begins_run before) (depth == 1) parts.0 in
          inr (run.0, eqb-true depth 1 run.1, sign-same 125 t parts.1)
    ]

Ends-ends_at : (before : List Token) (t : Token) → Ends before t → ends_at before (open_braces before) t ≡ true
Ends-ends_at before t (inl e) = rw (e.0, e.1) refl
Ends-ends_at before t (inr e) = rw (e.0, e.1, e.2) refl

not_ended : (before : List Token) (t : Token) → ends_at before (open_braces before) t ≡ false → ¬ Ends before t
not_ended before t h e = let yes = Ends-ends_at before t e in cc

open_braces-push : (ts : List Token) (t : Token) → open_braces (ts ++ t ∷ []) ≡ depth_after (open_braces ts) t
open_braces-push ts t = fold-append depth_after 0 ts (t ∷ [])

HasNoEnding-push : (ts : List Token) (t : Token) → HasNoEnding ts → ¬ Ends ts t → HasNoEnding (ts ++ t ∷ [])
HasNoEnding-push ts t none other k d h = elim (cases_lt k (length ts)) [
  | inl lt ↦ rw (take-append-le k ts (t ∷ []) (omega arith), get_or_append_left ts (t ∷ []) d k lt) (none k d lt)
  | inr ge ↦
      let last : k ≡ length ts = omega (arith, length-append ts (t ∷ [])) in
      rw (last, take-append_seam ts (t ∷ []), get_or-append_seam ts t [] d) other
]

first-other : (t : Token) → is_the_sign 59 t ≡ false → HasNoEnding (t ∷ [])
first-other t h k d lt =
    let first : k ≡ 0 = omega arith in
    let none : ¬ Ends [] t = not_ended [] t (rw h refl) in
    rw first none

-- what the tokens give where nothing has begun, on any line, and where a statement has begun with p and qs
record Cut (ps : List (ℕ × Token)) : Type 0 where
  fresh : (line : ℕ) → Cuts ps (cut (record { front = []; line = line; depth = 0 }) ps)
  begun : (p : ℕ × Token) (qs : List (ℕ × Token)) → HasNoEnding (without_lines (p ∷ qs)) → Cuts ((p ∷ qs) ++ ps) (cut (record { front = without_lines (p ∷ qs); line = p.0; depth = open_braces (without_lines (p ∷ qs)) }) ps)

end_fresh : (line : ℕ) → Cuts [] (cut (record { front = []; line = line; depth = 0 }) [])
end_fresh line = nothing

end_begun : (p : ℕ × Token) (qs : List (ℕ × Token)) → HasNoEnding (without_lines (p ∷ qs)) → Cuts ((p ∷ qs) ++ []) (cut (record { front = without_lines (p ∷ qs); line = p.0; depth = open_braces (without_lines (p ∷ qs)) }) [])
end_begun p qs h =
    let some : (length (without_lines (p ∷ qs)) == 0) ≡ false = grind (arith, nat_tests) in
    rw (append-nil qs, some) (left p qs h)

next_fresh : (q : ℕ × Token) (ps : List (ℕ × Token)) → Cut ps → (line : ℕ) → Cuts (q ∷ ps) (cut (record { front = []; line = line; depth = 0 }) (q ∷ ps))
next_fresh q ps r line = by_cases (is_the_sign 59 q.1) refl
  where
    by_cases : (b : Bool) → is_the_sign 59 q.1 ≡ b → Cuts (q ∷ ps) (cut (record { front = []; line = line; depth = 0 }) (q ∷ ps))
    by_cases true e =
        let semicolon : Sign 59 ≡ q.1 = sym (sign-same 59 q.1 e) in
        rw e (subst (λ (t : Token). Cuts ((q.0, t) ∷ ps) (cut (record { front = []; line = q.0; depth = 0 }) ps)) semicolon (skipped q.0 ps _ (r.fresh q.0)))
    by_cases false e = rw e (r.begun q [] (first-other q.1 e))

next_begun : (q : ℕ × Token) (ps : List (ℕ × Token)) → Cut ps → (p : ℕ × Token) (qs : List (ℕ × Token)) → HasNoEnding (without_lines (p ∷ qs)) → Cuts ((p ∷ qs) ++ q ∷ ps) (cut (record { front = without_lines (p ∷ qs); line = p.0; depth = open_braces (without_lines (p ∷ qs)) }) (q ∷ ps))
next_begun q ps r p qs h = by_cases (ends_at front (open_braces front) q.1) refl
  where
    front : List Token
    front = without_lines (p ∷ qs)

    some : (length front == 0) ≡ false
    some = grind (arith, nat_tests)

    -- what has begun goes on with q
    Goes : List (ℕ × Token) → List Token → Type 0
    Goes xs ts = Cuts (p ∷ xs) (cut (record { front = p.1 ∷ ts; line = p.0; depth = open_braces (p.1 ∷ ts) }) ps)

    longer : without_lines (qs ++ q ∷ []) ≡ without_lines qs ++ q.1 ∷ []
    longer = map-append (λ (x : ℕ × Token). x.1) qs (q ∷ [])

    goes : ¬ Ends front q.1 → Goes (qs ++ q ∷ ps) (without_lines qs ++ q.1 ∷ [])
    goes other =
        let none : HasNoEnding (without_lines (p ∷ (qs ++ q ∷ []))) = subst (λ (ts : List Token). HasNoEnding (p.1 ∷ ts)) (sym longer) (HasNoEnding-push front q.1 h other) in
        subst (λ (xs : List (ℕ × Token)). Goes xs (without_lines qs ++ q.1 ∷ [])) (append_assoc qs (q ∷ []) ps)
        (subst (λ (ts : List Token). Goes ((qs ++ q ∷ []) ++ ps) ts) longer (r.begun p (qs ++ q ∷ []) none))

    by_cases : (b : Bool) → ends_at front (open_braces front) q.1 ≡ b → Cuts ((p ∷ qs) ++ q ∷ ps) (cut (record { front = front; line = p.0; depth = open_braces front }) (q ∷ ps))
    by_cases true e = rw (some, e) (ended p qs q ps _ h (ends_at-Ends front q.1 e) (r.fresh p.0))
    by_cases false e = rw (some, e) (subst (λ (d : ℕ). Cuts (p ∷ (qs ++ q ∷ ps)) (cut (record { front = front ++ q.1 ∷ []; line = p.0; depth = d }) ps)) (open_braces-push front q.1) (goes (not_ended front q.1 e)))

cuts : (ps : List (ℕ × Token)) → Cut ps
cuts [] = record { fresh = end_fresh; begun = end_begun }
cuts (q ∷ ps) = let r = cuts ps in record { fresh = next_fresh q ps r; begun = next_begun q ps r }

pub cut-Cuts : (ps : List (ℕ × Token)) → Cuts ps (cut (record { front = []; line = 1; depth = 0 }) ps)
cut-Cuts ps = (cuts ps).fresh 1

-- a token that ends nothing is passed
not_at_end : (before rest : List Token) (t : Token) → HasNoEnding (before ++ t ∷ rest) → ends_at before (open_braces before) t ≡ false
not_at_end before rest t h = by_cases (ends_at before (open_braces before) t) refl
  where
    here : ¬ Ends before t
    here =
        let inside : length before < length (before ++ t ∷ rest) = omega (arith, length-append before (t ∷ rest)) in
        let none = h (length before) t inside in
        rw (take-append_seam before (t ∷ rest), get_or-append_seam before t rest t) at none

    by_cases : (b : Bool) → ends_at before (open_braces before) t ≡ b → ends_at before (open_braces before) t ≡ false
    by_cases true e = absurd (here (ends_at-Ends before t e))
    by_cases false e = e

-- what has begun with p and qs goes on with the tokens ps, which hold no ending
cut-passes : (p : ℕ × Token) (ts : List Token) (ps rest : List (ℕ × Token)) → HasNoEnding ((p.1 ∷ ts) ++ without_lines ps) →
    cut (record { front = p.1 ∷ ts; line = p.0; depth = open_braces (p.1 ∷ ts) }) (ps ++ rest) ≡
    cut (record { front = p.1 ∷ (ts ++ without_lines ps); line = p.0; depth = open_braces (p.1 ∷ (ts ++ without_lines ps)) }) rest
cut-passes p ts [] rest h = rw (append-nil ts) refl
cut-passes p ts (q ∷ ps) rest h =
    let some : (length (p.1 ∷ ts) == 0) ≡ false = grind (arith, nat_tests) in
    let goes = not_at_end (p.1 ∷ ts) (without_lines ps) q.1 h in
    let same : (ts ++ q.1 ∷ []) ++ without_lines ps ≡ ts ++ q.1 ∷ without_lines ps = append_assoc ts (q.1 ∷ []) (without_lines ps) in
    let none : HasNoEnding (p.1 ∷ ((ts ++ q.1 ∷ []) ++ without_lines ps)) = subst (λ (xs : List Token). HasNoEnding (p.1 ∷ xs)) (sym same) h in
    let next = cut-passes p (ts ++ q.1 ∷ []) ps rest none in
    let Goal : List Token → ℕ → Type 0 = λ xs d. cut (record { front = p.1 ∷ (ts ++ q.1 ∷ []); line = p.0; depth = d }) (ps ++ rest) ≡ cut (record { front = p.1 ∷ xs; line = p.0; depth = open_braces (p.1 ∷ xs) }) rest in
    rw (some, goes) (subst (λ (d : ℕ). Goal (ts ++ q.1 ∷ without_lines ps) d) (open_braces-push (p.1 ∷ ts) q.1) (subst (λ (xs : List Token). Goal xs (open_braces (p.1 ∷ (ts ++ q.1 ∷ [])))) same next))

-- a statement begins with its first token, which is no ;
cut-first : (p : ℕ × Token) (ts : List Token) → HasNoEnding (p.1 ∷ ts) → (line : ℕ) (ps : List (ℕ × Token)) →
    cut (record { front = []; line = line; depth = 0 }) (p ∷ ps) ≡ cut (record { front = p.1 ∷ []; line = p.0; depth = open_braces (p.1 ∷ []) }) ps
cut-first p ts h line ps =
    let goes = not_at_end [] ts p.1 h in
    let other = or_parts (is_the_sign 59 p.1) false goes in
    rw other.0 refl

-- tokens are cut into one list of statements
pub cuts-only : (ps : List (ℕ × Token)) (ss : List (ℕ × List Token)) → Cuts ps ss → (line : ℕ) → ss ≡ cut (record { front = []; line = line; depth = 0 }) ps
cuts-only _ _ nothing line = refl
cuts-only _ _ (skipped first rest ss c) line = cuts-only rest ss c first
cuts-only _ _ (ended p ps q rest ss none ends c) line =
    let front : List Token = without_lines (p ∷ ps) in
    let some : (length front == 0) ≡ false = grind (arith, nat_tests) in
    let first : cut (record { front = []; line = line; depth = 0 }) ((p ∷ ps) ++ q ∷ rest) ≡ cut (record { front = p.1 ∷ []; line = p.0; depth = open_braces (p.1 ∷ []) }) (ps ++ q ∷ rest) = cut-first p (without_lines ps) none line (ps ++ q ∷ rest) in
    let here : cut (record { front = front; line = p.0; depth = open_braces front }) (q ∷ rest) ≡ (p.0, front ++ q.1 ∷ []) ∷ cut (record { front = []; line = p.0; depth = 0 }) rest = rw (some, Ends-ends_at front q.1 ends) refl in
    ap (λ xs. (p.0, front ++ q.1 ∷ []) ∷ xs) (cuts-only rest ss c p.0) ∙ sym (first ∙ cut-passes p [] ps (q ∷ rest) none ∙ here)
cuts-only _ _ (left p ps none) line =
    let front : List Token = without_lines (p ∷ ps) in
    let some : (length front == 0) ≡ false = grind (arith, nat_tests) in
    let here : cut (record { front = front; line = p.0; depth = open_braces front }) [] ≡ (p.0, front) ∷ [] = rw some refl in
    let all : cut (record { front = p.1 ∷ []; line = p.0; depth = open_braces (p.1 ∷ []) }) ps ≡ (p.0, front) ∷ [] =
    ap (cut (record { front = p.1 ∷ []; line = p.0; depth = open_braces (p.1 ∷ []) })) (sym (append-nil ps)) ∙ cut-passes p [] ps [] none ∙ here in
    sym (cut-first p (without_lines ps) none line ps ∙ all)
