-- What several workers did, together.
use Rattle.std.proofs.Common.{◌≡◌, ℕ, ◌+◌, ◌⊎◌, inl, inr, ⊎_elim, Bool, true, false, Option, Some, None, IfSome, List, [], ◌∷◌, ◌++◌, filter, map, cond, refl, sym, ap, ap₂, ◌∙◌, subst, arith, append-nil, append_assoc}
use Rattle.std.proofs.lemmas.List.Elements.{filter-append}
use Rattle.rm_live.specs.{Parts.{Parts}, History.{IsLegal, Foreign, Past}, Passes.{Standing, IsLater, joined}}
use Rattle.rm_live.{specs.{Ruled.{AreShares, Below, total}, declared.history.{Call.{Call}, Event.{Event}}}, proofs.Totals.{below_rest}}
use Rattle.rm_channel.specs.{Jobs.{Deed}, Made.{call, mine, is_by, did_by, AreThese, AreBegun, Ran, Worked}}
use Rattle.rm_channel.proofs.{Mine.{total-append, mine-append, mine-foreign, total-both, filter-both}, Steps.{legal-behind}}

-- as many of each call, and each thread's writes in the same order
pub record SameCalls (xs ys : List Call) : Type 0 where
  pub counts : (g : Call → ℕ) → total g xs ≡ total g ys
  pub order : (t : ℕ) → filter (is_by t) xs ≡ filter (is_by t) ys

pub these-self : (xs : List Deed) → AreThese xs xs
these-self xs = record { each_once = λ h. refl; in_order = λ t. refl }

pub these-then : (xs ys zs : List Deed) → AreThese xs ys → AreThese ys zs → AreThese xs zs
these-then xs ys zs a b = record { each_once = λ h. b.each_once h ∙ a.each_once h; in_order = λ t. b.in_order t ∙ a.in_order t }

pub begun-as : (xs ys : List Call) (ds : List Deed) → SameCalls xs ys → AreBegun xs ds → AreBegun ys ds
begun-as xs ys ds same begun = record {
  none_twice = λ g. let e = same.counts g in let le = begun.none_twice g in omega arith;
  in_order = λ t. let b = begun.in_order t in (b.0, sym (same.order t) ∙ b.1);
}

total-call : (g : Call → ℕ) (ds : List Deed) → total g (map call ds) ≡ total (λ d. g d.0) ds
total-call g [] = refl
total-call g (d ∷ ds) = let h = total-call g ds in omega arith

filter-call : (t : ℕ) (ds : List Deed) → filter (is_by t) (map call ds) ≡ map call (filter (did_by t) ds)
filter-call t [] = refl
filter-call t (d ∷ ds) = go (did_by t d) (filter (is_by t) (map call ds)) (filter (did_by t) ds) (filter-call t ds)
  where
    go : (b : Bool) (xs : List Call) (ys : List Deed) → xs ≡ map call ys → cond b (d.0 ∷ xs) xs ≡ map call (cond b (d ∷ ys) ys)
    go true xs ys e = ap (λ (l : List Call). d.0 ∷ l) e
    go false xs ys e = e

-- the first of the calls were made
pub begun-front : (ds : List Deed) (left calls : List Call) → calls ≡ map call ds ++ left → AreBegun calls ds
begun-front ds left calls is = record {
  none_twice = λ g. let a = ap (total g) is ∙ total-append g (map call ds) left in let b = total-call g ds in omega arith;
  in_order = λ t. (filter (is_by t) left, ap (filter (is_by t)) is ∙ filter-append (is_by t) (map call ds) left ∙ ap (λ (l : List Call). l ++ filter (is_by t) left) (filter-call t ds));
}

-- what one worker did
pub ran-worked : (p : Standing) (seen : List Event) (calls : List Call) (told : Option (List Deed)) → Worked p seen calls told → Ran p seen calls told
ran-worked p seen calls told work =
    let did = work.1 in record {
      rest = did.rest;
      is = did.is;
      legal = did.legal;
      below = did.below;
      begun = subst (AreBegun calls) (sym did.mine_is) (begun-front work.0 work.2.0 calls work.2.1);
      told = tell told work.3;
    }
  where
    tell : (o : Option (List Deed)) → IfSome o (λ ds. ds ≡ work.0) → IfSome o (λ ds. AreThese ds (mine p.numbers work.1.rest))
    tell None none = none
    tell (Some ds) is = subst (AreThese ds) (is ∙ sym work.1.mine_is) (these-self ds)

-- no thread's writes are in both
abbrev pub AreApart : List Call → List Call → Type 0
AreApart xs ys = (t : ℕ) → (filter (is_by t) xs ≡ []) ⊎ (filter (is_by t) ys ≡ [])

none-begun : (calls : List Call) (ds : List Deed) (t : ℕ) → AreBegun calls ds → filter (is_by t) calls ≡ [] → filter (did_by t) ds ≡ []
none-begun calls ds t begun none = go (filter (did_by t) ds) (begun.in_order t).0 (sym none ∙ (begun.in_order t).1)
  where
    go : (xs : List Deed) (left : List Call) → [] ≡ map call xs ++ left → xs ≡ []
    go [] left e = refl
    go (x ∷ xs) left e = absurd (cc e)

-- what both did is a mix of what each did
pub record IsMix (both first second : List Deed) : Type 0 where
  pub counts : (h : Deed → ℕ) → total h both ≡ total h first + total h second
  pub order : (t : ℕ) → (filter (did_by t) first ≡ []) ⊎ (filter (did_by t) second ≡ []) → filter (did_by t) both ≡ filter (did_by t) first ++ filter (did_by t) second

one-side : (xs ys : List Call) (ds es : List Deed) (t : ℕ) → AreApart xs ys → AreBegun xs ds → AreBegun ys es → (filter (did_by t) ds ≡ []) ⊎ (filter (did_by t) es ≡ [])
one-side xs ys ds es t apart a b = ⊎_elim (λ (e : filter (is_by t) xs ≡ []). inl (none-begun xs ds t a e)) (λ (e : filter (is_by t) ys ≡ []). inr (none-begun ys es t b e)) (apart t)

order-both : (t : ℕ) (xs ys : List Call) (m ds es : List Deed) → IsMix m ds es → AreBegun xs ds → AreBegun ys es → (filter (is_by t) xs ≡ []) ⊎ (filter (is_by t) ys ≡ [])
    → (left : List Call) × (filter (is_by t) (xs ++ ys) ≡ map call (filter (did_by t) m) ++ left)
order-both t xs ys m ds es mix a b (inl none) =
    let first = none-begun xs ds t a none in
    let made = mix.order t (inl first) ∙ ap (λ (l : List Deed). l ++ filter (did_by t) es) first in
    ((b.in_order t).0, filter-append (is_by t) xs ys ∙ ap (λ (l : List Call). l ++ filter (is_by t) ys) none ∙ (b.in_order t).1 ∙ ap (λ (l : List Deed). map call l ++ (b.in_order t).0) (sym made))
order-both t xs ys m ds es mix a b (inr none) =
    let second = none-begun ys es t b none in
    let made = mix.order t (inr second) ∙ ap (λ (l : List Deed). filter (did_by t) ds ++ l) second ∙ append-nil (filter (did_by t) ds) in
    ((a.in_order t).0, filter-append (is_by t) xs ys ∙ ap (λ (l : List Call). filter (is_by t) xs ++ l) none ∙ append-nil (filter (is_by t) xs) ∙ (a.in_order t).1 ∙ ap (λ (l : List Deed). map call l ++ (a.in_order t).0) (sym made))

begun-both : (xs ys : List Call) (m ds es : List Deed) → IsMix m ds es → AreApart xs ys → AreBegun xs ds → AreBegun ys es → AreBegun (xs ++ ys) m
begun-both xs ys m ds es mix apart a b = record {
  none_twice = λ g. let sum = mix.counts (λ d. g d.0) in let p = a.none_twice g in let q = b.none_twice g in let all = total-append g xs ys in omega arith;
  in_order = λ t. order-both t xs ys m ds es mix a b (apart t);
}

these-both : (xs ys : List Call) (m ds es ds' es' : List Deed) → IsMix m ds es → AreApart xs ys → AreBegun xs ds → AreBegun ys es → AreThese ds' ds → AreThese es' es → AreThese (ds' ++ es') m
these-both xs ys m ds es ds' es' mix apart a b c d = record {
  each_once = λ h. let sum = mix.counts h in let p = c.each_once h in let q = d.each_once h in let all = total-append h ds' es' in omega arith;
  in_order = λ t. mix.order t (one-side xs ys ds es t apart a b) ∙ ap₂ ◌++◌ (c.in_order t) (d.in_order t) ∙ sym (filter-append (did_by t) ds' es');
}

-- both lists of deeds, where both are told
abbrev pub both_told : Option (List Deed) → Option (List Deed) → Option (List Deed)
both_told None e = None
both_told (Some ds) None = None
both_told (Some ds) (Some es) = Some (ds ++ es)

cancel : (b x y : List Event) → b ++ x ≡ b ++ y → x ≡ y
cancel [] x y e = e
cancel (z ∷ b) x y e = cancel b x y (cc e)

mine-past : (ns : List ℕ) (xs ys : List Event) → Foreign ns ys → mine ns (xs ++ ys) ≡ mine ns xs
mine-past ns xs ys free = mine-append ns xs ys ∙ ap (λ (l : List Deed). mine ns xs ++ l) (mine-foreign ns ys free) ∙ append-nil (mine ns xs)

-- two passes that were one, and are one again
pub record AreHalves (p p1 p2 q1 q2 s : Standing) : Type 0 where
  pub first : p1 ≡ record p { numbers = p1.numbers }
  pub second : p2 ≡ record p { numbers = p2.numbers }
  pub numbers : p.numbers ≡ p1.numbers ++ p2.numbers
  pub later1 : IsLater p1 q1
  pub later2 : IsLater p2 q2
  pub both : s ≡ joined q1 q2 s.seen
  pub legal : IsLegal s.opening s.seen
  pub below : Below s.passes s.seen
  pub shares : AreShares s.numbers s.passes
  pub mine : Past q1.numbers q1.seen s.seen
  pub theirs : Past q2.numbers q2.seen s.seen

-- the one pass is as it was, and has seen more
pub halves-later : (p p1 p2 q1 q2 s : Standing) → AreHalves p p1 p2 q1 q2 s → IsLater p s
halves-later p p1 p2 q1 q2 s h =
    let one = h.later1 ∙ (λ i. record (h.first i) { seen = q1.seen }) in
    let two = ap (λ (x : Standing). x.numbers) h.later2 in
    h.both ∙ (λ i. record (one i) { numbers = (ap (λ (x : Standing). x.numbers) h.later1 i) ++ two i; seen = s.seen }) ∙ (λ i. record p { numbers = sym h.numbers i; seen = s.seen })

pub ran-both : (p p1 p2 q1 q2 s : Standing) (c1 c2 : List Call) (t1 t2 : Option (List Deed)) → AreHalves p p1 p2 q1 q2 s → AreApart c1 c2 → Ran p1 q1.seen c1 t1 → Ran p2 q2.seen c2 t2
    → Ran p s.seen (c1 ++ c2) (both_told t1 t2)
ran-both p p1 p2 q1 q2 s c1 c2 t1 t2 h apart a b =
    let later = halves-later p p1 p2 q1 q2 s h in
    let ns : List ℕ = p1.numbers in
    let ms : List ℕ = p2.numbers in
    let same1 : q1.numbers ≡ ns = ap (λ (x : Standing). x.numbers) h.later1 in
    let same2 : q2.numbers ≡ ms = ap (λ (x : Standing). x.numbers) h.later2 in
    let free1 : Foreign ns h.mine.0 = subst (λ (l : List ℕ). Foreign l h.mine.0) same1 h.mine.2 in
    let free2 : Foreign ms h.theirs.0 = subst (λ (l : List ℕ). Foreign l h.theirs.0) same2 h.theirs.2 in
    let seen1 : p1.seen ≡ p.seen = ap (λ (x : Standing). x.seen) h.first in
    let seen2 : p2.seen ≡ p.seen = ap (λ (x : Standing). x.seen) h.second in
    let rest : List Event = a.rest ++ h.mine.0 in
    let whole : s.seen ≡ p.seen ++ rest = h.mine.1 ∙ ap (λ (l : List Event). l ++ h.mine.0) (a.is ∙ ap (λ (l : List Event). l ++ a.rest) seen1) ∙ append_assoc p.seen a.rest h.mine.0 in
    let whole2 : s.seen ≡ p.seen ++ (b.rest ++ h.theirs.0) = h.theirs.1 ∙ ap (λ (l : List Event). l ++ h.theirs.0) (b.is ∙ ap (λ (l : List Event). l ++ b.rest) seen2) ∙ append_assoc p.seen b.rest h.theirs.0 in
    let same : rest ≡ b.rest ++ h.theirs.0 = cancel p.seen rest (b.rest ++ h.theirs.0) (sym whole ∙ whole2) in
    let m1 : mine ns rest ≡ mine ns a.rest = mine-past ns a.rest h.mine.0 free1 in
    let m2 : mine ms rest ≡ mine ms b.rest = ap (mine ms) same ∙ mine-past ms b.rest h.theirs.0 free2 in
    let shares : AreShares (ns ++ ms) s.passes = subst (λ (l : List ℕ). AreShares l s.passes) (ap (λ (x : Standing). x.numbers) later ∙ h.numbers) h.shares in
    let mix : IsMix (mine p.numbers rest) (mine ns a.rest) (mine ms b.rest) =
    subst (λ (l : List ℕ). IsMix (mine l rest) (mine ns a.rest) (mine ms b.rest)) (sym h.numbers)
    (mixed (mine (ns ++ ms) rest) (mine ns rest) (mine ms rest) (mine ns a.rest) (mine ms b.rest) m1 m2 (λ f. total-both f ns ms s.passes rest shares) (λ t. filter-both (did_by t) ns ms s.passes rest shares)) in
    record {
      rest = rest;
      is = whole;
      legal = legal-behind p.opening p.seen rest (subst (IsLegal p.opening) whole (subst (λ (o : Parts). IsLegal o s.seen) (ap (λ (x : Standing). x.opening) later) h.legal));
      below = below_rest p.passes p.seen rest (subst (Below p.passes) whole (subst (λ (n : ℕ). Below n s.seen) (ap (λ (x : Standing). x.passes) later) h.below));
      begun = begun-both c1 c2 (mine p.numbers rest) (mine ns a.rest) (mine ms b.rest) mix apart a.begun b.begun;
      told = tell t1 t2 (mine p.numbers rest) (mine ns a.rest) (mine ms b.rest) mix a.begun b.begun a.told b.told;
    }
  where
    mixed : (m d1 d2 e1 e2 : List Deed) → d1 ≡ e1 → d2 ≡ e2 → ((f : Deed → ℕ) → total f m ≡ total f d1 + total f d2)
        → ((t : ℕ) → (filter (did_by t) d1 ≡ []) ⊎ (filter (did_by t) d2 ≡ []) → filter (did_by t) m ≡ filter (did_by t) d1 ++ filter (did_by t) d2) → IsMix m e1 e2
    mixed m d1 d2 e1 e2 x y counts order = subst (λ (l : List Deed). IsMix m l e2) x (subst (λ (l : List Deed). IsMix m d1 l) y record { counts = counts; order = order })

    tell : (t1 t2 : Option (List Deed)) (m ds es : List Deed) → IsMix m ds es → AreBegun c1 ds → AreBegun c2 es → IfSome t1 (λ x. AreThese x ds) → IfSome t2 (λ x. AreThese x es) → IfSome (both_told t1 t2) (λ x. AreThese x m)
    tell None t2 m ds es mix a b c d = tt
    tell (Some x) None m ds es mix a b c d = tt
    tell (Some x) (Some y) m ds es mix a b c d = these-both c1 c2 m ds es x y mix apart a b c d

-- other calls that are the same, and other deeds that are the same
pub ran-as : (p : Standing) (seen : List Event) (c c' : List Call) (t t' : Option (List Deed)) → SameCalls c c' → ((ds' : List Deed) → t' ≡ Some ds' → (ds : List Deed) × (t ≡ Some ds) × AreThese ds' ds) → Ran p seen c t → Ran p seen c' t'
ran-as p seen c c' t t' same lead ran = record {
  rest = ran.rest;
  is = ran.is;
  legal = ran.legal;
  below = ran.below;
  begun = begun-as c c' (mine p.numbers ran.rest) same ran.begun;
  told = tell t' refl;
}
  where
    tell : (o : Option (List Deed)) → t' ≡ o → IfSome o (λ ds. AreThese ds (mine p.numbers ran.rest))
    tell None is = tt
    tell (Some ds') is =
        let l = lead ds' is in
        these-then ds' l.0 (mine p.numbers ran.rest) l.2 (subst (λ (o : Option (List Deed)). IfSome o (λ ds. AreThese ds (mine p.numbers ran.rest))) l.1 ran.told)
