-- What one worker did, call after call.
use mathlib.Core.List.{map-append}
use Rattle.std.proofs.Common.{◌≡◌, ℕ, ◌<◌, Option, Some, None, List, [], ◌∷◌, ◌++◌, length, map, refl, sym, ap, ◌∙◌, subst, append-nil, append_assoc}
use Rattle.rm_live.specs.{Parts.{Parts}, History.{IsLegal, after, fold_of}, Passes.{Standing, IsLater, Adds, made}, Ruled.{Below}}
use Rattle.rm_live.{specs.declared.history.{Answer.{Answer}, Call.{Call}, Event.{Event}}, proofs.Totals.{below_rest}}
use Rattle.rm_channel.{specs.{Jobs.{Deed}, Made.{call, mine, Did, Worked}}, proofs.Mine.{mine-append, mine-foreign, mine-one, first-times}}

pub fold-append : (o : Parts) (xs ys : List Event) → fold_of o (xs ++ ys) ≡ fold_of (fold_of o xs) ys
fold-append o [] ys = refl
fold-append o (x ∷ xs) ys = fold-append (after o x.call x.answer) xs ys

pub legal-behind : (o : Parts) (xs ys : List Event) → IsLegal o (xs ++ ys) → IsLegal (fold_of o xs) ys
legal-behind o [] ys legal = legal
legal-behind o (x ∷ xs) ys legal = legal-behind (after o x.call x.answer) xs ys legal.1

pub legal-both : (o : Parts) (xs ys : List Event) → IsLegal o xs → IsLegal (fold_of o xs) ys → IsLegal o (xs ++ ys)
legal-both o [] ys legal then = then
legal-both o (x ∷ xs) ys legal then = (legal.0, legal-both (after o x.call x.answer) xs ys legal.1 then)

pub below-both : (n : ℕ) (xs ys : List Event) → Below n xs → Below n ys → Below n (xs ++ ys)
below-both n [] ys low then = then
below-both n (x ∷ xs) ys low then = (low.0, below-both n xs ys low.1 then)

pub did-none : (p : Standing) → Did p p.seen []
did-none p = record { rest = []; is = sym (append-nil p.seen); legal = tt; below = tt; mine_is = refl }

-- one call
pub did-one : (p q : Standing) (c : Call) (a : Answer) → 0 < length p.numbers → IsLater p q → IsLegal q.opening q.seen → Below q.passes q.seen → Adds p c a q.seen → Did p q.seen ((c, a) ∷ [])
did-one p q c a some_number later legal low adds =
    let e : Event = made p.numbers c a in
    let rest : List Event = adds.0 ++ e ∷ [] in
    let is : q.seen ≡ p.seen ++ rest = adds.1 ∙ append_assoc p.seen adds.0 (e ∷ []) in
    let legal' : IsLegal p.opening (p.seen ++ rest) = subst (IsLegal p.opening) is (subst (λ (o : Parts). IsLegal o q.seen) (ap (λ (s : Standing). s.opening) later) legal) in
    let low' : Below p.passes (p.seen ++ rest) = subst (Below p.passes) is (subst (λ (n : ℕ). Below n q.seen) (ap (λ (s : Standing). s.passes) later) low) in record {
      rest = rest;
      is = is;
      legal = legal-behind p.opening p.seen rest legal';
      below = below_rest p.passes p.seen rest low';
      mine_is = mine-append p.numbers adds.0 (e ∷ []) ∙ (λ i. mine-foreign p.numbers adds.0 adds.2 i ++ mine-one p.numbers e (first-times p.numbers some_number) i);
    }

-- one after the other
pub did-then : (p q : Standing) (seen : List Event) (xs ys : List Deed) → IsLater p q → Did p q.seen xs → Did q seen ys → Did p seen (xs ++ ys)
did-then p q seen xs ys later first second =
    let same : fold_of q.opening q.seen ≡ fold_of (fold_of p.opening p.seen) first.rest = (λ i. fold_of (later i).opening (first.is i)) ∙ fold-append p.opening p.seen first.rest in
    let passes = ap (λ (s : Standing). s.passes) later in
    let numbers = ap (λ (s : Standing). s.numbers) later in record {
      rest = first.rest ++ second.rest;
      is = second.is ∙ ap (λ (l : List Event). l ++ second.rest) first.is ∙ append_assoc p.seen first.rest second.rest;
      legal = legal-both (fold_of p.opening p.seen) first.rest second.rest first.legal (subst (λ (o : Parts). IsLegal o second.rest) same second.legal);
      below = below-both p.passes first.rest second.rest first.below (subst (λ (n : ℕ). Below n second.rest) passes second.below);
      mine_is = mine-append p.numbers first.rest second.rest ∙ (λ i. first.mine_is i ++ (ap (λ (ns : List ℕ). mine ns second.rest) (sym numbers) ∙ second.mine_is) i);
    }

-- all calls were made
pub worked-all : (p : Standing) (seen : List Event) (calls : List Call) (deeds : List Deed) → Did p seen deeds → map call deeds ≡ calls → Worked p seen calls (Some deeds)
worked-all p seen calls deeds did is = (deeds, did, ([], sym is ∙ sym (append-nil (map call deeds))), refl)

-- some were, and then no more
pub worked-some : (p q : Standing) (seen : List Event) (xs : List Deed) (now left calls : List Call) (told : Option (List Deed)) → IsLater p q → Did p q.seen xs → Worked q seen now told
    → calls ≡ map call xs ++ (now ++ left) → Worked p seen calls None
worked-some p q seen xs now left calls told later did work is = (
  xs ++ work.0,
  did-then p q seen xs work.0 later did work.1,
  (
    work.2.0 ++ left,
    is ∙ ap (λ (l : List Call). map call xs ++ (l ++ left)) work.2.1 ∙ ap (λ (l : List Call). map call xs ++ l) (append_assoc (map call work.0) work.2.0 left)
        ∙ sym (append_assoc (map call xs) (map call work.0) (work.2.0 ++ left)) ∙ ap (λ (l : List Call). l ++ (work.2.0 ++ left)) (sym (map-append call xs work.0)),
  ),
  tt,
)

-- none was
pub worked-none : (p : Standing) (calls : List Call) → Worked p p.seen calls None
worked-none p calls = ([], did-none p, (calls, refl), tt)

pub later-then : (p q r : Standing) → IsLater p q → IsLater q r → IsLater p r
later-then p q r a b = b ∙ (λ i. record (a i) { seen = r.seen })
