-- A far keeper goes on to follow a near one.
use Rattle.std.specs.{Prelude.{IfSome, IsPermutation}, Option.{option_map}}
use Rattle.std.proofs.Common.{◌≡◌, ◌==◌, ◌≤◌, ◌<◌, ◌+◌, ◌∙◌, Bool, true, length, ℕ, List, [], ◌∷◌, ◌++◌, Option, Some, None, refl, ap, sym, subst, arith}
use Rattle.std.proofs.lemmas.{Bool.Decides.{nat_tests}, List.Sorted.{length_permutation}}
use Rattle.rm_catalog.specs.{Edits.{after_edits}, Keys.{Ascends}, Rules.{IsOrderOf}, declared.record.{Edit.{Edit}, Record.{Record}}}
use Rattle.rm_catalog.proofs.{Ascending.{loaded_in_order}, Filters.{after_both}}
use Rattle.rm_control.specs.{Control.{IsFollowed}, Follows.{AreEqual, Follows}}

follows_sent : (near far : Option (List Record)) (waiting : List Edit) → Follows near far waiting → Follows near (option_map (after_edits waiting) far) []
follows_sent (Some near) (Some far) waiting is = is
follows_sent (Some near) None waiting is = tt
follows_sent None far waiting is = tt

follows_added : (near far : Option (List Record)) (waiting es : List Edit) → Follows near far waiting
    → Follows (option_map (after_edits es) near) far (waiting ++ es)
follows_added (Some near) (Some far) waiting es is = ap (λ (rs : List Record). after_edits es rs) is ∙ sym (after_both waiting es far)
follows_added (Some near) None waiting es is = tt
follows_added None far waiting es is = tt

-- one list more may wait
pub record IsReady (near far : Option (List Record)) (waiting : List Edit) (lists keep : ℕ) : Type 0 where
  pub follows : Follows near far waiting
  pub room : lists < keep

-- what waits was sent
pub ready_sent : (near far far' : Option (List Record)) (waiting was now : List Edit) (lists keep : ℕ) → IsFollowed near far waiting lists keep
    → was ≡ waiting
    → far' ≡ option_map (after_edits was) far → now ≡ [] → IsReady near far' now 0 keep
ready_sent near far far' waiting was now lists keep is same after none = record {
  follows = subst (λ (es : List Edit). Follows near far' es) (sym none)
      (subst (λ (o : Option (List Record)). Follows near o []) (sym (after ∙ ap (λ (es : List Edit). option_map (after_edits es) far) same)) (follows_sent near far waiting is.follows));
  room = let some = is.some in omega (arith, some);
}

-- fewer lists wait than may
pub ready_still : (near far : Option (List Record)) (waiting was : List Edit) (lists keep : ℕ) → IsFollowed near far waiting lists keep → was ≡ waiting
    → ¬ (lists ≡ keep) → IsReady near far was lists keep
ready_still near far waiting was lists keep is same apart = record {
  follows = subst (λ (es : List Edit). Follows near far es) (sym same) is.follows;
  room = below lists keep is.few apart;
}
  where
    below : (m n : ℕ) → m ≤ n → ¬ (m ≡ n) → m < n
    below m n le apart = grind arith

-- the near keeper made a list, and it waits
pub followed_added : (near near' far : Option (List Record)) (waiting now es equal : List Edit) (lists keep : ℕ) → IsReady near far waiting lists keep
    → near' ≡ option_map (after_edits es) near
    → now ≡ waiting ++ equal → equal ≡ es → IsFollowed near' far now (lists + 1) keep
followed_added near near' far waiting now es equal lists keep is after added same = record {
  follows = subst (λ (w : List Edit). Follows near' far w) (sym (added ∙ ap (λ (x : List Edit). waiting ++ x) same))
      (subst (λ (o : Option (List Record)). Follows o far (waiting ++ es)) (sym after) (follows_added near far waiting es is.follows));
  few = let room = is.room in omega (arith, room);
  some = let room = is.room in omega (arith, room);
}

-- the far records are made the near ones
pub leveled : (near far far' : Option (List Record)) (loaded loaded' wanted present : List Record) (es : List Edit)
    → IfSome near (λ ks. IsPermutation ks loaded) → IfSome near Ascends
    → IfSome far (λ ks. IsPermutation ks loaded') → IfSome far Ascends → IsOrderOf wanted loaded → IsOrderOf present loaded'
    → (Ascends wanted → Ascends present → after_edits es present ≡ wanted) → far' ≡ option_map (after_edits es) far → AreEqual near far'
leveled (Some near) (Some far) far' loaded loaded' wanted present es has up has' up' order order' made after =
    let is = loaded_in_order near loaded wanted up has order in
    let is' = loaded_in_order far loaded' present up' has' order' in
    let all : after_edits es present ≡ wanted = made (subst (λ (rs : List Record). Ascends rs) (sym is) up) (subst (λ (rs : List Record). Ascends rs) (sym is') up') in
    subst (λ (o : Option (List Record)). AreEqual (Some near) o) (sym after) (sym is ∙ sym all ∙ ap (λ (rs : List Record). after_edits es rs) is')
leveled (Some near) None far' loaded loaded' wanted present es has up has' up' order order' made after = subst (λ (o : Option (List Record)). AreEqual (Some near) o) (sym after) tt
leveled None far far' loaded loaded' wanted present es has up has' up' order order' made after = tt

-- what was loaded and put in order is as long as what is kept
pub counted : (near : Option (List Record)) (loaded wanted : List Record) (n : ℕ) → IfSome near (λ ks. IsPermutation ks loaded)
    → IsOrderOf wanted loaded → n ≡ length wanted → IfSome near (λ ks. n ≡ length ks)
counted (Some rs) loaded wanted n has order is = is ∙ length_permutation loaded wanted order.permutation ∙ length_permutation rs loaded has
counted None loaded wanted n has order is = tt

-- no edit changes nothing
pub same_after : (o : Option (List Record)) (es : List Edit) → es ≡ [] → o ≡ option_map (after_edits es) o
same_after (Some rs) es none = ap (λ (x : List Edit). Some (after_edits x rs)) (sym none)
same_after None es none = refl

-- a list of no length, as a test tells it
pub none_by : (es : List Edit) (n : ℕ) (b : Bool) → length es ≡ n → b ≡ (n == 0) → b ≡ true → es ≡ []
none_by [] n b long is said = refl
none_by (e ∷ es) n b long is said = let zero : n ≡ 0 = zero_of n b is said in absurd (omega (arith, long, zero))
  where
    zero_of : (n : ℕ) (b : Bool) → b ≡ (n == 0) → b ≡ true → n ≡ 0
    zero_of n b is said = grind (arith, nat_tests)
