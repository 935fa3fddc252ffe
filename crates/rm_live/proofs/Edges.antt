-- The rule at the opening and at the close.
use Rattle.std.proofs.Common.{Some, lt-ltb, ◌≡◌, ◌≢◌, ℕ, zero, suc, ◌<◌, false, List, [], ◌∷◌, ◌++◌, length, refl, sym, ap, ◌∙◌, subst, arith, inl, inr, append-nil}
use mathlib.Core.Logic.{dite}
use mathlib.Core.Option.{Option as Slot, some, some-ne-none, some-injective}
use native.Mathlib.Decide.{ℕ_discrete}
use lib.ListN.{get_elem?}
use Rattle.atomic_table.specs.Table.{State, opening, Final, Seen}
use Rattle.rm_live.specs.{Parts.{IsSound, parts_of}, History.{fold_of, times, Foreign}}
use Rattle.rm_live.specs.Ruled.{big, start, upto, resting, once_below, one_if, holding, Knows, SlotIs, Below, Ruled}
use Rattle.rm_live.specs.declared.{database.Database.{Database}, history.Event.{Event}, rule.View.{View}}
use Rattle.rm_live.proofs.{Totals.{total_two, total_only, times_upto, length_upto, past_none, past_self, below_rest}, Steps.{off}}
use Rattle.std.specs.declared.snapshot.Snapshot.{Snapshot}

pub begins : (k : Snapshot Database) (passes : ℕ) → passes < big → IsSound (parts_of k.value) → Ruled (opening (0 ∷ 0 ∷ []) (k.value ∷ []) (resting (Some k) passes (upto 0 passes) []))
begins k passes small sound = record {
  opening = parts_of k.value;
  passes = passes;
  log = [];
  drawn = 0;
  words = refl;
  small = small;
  legal = tt;
  sound = sound;
  below = tt;
  tickets = refl;
  shares = λ n. let e = times_upto n passes in omega arith;
  count = let e = length_upto 0 passes in omega arith;
  each = one;
  apart = λ i j v w at at' waits _ _. absurd (off (idle i v at ∙ waits));
  slot = inl (k.value, refl, refl);
}
  where
    first : View
    first = resting (Some k) passes (upto 0 passes) []

    idle : (i : ℕ) (v : View) → get_elem? (first ∷ []) i ≡ some v → false ≡ v.waits
    idle zero v at = ap (λ (x : View). x.waits) (some-injective first v at)
    idle (suc i) v at = absurd (some-ne-none v (sym at))

    one : (i : ℕ) (v : View) → get_elem? (first ∷ []) i ≡ some v → Knows (parts_of k.value) passes [] 0 v
    one zero v at = subst (Knows (parts_of k.value) passes [] 0) (some-injective first v at) record {
      opening_is = λ _. refl;
      passes_is = λ _. refl;
      past = past_self (upto 0 passes) [];
      one = past_none [];
      other = past_none [];
      one_le = omega arith;
      other_le = omega arith;
      one_in = λ n. omega arith;
      other_in = λ n. omega arith;
      ticketed = λ waits. absurd (off waits);
      in_turn = λ turn. absurd (off turn);
    }
    one (suc i) v at = absurd (some-ne-none v (sym at))

-- where one view has all numbers, no other has one
alone : (s : State Database View) (r : Ruled s) (id : ℕ) (v : View) → get_elem? s.views id ≡ some v → 0 < length v.numbers → length v.numbers ≡ v.passes → (j : ℕ) (u : View) → j ≢ id → get_elem? s.views j ≡ some u → length u.numbers ≡ 0
alone s r id v at some_number all j u other there =
    let both = total_two holding s.views j id u v other there at in
    let count = r.count in
    let same = (r.each id v at).passes_is some_number in
    omega arith

none_in : (n : ℕ) (ns : List ℕ) → length ns ≡ 0 → times n ns ≡ 0
none_in n [] e = refl
none_in n (x ∷ xs) e = absurd (omega arith)

-- then it has seen all events
whole : (s : State Database View) (r : Ruled s) (id : ℕ) (v : View) → get_elem? s.views id ≡ some v → 0 < length v.numbers → length v.numbers ≡ v.passes → (rest : List Event) → r.log ≡ v.seen ++ rest → Foreign v.numbers rest → r.log ≡ v.seen
whole s r id v at some_number all [] is foreign = is ∙ append-nil v.seen
whole s r id v at some_number all (e ∷ rest) is foreign =
    let below = below_rest r.passes v.seen (e ∷ rest) (subst (Below r.passes) is r.below) in
    let mine = total_only (λ (x : View). times e.by x.numbers) s.views id v at (λ j u other there. none_in e.by u.numbers (alone s r id v at some_number all j u other there)) in
    let once : once_below e.by r.passes ≡ 1 = ap one_if (lt-ltb e.by r.passes below.0) in
    let shares = r.shares e.by in
    let none_here = foreign.0 in
    absurd (omega arith)

pub closes : (ws : List ℕ) (xs : List Database) (id : ℕ) (v : View) (d : Database) → v.turn ≡ false → 0 < length v.numbers → length v.numbers ≡ v.passes → Final (Seen Ruled id v) ws xs → get_elem? xs 0 ≡ some d → parts_of d ≡ fold_of (start v.opening) v.seen
closes ws xs id v d idle some_number all f taken = go f.1.0.slot
  where
    s : State Database View
    s = f.0

    r : Ruled s
    r = f.1.0

    at : get_elem? s.views id ≡ some v
    at = f.1.1

    go : SlotIs r.opening r.log s.homes s.views → parts_of d ≡ fold_of (start v.opening) v.seen
    go (inl h) =
        let there : get_elem? xs 0 ≡ some h.0 = f.4 0 h.0 (ap (λ (hs : List (Slot Database)). get_elem? hs 0) h.1) in
        let same : d ≡ h.0 = some-injective d h.0 (sym taken ∙ there) in
        let mine = r.each id v at in
        let seen = whole s r id v at some_number all mine.past.0 mine.past.1 mine.past.2 in
        ap parts_of same ∙ h.2 ∙ (λ i. fold_of (sym (mine.opening_is some_number) i) (seen i))
    go (inr h) = dite (ℕ_discrete h.1.0 id)
        (λ is. absurd (off (sym idle ∙ ap (λ (x : View). x.turn) (some-injective v h.1.1 (sym at ∙ ap (λ (k : ℕ). get_elem? s.views k) (sym is) ∙ h.1.2)) ∙ h.1.3)))
        (λ other.
        let theirs = r.each h.1.0 h.1.1 h.1.2 in
        let waits = (theirs.in_turn h.1.3).0 in
        let their_number = (theirs.ticketed waits).2 in
        let none_there = alone s r id v at some_number all h.1.0 h.1.1 other h.1.2 in
        absurd (omega arith))
