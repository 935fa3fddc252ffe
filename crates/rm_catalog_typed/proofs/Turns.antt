-- What a switch of a redo thread obeys among records, and among the switches that these tell.
use Rattle.std.specs.{Prelude.{IfSome, IsSome, IsSomeAnd, not, option_and_then}, Option.{option_map}}
use Rattle.std.proofs.Common.{◌≡◌, ◌∙◌, ℕ, zero, suc, ◌+◌, ◌-◌, ◌<◌, ◌≤◌, ◌==◌, ◌&&◌, ◌||◌, List, length, get_or, map, slice_get, Option, Some, None, refl, ap, sym, subst, arith, take, All}
use Rattle.std.proofs.lemmas.List.{get_or-take, length-map, length-take, take-map}
use Rattle.std.proofs.lemmas.Option.{get_or_from_slice_get, slice_get-map, slice_get_within}
use Rattle.rm_history.specs.{Threads.{is_enabled}, Tree.{IsThere, end_of, owner, reset_of}, declared.tree.Incarnation.{Incarnation}}
use Rattle.rm_history.specs.declared.world.Switch.{Switch}
use Rattle.rm_catalog.specs.{Keys.{at, incarnation, place, switch_in, IsThere as HasKey}, Objects.{owner_in}}
use Rattle.rm_catalog.specs.Switches.{IsAt, SwitchRule, began_with, was_enabled, IsAbove as IsAboveAll, leaves_one as leaves_one_in, switch_of as told_switch}
use Rattle.rm_catalog.{specs.declared.record.Record.{Record}, proofs.Switching.{AreFound, was-told}}
use Rattle.rm_catalog_typed.specs.{Ledger.{switch_record}, Switches.{IsAbove, IsNextSwitch, enabled_by, leaves_one, switch_of}}
use Rattle.rm_catalog_typed.{specs.declared.thread_switch.ThreadSwitch.{ThreadSwitch}, proofs.Lookups.{item-at, switch_entry}}

-- records that tell paths, how many threads there were, and switches under their numbers
pub record Tells (rs : List Record) (tree : List Incarnation) (threads : ℕ) (xs : List ThreadSwitch) : Type 0 where
  pub began : began_with rs ≡ threads
  pub paths : (i g : ℕ) → IsThere tree i → owner_in 256 i g rs ≡ owner tree i g
  pub found : (k : ℕ) (x : ThreadSwitch) → slice_get xs k ≡ Some x → at (place 10 (1 + k)) rs ≡ Some (switch_record (1 + k) x)

module _ (rs : List Record) (tree : List Incarnation) (threads : ℕ) (xs : List ThreadSwitch) (tells : Tells rs tree threads xs) where
  found-at : (k n : ℕ) (x : ThreadSwitch) → n ≡ 1 + k → slice_get xs k ≡ Some x → at (place 10 n) rs ≡ Some (switch_record n x)
  found-at k n x number is = subst (λ m. at (place 10 m) rs ≡ Some (switch_record m x)) (sym number) (tells.found k x is)

  are-found : AreFound rs (map switch_of xs)
  are-found k d inside =
      let x = item-at xs k (omega (arith, inside, length-map xs switch_of)) in
      ap (λ o. option_map told_switch (option_and_then switch_in o)) (found-at k (suc k) x.0 (omega arith) x.1)
      ∙ ap (λ (y : Switch). Some y) (sym (get_or_from_slice_get (map switch_of xs) k (switch_of x.0) d (slice_get-map switch_of xs k ∙ ap (option_map switch_of) x.1)))

  module _ (k : ℕ) (x : ThreadSwitch) (is : slice_get xs k ≡ Some x) (there : IsThere tree x.inc) where
    abbrev before : List ThreadSwitch
    before = take k xs

    inside : k < length xs
    inside = slice_get_within xs k x is

    -- which threads were enabled, and that one is left
    enabled-told : (t : ℕ) → was_enabled rs (switch_entry (1 + k) x) t ≡ enabled_by tree threads before x.inc x.scn t
    enabled-told t =
        was-told rs tree (map switch_of xs) (switch_entry (1 + k) x) k t are-found (omega (arith, inside, length-map xs switch_of)) (omega arith) (λ g. tells.paths x.inc g there)
        ∙ ap (λ n. is_enabled tree n (take k (map switch_of xs)) x.inc x.scn t) tells.began
        ∙ ap (λ ys. is_enabled tree threads ys x.inc x.scn t) (take-map switch_of k xs)

    leaves-told : leaves_one_in rs (switch_entry (1 + k) x) ≡ leaves_one tree threads before x
    leaves-told = λ i. x.on || (not (1 == x.thread) && enabled-told 1 i) || (not (2 == x.thread) && enabled-told 2 i) || (not (3 == x.thread) && enabled-told 3 i) || (not (4 == x.thread) && enabled-told 4 i)

    -- a switch that comes next among the switches obeys among the records
    above-all : ¬ HasKey 10 0 rs → All (IsAbove x) before → IsAboveAll rs (switch_entry (1 + k) x)
    above-all none above zero less = lacks (at (place 10 0) rs) none
      where
        lacks : (o : Option Record) → ¬ IsSome o → IfSome (option_and_then switch_in o) (λ y. y.inc ≡ x.inc → y.scn < x.scn)
        lacks None none = tt
        lacks (Some r) none = absurd (none refl)
    above-all none above (suc j) less =
        let y = item-at xs j (omega (arith, inside)) in
        let same : get_or before j y.0 ≡ y.0 = get_or-take k xs j y.0 (omega arith) ∙ get_or_from_slice_get xs j y.0 y.0 y.1 in
        subst (λ o. IfSome (option_and_then switch_in o) (λ z. z.inc ≡ x.inc → z.scn < x.scn)) (sym (found-at j (suc j) y.0 (omega arith) y.1))
        (subst (IsAbove x) same (above j y.0 (omega (arith, inside, length-take k xs))))

    gapless : 1 < 1 + k → HasKey 10 ((1 + k) - 1) rs
    gapless more = let y = item-at xs (k - 1) (omega (arith, inside)) in subst (λ (o : Option Record). IsSome o) (sym (found-at (k - 1) ((1 + k) - 1) y.0 (omega arith) y.1)) refl

    pub rule-from : ¬ HasKey 10 0 rs → IsSomeAnd (incarnation x.inc rs) (IsAt (switch_entry (1 + k) x)) → IsNextSwitch tree threads before x → SwitchRule rs (switch_entry (1 + k) x)
    rule-from none range next = record {
      number = omega arith;
      no_gap = record { no_gap = gapless };
      thread = next.thread;
      range = range;
      above = above-all none next.above;
      changes = enabled-told x.thread ∙ next.changes;
      leaves = leaves-told ∙ next.leaves;
      sequence = next.sequence.0;
    }

    -- and the other way round
    pub next-from : (reset_of tree x.inc ≤ x.scn) × (x.scn < end_of tree x.inc) → x.sequence ≤ 4294967295 → SwitchRule rs (switch_entry (1 + k) x) → IsNextSwitch tree threads before x
    next-from range few rule = record {
      thread = rule.thread;
      there = there;
      range = range;
      above = λ j d lt.
          let short = length-take k xs in
          let y = item-at xs j (omega (arith, inside)) in
          let same : get_or before j d ≡ y.0 = get_or-take k xs j d (omega arith) ∙ get_or_from_slice_get xs j y.0 d y.1 in
          subst (IsAbove x) (sym same) (subst (λ o. IfSome (option_and_then switch_in o) (λ z. z.inc ≡ x.inc → z.scn < x.scn)) (found-at j (suc j) y.0 (omega arith) y.1) (rule.above (suc j) (omega arith)));
      changes = sym (enabled-told x.thread) ∙ rule.changes;
      leaves = sym leaves-told ∙ rule.leaves;
      sequence = (rule.sequence, few);
    }
