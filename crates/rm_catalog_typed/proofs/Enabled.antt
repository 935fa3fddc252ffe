-- Which threads are enabled at the end of an incarnation: the same while ends rise, since each switch lies below the end of its incarnation.
use Rattle.std.proofs.Common.{◌≡◌, ◌<◌, ◌≤◌, ◌∙◌, ◌==◌, ◌&&◌, inl, inr, nat_le, ℕ, List, ap, sym, subst, arith, eqb, get_or, All}
use Rattle.std.proofs.lemmas.{Bool.{and_right, cases_Bool, eqb-true, le-leb}, List.Elements.{All-map}}
use Rattle.rm_history.specs.{Threads.{applies, is_enabled, is_on}, Tree.{HasParentsBelow, IsThere, end_of, owner, reset_of}}
use Rattle.rm_history.{specs.declared.{tree.Incarnation.{Incarnation}, world.Switch.{Switch}}, proofs.Enabled.{last-same}}
use Rattle.rm_history.proofs.Owners.{owner-cases}
use Rattle.rm_catalog_typed.specs.{Ledger.{Ledger}, LedgerFacts.{IsLedger}, Switches.{is_enabled_in, switch_of, switches_of}}
use Rattle.rm_catalog_typed.{specs.declared.thread_switch.ThreadSwitch.{ThreadSwitch}, proofs.Trees.{Keeps, parents_below}}
use Rattle.rm_base.proofs.Standing.{each-get}

-- what another incarnation owns on the path of m, below its own end, lies below the end of m
owned-below : (tree : List Incarnation) (m g j : ℕ) → HasParentsBelow tree → 0 < m → reset_of tree m ≤ end_of tree m → owner tree m g ≡ j → g < end_of tree j → g < end_of tree m
owned-below tree m g j below some range own inside = elim (owner-cases tree below m g some) [
  | inl here ↦ subst (λ k. g < end_of tree k) (sym own ∙ here.1) inside
  | inr above ↦ let begins = above.0 in omega (arith, begins, range)
]

-- the switches of a ledger lie below the ends of their incarnations
below-ends : (l : Ledger) → IsLedger l → All (λ (x : Switch). x.scn < end_of l.tree x.inc) (switches_of l)
below-ends l is = All-map (λ (x : Switch). x.scn < end_of l.tree x.inc) switch_of l.switches
    (each-get (λ (x : ThreadSwitch). x.scn < end_of l.tree x.inc) l.switches (λ k x at. (is.switches k x at).range.1))

-- so each on the path of an incarnation lies below the end of that
pub path-below : (l : Ledger) → IsLedger l → (m : ℕ) → IsThere l.tree m → All (λ (x : Switch). owner l.tree m x.scn ≡ x.inc → x.scn < end_of l.tree m) (switches_of l)
path-below l is m there k d inside own =
    owned-below l.tree m (get_or (switches_of l) k d).scn (get_or (switches_of l) k d).inc (parents_below l.tree is.incarnations) there.0 (is.incarnations.ranges m there).1 own (below-ends l is k d inside)

module _ (l : Ledger) (is : IsLedger l) (new : List Incarnation) (keeps : Keeps l.tree new) (m t : ℕ) (there : IsThere l.tree m) where
  applies-risen : (x : Switch) → (owner l.tree m x.scn ≡ x.inc → x.scn < end_of l.tree m) → applies new m (end_of new m) t x ≡ applies l.tree m (end_of l.tree m) t x
  applies-risen x below =
      let owners : owner new m x.scn ≡ owner l.tree m x.scn = keeps.owners m x.scn there in
      ap (λ o. eqb x.thread t && nat_le x.scn (end_of new m) && eqb o x.inc) owners
      ∙ elim (cases_Bool (owner l.tree m x.scn == x.inc)) [
        | inr other ↦ and_right (eqb x.thread t && nat_le x.scn (end_of new m)) (owner l.tree m x.scn == x.inc) other ∙ sym (and_right (eqb x.thread t && nat_le x.scn (end_of l.tree m)) (owner l.tree m x.scn == x.inc) other)
        | inl own ↦
            let low : x.scn < end_of l.tree m = below (eqb-true (owner l.tree m x.scn) x.inc own) in
            let up = keeps.end m there in
            ap (λ b. eqb x.thread t && b && (owner l.tree m x.scn == x.inc)) (le-leb x.scn (end_of new m) (omega (arith, low, up)) ∙ sym (le-leb x.scn (end_of l.tree m) (omega (arith, low))))
      ]

  pub enabled-risen : is_enabled new l.base.threads (switches_of l) m (end_of new m) t ≡ is_enabled_in l m (end_of l.tree m) t
  unfolding is_enabled
  enabled-risen = ap (is_on l.base.threads t) (last-same (applies new m (end_of new m) t) (applies l.tree m (end_of l.tree m) t) (switches_of l) (λ k d inside. applies-risen (get_or (switches_of l) k d) (path-below l is m there k d inside)))
