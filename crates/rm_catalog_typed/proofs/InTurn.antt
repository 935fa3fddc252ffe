-- Switches that come in turn: they do where a tree grows, where one more comes next, and what follows of each.
use Rattle.std.specs.Prelude.{not}
use Rattle.std.proofs.Common.{◌≡◌, ◌∙◌, ℕ, ◌<◌, ◌≤◌, ◌==◌, ◌&&◌, ◌||◌, inl, inr, Bool, true, false, cond, fold, List, [], ◌∷◌, ◌++◌, get_or, map, sym, subst, arith, take, All}
use Rattle.std.proofs.lemmas.{List.{take-append-le, take_at, Elements.{All-head, All-tail}}, Option.{slice_get-get_or, slice_get_within}}
use Rattle.rm_base.proofs.Slots.{get-push}
use Rattle.rm_history.{specs.{Tree.{IsThere}, declared.tree.Incarnation.{Incarnation}}, proofs.Enabled.{enabled-alike}}
use Rattle.rm_catalog_typed.specs.{Ledger.{Ledger}, LedgerFacts.{AreIncarnations, IsLedger}}
use Rattle.rm_catalog_typed.specs.Switches.{ComeInTurn, IsNextSwitch, after_sequence, enabled_by, next_sequence, switch_of}
use Rattle.rm_catalog_typed.{specs.declared.thread_switch.ThreadSwitch.{ThreadSwitch}, proofs.Trees.{Keeps}}

enabled_kept : (old new : List Incarnation) (threads : ℕ) (xs : List ThreadSwitch) (m g t : ℕ) → Keeps old new → IsThere old m → enabled_by new threads xs m g t ≡ enabled_by old threads xs m g t
enabled_kept old new threads xs m g t keeps there = enabled-alike new old threads (map switch_of xs) m m g t (λ c low. keeps.owners m c there)

pub turns_kept : (old new : List Incarnation) (threads : ℕ) (xs : List ThreadSwitch) → Keeps old new → ComeInTurn old threads xs → ComeInTurn new threads xs
turns_kept old new threads xs keeps turns k x at =
    let is = turns k x at in
    let reset = keeps.reset x.inc is.there in
    let end = keeps.end x.inc is.there in
    let range = is.range in
    let same : (t : ℕ) → enabled_by new threads (take k xs) x.inc x.scn t ≡ enabled_by old threads (take k xs) x.inc x.scn t = λ t. enabled_kept old new threads (take k xs) x.inc x.scn t keeps is.there in
    record {
      thread = is.thread;
      there = keeps.there x.inc is.there;
      range = (omega arith, omega arith);
      above = is.above;
      changes = same x.thread ∙ is.changes;
      leaves = (λ i. x.on || (not (1 == x.thread) && same 1 i) || (not (2 == x.thread) && same 2 i) || (not (3 == x.thread) && same 3 i) || (not (4 == x.thread) && same 4 i)) ∙ is.leaves;
      sequence = is.sequence;
    }

pub turns_more : (tree : List Incarnation) (threads : ℕ) (xs : List ThreadSwitch) (x : ThreadSwitch) → ComeInTurn tree threads xs → IsNextSwitch tree threads xs x → ComeInTurn tree threads (xs ++ x ∷ [])
turns_more tree threads xs x turns next k y at = elim (get-push xs x y k at) [
  | inl last ↦ subst (λ before. IsNextSwitch tree threads before y) (sym (take_at xs (x ∷ []) k (sym last.0))) (subst (IsNextSwitch tree threads xs) last.1 next)
  | inr was ↦ subst (λ before. IsNextSwitch tree threads before y) (sym (take-append-le k xs (x ∷ []) (omega (arith, slice_get_within xs k y was)))) (turns k y was)
]

-- each switch has an SCN above 0
pub turns-late : (tree : List Incarnation) (threads : ℕ) (xs : List ThreadSwitch) → AreIncarnations tree → ComeInTurn tree threads xs → All (λ x. 0 < x.scn) xs
turns-late tree threads xs are turns k d inside =
    let x = get_or xs k d in
    let is = turns k x (slice_get-get_or xs k d inside) in
    let low = (are.ranges x.inc is.there).0 in
    let begun = is.range.0 in
    omega arith

abbrev IsFit : ℕ → Type 0
IsFit n = (1 ≤ n) × (n ≤ 4294967295)

-- a thread's next sequence number is at least 1, and fits into 32 bits
pub next-small : (l : Ledger) (t : ℕ) → IsLedger l → (1 ≤ next_sequence l t) × (next_sequence l t ≤ 4294967295)
next-small l t is = from 1 l.switches (omega arith, omega arith) (λ k d inside. (is.switches k (get_or l.switches k d) (slice_get-get_or l.switches k d inside)).sequence)
  where
    after : (n : ℕ) (x : ThreadSwitch) (b : Bool) → IsFit n → IsFit x.sequence → IsFit (cond b x.sequence n)
    after n x true was own = own
    after n x false was own = was

    from : (n : ℕ) (xs : List ThreadSwitch) → IsFit n → All (λ x. IsFit x.sequence) xs → IsFit (fold (after_sequence l.base.current t) n xs)
    from n [] was each = was
    from n (x ∷ xs) was each =
        from (after_sequence l.base.current t n x) xs (after n x ((x.thread == t) && (x.inc == l.base.current)) was (All-head (λ (y : ThreadSwitch). IsFit y.sequence) x xs each)) (All-tail (λ (y : ThreadSwitch). IsFit y.sequence) x xs each)
