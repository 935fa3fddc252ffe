-- The base record of a catalog, and the current incarnation.
use Rattle.std.specs.{Prelude.{IsSome, option_and_then}, Option.{option_map_or}}
use Rattle.std.proofs.Common.{◌≡◌, ◌∙◌, ◌≤◌, ◌-◌, cond, slice_get, ℕ, List, Option, Some, None, refl, ap, sym, subst, arith, Contains}
use Rattle.std.proofs.lemmas.{Bool.{false≢true, ne_eqb}, Option.{same_Some}}
use Rattle.rm_catalog.specs.{Facts.{BaseRule}, Keys.{incarnation, place, place_of, at, base, base_in, incarnation_in}}
use Rattle.rm_catalog.specs.{Rules.{IsCatalog, HasDatabase}, Trees.{nodes, node}, declared.record.BaseEntry.{BaseEntry}}
use Rattle.rm_catalog.specs.declared.record.{IncarnationEntry.{IncarnationEntry}, Record.{Record}}
use Rattle.rm_catalog.proofs.{Numbering.{number_there, obeys, incarnation-rule}, Told.{found_is}, Trees.{length_nodes, node_at}}
use Rattle.rm_catalog.specs.declared.record.Record.TheVariants as records
use Rattle.rm_base.specs.Numbers.{last_scn}
use Rattle.rm_history.specs.declared.tree.Incarnation.{Incarnation}
use Rattle.rm_history.specs.Tree as tree

base_at : (y : Record) → place_of y ≡ place 1 0 → (b : BaseEntry) × (base_in y ≡ Some b)
base_at (records.Base b) h = (b, refl)
base_at (records.Incarnation i) h = absurd (omega arith)
base_at (records.Datafile f) h = absurd (omega arith)
base_at (records.Log l) h = absurd (omega arith)
base_at (records.Piece p) h = absurd (omega arith)
base_at (records.Mark m) h = absurd (omega arith)
base_at (records.Part p) h = absurd (omega arith)
base_at (records.Head x) h = absurd (omega arith)
base_at (records.Set x) h = absurd (omega arith)
base_at (records.Switch x) h = absurd (omega arith)

is_base : (y : Record) (b : BaseEntry) → base_in y ≡ Some b → y ≡ records.Base b
is_base (records.Base c) b h = ap (λ (x : BaseEntry). records.Base x) (same_Some c b h)
is_base (records.Incarnation i) b h = absurd (cc)
is_base (records.Datafile f) b h = absurd (cc)
is_base (records.Log l) b h = absurd (cc)
is_base (records.Piece p) b h = absurd (cc)
is_base (records.Mark m) b h = absurd (cc)
is_base (records.Part p) b h = absurd (cc)
is_base (records.Head x) b h = absurd (cc)
is_base (records.Set x) b h = absurd (cc)
is_base (records.Switch x) b h = absurd (cc)

incarnation_at : (y : Record) (n : ℕ) → place_of y ≡ place 2 n → (i : IncarnationEntry) × (incarnation_in y ≡ Some i)
incarnation_at (records.Base b) n h = absurd (omega arith)
incarnation_at (records.Incarnation i) n h = (i, refl)
incarnation_at (records.Datafile f) n h = absurd (omega arith)
incarnation_at (records.Log l) n h = absurd (omega arith)
incarnation_at (records.Piece p) n h = absurd (omega arith)
incarnation_at (records.Mark m) n h = absurd (omega arith)
incarnation_at (records.Part p) n h = absurd (omega arith)
incarnation_at (records.Head x) n h = absurd (omega arith)
incarnation_at (records.Set x) n h = absurd (omega arith)
incarnation_at (records.Switch x) n h = absurd (omega arith)

-- a database has base facts
pub has_base : (rs : List Record) → HasDatabase rs → ¬ (base rs ≡ None)
has_base rs database none = by (at (place 1 0) rs) refl database
  where
    by : (o : Option Record) → at (place 1 0) rs ≡ o → IsSome o → ⊥
    by None e some = false≢true some
    by (Some y) e some =
        let is = base_at y (found_is rs (place 1 0) y e).1 in
        let both : Some is.0 ≡ None = sym is.1 ∙ sym (ap (option_and_then base_in) e) ∙ none in
        absurd (cc)

-- and their current incarnation has a record
current_entry : (rs : List Record) (b : BaseEntry) → IsCatalog rs → base rs ≡ Some b → (i : IncarnationEntry) × (incarnation b.current rs ≡ Some i)
current_entry rs b catalog is = by (at (place 1 0) rs) refl (sym is)
  where
    found : (o : Option Record) → at (place 2 b.current) rs ≡ o → IsSome o → (i : IncarnationEntry) × (incarnation b.current rs ≡ Some i)
    found None e some = absurd (false≢true some)
    found (Some y) e some =
        let i = incarnation_at y b.current (found_is rs (place 2 b.current) y e).1 in
        (i.0, ap (option_and_then incarnation_in) e ∙ i.1)

    by : (o : Option Record) → at (place 1 0) rs ≡ o → Some b ≡ option_and_then base_in (at (place 1 0) rs) → (i : IncarnationEntry) × (incarnation b.current rs ≡ Some i)
    by None e same = let both : Some b ≡ None = same ∙ ap (option_and_then base_in) e in absurd (cc)
    by (Some y) e same =
        let y-is = is_base y b (sym (same ∙ ap (option_and_then base_in) e)) in
        let own : BaseRule rs b = (obeys rs (records.Base b) catalog (subst (Contains rs) y-is (found_is rs (place 1 0) y e).0)).own in
        found (at (place 2 b.current) rs) refl own.current

-- so it is there
pub current_there : (rs : List Record) (b : BaseEntry) → IsCatalog rs → base rs ≡ Some b → tree.IsThere (nodes rs) b.current
current_there rs b catalog is =
    let i = current_entry rs b catalog is in
    let there = number_there rs b.current i.0 catalog i.1 in
    let long = length_nodes rs in
    (there.0, omega (arith, long, there.1))

-- and ends in time
pub current_ends : (rs : List Record) (b : BaseEntry) → IsCatalog rs → base rs ≡ Some b → tree.end_of (nodes rs) b.current ≤ last_scn
current_ends rs b catalog is =
    let i = current_entry rs b catalog is in
    let there = current_there rs b catalog is in
    let found : tree.incarnation (nodes rs) b.current ≡ Some (node i.0) =
    ap (λ t. cond t None (slice_get (nodes rs) (b.current - 1))) (ne_eqb b.current 0 (λ none. absurd (omega (arith, none, there.0)))) ∙ node_at rs b.current i.0 catalog i.1 in
    let end : tree.end_of (nodes rs) b.current ≡ i.0.end = ap (λ (o : Option Incarnation). option_map_or (λ n. n.end) o 0) found in
    let most = (incarnation-rule rs b.current i.0 catalog i.1).range.2 in
    omega (arith, end, most)
