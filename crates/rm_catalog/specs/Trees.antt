-- The tree that the incarnations of the records make.
use Rattle.std.specs.{Prelude.{◌≡◌, ℕ, ◌<◌, ◌≤◌, Option, Some, None, List, [], ◌∷◌, length, take, slice_get}, List.{filter_map}}
use Rattle.std.specs.Option.{option_map}
use Rattle.rm_history.specs.Tree.{IsThere, reset_of, end_of}
use Rattle.rm_history.specs.declared.tree.Incarnation as tree
use Rattle.rm_catalog.specs.{Keys.{incarnation_in}, Rules.{IsCatalog}, declared.record.IncarnationEntry.{IncarnationEntry}}
use Rattle.rm_catalog.specs.declared.record.Record.{Record, TheVariants.{Incarnation}}

-- an incarnation as a tree has it
abbrev pub node : IncarnationEntry → tree.Incarnation
node i = record { parent = i.parent; reset = i.reset; end = i.end }

-- the incarnation of a record, where it is one
abbrev pub node_in : Record → Option tree.Incarnation
node_in r = option_map node (incarnation_in r)

-- the incarnations of the records, in order
abbrev pub nodes : List Record → List tree.Incarnation
nodes rs = filter_map node_in rs

-- incarnations as a tree; none without any
abbrev pub as_tree : List tree.Incarnation → Option (List tree.Incarnation)
as_tree [] = None
as_tree (n ∷ ns) = Some (n ∷ ns)

-- the incarnations of a tree, if there is one
abbrev pub known_in : Option (List tree.Incarnation) → List tree.Incarnation
known_in None = []
known_in (Some ns) = ns

-- the incarnation may be the next one of the tree: the first without a parent, each other branched
-- off from one that is there
pub record IsNext (known : List tree.Incarnation) (i : IncarnationEntry) : Type 0 where
  pub few : length known < 256
  pub first : known ≡ [] → i.parent ≡ 0
  pub parent : 0 < length known → IsThere known i.parent
  pub begins : 0 < length known → (reset_of known i.parent ≤ i.reset) × (i.reset ≤ end_of known i.parent)
  pub ends : i.reset ≤ i.end

-- each incarnation of the records may be the next one after those before it
abbrev pub BranchInTurn : List Record → Type 0
BranchInTurn rs = (k : ℕ) (i : IncarnationEntry) → slice_get rs k ≡ Some (Incarnation i) → IsNext (nodes (take k rs)) i

-- the records are a catalog's, and this is their tree
pub record HasTree (rs : List Record) (known : Option (List tree.Incarnation)) : Type 0 where
  pub catalog : IsCatalog rs
  pub tree : known ≡ as_tree (nodes rs)
