-- The tree that the incarnations of a catalog make, and its paths.
use Rattle.std.specs.{Prelude.{Contains, IsSome, IsSomeAnd, option_to_list}, List.{cons_option}, Option.{option_map, option_map_or}}
use Rattle.std.proofs.Common.{◌≡◌, ℕ, zero, suc, ◌+◌, ◌-◌, ◌<◌, ◌≤◌, Bool, leb, cond, List, [], ◌∷◌, ◌++◌, length, get_or, take, drop, map, Option, Some, None, refl, ap, sym, subst, ◌∙◌, arith, inl, inr, slice_get}
use Rattle.std.proofs.lemmas.{Bool.{cases_lt, false≢true, le-ltb, lt-ltb}, Option.{slice_get-get_or, slice_get_past}}
use Rattle.std.proofs.lemmas.List.{get_or_default, get_or_at, length-append, length-take, length-map, take-take, take-append-drop, get_or_append_left, get_or-take, drop_more, take_more}
use Rattle.std.proofs.lemmas.List.Elements.{filter_map-append, All-contains}
use Rattle.rm_history.specs.Tree.{HasParentsBelow, IsThere, owner, parent_of, reset_of, end_of, incarnation as in_tree}
use Rattle.rm_history.proofs.Owners.{owner-step, owner-none}
use Rattle.rm_history.specs.declared.tree.Incarnation as tree
use Rattle.rm_catalog.specs.{Keys.{place, place_of, at, InOrder, incarnation, incarnation_in}, Facts.{BaseRule, IncarnationRule, BeginsOn}}
use Rattle.rm_catalog.specs.{Objects.{owner_in}, Rules.{Obeys, IsCatalog, HasDatabase}, Edits.{below}}
use Rattle.rm_catalog.specs.{Trees.{node, node_in, nodes, as_tree, known_in, IsNext, BranchInTurn}, declared.record.BaseEntry.{BaseEntry}}
use Rattle.rm_catalog.{specs.declared.record.{IncarnationEntry.{IncarnationEntry}, Record.{Record}}, proofs.Found.{differ}}
use Rattle.rm_catalog.proofs.{Numbering.{entries, number_is, entry_at, number_there, entry_record, record_entry}, Filters.{below_none}}
use Rattle.rm_catalog.proofs.Told.{found_is}
use Rattle.rm_catalog.specs.declared.record.Record.TheVariants as records

-- the nodes are the entries
pub nodes_are : (rs : List Record) → nodes rs ≡ map node (entries rs)
nodes_are [] = refl
nodes_are (r ∷ rs) = step (incarnation_in r) (nodes_are rs)
  where
    step : (o : Option IncarnationEntry) → nodes rs ≡ map node (entries rs) → cons_option (option_map node o) (nodes rs) ≡ map node (cons_option o (entries rs))
    step None h = h
    step (Some i) h = ap (λ (x : List tree.Incarnation). node i ∷ x) h

pub length_nodes : (rs : List Record) → length (nodes rs) ≡ length (entries rs)
length_nodes rs = ap length (nodes_are rs) ∙ length-map (entries rs) node

map_at : (xs : List IncarnationEntry) (k : ℕ) (d : IncarnationEntry) → k < length xs → slice_get (map node xs) k ≡ Some (node (get_or xs k d))
map_at [] k d lt = absurd (omega arith)
map_at (x ∷ xs) zero d lt = refl
map_at (x ∷ xs) (suc k) d lt = map_at xs k d (omega arith)

-- the node of a number that is there is that of the incarnation
pub node_at : (rs : List Record) (n : ℕ) (x : IncarnationEntry) → IsCatalog rs → incarnation n rs ≡ Some x → slice_get (nodes rs) (n - 1) ≡ Some (node x)
node_at rs n x c h =
    let there = number_there rs n x c h in
    let low = there.0 in
    let lt : n - 1 < length (entries rs) = let high = there.1 in omega arith in
    let found : incarnation ((n - 1) + 1) rs ≡ Some (get_or (entries rs) (n - 1) x) = entry_at rs (n - 1) x c lt in
    let number : (n - 1) + 1 ≡ n = omega arith in
    let same : Some (get_or (entries rs) (n - 1) x) ≡ Some x = sym found ∙ ap (λ (m : ℕ). incarnation m rs) number ∙ h in
    ap (λ (ns : List tree.Incarnation). slice_get ns (n - 1)) (nodes_are rs) ∙ map_at (entries rs) (n - 1) x lt ∙ ap (λ (o : Option IncarnationEntry). option_map node o) same

in_tree_at : (ns : List tree.Incarnation) (n : ℕ) → 0 < n → in_tree ns n ≡ slice_get ns (n - 1)
in_tree_at ns n some = ap (λ (b : Bool). cond b None (slice_get ns (n - 1))) (differ n 0 (λ e. omega arith))

an_entry : (xs : List IncarnationEntry) (n : ℕ) → n < length xs → IncarnationEntry
an_entry [] n lt = absurd (omega arith)
an_entry (y ∷ ys) n lt = y

pub in_last : (t : List tree.Incarnation) (b : tree.Incarnation) (n : ℕ) → n ≡ length t + 1 → in_tree (t ++ b ∷ []) n ≡ Some b
in_last t b n is =
    let long = length-append t (b ∷ []) in
    in_tree_at (t ++ b ∷ []) n (omega arith) ∙ slice_get-get_or (t ++ b ∷ []) (n - 1) b (omega arith) ∙ ap (λ (x : tree.Incarnation). Some x) (get_or_at t b [] b (n - 1) (omega arith))

pub known_is : (ns : List tree.Incarnation) → known_in (as_tree ns) ≡ ns
known_is [] = refl
known_is (n ∷ ns) = refl

pub nodes_more : (rs : List Record) (k : ℕ) (r : Record) → k < length rs → r ≡ get_or rs k r → nodes (take (k + 1) rs) ≡ nodes (take k rs) ++ option_to_list (node_in r)
nodes_more rs k r lt is =
    ap (λ (x : List Record). nodes x) (take_more rs k r lt ∙ ap (λ (x : Record). take k rs ++ x ∷ []) (sym is)) ∙ filter_map-append node_in (take k rs) (r ∷ []) ∙ ap (λ (x : List tree.Incarnation). nodes (take k rs) ++ x) (one (node_in r))
  where
    one : (o : Option tree.Incarnation) → cons_option o [] ≡ option_to_list o
    one None = refl
    one (Some n) = refl

pub at_index : (rs : List Record) (k : ℕ) (r x : Record) → k < length rs → r ≡ get_or rs k r → r ≡ x → slice_get rs k ≡ Some x
at_index rs k r x lt is same = slice_get-get_or rs k r lt ∙ ap (λ (y : Record). Some y) (sym is ∙ same)

-- none stands below its parent
pub parents_below : (rs : List Record) → IsCatalog rs → HasParentsBelow (nodes rs)
parents_below rs c n some = decide (in_tree (nodes rs) n) refl
  where
    decide : (o : Option tree.Incarnation) → in_tree (nodes rs) n ≡ o → option_map_or (λ (x : tree.Incarnation). x.parent) (in_tree (nodes rs) n) 0 < n
    decide None e = let zero_is = ap (λ (o : Option tree.Incarnation). option_map_or (λ (x : tree.Incarnation). x.parent) o 0) e in omega arith
    decide (Some x) e = elim (cases_lt (n - 1) (length (entries rs))) [
      | inl lt ↦
          let d = an_entry (entries rs) (n - 1) lt in
          let i = get_or (entries rs) (n - 1) d in
          let found : incarnation ((n - 1) + 1) rs ≡ Some i = entry_at rs (n - 1) d c lt in
          let number : i.inc ≡ (n - 1) + 1 = number_is rs (n - 1) d c lt in
          let has : Contains rs (records.Incarnation i) = entry_record rs i (n - 1, lt, get_or_default (entries rs) (n - 1) i d lt) in
          let own : IncarnationRule rs i = (All-contains (Obeys rs) rs (records.Incarnation i) c.valid has).own in
          let here : incarnation n rs ≡ Some i = ap (λ (m : ℕ). incarnation m rs) (let e : n ≡ (n - 1) + 1 = omega arith in e) ∙ found in
          let node_is = ap (λ (o : Option tree.Incarnation). option_map_or (λ (x : tree.Incarnation). x.parent) o 0) (in_tree_at (nodes rs) n some ∙ node_at rs n i c here) in
          elim (cases_lt 1 i.inc) [
            | inl later ↦ let b = (own.origin.branch later).below in omega arith
            | inr first ↦ let num = own.number in let p = own.origin.first (omega arith) in omega arith
          ]
      | inr past ↦
          let long = length_nodes rs in
          let none = in_tree_at (nodes rs) n some ∙ slice_get_past (nodes rs) (n - 1) (omega arith) in
          absurd (let no : Some x ≡ None = sym e ∙ none in cc)
    ]

-- the path over the records is the path of the tree
pub paths_same : (rs : List Record) (c : IsCatalog rs) (m i g : ℕ) → i ≤ m → i ≤ length (nodes rs) → owner_in m i g rs ≡ owner (nodes rs) i g
unfolding owner_in
paths_same rs c m zero g le there = at_zero m ∙ sym (owner-none (nodes rs) g)
  where
    none : (o : Option IncarnationEntry) → incarnation 0 rs ≡ o → o ≡ None
    none None e = refl
    none (Some x) e = absurd (let h = number_there rs 0 x c e in let low = h.0 in omega arith)

    at_zero : (m : ℕ) → owner_in m 0 g rs ≡ 1
    at_zero zero = refl
    at_zero (suc m) = ap (λ (o : Option IncarnationEntry). option_map_or (λ (x : IncarnationEntry). cond (leb x.reset g) 0 (owner_in m x.parent g rs)) o 1) (none (incarnation 0 rs) refl)
paths_same rs c zero (suc i) g le there = absurd (omega arith)
paths_same rs c (suc m) (suc i) g le there = step (paths_same rs c m)
  where
    long : length (nodes rs) ≡ length (entries rs)
    long = length_nodes rs

    step : ((j g : ℕ) → j ≤ m → j ≤ length (nodes rs) → owner_in m j g rs ≡ owner (nodes rs) j g) → owner_in (suc m) (suc i) g rs ≡ owner (nodes rs) (suc i) g
    step lower =
        let lt : i < length (entries rs) = let same = long in omega arith in
        let d = an_entry (entries rs) i lt in
        let x = get_or (entries rs) i d in
        let number : i + 1 ≡ suc i = omega arith in
        let found : incarnation (suc i) rs ≡ Some x = ap (λ (n : ℕ). incarnation n rs) (sym number) ∙ entry_at rs i d c lt in
        let node_is : in_tree (nodes rs) (suc i) ≡ Some (node x) = in_tree_at (nodes rs) (suc i) (omega arith) ∙ node_at rs (suc i) x c found in
        let parent : parent_of (nodes rs) (suc i) ≡ x.parent = ap (λ (o : Option tree.Incarnation). option_map_or (λ (n : tree.Incarnation). n.parent) o 0) node_is in
        let reset : reset_of (nodes rs) (suc i) ≡ x.reset = ap (λ (o : Option tree.Incarnation). option_map_or (λ (n : tree.Incarnation). n.reset) o 0) node_is in
        let below = parents_below rs c (suc i) (omega arith) in
        ap (λ (o : Option IncarnationEntry). option_map_or (λ (x : IncarnationEntry). cond (leb x.reset g) (suc i) (owner_in m x.parent g rs)) o 1) found
        ∙ ap (λ (y : ℕ). cond (leb x.reset g) (suc i) y) (lower x.parent g (omega arith) (omega arith))
        ∙ sym (owner-step (nodes rs) (parents_below rs c) (suc i) g (omega arith) ∙ ap (λ (p : ℕ). cond (leb (reset_of (nodes rs) (suc i)) g) (suc i) (owner (nodes rs) p g)) parent ∙ ap (λ (r : ℕ). cond (leb r g) (suc i) (owner (nodes rs) x.parent g)) reset)

some_is_same : (y x : Record) → Some y ≡ Some x → y ≡ x
some_is_same y x h = cc

read : (xs : List Record) (k : ℕ) (x : Record) → slice_get xs k ≡ Some x → (k < length xs) × (get_or xs k x ≡ x)
read [] k x h = absurd cc
read (y ∷ ys) zero x h = (omega arith, some_is_same y x h)
read (y ∷ ys) (suc k) x h = let l = read ys k x h in ((let lt = l.0 in omega arith), l.1)

prefix_at : (xs ys : List tree.Incarnation) (j : ℕ) (n : tree.Incarnation) → j < length xs → slice_get (xs ++ ys) j ≡ Some n → slice_get xs j ≡ Some n
prefix_at xs ys j n lt h =
    let long = length-append xs ys in
    slice_get-get_or xs j n lt ∙ ap (λ (x : tree.Incarnation). Some x) (sym (get_or_append_left xs ys n j lt)) ∙ sym (slice_get-get_or (xs ++ ys) j n (omega arith)) ∙ h

-- an incarnation at an index: its number, and where it begins
record Placed (rs : List Record) (k : ℕ) (i : IncarnationEntry) : Type 0 where
  pub own : IncarnationRule rs i
  pub number : i.inc ≡ length (nodes (take k rs)) + 1
  pub rest : List tree.Incarnation
  pub list : nodes rs ≡ nodes (take k rs) ++ rest

placed_at : (rs : List Record) (k : ℕ) (i : IncarnationEntry) → IsCatalog rs → slice_get rs k ≡ Some (records.Incarnation i) → Placed rs k i
placed_at rs k i c at_k =
    let r : Record = records.Incarnation i in
    let l = read rs k r at_k in
    let lt = l.0 in
    let split : rs ≡ take k rs ++ r ∷ drop (k + 1) rs = sym (take-append-drop k rs) ∙ ap (λ (x : List Record). take k rs ++ x) (drop_more rs k r lt ∙ ap (λ (x : Record). x ∷ drop (k + 1) rs) l.1) in
    let all : entries rs ≡ entries (take k rs) ++ i ∷ entries (drop (k + 1) rs) = ap (λ (x : List Record). entries x) split ∙ filter_map-append incarnation_in (take k rs) (r ∷ drop (k + 1) rs) in
    let m = length (entries (take k rs)) in
    let long : length (entries rs) ≡ m + length (i ∷ entries (drop (k + 1) rs)) = ap length all ∙ length-append (entries (take k rs)) (i ∷ entries (drop (k + 1) rs)) in
    let here : get_or (entries rs) m i ≡ i = ap (λ (x : List IncarnationEntry). get_or x m i) all ∙ get_or_at (entries (take k rs)) i (entries (drop (k + 1) rs)) i m refl in
    let number : (get_or (entries rs) m i).inc ≡ m + 1 = number_is rs m i c (omega arith) in
    let same : (get_or (entries rs) m i).inc ≡ i.inc = ap (λ (x : IncarnationEntry). x.inc) here in
    let count = length_nodes (take k rs) in
    record {
      own = (subst (Obeys rs) l.1 (c.valid k r lt)).own;
      number = omega arith;
      rest = nodes (r ∷ drop (k + 1) rs);
      list = ap (λ (x : List Record). nodes x) split ∙ filter_map-append node_in (take k rs) (r ∷ drop (k + 1) rs);
    }

-- the parent is there, and the incarnation begins on it
record HasParent (known : List tree.Incarnation) (i : IncarnationEntry) : Type 0 where
  pub there : IsThere known i.parent
  pub begins : (reset_of known i.parent ≤ i.reset) × (i.reset ≤ end_of known i.parent)

parent_there : (rs : List Record) (k : ℕ) (i : IncarnationEntry) → IsCatalog rs → Placed rs k i → 0 < length (nodes (take k rs)) → HasParent (nodes (take k rs)) i
parent_there rs k i c p some =
    let number = p.number in
    let b = p.own.origin.branch (omega arith) in
    decide (incarnation i.parent rs) refl b.below b.parent
  where
    decide : (o : Option IncarnationEntry) → incarnation i.parent rs ≡ o → i.parent < i.inc → IsSomeAnd o (BeginsOn i) → HasParent (nodes (take k rs)) i
    decide None e below parent = absurd parent
    decide (Some x) e below parent =
        let number = p.number in
        let there = number_there rs i.parent x c e in
        let low = there.0 in
        let at_parent : slice_get (nodes (take k rs)) (i.parent - 1) ≡ Some (node x) = prefix_at (nodes (take k rs)) p.rest (i.parent - 1) (node x) (omega arith) (ap (λ (ns : List tree.Incarnation). slice_get ns (i.parent - 1)) (sym p.list) ∙ node_at rs i.parent x c e) in
        let node_is : in_tree (nodes (take k rs)) i.parent ≡ Some (node x) = in_tree_at (nodes (take k rs)) i.parent (omega arith) ∙ at_parent in
        let reset : reset_of (nodes (take k rs)) i.parent ≡ x.reset = ap (λ (o : Option tree.Incarnation). option_map_or (λ (n : tree.Incarnation). n.reset) o 0) node_is in
        let end : end_of (nodes (take k rs)) i.parent ≡ x.end = ap (λ (o : Option tree.Incarnation). option_map_or (λ (n : tree.Incarnation). n.end) o 0) node_is in
        let one = parent.reset in
        let two = parent.end in
        record { there = (omega arith, omega arith); begins = (omega arith, omega arith) }

-- the incarnations of a catalog branch off in turn
pub in_turn : (rs : List Record) → IsCatalog rs → BranchInTurn rs
in_turn rs c k i at_k =
    let p = placed_at rs k i c at_k in
    let number = p.number in
    let own = p.own.number in
    record {
      few = omega arith;
      first = λ none. p.own.origin.first (let zero_is = ap length none in omega arith);
      parent = λ some. (parent_there rs k i c p some).there;
      begins = λ some. (parent_there rs k i c p some).begins;
      ends = p.own.range.1;
    }

-- the front of records that branch off in turn does so too
pub front_in_turn : (rs : List Record) (m : ℕ) → BranchInTurn rs → BranchInTurn (take m rs)
front_in_turn rs m turn k i at_k =
    let l = read (take m rs) k (records.Incarnation i) at_k in
    let long = length-take m rs in
    let lt = l.0 in
    let there : slice_get rs k ≡ Some (records.Incarnation i) = slice_get-get_or rs k (records.Incarnation i) (omega arith) ∙ ap (λ (x : Record). Some x) (sym (get_or-take m rs k (records.Incarnation i) (omega arith)) ∙ l.1) in
    subst (λ (x : List Record). IsNext (nodes x) i) (sym (take-take k m rs (omega arith))) (turn k i there)

high_node : (r : Record) → 12884901888 ≤ place_of r → node_in r ≡ None
high_node (records.Base b) le = absurd (omega arith)
high_node (records.Incarnation i) le = absurd (omega arith)
high_node (records.Datafile f) le = refl
high_node (records.Log l) le = refl
high_node (records.Piece p) le = refl
high_node (records.Mark m) le = refl
high_node (records.Part p) le = refl
high_node (records.Head h) le = refl
high_node (records.Set s) le = refl
high_node (records.Switch x) le = refl

-- the incarnations stand in front of the datafiles
pub nodes_below : (rs : List Record) → nodes (below 12884901888 rs) ≡ nodes rs
nodes_below [] = refl
nodes_below (r ∷ rs) = elim (cases_lt (place_of r) 12884901888) [
  | inl lt ↦ ap (λ (b : Bool). nodes (cond b (r ∷ below 12884901888 rs) (below 12884901888 rs))) (lt-ltb (place_of r) 12884901888 lt) ∙ ap (λ (x : List tree.Incarnation). cons_option (node_in r) x) (nodes_below rs)
  | inr le ↦ ap (λ (b : Bool). nodes (cond b (r ∷ below 12884901888 rs) (below 12884901888 rs))) (le-ltb (place_of r) 12884901888 le) ∙ nodes_below rs ∙ ap (λ (o : Option tree.Incarnation). cons_option o (nodes rs)) (sym (high_node r le))
]

-- in order, what stands below a place is a front
pub below_front : (p : ℕ) (rs : List Record) → InOrder rs → below p rs ≡ take (length (below p rs)) rs
below_front p [] order = refl
below_front p (r ∷ rs) order = elim (cases_lt (place_of r) p) [
  | inl lt ↦
      let kept : below p (r ∷ rs) ≡ r ∷ below p rs = ap (λ (b : Bool). cond b (r ∷ below p rs) (below p rs)) (lt-ltb (place_of r) p lt) in
      kept ∙ ap (λ (x : List Record). r ∷ x) (below_front p rs (λ i j d le lt. order (suc i) (suc j) d (omega arith) (omega arith))) ∙ sym (ap (λ (x : List Record). take (length x) (r ∷ rs)) kept)
  | inr le ↦
      let none : below p (r ∷ rs) ≡ [] = below_none p (r ∷ rs) (λ k d lt. let up : place_of r ≤ place_of (get_or (r ∷ rs) k d) = order 0 k d (omega arith) lt in omega arith) in
      none ∙ sym (ap (λ (x : List Record). take (length x) (r ∷ rs)) none)
]

pub below_in_turn : (rs : List Record) → IsCatalog rs → BranchInTurn (below 12884901888 rs)
below_in_turn rs c = subst (λ (x : List Record). BranchInTurn x) (sym (below_front 12884901888 rs c.order)) (front_in_turn rs (length (below 12884901888 rs)) (in_turn rs c))

-- at the place of the base facts stand base facts
base_is : (y : Record) → place_of y ≡ 4294967296 → (b : BaseEntry) × (y ≡ records.Base b)
base_is (records.Base b) h = (b, refl)
base_is (records.Incarnation i) h = absurd (omega arith)
base_is (records.Datafile f) h = absurd (omega arith)
base_is (records.Log l) h = absurd (omega arith)
base_is (records.Piece p) h = absurd (omega arith)
base_is (records.Mark m) h = absurd (omega arith)
base_is (records.Part p) h = absurd (omega arith)
base_is (records.Head x) h = absurd (omega arith)
base_is (records.Set x) h = absurd (omega arith)
base_is (records.Switch x) h = absurd (omega arith)

node_is_there : (y : Record) (n : ℕ) → place_of y ≡ place 2 n → (i : IncarnationEntry) × (y ≡ records.Incarnation i)
node_is_there (records.Base b) n h = absurd (omega arith)
node_is_there (records.Incarnation i) n h = (i, refl)
node_is_there (records.Datafile f) n h = absurd (omega arith)
node_is_there (records.Log l) n h = absurd (omega arith)
node_is_there (records.Piece p) n h = absurd (omega arith)
node_is_there (records.Mark m) n h = absurd (omega arith)
node_is_there (records.Part p) n h = absurd (omega arith)
node_is_there (records.Head x) n h = absurd (omega arith)
node_is_there (records.Set x) n h = absurd (omega arith)
node_is_there (records.Switch x) n h = absurd (omega arith)

-- a database has an incarnation
pub some_node : (rs : List Record) → IsCatalog rs → HasDatabase rs → 0 < length (nodes rs)
some_node rs c database = decide (at (place 1 0) rs) refl database
  where
    found : (b : BaseEntry) → (o : Option Record) → at (place 2 b.current) rs ≡ o → IsSome o → 0 < length (nodes rs)
    found b None e some = absurd (false≢true some)
    found b (Some y) e some =
        let there = found_is rs (place 2 b.current) y e in
        let is = node_is_there y b.current there.1 in
        let has = record_entry rs is.0 (subst (λ (z : Record). Contains rs z) is.1 there.0) in
        let lt = has.1 in
        let long = length_nodes rs in
        omega arith

    decide : (o : Option Record) → at (place 1 0) rs ≡ o → IsSome o → 0 < length (nodes rs)
    decide None e some = absurd (false≢true some)
    decide (Some y) e some =
        let there = found_is rs (place 1 0) y e in
        let is = base_is y there.1 in
        let own : BaseRule rs is.0 = (All-contains (Obeys rs) rs (records.Base is.0) c.valid (subst (λ (z : Record). Contains rs z) is.1 there.0)).own in
        found is.0 (at (place 2 is.0.current) rs) refl own.current

-- there are at most 256 incarnations
pub few_nodes : (rs : List Record) → IsCatalog rs → length (nodes rs) ≤ 256
few_nodes rs c = elim (cases_lt 0 (length (entries rs))) [
  | inl some ↦
      let n = length (entries rs) - 1 in
      let lt : n < length (entries rs) = omega arith in
      let d = an_entry (entries rs) n lt in
      let i = get_or (entries rs) n d in
      let number : i.inc ≡ n + 1 = number_is rs n d c lt in
      let has : Contains rs (records.Incarnation i) = entry_record rs i (n, lt, get_or_default (entries rs) n i d lt) in
      let own : IncarnationRule rs i = (All-contains (Obeys rs) rs (records.Incarnation i) c.valid has).own in
      let most = own.number in
      let long = length_nodes rs in
      omega arith
  | inr none ↦ let long = length_nodes rs in omega arith
]

pub path_is : (rs : List Record) (i g : ℕ) → IsCatalog rs → IsThere (nodes rs) i → owner_in 256 i g rs ≡ owner (nodes rs) i g
path_is rs i g c there = let few = few_nodes rs c in paths_same rs c 256 i g (omega arith) there.1

pub in_tree_is : (rs : List Record) (n : ℕ) (x : IncarnationEntry) → IsCatalog rs → incarnation n rs ≡ Some x → in_tree (nodes rs) n ≡ Some (node x)
in_tree_is rs n x c h = let there = number_there rs n x c h in in_tree_at (nodes rs) n (omega arith) ∙ node_at rs n x c h
