-- What the records of a ledger are, and what is found at each place.
use Rattle.std.specs.{Prelude.{Contains, IsSome, option_and_then}, Option.{option_map_or}}
use Rattle.std.proofs.Common.{◌≡◌, ◌≢◌, ◌∙◌, Bool, cond, ℕ, zero, suc, ◌+◌, ◌-◌, ◌<◌, ◌≤◌, ◌⊎◌, inl, inr, List, [], ◌∷◌, ◌++◌, length, map, slice_get, Option, Some, None, refl, ap, sym, subst, arith, All}
use Rattle.std.proofs.lemmas.{Bool.{ne_eqb}, Option.{same_Some, slice_get_within}}
use Rattle.std.proofs.lemmas.List.Elements.{All-nil, All-cons, All-append, All-map, All-contains, Contains-get_or, Contains-append_left, Contains-append_right}
use Rattle.rm_base.specs.declared.block.Mark.{Mark}
use Rattle.rm_history.specs.{Tree.{IsThere, parent_of, reset_of, end_of, incarnation as in_tree}, declared.tree.Incarnation.{Incarnation}}
use Rattle.rm_history.specs.declared.world.Datafile.{Datafile}
use Rattle.rm_catalog.specs.Keys.{place, place_of, at, incarnation, datafile, mark, incarnation_in, datafile_in, log_in, mark_in, part_in, piece_in, set_in, switch_in, IsThere as HasKey}
use Rattle.rm_catalog.specs.declared.record.{BaseEntry.{BaseEntry}, DatafileEntry.{DatafileEntry}, IncarnationEntry.{IncarnationEntry}}
use Rattle.rm_catalog.specs.declared.record.{LogEntry.{LogEntry}, MarkEntry.{MarkEntry}, PieceEntry.{PieceEntry}, Record.{Record}}
use Rattle.rm_catalog.{specs.declared.record.{SetEntry.{SetEntry}, SwitchEntry.{SwitchEntry}}, proofs.Unique.{in_tail}}
use Rattle.rm_catalog.specs.declared.record.Record.TheVariants as kind
use Rattle.rm_catalog_typed.specs.Ledger.{Ledger, front_records, back_records, ledger_records, numbered, incarnation_record, datafile_record, mark_record, switch_record}
use Rattle.rm_catalog_typed.specs.{LedgerFacts.{IsLedger}, declared.thread_switch.ThreadSwitch.{ThreadSwitch}}
use Rattle.rm_catalog_typed.proofs.ByKind.{IsKind, is-incarnation, is-log, is-part, is-piece, is-set, is-switch, placed}
use Rattle.rm_catalog_typed.proofs.Order.{incarnations_of, datafiles_of, logs_of, pieces_of, marks_of, sets_of, switch_records, record-found}

-- things that are numbered from n on have their records
pub in-numbered : {X : Type 0} (make : ℕ → X → Record) (n : ℕ) (xs : List X) (k : ℕ) (x : X) → slice_get xs k ≡ Some x → Contains (numbered make n xs) (make (n + k) x)
in-numbered make n [] k x is = absurd cc
in-numbered make n (y ∷ ys) zero x is =
    let same : y ≡ x = same_Some y x is in
    let number : n ≡ n + 0 = omega arith in
    (0, omega arith, ap (λ m. make m y) number ∙ ap (make (n + 0)) same)
in-numbered make n (y ∷ ys) (suc k) x is =
    let number : (n + 1) + k ≡ n + suc k = omega arith in
    let later = in-numbered make (n + 1) ys k x is in
    subst (λ m. Contains (make n y ∷ numbered make (n + 1) ys) (make m x)) number (in_tail (make n y) (numbered make (n + 1) ys) (make ((n + 1) + k) x) later)

-- what holds for each thing under its number holds for each record
all-numbered : {X : Type 0} (P : Record → Type 0) (make : ℕ → X → Record) (n : ℕ) (xs : List X) → ((k : ℕ) (x : X) → slice_get xs k ≡ Some x → P (make (n + k) x)) → All P (numbered make n xs)
all-numbered P make n [] each = All-nil P
all-numbered P make n (x ∷ xs) each =
    let number : n + 0 ≡ n = omega arith in
    let first : P (make n x) = subst (λ m. P (make m x)) number (each 0 x refl) in
    let later = all-numbered P make (n + 1) xs (λ k y is. subst (λ m. P (make m y)) (let e : n + suc k ≡ (n + 1) + k = omega arith in e) (each (suc k) y is)) in
    All-cons P (make n x) (numbered make (n + 1) xs) first later

in-map : {X : Type 0} (make : X → Record) (xs : List X) (x : X) → Contains xs x → Contains (map make xs) (make x)
in-map make [] x has = absurd (let lt = has.1 in omega arith)
in-map make (y ∷ ys) x (zero, lt, is) = (0, omega arith, ap make is)
in-map make (y ∷ ys) x (suc k, lt, is) = in_tail (make y) (map make ys) (make x) (in-map make ys x (k, omega arith, is))

-- the entries of records that are numbered
abbrev pub datafile_entry : ℕ → Datafile → DatafileEntry
datafile_entry n d = record { file = n; inc = d.inc; creation = d.creation; blocks = d.blocks }

abbrev pub mark_entry : ℕ → Mark → MarkEntry
mark_entry n m = record { id = n; moment = m.moment; inc = m.inc; scn = m.scn }

abbrev pub switch_entry : ℕ → ThreadSwitch → SwitchEntry
switch_entry n x = record { id = n; thread = x.thread; inc = x.inc; scn = x.scn; on = x.on; sequence = x.sequence }

-- the incarnation of a number, as a record has it
abbrev pub entry_of : List Incarnation → ℕ → IncarnationEntry
entry_of tree i = record { inc = i; parent = parent_of tree i; reset = reset_of tree i; end = end_of tree i }

entry-is : (tree : List Incarnation) (i : ℕ) (n : Incarnation) → in_tree tree i ≡ Some n → incarnation_record i n ≡ kind.Incarnation (entry_of tree i)
entry-is tree i n is = ap (λ (o : Option Incarnation). kind.Incarnation (record { inc = i; parent = option_map_or (λ m. m.parent) o 0; reset = option_map_or (λ m. m.reset) o 0; end = option_map_or (λ m. m.end) o 0 })) (sym is)

-- an incarnation of the list is there under the next number
in-tree-at : (tree : List Incarnation) (k : ℕ) (n : Incarnation) → slice_get tree k ≡ Some n → IsThere tree (1 + k) × (in_tree tree (1 + k) ≡ Some n)
in-tree-at tree k n is =
    let lt = slice_get_within tree k n is in
    let ne = ne_eqb (1 + k) 0 (λ e. omega arith) in
    let number : (1 + k) - 1 ≡ k = omega arith in
    ((omega arith, omega arith), ap (λ (b : Bool). cond b None (slice_get tree ((1 + k) - 1))) ne ∙ ap (slice_get tree) number ∙ is)

-- what stands at a place of a list
pub item-at : {X : Type 0} (xs : List X) (k : ℕ) → k < length xs → (x : X) × (slice_get xs k ≡ Some x)
item-at [] k lt = absurd (omega arith)
item-at (x ∷ xs) zero lt = (x, refl)
item-at (x ∷ xs) (suc k) lt = item-at xs k (omega arith)

-- an entry is that of one of these things, under its number
pub record IsNumbered {X E : Type 0} (make : ℕ → X → E) (xs : List X) (e : E) : Type 0 where
  pub index : ℕ
  pub item : X
  pub there : slice_get xs index ≡ Some item
  pub is : e ≡ make (1 + index) item

-- a record is one of a ledger
abbrev pub IsOwn : Ledger → Record → Type 0
IsOwn l (kind.Base b) = b ≡ l.base
IsOwn l (kind.Incarnation i) = IsThere l.tree i.inc × (kind.Incarnation i ≡ kind.Incarnation (entry_of l.tree i.inc))
IsOwn l (kind.Datafile f) = IsNumbered datafile_entry l.files f
IsOwn l (kind.Log e) = Contains l.logs e
IsOwn l (kind.Piece p) = Contains l.pieces p
IsOwn l (kind.Mark m) = IsNumbered mark_entry l.marks m
IsOwn l (kind.Set e) = Contains l.sets e
IsOwn l (kind.Switch x) = IsNumbered switch_entry l.switches x
IsOwn l _ = ⊥

all-own : (l : Ledger) → All (IsOwn l) (ledger_records l)
all-own l =
    let P : Record → Type 0 = IsOwn l in
    let tree = all-numbered P incarnation_record 1 l.tree (λ k n is. let there = in-tree-at l.tree k n is in (there.0, entry-is l.tree (1 + k) n there.1)) in
    let files = all-numbered P datafile_record 1 l.files (λ k d is. record { index = k; item = d; there = is; is = refl }) in
    let logs = All-map P kind.Log l.logs (λ k d lt. Contains-get_or l.logs k d lt) in
    let pieces = All-map P kind.Piece l.pieces (λ k d lt. Contains-get_or l.pieces k d lt) in
    let marks = all-numbered P mark_record 1 l.marks (λ k m is. record { index = k; item = m; there = is; is = refl }) in
    let sets = All-map P kind.Set l.sets (λ k d lt. Contains-get_or l.sets k d lt) in
    let switches = all-numbered P switch_record 1 l.switches (λ k x is. record { index = k; item = x; there = is; is = refl }) in
    let two = All-append P (incarnations_of l) (datafiles_of l) tree files in
    let three = All-append P (incarnations_of l ++ datafiles_of l) (logs_of l) two logs in
    let four = All-append P (incarnations_of l ++ datafiles_of l ++ logs_of l) (pieces_of l) three pieces in
    let five = All-append P (incarnations_of l ++ datafiles_of l ++ logs_of l ++ pieces_of l) (marks_of l) four marks in
    let front = All-cons P (kind.Base l.base) (incarnations_of l ++ datafiles_of l ++ logs_of l ++ pieces_of l ++ marks_of l) refl five in
    All-append P (front_records l) (back_records l) front (All-append P (sets_of l) (switch_records l) sets switches)

pub record-own : (l : Ledger) (r : Record) → Contains (ledger_records l) r → IsOwn l r
record-own l r has = All-contains (IsOwn l) (ledger_records l) r (all-own l) has

-- none stands where the records of a saved site do
pub apart-from-site : (l : Ledger) (r : Record) → IsOwn l r → (place_of r < place 7 0) ⊎ (place 9 0 ≤ place_of r)
apart-from-site l (kind.Part p) own = absurd own
apart-from-site l (kind.Head h) own = absurd own
apart-from-site l (kind.Set e) own = inr (omega arith)
apart-from-site l (kind.Switch x) own = inr (omega arith)
apart-from-site l r own = inl (omega arith)

module _ (l : Ledger) where
  -- what a section of the records has, the records have
  in-rest : (r : Record) → Contains (incarnations_of l ++ datafiles_of l ++ logs_of l ++ pieces_of l ++ marks_of l) r → Contains (ledger_records l) r
  in-rest r has = Contains-append_left (front_records l) (back_records l) r (in_tail (kind.Base l.base) (incarnations_of l ++ datafiles_of l ++ logs_of l ++ pieces_of l ++ marks_of l) r has)

  in-five : (r : Record) → Contains (incarnations_of l ++ datafiles_of l ++ logs_of l ++ pieces_of l) r → Contains (ledger_records l) r
  in-five r has = in-rest r (Contains-append_left (incarnations_of l ++ datafiles_of l ++ logs_of l ++ pieces_of l) (marks_of l) r has)

  in-four : (r : Record) → Contains (incarnations_of l ++ datafiles_of l ++ logs_of l) r → Contains (ledger_records l) r
  in-four r has = in-five r (Contains-append_left (incarnations_of l ++ datafiles_of l ++ logs_of l) (pieces_of l) r has)

  in-three : (r : Record) → Contains (incarnations_of l ++ datafiles_of l) r → Contains (ledger_records l) r
  in-three r has = in-four r (Contains-append_left (incarnations_of l ++ datafiles_of l) (logs_of l) r has)

  in-back : (r : Record) → Contains (back_records l) r → Contains (ledger_records l) r
  in-back r has = Contains-append_right (front_records l) (back_records l) r has

  has-incarnation : (i : ℕ) → IsThere l.tree i → Contains (ledger_records l) (kind.Incarnation (entry_of l.tree i))
  has-incarnation i there =
      let low = there.0 in
      let high = there.1 in
      let n = item-at l.tree (i - 1) (omega arith) in
      let number : 1 + (i - 1) ≡ i = omega arith in
      let is : incarnation_record (1 + (i - 1)) n.0 ≡ kind.Incarnation (entry_of l.tree i) = entry-is l.tree (1 + (i - 1)) n.0 (in-tree-at l.tree (i - 1) n.0 n.1).1 ∙ ap (λ j. kind.Incarnation (entry_of l.tree j)) number in
      in-three (kind.Incarnation (entry_of l.tree i)) (Contains-append_left (incarnations_of l) (datafiles_of l) (kind.Incarnation (entry_of l.tree i)) (subst (Contains (incarnations_of l)) is (in-numbered incarnation_record 1 l.tree (i - 1) n.0 n.1)))

  -- the records have each that is the ledger's
  pub own-has : (r : Record) → IsOwn l r → Contains (ledger_records l) r
  own-has (kind.Base b) is = (0, omega arith, ap (λ (x : BaseEntry). kind.Base x) (sym is))
  own-has (kind.Incarnation i) is = subst (Contains (ledger_records l)) (sym is.1) (has-incarnation i.inc is.0)
  own-has (kind.Datafile f) n = subst (λ e. Contains (ledger_records l) (kind.Datafile e)) (sym n.is) (in-three (datafile_record (1 + n.index) n.item) (Contains-append_right (incarnations_of l) (datafiles_of l) (datafile_record (1 + n.index) n.item) (in-numbered datafile_record 1 l.files n.index n.item n.there)))
  own-has (kind.Log e) has = in-four (kind.Log e) (Contains-append_right (incarnations_of l ++ datafiles_of l) (logs_of l) (kind.Log e) (in-map kind.Log l.logs e has))
  own-has (kind.Piece p) has = in-five (kind.Piece p) (Contains-append_right (incarnations_of l ++ datafiles_of l ++ logs_of l) (pieces_of l) (kind.Piece p) (in-map kind.Piece l.pieces p has))
  own-has (kind.Mark m) n = subst (λ e. Contains (ledger_records l) (kind.Mark e)) (sym n.is) (in-rest (mark_record (1 + n.index) n.item) (Contains-append_right (incarnations_of l ++ datafiles_of l ++ logs_of l ++ pieces_of l) (marks_of l) (mark_record (1 + n.index) n.item) (in-numbered mark_record 1 l.marks n.index n.item n.there)))
  own-has (kind.Set e) has = in-back (kind.Set e) (Contains-append_left (sets_of l) (switch_records l) (kind.Set e) (in-map kind.Set l.sets e has))
  own-has (kind.Switch x) n = subst (λ e. Contains (ledger_records l) (kind.Switch e)) (sym n.is) (in-back (switch_record (1 + n.index) n.item) (Contains-append_right (sets_of l) (switch_records l) (switch_record (1 + n.index) n.item) (in-numbered switch_record 1 l.switches n.index n.item n.there)))
  own-has r none = absurd none

  own-found : (r : Record) → IsLedger l → IsOwn l r → at (place_of r) (ledger_records l) ≡ Some r
  own-found r is own = record-found l r is (own-has r own)

pub has-database : (l : Ledger) → HasKey 1 0 (ledger_records l)
has-database l = refl

pub incarnation-at : (l : Ledger) (i : ℕ) → IsLedger l → IsThere l.tree i → at (place 2 i) (ledger_records l) ≡ Some (kind.Incarnation (entry_of l.tree i))
incarnation-at l i is there = own-found l (kind.Incarnation (entry_of l.tree i)) is (there, refl)

pub incarnation-found : (l : Ledger) (i : ℕ) → IsLedger l → IsThere l.tree i → incarnation i (ledger_records l) ≡ Some (entry_of l.tree i)
incarnation-found l i is there = ap (option_and_then incarnation_in) (incarnation-at l i is there)

pub incarnation-there : (l : Ledger) (i : ℕ) → IsLedger l → IsThere l.tree i → HasKey 2 i (ledger_records l)
incarnation-there l i is there = subst (λ (o : Option Record). IsSome o) (sym (incarnation-at l i is there)) refl

pub datafile-at : (l : Ledger) (k : ℕ) (d : Datafile) → IsLedger l → slice_get l.files k ≡ Some d → at (place 3 (1 + k)) (ledger_records l) ≡ Some (datafile_record (1 + k) d)
datafile-at l k d is there = own-found l (datafile_record (1 + k) d) is (record { index = k; item = d; there = there; is = refl })

pub datafile-found : (l : Ledger) (k : ℕ) (d : Datafile) → IsLedger l → slice_get l.files k ≡ Some d → datafile (1 + k) (ledger_records l) ≡ Some (datafile_entry (1 + k) d)
datafile-found l k d is there = ap (option_and_then datafile_in) (datafile-at l k d is there)

pub mark-found : (l : Ledger) (k : ℕ) (m : Mark) → IsLedger l → slice_get l.marks k ≡ Some m → mark (1 + k) (ledger_records l) ≡ Some (mark_entry (1 + k) m)
mark-found l k m is there = ap (option_and_then mark_in) (own-found l (mark_record (1 + k) m) is (record { index = k; item = m; there = there; is = refl }))

pub switch-at : (l : Ledger) (k : ℕ) (x : ThreadSwitch) → IsLedger l → slice_get l.switches k ≡ Some x → at (place 10 (1 + k)) (ledger_records l) ≡ Some (switch_record (1 + k) x)
switch-at l k x is there = own-found l (switch_record (1 + k) x) is (record { index = k; item = x; there = there; is = refl })

-- there is no incarnation 0, and no switch 0
pub no-incarnation : (l : Ledger) → ¬ HasKey 2 0 (ledger_records l)
no-incarnation l some =
    let p = placed kind.Incarnation incarnation_in 2 is-incarnation (ledger_records l) 0 some in
    let low = (record-own l (kind.Incarnation p.entry) p.has).0.0 in
    let here = p.here in
    omega arith

pub no-switch : (l : Ledger) → ¬ HasKey 10 0 (ledger_records l)
no-switch l some =
    let p = placed kind.Switch switch_in 10 is-switch (ledger_records l) 0 some in
    let number = ap (λ (x : SwitchEntry). x.id) (record-own l (kind.Switch p.entry) p.has).is in
    let here = p.here in
    omega arith

-- no ledger has a record of a saved site
pub no-part : (l : Ledger) (id : ℕ) → ¬ HasKey 7 id (ledger_records l)
no-part l id some = let p = placed kind.Part part_in 7 is-part (ledger_records l) id some in record-own l (kind.Part p.entry) p.has

-- the ids of a log, of a piece and of a set lie within their bounds
pub log-id-within : (l : Ledger) (e : LogEntry) → IsLedger l → Contains l.logs e → (1 ≤ e.id) × (e.id < l.base.next_id)
log-id-within l e is has = All-contains (λ (x : LogEntry). (1 ≤ x.id) × (x.id < l.base.next_id)) l.logs e is.ids.logs has

pub piece-id-within : (l : Ledger) (p : PieceEntry) → IsLedger l → Contains l.pieces p → (1 ≤ p.id) × (p.id < l.base.next_id)
piece-id-within l p is has = All-contains (λ (x : PieceEntry). (1 ≤ x.id) × (x.id < l.base.next_id)) l.pieces p is.ids.pieces has

pub set-id-within : (l : Ledger) (e : SetEntry) → IsLedger l → Contains l.sets e → (1 ≤ e.id) × (e.id < l.base.next_id)
set-id-within l e is has = All-contains (λ (x : SetEntry). (1 ≤ x.id) × (x.id < l.base.next_id)) l.sets e is.ids.sets has

-- no record of a kind of objects has an id below the next one that none of those objects has
module _ (l : Ledger) (id : ℕ) (is : IsLedger l) (low : id < l.base.next_id) where
  no-object : {A : Type 0} (make : A → Record) (tell : Record → Option A) (of : ℕ) → IsKind make tell of → (number : A → ℕ) → ((x : A) → place_of (make x) ≡ place of (number x)) → (xs : List A)
      → All (λ x. (1 ≤ number x) × (number x < l.base.next_id)) xs → ((x : A) → Contains (ledger_records l) (make x) → Contains xs x) → ((x : A) → Contains xs x → id ≢ number x) → ¬ HasKey of id (ledger_records l)
  no-object {A} make tell of kind_of number at_place xs within own apart some =
      let p = placed make tell of kind_of (ledger_records l) id some in
      let has = own p.entry p.has in
      let here = p.here in
      let is_at = at_place p.entry in
      let high = (All-contains (λ (x : A). (1 ≤ number x) × (number x < l.base.next_id)) xs p.entry within has).1 in
      let most = is.base.next_id.1 in
      apart p.entry has (omega arith)

  pub no-log : ((e : LogEntry) → Contains l.logs e → id ≢ e.id) → ¬ HasKey 4 id (ledger_records l)
  no-log = no-object kind.Log log_in 4 is-log (λ e. e.id) (λ e. refl) l.logs is.ids.logs (λ e has. record-own l (kind.Log e) has)

  pub no-piece : ((p : PieceEntry) → Contains l.pieces p → id ≢ p.id) → ¬ HasKey 5 id (ledger_records l)
  no-piece = no-object kind.Piece piece_in 5 is-piece (λ p. p.id) (λ p. refl) l.pieces is.ids.pieces (λ p has. record-own l (kind.Piece p) has)

  pub no-set : ((e : SetEntry) → Contains l.sets e → id ≢ e.id) → ¬ HasKey 9 id (ledger_records l)
  no-set = no-object kind.Set set_in 9 is-set (λ e. e.id) (λ e. refl) l.sets is.ids.sets (λ e has. record-own l (kind.Set e) has)
