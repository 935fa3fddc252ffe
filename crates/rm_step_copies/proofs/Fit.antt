-- Whatever the store tells: a copy that changed can be recorded, since what it was made of has the fields of its records.
use Rattle.std.specs.{Prelude.{IfSome, IsSomeAnd, option_and_then}, Option.{option_map}}
use Rattle.std.proofs.Common.{◌≡◌, ◌==◌, ◌<◌, ◌≤◌, ◌-◌, ◌∙◌, inl, inr, ℕ, List, Option, Some, None, Bool, true, refl, ap, sym, subst, arith, length, slice_get, All, Contains}
use Rattle.std.proofs.lemmas.{Bool.{eqb-true}, List.Elements.{All-contains}, Option.{same_Some}}
use Rattle.rm_base.proofs.{Keyed.{same_item}, Lists.{find_cases}, Sealing.{length-sealed}, Standing.{each-in}}
use Rattle.rm_backup.specs.{Level1s.{IsReached, MayBeMerged, next}, Records.{piece, pieces}}
use Rattle.rm_backup.specs.{Renewed.{IsMerged, IsRenewed, TakesOver, copy_at}, declared.renewing.Renewed.{Renewed}}
use Rattle.rm_backup.proofs.{Chained.{reached_valid}, Merges.{EndsIn, IsLast, KeepsOn, last-merge, reached-keeps}}
use Rattle.rm_catalog.specs.{Keys.{piece_in, place, place_of}, Objects.{IsTag}, Trees.{nodes}, declared.record.PieceEntry.{PieceEntry}}
use Rattle.rm_catalog.{specs.declared.record.{Record.{Record}, SetEntry.{SetEntry}}, proofs.Incarnations.{is-tree}}
use Rattle.rm_catalog.specs.declared.record.Record.TheVariants as kind
use Rattle.rm_evidence.specs.{Known.{AreRecorded, FitsPiece, FitsTree, IsPartOf, IsRecorded}, Objects.{HasPieceFields, piece_entry}}
use Rattle.rm_evidence.specs.declared.evidence.Evidence.{Evidence}
use Rattle.rm_history.{specs.{Tree.{IsThere, IsTree, end_of, owner}, declared.world.Datafile.{Datafile}}, proofs.Highs.{high-least}}
use Rattle.rm_catalog_typed.specs.{LedgerFacts.{IsPieceEntry, IsSetEntry, IsSetPart}, TypedCatalog.{records_of}}
use Rattle.rm_catalog_typed.proofs.{Lookups.{piece-id-within}, Members.{piece-in, set-in}, Valid.{typed_catalog-valid}}
use Rattle.rm_catalog_typed.proofs.Records.{database-told, pieces-told, tree-told}
use Rattle.rm_merge.specs.Merge.{merged}
use Rattle.rm_piece.{specs.{Spelling.{body_of}, Valid.{IsPiece}, declared.piece.Piece.{Piece}}, proofs.Bodies.{length-body}}
use Rattle.rm_piece.proofs.Fitting.{few_rows, fits as fits-piece}
use Rattle.rm_machine.specs.{RecoverCopy.{AreRenewed}, Sound.{IsSound}, State.{ledger, tree}, declared.state.State.{State}}
use Rattle.rm_machine.proofs.{Renewing.{copy-kind, renewed-apart}, Restoring.{entry-rows}}
use Rattle.rm_step_copies.specs.Fit.{AreFit, CanRecord, IsFit, IsShort}

-- a copy that is found is one of those at hand, with this id
copy-held : (bases : List (ℕ × Piece)) (id : ℕ) (a : Piece) → copy_at bases id ≡ Some a → Contains bases (id, a)
copy-held bases id a is = elim (find_cases (λ (x : ℕ × Piece). x.0 == id) bases) [
  | inl none ↦ let both : None ≡ Some a = sym (ap (λ (o : Option (ℕ × Piece)). option_map (λ x. x.1) o) none) ∙ is in absurd (cc)
  | inr found ↦
      let same = same_Some found.item.1 a (sym (ap (λ (o : Option (ℕ × Piece)). option_map (λ x. x.1) o) found.is) ∙ is) in
      coe 0 1 (i. Contains bases (eqb-true found.item.0 id found.passes i, same i)) found.held
]

module _ (s : State) (e : Evidence) (sound : IsSound s) (fits : FitsTree (tree s) e) (bases : AreRecorded (records_of s.catalog) e) (level1s : All (IsRecorded (records_of s.catalog)) e.level1s) where
  abbrev rs : List Record
  rs = records_of s.catalog

  rule-of : (p : PieceEntry) → Contains (ledger s).pieces p → IsPieceEntry (tree s) (ledger s).files p
  rule-of p has = All-contains (IsPieceEntry (tree s) (ledger s).files) (ledger s).pieces p sound.catalog.ledger.pieces has

  a-tree : IsTree (tree s)
  a-tree = subst IsTree (tree-told s.catalog) (is-tree rs (typed_catalog-valid s.catalog sound.catalog) (database-told s.catalog))

  piece-high : (p : PieceEntry) (a : Piece) → Contains (ledger s).pieces p → HasPieceFields p a → a.high ≤ end_of (tree s) a.inc
  piece-high p a has is = coe 1 0 (i. is.high i ≤ end_of (tree s) (is.inc i)) (rule-of p has).high

  part-high : (of : SetEntry) (a : Piece) → Contains (ledger s).sets of → IsPartOf rs of a → a.high ≤ end_of (tree s) a.inc
  part-high of a has is =
      let rule = All-contains (IsSetEntry (tree s) (ledger s).files) (ledger s).sets of sound.catalog.ledger.sets has in
      let part = All-contains (IsSetPart (tree s) (ledger s).files of) of.parts is.part rule.parts is.held in
      coe 1 0 (i. is.high i ≤ end_of (tree s) (is.inc i)) part.high.1

  -- what has a record lies within the end of its incarnation
  recorded-high : (x : ℕ × Piece) → IsRecorded rs x → x.1.high ≤ end_of (tree s) x.1.inc
  recorded-high x (inl of) = piece-high of.0 x.1 (piece-in s.catalog of.0 sound.catalog of.1) of.3
  recorded-high x (inr of) = part-high of.0 x.1 (set-in s.catalog of.0 sound.catalog of.1) of.3

  level1-ends : (x : ℕ × Piece) → Contains e.level1s x → EndsIn (tree s) x.1
  level1-ends x has = record { fits = All-contains (λ (y : ℕ × Piece). FitsPiece (tree s) y.1) e.level1s x fits.level1s has; high = recorded-high x (All-contains (IsRecorded rs) e.level1s x level1s has) }

  -- what has the id of a piece's record has the record's fields: no set has this id
  own-fields : (p : PieceEntry) (x : ℕ × Piece) → Contains (ledger s).pieces p → p.id ≡ x.0 → IsRecorded rs x → HasPieceFields p x.1
  own-fields p x has id (inl of) =
      let same = same_item (λ (y : PieceEntry). y.id) (ledger s).pieces sound.catalog.ledger.ids.pieces_ascend of.0 p (piece-in s.catalog of.0 sound.catalog of.1) has (of.2 ∙ sym id) in
      subst (λ (q : PieceEntry). HasPieceFields q x.1) same of.3
  own-fields p x has id (inr of) = absurd (sound.catalog.ledger.ids.pieces_apart p of.0 has (set-in s.catalog of.0 sound.catalog of.1) (id ∙ sym of.2))

  -- what stands at the place of a piece's record is one
  placed : (n : ℕ) (Q : PieceEntry → Type 0) (r : Record) → Contains rs r → place_of r ≡ place 5 n → IsSomeAnd (piece_in r) Q → (p : PieceEntry) × Contains (ledger s).pieces p × (p.id ≡ n)
  placed n Q (kind.Piece p) has at is =
      let there = piece-in s.catalog p sound.catalog has in
      (p, there, omega (arith, at, (piece-id-within (ledger s) p sound.catalog.ledger there).1, sound.catalog.ledger.base.next_id.1))
  placed n Q r has at is = absurd is

  piece-there : (n : ℕ) (Q : PieceEntry → Type 0) → IsSomeAnd (piece n rs) Q → (p : PieceEntry) × Contains (ledger s).pieces p × (p.id ≡ n)
  piece-there n Q is = elim (find_cases (λ (r : Record). place_of r == place 5 n) rs) [
    | inl none ↦ absurd (subst (λ (o : Option Record). IsSomeAnd (option_and_then piece_in o) Q) none is)
    | inr found ↦ placed n Q found.item found.held (eqb-true (place_of found.item) (place 5 n) found.passes) (subst (λ (o : Option Record). IsSomeAnd (option_and_then piece_in o) Q) found.is is)
  ]

  -- the artefact is one of a piece's record
  record Told (a : Piece) : Type 0 where
    entry : PieceEntry
    there : Contains (ledger s).pieces entry
    fields : HasPieceFields entry a

  -- a level 1 at hand with the id of a piece's record is one
  level1-told : (Q : PieceEntry → Type 0) (x : ℕ × Piece) → Contains e.level1s x → IsSomeAnd (piece x.0 rs) Q → Told x.1
  level1-told Q x has is =
      let own = piece-there x.0 Q is in
      record { entry = own.0; there = own.1; fields = own-fields own.0 x own.1 own.2 (All-contains (IsRecorded rs) e.level1s x level1s has) }

  level1s-fit : All (λ y. FitsPiece (nodes rs) y.1) e.level1s
  level1s-fit = subst (λ ns. All (λ (y : ℕ × Piece). FitsPiece ns y.1) e.level1s) (sym (tree-told s.catalog)) fits.level1s

  -- what is found of a record's copy has its fields
  copy-told : (p : PieceEntry) (a : Piece) → Contains (ledger s).pieces p → copy_at e.bases p.id ≡ Some a → HasPieceFields p a × IsPiece a
  copy-told p a has is =
      let held = copy-held e.bases p.id a is in
      let some = (piece-id-within (ledger s) p sound.catalog.ledger has).0 in (
        own-fields p (p.id, a) has refl (All-contains (λ (y : ℕ × Piece). 0 < y.0 → IsRecorded rs y) e.bases (p.id, a) bases held some),
        (All-contains (λ (y : ℕ × Piece). FitsPiece (tree s) y.1) e.bases (p.id, a) fits.bases held).valid,
      )

  module _ (tag : List ℕ) (at f : ℕ) (p : PieceEntry) (has : Contains (ledger s).pieces p) (copy : p.copy ≡ true) (tagged : p.tag ≡ tag) (now last : Piece) (fields : HasPieceFields p now) (whole : IsPiece now) (takes : TakesOver rs f tag at e.level1s now last) where
    ends : IsLast rs f tag at e.level1s now last
    ends = last-merge rs f tag at e.level1s now takes.first last takes.next takes.end.reached

    abbrev a : Piece
    a = merged ends.before ends.level1.1

    reached : IsReached rs f tag at e.level1s now a
    reached = next ends.before ends.level1 ends.reached ends.chosen

    valid : IsPiece a
    valid = reached_valid rs f tag at e.level1s now a level1s-fit whole reached

    keeps : KeepsOn (tree s) now a
    keeps = reached-keeps rs f tag at e.level1s (tree s) (tree-told s.catalog) a-tree (λ i there. (sound.catalog.ledger.incarnations.ranges i there).1) level1-ends now a level1s-fit whole
        (piece-high p now has fields) reached

    own : Told ends.level1.1
    own = level1-told (MayBeMerged rs f tag) ends.level1 ends.chosen.held ends.chosen.passes.entry

    file-is : ends.before.file ≡ p.file
    file-is = keeps.file ∙ fields.file

    -- the datafile of the copy is that of the last level 1
    one-datafile : (rule-of own.entry own.there).file.datafile ≡ (rule-of p has).file.datafile
    one-datafile =
        let last_file = (rule-of own.entry own.there).file in
        let first = (rule-of p has).file in
        let number : own.entry.file ≡ p.file = sym own.fields.file ∙ sym ends.chosen.passes.meets.file ∙ file-is in
        same_Some last_file.datafile first.datafile (sym last_file.is ∙ ap (λ k. slice_get (ledger s).files (k - 1)) number ∙ first.is)

    merged-entry : (keep : Bool) (moment id : ℕ) → IsPieceEntry (tree s) (ledger s).files (piece_entry true keep tag moment id a)
    merged-entry keep moment id =
        let first = rule-of p has in
        let rule = rule-of own.entry own.there in
        let inc = own.fields.inc in
        let d : Datafile = first.file.datafile in
        record {
          there = subst (IsThere (tree s)) (sym inc) rule.there;
          file = record {
            number = subst (λ k. 0 < k) (sym file-is) first.file.number;
            datafile = d;
            is = subst (λ k. slice_get (ledger s).files (k - 1) ≡ Some d) (sym file-is) first.file.is;
            path = ap (λ i. owner (tree s) i d.creation) inc ∙ coe 0 1 (i. owner (tree s) own.entry.inc (one-datafile i).creation ≡ (one-datafile i).inc) rule.file.path;
            rows = keeps.rows ∙ fields.rows ∙ entry-rows p.kind p.rows d.blocks (copy-kind p.kind p first.kind copy) first.file.rows;
          };
          checkpoint = (valid.checkpoint.0, high-least a.checkpoint a.rows);
          high = keeps.high;
          kind = refl;
          tag = subst IsTag tagged first.tag;
          size = omega (arith, length-body a (fits-piece a valid), length-sealed (body_of a), few_rows a valid);
        }

    can-record : CanRecord s tag last
    can-record = subst (CanRecord s tag) ends.is (record { valid = valid; entry = merged-entry })

  merges-fit : (tag : List ℕ) (at f : ℕ) (p : PieceEntry) (now o : Option Piece) → Contains (ledger s).pieces p → p.copy ≡ true → p.tag ≡ tag → copy_at e.bases p.id ≡ now → IsMerged rs f tag at e.level1s now o → IfSome o (CanRecord s tag)
  merges-fit tag at f p now None has copy tagged is merges = tt
  merges-fit tag at f p None (Some last) has copy tagged is merges = absurd merges
  merges-fit tag at f p (Some a) (Some last) has copy tagged is merges =
      let told = copy-told p a has is in
      can-record tag at f p has copy tagged a last told.0 told.1 merges

  taken-in : (p : PieceEntry) → Contains (pieces rs) p → Contains (ledger s).pieces p
  taken-in p has = subst (λ ps. Contains ps p) (pieces-told s.catalog) has

  module _ (tag : List ℕ) (at : ℕ) where
    renewed-fit : (x : ℕ × Renewed) → IsRenewed rs e x.0 tag at x.1 → IsFit s tag x
    renewed-fit x is =
        let has = taken-in is.copy is.taken.held in
        record {
          there = (is.copy, has, sym is.id);
          changed = merges-fit tag at x.0 is.copy (copy_at e.bases is.copy.id) x.1.merged has is.taken.passes.copy is.taken.passes.is refl is.merged;
        }

    pub all-fit : (xs : List (ℕ × Renewed)) → AreRenewed s e tag at xs → AreFit s tag xs
    all-fit xs are = record { each = each-in (IsFit s tag) xs (λ x has. renewed-fit x (are.each x has)); apart = renewed-apart s e tag at xs sound are }

-- a copy that can be recorded is short
short-by : (s : State) (tag : List ℕ) (o : Option Piece) → IfSome o (CanRecord s tag) → IfSome o (λ last. length last.rows ≤ 65536)
short-by s tag None can = tt
short-by s tag (Some last) can = omega (arith, few_rows last can.valid)

pub all-short : (s : State) (tag : List ℕ) (xs : List (ℕ × Renewed)) → AreFit s tag xs → All IsShort xs
all-short s tag xs fit = each-in IsShort xs (λ x has. short-by s tag x.1.merged (All-contains (IsFit s tag) xs x fit.each has).changed)
