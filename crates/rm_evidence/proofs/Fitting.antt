-- What is in place fits a catalog, and what is gathered.
use Rattle.std.specs.Prelude.{IsSomeAnd}
use Rattle.std.proofs.Common.{◌≡◌, ◌≢◌, ◌∙◌, ◌<◌, ◌≤◌, ◌-◌, ℕ, suc, List, [], ◌∷◌, Option, Some, None, length, get_or, slice_get, map, All, AllPairs, Contains, sym, subst, arith, inl, inr}
use Rattle.std.proofs.lemmas.{List.Elements.{All-append, All-cons, All-contains, All-map, Contains-get_or}, Option.{slice_get-get_or}}
use Rattle.rm_base.specs.{Store.{Held}, declared.{block.Row.{Row}, kinds.Kind.TheVariants.{Level1}}}
use Rattle.rm_blocks.specs.File.{IsInOrder}
use Rattle.rm_catalog.specs.{Objects.{IsRange, LogRule, PieceRule}, Rules.{IsCatalog}, SetRules.{SetPartRule, SetRule}, Trees.{nodes}}
use Rattle.rm_catalog.{specs.declared.record.{Record.{Record}, SetEntry.{SetEntry}, SetPart.{SetPart}}, proofs.Numbering.{obeys}}
use Rattle.rm_catalog.proofs.Incarnations.{some-there}
use Rattle.rm_catalog.specs.declared.record.Record.TheVariants as kind
use Rattle.rm_history.specs.{Tree.{IsThere}, declared.world.Datafile.{Datafile}}
use Rattle.rm_evidence.specs.Database.{Database, database_in, datafiles, dbid_in}
use Rattle.rm_evidence.specs.Gathered.{placed, placed_piece, ById, ByIdAndFile, IsBaseOf, IsGathered, IsLevel1Of, IsLogOf, IsPieceAmong, ListsBy}
use Rattle.rm_evidence.specs.{Known.{AreRecorded, FitsLog, FitsPiece, FitsTree, IsPartOf, IsRecorded}, Objects.{IsAsCreated, IsSetObject}}
use Rattle.rm_evidence.specs.{Place.{FitsPlace, placed_evidence}, Taking.{HasIncarnation}, declared.evidence.Evidence.{Evidence}}
use Rattle.rm_evidence.{specs.declared.evidence.InPlace.{InPlace}, proofs.Parts.{part-of}}
use Rattle.rm_piece.specs.{Sets.{IsMember}, Valid.{IsBefore}, declared.{piece.Piece.{Piece}, set.{Set.{Set}, SetFile.{SetFile}}}}

-- blocks in order ascend
pub ascends : (rows : List Row) → IsInOrder rows → AllPairs IsBefore rows
ascends rows order i j d less inside =
    let first = order i (get_or rows i d) (slice_get-get_or rows i d (omega (arith, less, inside))) in
    omega (arith, first, order j (get_or rows j d) (slice_get-get_or rows j d inside), less)

-- a part to read a list of parts by
any-part : SetPart
any-part = record { file = 0; kind = Level1; from = 0; high = 0; rows = 0 }

-- the incarnation of each record of a catalog is there
pub incarnations-there : (rs : List Record) (r : Record) → IsCatalog rs → Contains rs r → HasIncarnation (nodes rs) r
incarnations-there rs (kind.Base b) c has = tt
incarnations-there rs (kind.Incarnation i) c has = tt
incarnations-there rs (kind.Datafile f) c has = tt
incarnations-there rs (kind.Log l) c has = let rule : LogRule rs l = (obeys rs (kind.Log l) c has).own in some-there rs l.inc (IsRange l) c rule.range
incarnations-there rs (kind.Piece p) c has = let rule : PieceRule rs p = (obeys rs (kind.Piece p) c has).own in some-there rs p.inc (λ i. p.high ≤ i.end) c rule.end
incarnations-there rs (kind.Mark m) c has = tt
incarnations-there rs (kind.Part p) c has = tt
incarnations-there rs (kind.Head h) c has = tt
incarnations-there rs (kind.Set e) c has =
    let rule : SetRule rs e = (obeys rs (kind.Set e) c has).own in
    let first : SetPartRule rs e (get_or e.parts 0 any-part) = rule.parts.each 0 any-part rule.parts.some in
    some-there rs e.inc (λ i. (get_or e.parts 0 any-part).high ≤ i.end) c first.end
incarnations-there rs (kind.Switch x) c has = tt

-- what holds of each item holds of each item in place
all-placed : {A : Type 0} (P : A → Type 0) (xs : List A) → All P xs → All (λ x. P x.1) (placed xs)
all-placed {A} P [] all = λ k d inside. absurd (omega arith)
all-placed {A} P (x ∷ xs) all = All-cons (λ (y : ℕ × A). P y.1) (0, x) (placed xs) (all 0 x (omega arith)) (all-placed P xs (λ k d inside. all (suc k) d (omega arith)))

-- what is in place fits
pub fits-placed : (rs : List Record) (place : InPlace) → FitsPlace rs place → FitsTree (nodes rs) (placed_evidence (dbid_in rs) place)
fits-placed rs place fits =
    let pieces : List Piece = map (placed_piece (dbid_in rs)) place.files in
    record {
      bases = all-placed (FitsPiece (nodes rs)) pieces (All-map (FitsPiece (nodes rs)) (placed_piece (dbid_in rs)) place.files fits.files);
      no_level1 = all-placed (λ (a : Piece). a.kind ≢ Level1) pieces (All-map (λ (a : Piece). a.kind ≢ Level1) (placed_piece (dbid_in rs)) place.files (λ k d inside. λ e. absurd cc));
      level1s = λ k d inside. absurd (omega arith);
      all_level1 = λ k d inside. absurd (omega arith);
      logs = all-placed (FitsLog (nodes rs)) place.logs fits.logs;
    }

-- and has the id 0
pub recorded-placed : (rs : List Record) (place : InPlace) → AreRecorded rs (placed_evidence (dbid_in rs) place)
recorded-placed rs place = no-id (map (placed_piece (dbid_in rs)) place.files)
  where
    no-id : (pieces : List Piece) → All (λ x. 0 < x.0 → IsRecorded rs x) (placed pieces)
    no-id [] = λ k d inside. absurd (omega arith)
    no-id (a ∷ rest) = All-cons (λ (x : ℕ × Piece). 0 < x.0 → IsRecorded rs x) (0, a) (placed rest) (λ above. absurd (omega (arith, above))) (no-id rest)

-- what holds of what comes first, and of all that Is, holds of the whole list
all-listed : {A : Type 0} (R : ℕ × A → ℕ × A → Type 0) (P : ℕ × A → Type 0) (first : List (ℕ × A)) (Is : ℕ → A → Type 0) (all : List (ℕ × A)) → ListsBy A R first Is all → All P first → ((id : ℕ) (a : A) → Is id a → P (id, a)) → All P all
all-listed {A} R P first Is all lists begins each =
    subst (All P) (sym lists.list) (All-append P first lists.rest begins (λ k d inside.
    let x : ℕ × A = get_or lists.rest k d in
    each x.0 x.1 ((lists.exact x.0 x.1).0 (Contains-get_or lists.rest k d inside))))

-- the set of a record is valid, and so is what it has
member-valid : (base : Database) (e : SetEntry) (bytes : List ℕ) (s : Set) (m : SetFile) → IsSetObject base e bytes s → Contains s.members m → IsMember s m
member-valid base e bytes s m is has = All-contains (IsMember s) s.members m is.valid.members has

-- a piece that is at hand fits, as its own object or in a set
piece-fits : (held : Held) (rs : List Record) (base : Database) (id : ℕ) (a : Piece) → IsCatalog rs → IsPieceAmong held base rs id a → FitsPiece (nodes rs) a
piece-fits held rs base id a c (inl own) = record {
  valid = own.3.object.valid;
  inc = subst (IsThere (nodes rs)) (sym own.3.object.fields.inc) (incarnations-there rs (kind.Piece own.0) c own.1);
}
piece-fits held rs base id a c (inr of) =
    let is : IsSetObject base of.0 of.4.bytes of.3 = of.4.object in
    let member : IsMember of.3 of.5 = member-valid base of.0 of.4.bytes of.3 of.5 is of.6 in
    subst (FitsPiece (nodes rs)) of.7 (record {
      valid = member.piece;
      inc = subst (IsThere (nodes rs)) (sym (member.of.inc ∙ is.fields.inc)) (incarnations-there rs (kind.Set of.0) c of.1);
    })

-- and has the fields of its record, or of its part of one
piece-recorded : (held : Held) (rs : List Record) (id : ℕ) (a : Piece) → IsPieceAmong held (database_in rs) rs id a → IsRecorded rs (id, a)
piece-recorded held rs id a (inl own) = inl (own.0, own.1, own.2, own.3.object.fields)
piece-recorded held rs id a (inr of) =
    let is : IsSetObject (database_in rs) of.0 of.4.bytes of.3 = of.4.object in
    let member : IsMember of.3 of.5 = member-valid (database_in rs) of.0 of.4.bytes of.3 of.5 is of.6 in
    let part = part-of of.0.parts of.3.members of.5 is.fields.parts of.6 in
    let created = All-contains (λ (m : SetFile). IsSomeAnd (slice_get (datafiles rs) (m.piece.file - 1)) (IsAsCreated m)) of.3.members of.5 is.fields.files of.6 in
    inr (
      of.0,
      of.1,
      of.2,
      subst (IsPartOf rs of.0) of.7 (record {
        part = part.0;
        held = part.1;
        inc = member.of.inc ∙ is.fields.inc;
        checkpoint = member.of.checkpoint ∙ is.fields.checkpoint;
        file = part.2.file;
        kind = part.2.kind;
        from = part.2.from;
        high = part.2.high;
        blocks = only-blocks of.5 (slice_get (datafiles rs) (of.5.piece.file - 1)) created;
      }),
    )
  where
    only-blocks : (m : SetFile) (o : Option Datafile) → IsSomeAnd o (IsAsCreated m) → IsSomeAnd o (λ d. m.piece.blocks ≡ d.blocks)
    only-blocks m None none = none
    only-blocks m (Some d) is = is.blocks

-- what is gathered fits
pub gathered-fits : (held : Held) (rs : List Record) (place : InPlace) (e : Evidence) → IsCatalog rs → FitsPlace rs place → IsGathered held rs place e → FitsTree (nodes rs) e
gathered-fits held rs place e c fits is =
    let first = fits-placed rs place fits in
    record {
      bases = all-listed ByIdAndFile (λ x. FitsPiece (nodes rs) x.1) _ (IsBaseOf held rs) e.bases is.bases first.bases (λ id a of. piece-fits held rs (database_in rs) id a c of.0);
      no_level1 = all-listed ByIdAndFile (λ x. x.1.kind ≢ Level1) _ (IsBaseOf held rs) e.bases is.bases first.no_level1 (λ id a of. of.1);
      level1s = all-listed ByIdAndFile (λ x. FitsPiece (nodes rs) x.1) [] (IsLevel1Of held rs) e.level1s is.level1s first.level1s (λ id a of. piece-fits held rs (database_in rs) id a c of.0);
      all_level1 = all-listed ByIdAndFile (λ x. x.1.kind ≡ Level1) [] (IsLevel1Of held rs) e.level1s is.level1s first.all_level1 (λ id a of. of.1);
      logs = all-listed ById (λ x. FitsLog (nodes rs) x.1) _ (IsLogOf held rs) e.logs is.logs first.logs
          (λ id a of. record { valid = of.3.object.valid; inc = subst (IsThere (nodes rs)) (sym of.3.object.fields.inc) (incarnations-there rs (kind.Log of.0) c of.1) });
    }

-- each copy that is gathered and not in place has the fields of its record, and each level 1
pub gathered-recorded : (held : Held) (rs : List Record) (place : InPlace) (e : Evidence) → IsGathered held rs place e → AreRecorded rs e
gathered-recorded held rs place e is = all-listed ByIdAndFile (λ x. 0 < x.0 → IsRecorded rs x) _ (IsBaseOf held rs) e.bases is.bases (recorded-placed rs place) (λ id a of above. piece-recorded held rs id a of.0)

pub level1s-recorded : (held : Held) (rs : List Record) (place : InPlace) (e : Evidence) → IsGathered held rs place e → All (IsRecorded rs) e.level1s
level1s-recorded held rs place e is = all-listed ByIdAndFile (IsRecorded rs) [] (IsLevel1Of held rs) e.level1s is.level1s (λ k d inside. absurd (omega arith)) (λ id a of. piece-recorded held rs id a of.0)

-- each item of the list of records is one of them
pub item-in : (xs rs : List Record) (i : ℕ) (r : Record) → xs ≡ rs → i < length xs → r ≡ get_or xs i r → Contains rs r
item-in xs rs i r same inside is = subst (λ (ys : List Record). Contains ys r) same (i, inside, sym is)

-- so its incarnation is there
pub item-there : (xs rs : List Record) (i : ℕ) (r : Record) → xs ≡ rs → IsCatalog rs → i < length xs → r ≡ get_or xs i r → HasIncarnation (nodes rs) r
item-there xs rs i r same c inside is = incarnations-there rs r c (item-in xs rs i r same inside is)
