-- What the records of a catalog add, one after the other.
use Rattle.std.proofs.Common.{◌≡◌, ◌≢◌, ◌∙◌, ◌<◌, ℕ, List, [], ◌∷◌, ◌++◌, Some, length, get_or, take, Contains, refl, ap, sym, arith, inl}
use Rattle.std.proofs.lemmas.Option.{same_Some}
use Rattle.rm_base.{specs.{Store.{Held}, declared.kinds.Bad.{Bad}}, proofs.Members.{none-in}}
use Rattle.rm_catalog.specs.{Keys.{place, place_of}, Objects.{LogRule, PieceRule}, Rules.{IsCatalog}, declared.record.LogEntry.{LogEntry}}
use Rattle.rm_catalog.{specs.declared.record.{PieceEntry.{PieceEntry}, SetEntry.{SetEntry}, Record.{Record}}, proofs.ByKinds.{free-in}}
use Rattle.rm_catalog.proofs.{Numbering.{obeys}, Told.{some_is}, Running.{earlier-lower}}
use Rattle.rm_catalog.specs.declared.record.Record.TheVariants as kind
use Rattle.rm_piece.specs.declared.piece.Piece.{Piece}
use Rattle.rm_redo.specs.declared.log_file.LogFile.{LogFile}
use Rattle.rm_evidence.specs.{Available.{IsSkippedAmong}, Database.{Database, database_in, dbid_in}}
use Rattle.rm_evidence.specs.{Gathered.{ById, ByIdAndFile, IsBaseAmong, IsGathered, IsLevel1Among, IsLogOf}, Names.{object_id}}
use Rattle.rm_evidence.specs.{Place.{placed_evidence}, Taking.{Adds, Extends}, declared.evidence.{Evidence.{Evidence}, InPlace.{InPlace}}}
use Rattle.rm_evidence.proofs.Extending.{extends-as, extends-none}
use Rattle.rm_evidence.proofs.Records.{base-by, bases-single, level1-by, level1s-single, log-by, logs-single, bad-by, skipped-single}
use Rattle.rm_evidence.proofs.Single.{AreRelated, IsAhead, IsOfOne, extends-more, same-objects}

-- objects of different kinds have different ids
module _ (rs : List Record) (c : IsCatalog rs) where
  log-piece : (l : LogEntry) (p : PieceEntry) → Contains rs (kind.Log l) → Contains rs (kind.Piece p) → l.id ≢ p.id
  log-piece l p has there one =
      let rule : LogRule rs l = (obeys rs (kind.Log l) c has).own in
      free-in rs 4 l.id 5 rule.id refl refl (some_is rs (place 5 l.id) (kind.Piece p) there (ap (λ (n : ℕ). place 5 n) (sym one)))

  log-set : (l : LogEntry) (e : SetEntry) → Contains rs (kind.Log l) → Contains rs (kind.Set e) → l.id ≢ e.id
  log-set l e has there one =
      let rule : LogRule rs l = (obeys rs (kind.Log l) c has).own in
      free-in rs 4 l.id 9 rule.id refl refl (some_is rs (place 9 l.id) (kind.Set e) there (ap (λ (n : ℕ). place 9 n) (sym one)))

  piece-set : (p : PieceEntry) (e : SetEntry) → Contains rs (kind.Piece p) → Contains rs (kind.Set e) → p.id ≢ e.id
  piece-set p e has there one =
      let rule : PieceRule rs p = (obeys rs (kind.Piece p) c has).own in
      free-in rs 5 p.id 9 rule.id refl refl (some_is rs (place 9 p.id) (kind.Set e) there (ap (λ (n : ℕ). place 9 n) (sym one)))

  -- and two records of objects have, too
  pub apart : (x r : Record) (m n : ℕ) → Contains rs x → Contains rs r → place_of x < place_of r → object_id x ≡ Some m → object_id r ≡ Some n → m ≢ n
  apart (kind.Log l) (kind.Log k) m n h g low a b one =
      let same = ap (λ (i : ℕ). place 4 i) (same_Some l.id m a ∙ one ∙ sym (same_Some k.id n b)) in
      absurd (omega (arith, low, same))
  apart (kind.Piece p) (kind.Piece q) m n h g low a b one =
      let same = ap (λ (i : ℕ). place 5 i) (same_Some p.id m a ∙ one ∙ sym (same_Some q.id n b)) in
      absurd (omega (arith, low, same))
  apart (kind.Set e) (kind.Set f) m n h g low a b one =
      let same = ap (λ (i : ℕ). place 9 i) (same_Some e.id m a ∙ one ∙ sym (same_Some f.id n b)) in
      absurd (omega (arith, low, same))
  apart (kind.Log l) (kind.Piece p) m n h g low a b one = log-piece l p h g (same_Some l.id m a ∙ one ∙ sym (same_Some p.id n b))
  apart (kind.Log l) (kind.Set e) m n h g low a b one = log-set l e h g (same_Some l.id m a ∙ one ∙ sym (same_Some e.id n b))
  apart (kind.Piece p) (kind.Log l) m n h g low a b one = log-piece l p g h (same_Some l.id n b ∙ sym one ∙ sym (same_Some p.id m a))
  apart (kind.Piece p) (kind.Set e) m n h g low a b one = piece-set p e h g (same_Some p.id m a ∙ one ∙ sym (same_Some e.id n b))
  apart (kind.Set e) (kind.Log l) m n h g low a b one = log-set l e g h (same_Some l.id n b ∙ sym one ∙ sym (same_Some e.id m a))
  apart (kind.Set e) (kind.Piece p) m n h g low a b one = piece-set p e g h (same_Some p.id n b ∙ sym one ∙ sym (same_Some e.id m a))
  apart (kind.Log l) _ m n h g low a b one = absurd cc
  apart (kind.Piece p) _ m n h g low a b one = absurd cc
  apart (kind.Set e) _ m n h g low a b one = absurd cc
  apart _ _ m n h g low a b one = absurd cc

-- the objects of the records before have other ids
pub is-apart : (rs : List Record) (i : ℕ) (r : Record) → IsCatalog rs → i < length rs → r ≡ get_or rs i r → AreRelated (λ m n. m ≢ n) (take i rs) r
is-apart rs i r c inside is x m n has first second =
    let before = earlier-lower rs i r x c inside is has in
    apart rs c x r m n before.0 (i, inside, sym is) before.1 first second

module _ (held : Held) (base : Database) where
  -- no record adds nothing
  pub adds-start : (e : Evidence) → Adds held base [] e e
  adds-start e = record {
    bases = extends-none ByIdAndFile (IsBaseAmong held base []) e.bases e.bases refl (λ id a is. let o = base-by held base [] id a is in none-in o.0 o.1);
    level1s = extends-none ByIdAndFile (IsLevel1Among held base []) e.level1s e.level1s refl (λ id a is. let o = level1-by held base [] id a is in none-in o.0 o.1);
    logs = extends-none ById (IsLogOf held []) e.logs e.logs refl (λ id a is. let o = log-by held base [] id a is in none-in o.0 o.1);
    skipped = extends-none ById (IsSkippedAmong held base []) e.skipped e.skipped refl (λ id bad is. let o = bad-by held base [] id bad is in none-in o.0 o.1);
  }

  -- one record after the others
  pub adds-then : (xs : List Record) (r : Record) (a b c : Evidence) → IsAhead xs r → Adds held base xs a b → Adds held base (r ∷ []) b c → Adds held base (xs ++ r ∷ []) a c
  adds-then xs r a b c ahead e f = record {
    bases = extends-more Piece (λ rs. IsBaseAmong held base rs) (bases-single held base) (λ i j. i < j) ByIdAndFile xs r a.bases b.bases c.bases (λ i j x y less. inl less) ahead e.bases f.bases;
    level1s = extends-more Piece (λ rs. IsLevel1Among held base rs) (level1s-single held base) (λ i j. i < j) ByIdAndFile xs r a.level1s b.level1s c.level1s (λ i j x y less. inl less) ahead e.level1s f.level1s;
    logs = extends-more LogFile (λ rs. IsLogOf held rs) (logs-single held base) (λ i j. i < j) ById xs r a.logs b.logs c.logs (λ i j x y less. less) ahead e.logs f.logs;
    skipped = extends-more Bad (λ rs. IsSkippedAmong held base rs) (skipped-single held base) (λ i j. i < j) ById xs r a.skipped b.skipped c.skipped (λ i j x y less. less) ahead e.skipped f.skipped;
  }

  -- what records add, others with the same objects add
  module _ (xs ys : List Record) (to : (r : Record) (id : ℕ) → object_id r ≡ Some id → Contains xs r → Contains ys r) (from : (r : Record) (id : ℕ) → object_id r ≡ Some id → Contains ys r → Contains xs r) where
    by-objects : (A : Type 0) (P : List Record → ℕ → A → Type 0) (R : ℕ × A → ℕ × A → Type 0) (old new : List (ℕ × A)) → IsOfOne A P → Extends A R old (P xs) new → Extends A R old (P ys) new
    by-objects A P R old new single e = extends-as R (P xs) (P ys) old new (same-objects A P single xs ys to) (same-objects A P single ys xs from) e

    pub adds-by_objects : (old new : Evidence) → Adds held base xs old new → Adds held base ys old new
    adds-by_objects old new adds = record {
      bases = by-objects Piece (λ rs. IsBaseAmong held base rs) ByIdAndFile old.bases new.bases (bases-single held base) adds.bases;
      level1s = by-objects Piece (λ rs. IsLevel1Among held base rs) ByIdAndFile old.level1s new.level1s (level1s-single held base) adds.level1s;
      logs = by-objects LogFile (λ rs. IsLogOf held rs) ById old.logs new.logs (logs-single held base) adds.logs;
      skipped = by-objects Bad (λ rs. IsSkippedAmong held base rs) ById old.skipped new.skipped (skipped-single held base) adds.skipped;
    }

-- what all records add to what is in place is gathered
pub gathered : (held : Held) (rs : List Record) (place : InPlace) (e : Evidence) → Adds held (database_in rs) rs (placed_evidence (dbid_in rs) place) e → IsGathered held rs place e
gathered held rs place e adds = record {
  bases = record { rest = adds.bases.rest; list = adds.bases.list; ascends = adds.bases.related; exact = adds.bases.exact };
  level1s = record { rest = adds.level1s.rest; list = adds.level1s.list; ascends = adds.level1s.related; exact = adds.level1s.exact };
  logs = record { rest = adds.logs.rest; list = adds.logs.list; ascends = adds.logs.related; exact = adds.logs.exact };
  skipped = record { rest = adds.skipped.rest; list = adds.skipped.list; ascends = adds.skipped.related; exact = adds.skipped.exact };
}
