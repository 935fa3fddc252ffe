-- What is seen of a store, whatever it tells: the bytes that are seen of one record after the other go into one map.
use Rattle.std.specs.{Prelude.{Ok, Result, IfSome}, Str.{bytes_eq}}
use Rattle.std.proofs.Common.{◌≡◌, ◌≢◌, ◌∙◌, ◌<◌, ℕ, ◌^◌, cond, List, [], ◌∷◌, length, get_or, take, Option, Some, None, Contains, refl, ap, sym, subst, arith, inl, inr}
use Rattle.std.proofs.lemmas.{Bool.{cond-true, cond-false, false_from_ne_true}, Option.{same_Some}, Slice.Eq.{bytes_eq-Decides}}
use Rattle.rm_base.{specs.{Store.{Held}, declared.kinds.Bad.{Bad}}, proofs.Lists.{only-in}}
use Rattle.rm_catalog.specs.{Keys.{key_of}, Rules.{IsCatalog}, declared.record.{LogEntry.{LogEntry}, PieceEntry.{PieceEntry}}}
use Rattle.rm_catalog.{specs.declared.record.{SetEntry.{SetEntry}, Record.{Record}}, proofs.Running.{earlier-lower}}
use Rattle.rm_catalog.specs.declared.record.Record.TheVariants as kind
use Rattle.rm_evidence.specs.{Available.{IsBad, IsSkippedAmong, a_log, a_piece, a_set}, Database.{Database}}
use Rattle.rm_evidence.specs.Gathered.{ById, ByIdAndFile, IsBaseAmong, IsLevel1Among, IsLogOf, IsPieceAmong}
use Rattle.rm_evidence.specs.{Names.{log_name, object_id, object_name, piece_name, set_name}, Seen.{IsSeen}, Taking.{Adds, HasId, IsTold}}
use Rattle.rm_evidence.{specs.declared.evidence.Evidence.{Evidence}, proofs.{Extending.{extends-as}, Names.{names-tell}}}
use Rattle.rm_evidence.proofs.{Records.{LogBytes, PieceBytes, SetBytes}, Runs.{is-apart}, Single.{IsAhead}}
use Rattle.rm_piece.specs.declared.piece.Piece.{Piece}
use Rattle.rm_redo.specs.declared.log_file.LogFile.{LogFile}

-- what is so by any bytes is seen
pub seen-all : {P : Held → Type 0} (o : Option Held) → ((held : Held) → P held) → IsSeen o P
seen-all None all = let none : Held = λ name. None in (none, all none)
seen-all (Some held) all = all held

-- what follows from what is seen is seen
pub seen-then : (o : Option Held) {P Q : Held → Type 0} → IsSeen o P → ((held : Held) → P held → Q held) → IsSeen o Q
seen-then None seen then = (seen.0, then seen.0 seen.1)
seen-then (Some held) seen then = then held seen

-- what follows whatever the bytes are is so
pub seen-so : (o : Option Held) {P : Held → Type 0} {X : Type 0} → IsSeen o P → ((held : Held) → P held → X) → X
seen-so None seen then = then seen.0 seen.1
seen-so (Some held) seen then = then held seen

-- where the store tells, it is so by what it tells
pub seen-told : (o : Option Held) (P : Held → Type 0) → IsSeen o P → IfSome o P
seen-told None P seen = tt
seen-told (Some held) P seen = seen

-- the answer of a store is what stands under the name
pub seen-answer : (o : Option Held) (name : List ℕ) (bytes : Option (List ℕ)) → IfSome o (λ held. held name ≡ bytes) → IsSeen o (λ held. held name ≡ bytes)
seen-answer None name bytes told = let all : Held = λ n. bytes in (all, refl)
seen-answer (Some held) name bytes told = told

-- so what is told of these bytes is told of what stands there
pub seen-looked : {A : Type 0} (Is : List ℕ → A → Type 0) (o : Option Held) (name at : List ℕ) (bytes : Option (List ℕ)) (told : Result A Bad) → at ≡ name → IfSome o (λ held. held at ≡ bytes) → IsTold Is bytes told → IsSeen o (λ held. IsTold Is (held name) told)
seen-looked Is o name at bytes told same answer is = seen-then o (seen-answer o at bytes answer) (λ held there. subst (λ (b : Option (List ℕ)). IsTold Is b told) (sym (sym (ap held same) ∙ there)) is)

-- an artefact that is told is spelled by some bytes
pub seen-object : {A : Type 0} (Is : List ℕ → A → Type 0) (name : List ℕ) (a : A) (o : Option Held) → IsSeen o (λ held. IsTold Is (held name) (Ok a)) → (bytes : List ℕ) × Is bytes a
seen-object Is name a o seen = seen-so o seen (λ held told. (told.0, told.2))

-- a record of no log, piece or set has no id
pub other-id : (r : Record) → ((l : LogEntry) → r ≡ kind.Log l → ⊥) → ((p : PieceEntry) → r ≡ kind.Piece p → ⊥) → ((e : SetEntry) → r ≡ kind.Set e → ⊥) → HasId r
other-id (kind.Log l) no_log no_piece no_set = absurd (no_log l refl)
other-id (kind.Piece p) no_log no_piece no_set = absurd (no_piece p refl)
other-id (kind.Set e) no_log no_piece no_set = absurd (no_set e refl)
other-id _ no_log no_piece no_set = tt

-- both have the same under the names of these records' objects
abbrev pub SameFor : List Record → Held → Held → Type 0
SameFor rs held now = (r : Record) (name : List ℕ) → Contains rs r → object_name r ≡ Some name → held name ≡ now name

pub same-back : (rs : List Record) (held now : Held) → SameFor rs held now → SameFor rs now held
same-back rs held now same r name has is = sym (same r name has is)

module _ (base : Database) (rs : List Record) (held now : Held) (same : SameFor rs held now) where
  pub log-as : (id : ℕ) (a : LogFile) → IsLogOf held rs id a → IsLogOf now rs id a
  log-as id a is = (is.0, is.1, is.2, record { status = is.3.status; bytes = is.3.bytes; there = sym (same (kind.Log is.0) (log_name is.0.id) is.1 refl) ∙ is.3.there; object = is.3.object })

  pub piece-as : (id : ℕ) (a : Piece) → IsPieceAmong held base rs id a → IsPieceAmong now base rs id a
  piece-as id a (inl own) =
      inl (own.0, own.1, own.2, record { status = own.3.status; bytes = own.3.bytes; there = sym (same (kind.Piece own.0) (piece_name own.0.copy own.0.id) own.1 refl) ∙ own.3.there; object = own.3.object })
  piece-as id a (inr of) =
      inr (of.0, of.1, of.2, of.3, record { status = of.4.status; bytes = of.4.bytes; there = sym (same (kind.Set of.0) (set_name of.0.id) of.1 refl) ∙ of.4.there; object = of.4.object }, of.5, of.6, of.7)

  base-as : (id : ℕ) (a : Piece) → IsBaseAmong held base rs id a → IsBaseAmong now base rs id a
  base-as id a is = (piece-as id a is.0, is.1)

  level1-as : (id : ℕ) (a : Piece) → IsLevel1Among held base rs id a → IsLevel1Among now base rs id a
  level1-as id a is = (piece-as id a is.0, is.1)

  pub skipped-as : (id : ℕ) (bad : Bad) → IsSkippedAmong held base rs id bad → IsSkippedAmong now base rs id bad
  skipped-as _ bad (a_log l _ has status is) = a_log l bad has status (subst (λ (o : Option (List ℕ)). IsBad (LogBytes l) o bad) (same (kind.Log l) (log_name l.id) has refl) is)
  skipped-as _ bad (a_piece p _ has status is) = a_piece p bad has status (subst (λ (o : Option (List ℕ)). IsBad (PieceBytes p) o bad) (same (kind.Piece p) (piece_name p.copy p.id) has refl) is)
  skipped-as _ bad (a_set e _ has status is) = a_set e bad has status (subst (λ (o : Option (List ℕ)). IsBad (SetBytes base e) o bad) (same (kind.Set e) (set_name e.id) has refl) is)

-- what these records add by the one they add by the other
pub adds-as : (base : Database) (rs : List Record) (held now : Held) (old new : Evidence) → SameFor rs held now → Adds held base rs old new → Adds now base rs old new
adds-as base rs held now old new same adds =
    let back = same-back rs held now same in
    record {
      bases = extends-as ByIdAndFile (IsBaseAmong held base rs) (IsBaseAmong now base rs) old.bases new.bases (base-as base rs held now same) (base-as base rs now held back) adds.bases;
      level1s = extends-as ByIdAndFile (IsLevel1Among held base rs) (IsLevel1Among now base rs) old.level1s new.level1s (level1-as base rs held now same) (level1-as base rs now held back) adds.level1s;
      logs = extends-as ById (IsLogOf held rs) (IsLogOf now rs) old.logs new.logs (log-as base rs held now same) (log-as base rs now held back) adds.logs;
      skipped = extends-as ById (IsSkippedAmong held base rs) (IsSkippedAmong now base rs) old.skipped new.skipped (skipped-as base rs held now same) (skipped-as base rs now held back) adds.skipped;
    }

-- under this name as the second, elsewhere as the first
with_name : List ℕ → Held → Held → Held
with_name name first second n = cond (bytes_eq n name) (second n) (first n)

name-here : (name : List ℕ) (first second : Held) → second name ≡ with_name name first second name
unfolding with_name
name-here name first second = sym (cond-true (bytes_eq name name) (second name) (first name) ((bytes_eq-Decides name name).1 refl))

name-there : (name : List ℕ) (first second : Held) (n : List ℕ) → n ≢ name → first n ≡ with_name name first second n
unfolding with_name
name-there name first second n other = sym (cond-false (bytes_eq n name) (second n) (first n) (false_from_ne_true (bytes_eq n name) (λ is. other ((bytes_eq-Decides n name).0 is))))

-- under the name of the record's object as the second, elsewhere as the first
abbrev with_named : Option (List ℕ) → Held → Held → Held
with_named None first second = first
with_named (Some name) first second = with_name name first second

abbrev with_record : Record → Held → Held → Held
with_record r first second = with_named (object_name r) first second

-- it has what the second has of the record, and what the first has of those before
same-here : (r : Record) (first second : Held) → SameFor (r ∷ []) second (with_record r first second)
same-here r first second x name has is =
    let own : object_name r ≡ Some name = ap object_name (only-in r x has) ∙ is in
    subst (λ (o : Option (List ℕ)). second name ≡ with_named o first second name) (sym own) (name-here name first second)

-- an object with an id has one of four bytes
id-small : (r : Record) (id : ℕ) → HasId r → object_id r ≡ Some id → id < 2 ^ 32
id-small (kind.Log l) id small is = let same = same_Some l.id id is in omega (arith, small, same)
id-small (kind.Piece p) id small is = let same = same_Some p.id id is in omega (arith, small, same)
id-small (kind.Set e) id small is = let same = same_Some e.id id is in omega (arith, small, same)
id-small _ id small is = absurd cc

-- it is that of its key
key-id : (r : Record) (id : ℕ) → object_id r ≡ Some id → (key_of r).id ≡ id
key-id (kind.Log l) id is = same_Some l.id id is
key-id (kind.Piece p) id is = same_Some p.id id is
key-id (kind.Set e) id is = same_Some e.id id is
key-id _ id is = absurd cc

-- a record whose object has a name has an id
named-id : (r : Record) (name : List ℕ) → object_name r ≡ Some name → (id : ℕ) × (object_id r ≡ Some id)
named-id (kind.Log l) name is = (l.id, refl)
named-id (kind.Piece p) name is = (p.id, refl)
named-id (kind.Set e) name is = (e.id, refl)
named-id _ name is = absurd cc

-- no object of the records before has the name of the record's
abbrev pub AreNamedApart : List Record → Record → Type 0
AreNamedApart xs r = (x : Record) (name : List ℕ) → Contains xs x → object_name x ≡ Some name → object_name r ≡ Some name → ⊥

-- so where they have lower ids
pub ahead-named : (xs : List Record) (r : Record) → IsAhead xs r → HasId r → AreNamedApart xs r
ahead-named xs r ahead id x name has first second =
    let i = named-id x name first in
    let j = named-id r name second in
    let less = ahead x i.0 j.0 has i.1 j.1 in
    let small = id-small r j.0 id j.1 in
    let one = names-tell x r i.0 j.0 name i.1 j.1 (λ kind. omega (arith, less, small)) small first second in
    absurd (omega (arith, less, one))

-- and where they stand before it in a catalog
pub catalog-named : (rs : List Record) (i : ℕ) (r : Record) → IsCatalog rs → i < length rs → r ≡ get_or rs i r → HasId r → AreNamedApart (take i rs) r
catalog-named rs i r c inside is id x name has first second =
    let m = named-id x name first in
    let n = named-id r name second in
    let small = id-small r n.0 id n.1 in
    let low = (earlier-lower rs i r x c inside is has).1 in
    let key = key-id x m.0 m.1 in
    let own = key-id r n.0 n.1 in
    is-apart rs i r c inside is x m.0 n.0 has m.1 n.1 (names-tell x r m.0 n.0 name m.1 n.1 (λ kind. omega (arith, small, low, key, own, kind)) small first second)

same-before : (xs : List Record) (r : Record) (first second : Held) → AreNamedApart xs r → SameFor xs first (with_record r first second)
same-before xs r first second apart x name has is = step (object_name r) refl
  where
    step : (o : Option (List ℕ)) → object_name r ≡ o → first name ≡ with_named o first second name
    step None none = refl
    step (Some other) some = name-there other first second name (λ same. apart x name has is (some ∙ ap (λ (n : List ℕ). Some n) (sym same)))

-- what is seen of the records before, and of one more, is seen by one map
pub seen-more : (o p : Option Held) (xs : List Record) (r : Record) {P Q : Held → Type 0} (R : Held → Type 0) → p ≡ o → AreNamedApart xs r → IsSeen o P → IsSeen p Q
    → ((held now : Held) → SameFor xs held now → P held → P now) → ((held now : Held) → SameFor (r ∷ []) held now → Q held → Q now) → ((held : Held) → P held → Q held → R held) → IsSeen o R
seen-more o p xs r {P} {Q} R same apart before here keeps keep both = step o before (subst (λ (q : Option Held). IsSeen q Q) same here)
  where
    step : (q : Option Held) → IsSeen q P → IsSeen q Q → IsSeen q R
    step None x y =
        let all : Held = with_record r x.0 y.0 in
        (all, both all (keeps x.0 all (same-before xs r x.0 y.0 apart) x.1) (keep y.0 all (same-here r x.0 y.0) y.1))
    step (Some held) x y = both held x y
