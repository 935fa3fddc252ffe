-- What is read of a name and of the object under it is exact.
use Rattle.std.specs.{Prelude.{IfSome}, Fmt.{decimal}, List.{after_first, position_or_len}}
use Rattle.std.proofs.Common.{◌≡◌, ◌≢◌, ◌∙◌, ◌<◌, ◌≤◌, ◌++◌, ◌^◌, inl, inr, ℕ, Bool, true, false, List, refl, ap, sym, subst, arith, codes, eqb, length, length-append, max, lit≤, Option, Some, None, ◌-◌}
use Rattle.std.proofs.lemmas.{List.{length-set}, Option.{same_Some}}
use Rattle.sha2.specs.Sha256.{sha256}
use Rattle.rm_base.specs.{Store.{Held}, declared.kinds.Kind.{Kind, TheVariants.{Full, Level0, Level1, Place}}}
use Rattle.rm_base.proofs.Sealing.{length-sealed}
use Rattle.rm_catalog.specs.{Objects.{FitsKind as IsOfKind, FitsRows}, declared.record.PieceEntry.{PieceEntry}}
use Rattle.rm_evidence.{specs.Objects.{piece_entry}, proofs.Names.{log-name-tells, log-no-piece, piece-name-tells}}
use Rattle.rm_history.specs.{Tree.{IsThere, end_of, parent_of, reset_of, with_end}, declared.tree.Incarnation.{Incarnation}}
use Rattle.rm_history.specs.declared.world.Datafile.{Datafile}
use Rattle.rm_history.proofs.{Ends.{IsThere-with_end, end_of-with_end, owner-with_end, reset_of-with_end}, Highs.{high-least}}
use Rattle.rm_machine.specs.CatalogName.{Found, IsFound, IsNamed, Obeys, artefact_of, found_log, found_piece, id_of, name_of}
use Rattle.rm_machine.specs.{Saved.{spelling_of}, State.{ledger, tree}, SwitchLogfile.{log_entry}, declared.state.State.{State}}
use Rattle.rm_piece.specs.{Spelling.{body_of as piece_body, spelling as piece_spelling}, Valid.{FitsKind, IsPiece}}
use Rattle.rm_piece.{specs.declared.piece.Piece.{Piece}, proofs.Bodies.{length-body as length-piece}}
use Rattle.rm_piece.proofs.{Fitting.{few_rows, fits as piece-fits, spelling_same as same-piece}, Highs.{count_fits}}
use Rattle.rm_redo.specs.{LogFormat.{IsLogFile, body_of as log_body, spelling as log_spelling}, declared.log_file.LogFile.{LogFile}}
use Rattle.rm_redo.proofs.{LogBodies.{length-body as length-log}, LogFitting.{fits as log-fits, spelling_same as same-log}}
use Rattle.rm_step_upkeep.specs.Catalogued.{Finds, IsBackup, IsEntryOf, IsLogHere, IsOf, IsPieceHere, IsReadAs, ReadsAs, id_in, name_by, named_of}
use Rattle.rm_step_upkeep.specs.declared.{finding.Entry.{Entry}, naming.Named.{Named}}
use Rattle.rm_step_upkeep.specs.declared.finding.Entry.TheVariants as entry
use Rattle.rm_step_upkeep.specs.declared.naming.Named.TheVariants as named

-- What a name tells

abbrev is_line : ℕ → Bool
is_line b = eqb b 95

-- behind the first _ of such a name stand the digits of its id
pub record HasDigits (name digits : List ℕ) : Type 0 where
  pub inside : position_or_len is_line name < length name
  pub behind : after_first is_line name ≡ digits

log-digits : (ds : List ℕ) → HasDigits (codes "log_" ++ ds) ds
log-digits ds = record { inside = omega (arith, length-append (codes "log_") ds); behind = refl }

piece-digits : (ds : List ℕ) → HasDigits (codes "piece_" ++ ds) ds
piece-digits ds = record { inside = omega (arith, length-append (codes "piece_") ds); behind = refl }

copy-digits : (ds : List ℕ) → HasDigits (codes "copy_" ++ ds) ds
copy-digits ds = record { inside = omega (arith, length-append (codes "copy_") ds); behind = refl }

pub named-digits : (name : List ℕ) (id : ℕ) → IsNamed name id → HasDigits name (decimal id)
named-digits name id named = elim named.is [
  | inl of_log ↦ subst (λ (n : List ℕ). HasDigits n (decimal id)) (sym of_log) (log-digits (decimal id))
  | inr (inl of_piece) ↦ subst (λ (n : List ℕ). HasDigits n (decimal id)) (sym of_piece) (piece-digits (decimal id))
  | inr (inr of_copy) ↦ subst (λ (n : List ℕ). HasDigits n (decimal id)) (sym of_copy) (copy-digits (decimal id))
]

-- a name that is of something tells its id
pub of-named : (name : List ℕ) (n : Named) → IsOf name n → IsNamed name (id_in n)
of-named name (named.Log id) of = record { number = of.number; is = inl of.is }
of-named name (named.Piece false id) of = record { number = of.number; is = inr (inl of.is) }
of-named name (named.Piece true id) of = record { number = of.number; is = inr (inr of.is) }

-- what is found has the name and the id of what it is of
named-name : (x : Found) → name_by (named_of x) ≡ name_of x
named-name (found_log id a) = refl
named-name (found_piece copy id a) = refl

named-id : (x : Found) → id_in (named_of x) ≡ id_of x
named-id (found_log id a) = refl
named-id (found_piece copy id a) = refl

-- an end that was changed makes no incarnation
was-there : (ns : List Incarnation) (i end : ℕ) → IsThere (with_end ns i end) i → IsThere ns i
was-there ns i end there = (there.0, omega (arith, there.1, length-set ns (i - 1) (record { parent = parent_of ns i; reset = reset_of ns i; end = end })))

-- a store that tells what it holds tells this
told-of : (held : Option Held) (name : List ℕ) (o : Option (List ℕ)) → IfSome held (λ h. h name ≡ o) → (objects : Held) → held ≡ Some objects → objects name ≡ o
told-of None name o told objects tells = absurd cc
told-of (Some h) name o told objects tells = subst (λ (k : Held). k name ≡ o) (same_Some h objects tells) told

-- A log under a name

module _ (s : State) (id : ℕ) (a : LogFile) where
  abbrev log_end : ℕ
  log_end = max (end_of (tree s) a.inc) a.next

  log-obeys : IsLogFile a → IsLogHere s a → Obeys s (found_log id a)
  log-obeys valid here =
      record {
        there = IsThere-with_end (tree s) a.inc log_end a.inc here.there;
        thread = valid.thread;
        sequence = valid.sequence.0;
        range = (
          omega (arith, reset_of-with_end (tree s) a.inc log_end a.inc here.there, here.range.0),
          here.range.1,
          omega (arith, end_of-with_end (tree s) a.inc log_end here.there),
        );
        size = omega (arith, length-log a (log-fits a valid), length-sealed (log_body a), valid.few);
      }

  pub log-read : (bytes sha : List ℕ) → IsLogFile a → bytes ≡ log_spelling a → sha ≡ sha256 bytes → IsLogHere s a
      → IsEntryOf s (named.Log id) bytes (entry.Log (record (log_entry id a) { size = length bytes; sha = sha }))
  log-read bytes sha valid spelled digest here = record {
    found = found_log id a;
    named = refl;
    read = record { spelled = spelled; valid = valid; dbid = here.dbid; obeys = log-obeys valid here };
    is = λ i. entry.Log (record (log_entry id a) { size = length (spelled i); sha = (digest ∙ ap sha256 spelled) i });
  }

  log-here : (bytes : List ℕ) → IsReadAs s bytes (found_log id a) → IsLogHere s a
  log-here bytes read =
      let is = read.obeys in
      let there = was-there (tree s) a.inc log_end is.there in
      let low = reset_of-with_end (tree s) a.inc log_end a.inc there in
      record { dbid = read.dbid; there = there; range = (omega (arith, low, is.range.0), is.range.1) }

-- bytes that spell no log are none
pub no-log : (s : State) (id : ℕ) (bytes : List ℕ) → ((a : LogFile) → IsLogFile a → bytes ≢ log_spelling a) → (x : Found) → named_of x ≡ named.Log id
    → ¬ IsReadAs s bytes x
no-log s id bytes none (found_log n a) is read = none a read.valid read.spelled
no-log s id bytes none (found_piece copy n a) is read = absurd cc

-- nor are those of a log that is not here
pub other-log : (s : State) (id : ℕ) (bytes : List ℕ) (a : LogFile) → IsLogFile a → bytes ≡ log_spelling a → ¬ IsLogHere s a → (x : Found)
    → named_of x ≡ named.Log id → ¬ IsReadAs s bytes x
other-log s id bytes a valid spelled elsewhere (found_log n b) is read =
    let same : b ≡ a = same-log b a read.valid valid (sym read.spelled ∙ spelled) in
    elsewhere (subst (IsLogHere s) same (log-here s n b bytes read))
other-log s id bytes a valid spelled elsewhere (found_piece copy n b) is read = absurd cc

-- A piece under a name

fits-kind : (k : Kind) (a : Piece) (p : PieceEntry) → FitsKind k a → IsBackup k p.copy → p.from ≡ a.from → p.checkpoint ≡ a.checkpoint → IsOfKind k p
fits-kind Full a p fits backup from checkpoint = from ∙ fits.0
fits-kind Level0 a p fits backup from checkpoint = from ∙ fits.0
fits-kind Level1 a p fits backup from checkpoint = (backup, omega (arith, from, fits.0), omega (arith, from, checkpoint, fits.1))
fits-kind Place a p fits backup from checkpoint = backup

fits-rows : (k : Kind) (a : Piece) (blocks : ℕ) → FitsKind k a → a.blocks ≡ blocks → length a.rows ≤ a.blocks → FitsRows k (length a.rows) blocks
fits-rows Full a blocks fits same most = fits.1 ∙ same
fits-rows Level0 a blocks fits same most = fits.1 ∙ same
fits-rows Level1 a blocks fits same most = omega (arith, same, most)
fits-rows Place a blocks fits same most = fits.1 ∙ same

is-backup : (k : Kind) (p : PieceEntry) → IsOfKind k p → IsBackup k p.copy
is-backup Full p is = tt
is-backup Level0 p is = tt
is-backup Level1 p is = is.0
is-backup Place p is = is

module _ (s : State) (copy : Bool) (id : ℕ) (a : Piece) where
  abbrev piece_end : ℕ
  piece_end = max (end_of (tree s) a.inc) a.high

  abbrev its_entry : PieceEntry
  its_entry = piece_entry copy false (codes "CATALOGUED") (ledger s).base.moment id a

  piece-obeys : IsPiece a → IsPieceHere s copy a → Obeys s (found_piece copy id a)
  piece-obeys valid here =
      let there = here.of.there in (
        record {
          there = IsThere-with_end (tree s) a.inc piece_end a.inc there;
          file = record {
            number = omega (arith, valid.file.0);
            datafile = here.datafile;
            is = here.is;
            path = owner-with_end (tree s) a.inc piece_end a.inc here.datafile.creation there ∙ here.of.path;
            rows = fits-rows a.kind a here.datafile.blocks valid.kind here.of.blocks (count_fits a.rows a.blocks a.from valid.ascend valid.rows);
          };
          checkpoint = (valid.checkpoint.0, omega (arith, valid.high, high-least a.checkpoint a.rows));
          high = omega (arith, end_of-with_end (tree s) a.inc piece_end there);
          kind = fits-kind a.kind a its_entry valid.kind here.kind refl refl;
          tag = record { some = lit≤ tt; few = lit≤ tt; bytes = refl };
          size = omega (arith, length-piece a (piece-fits a valid), length-sealed (piece_body a), few_rows a valid);
        },
        λ d is. here.of.blocks ∙ ap (λ (f : Datafile). f.blocks) (same_Some here.datafile d (sym here.is ∙ is)),
      )

  pub piece-read : (bytes sha : List ℕ) → IsPiece a → bytes ≡ piece_spelling a → sha ≡ sha256 bytes → IsPieceHere s copy a
      → IsEntryOf s (named.Piece copy id) bytes (entry.Piece (record its_entry { size = length bytes; sha = sha }))
  piece-read bytes sha valid spelled digest here = record {
    found = found_piece copy id a;
    named = refl;
    read = record { spelled = spelled; valid = valid; dbid = here.dbid; obeys = piece-obeys valid here };
    is = λ i. entry.Piece (record its_entry { size = length (spelled i); sha = (digest ∙ ap sha256 spelled) i });
  }

  piece-here : (bytes : List ℕ) → IsReadAs s bytes (found_piece copy id a) → IsPieceHere s copy a
  piece-here bytes read =
      let is = read.obeys.0 in
      let there = was-there (tree s) a.inc piece_end is.there in
      record {
        dbid = read.dbid;
        datafile = is.file.datafile;
        is = is.file.is;
        of = record {
          there = there;
          path = sym (owner-with_end (tree s) a.inc piece_end a.inc is.file.datafile.creation there) ∙ is.file.path;
          blocks = read.obeys.1 is.file.datafile is.file.is;
        };
        kind = is-backup a.kind its_entry is.kind;
      }

-- bytes that spell no piece are none
pub no-piece : (s : State) (copy : Bool) (id : ℕ) (bytes : List ℕ) → ((a : Piece) → IsPiece a → bytes ≢ piece_spelling a) → (x : Found)
    → named_of x ≡ named.Piece copy id → ¬ IsReadAs s bytes x
no-piece s copy id bytes none (found_log n a) is read = absurd cc
no-piece s copy id bytes none (found_piece c n a) is read = none a read.valid read.spelled

-- nor are those of a piece that is not here
pub other-piece : (s : State) (copy : Bool) (id : ℕ) (bytes : List ℕ) (a : Piece) → IsPiece a → bytes ≡ piece_spelling a → ¬ IsPieceHere s copy a
    → (x : Found) → named_of x ≡ named.Piece copy id → ¬ IsReadAs s bytes x
other-piece s copy id bytes a valid spelled elsewhere (found_log n b) is read = absurd cc
other-piece s copy id bytes a valid spelled elsewhere (found_piece c n b) is read =
    let same : b ≡ a = same-piece b a read.valid valid (sym read.spelled ∙ spelled) in
    let kind : c ≡ copy = cc in
    elsewhere (coe 0 1 (i. IsPieceHere s (kind i) (same i)) (piece-here s c n b bytes read))

-- What is found under a name

small : (n : ℕ) → n < 4294967295 → n < 2 ^ 64
small n below = omega (arith, below)

-- it is of what the name is of
found-named : (s : State) (h : Held) (name : List ℕ) (n : Named) (x : Found) → IsOf name n → IsFound s h name x → named_of x ≡ n
found-named s h name (named.Log id) (found_log m a) of found =
    ap named.Log (log-name-tells m id (small m found.number.1) (small id of.number.1) (sym found.is ∙ of.is))
found-named s h name (named.Log id) (found_piece c m a) of found = absurd (log-no-piece id c m (sym of.is ∙ found.is))
found-named s h name (named.Piece copy id) (found_log m a) of found = absurd (log-no-piece m copy id (sym found.is ∙ of.is))
found-named s h name (named.Piece copy id) (found_piece c m a) of found =
    let same = piece-name-tells c copy m id (small m found.number.1) (small id of.number.1) (sym found.is ∙ of.is) in
    λ i. named.Piece (same.0 i) (same.1 i)

-- nothing stands there
pub none-there : (held : Option Held) (s : State) (name : List ℕ) → IfSome held (λ h. h name ≡ None) → Finds held s name None
none-there held s name none objects tells x found =
    absurd (let clash : None ≡ Some (spelling_of (artefact_of x)) = sym (told-of held name None none objects tells) ∙ found.stands in cc)

-- these bytes do
pub read-there : (held : Option Held) (s : State) (name : List ℕ) (n : Named) (bytes : List ℕ) (o : Option Entry) → IsOf name n
    → IfSome held (λ h. h name ≡ Some bytes) → ReadsAs s n bytes o → Finds held s name o
read-there held s name n bytes None of told none = λ objects tells x found.
    let there = same_Some bytes (spelling_of (artefact_of x)) (sym (told-of held name (Some bytes) told objects tells) ∙ found.stands) in
    none x (found-named s objects name n x of found) (record { spelled = there; valid = found.valid; dbid = found.dbid; obeys = found.obeys })
read-there held s name n bytes (Some e) of told is =
    let x = is.found in
    let found : (h : Held) → h name ≡ Some bytes → IsFound s h name x = λ h at. record {
      is = of.is ∙ ap name_by (sym is.named) ∙ named-name x;
      number = subst (λ (n : ℕ). (1 ≤ n) × (n < 4294967295)) (ap id_in (sym is.named) ∙ named-id x) of.number;
      stands = at ∙ ap Some is.read.spelled;
      valid = is.read.valid;
      dbid = is.read.dbid;
      obeys = is.read.obeys;
    } in
    record {
      found = x;
      is = is.is;
      seen = λ _. Some bytes;
      there = found (λ _. Some bytes) refl;
      stands = λ objects tells. found objects (told-of held name (Some bytes) told objects tells);
    }
