-- A duplicate that was made is a database at rest.
use Rattle.std.specs.List.{enumerate_from}
use Rattle.std.proofs.Common.{◌≡◌, ◌<◌, ◌+◌, ◌^◌, ◌∙◌, inr, ℕ, List, [], Some, length, map, slice_get, Contains, All, refl, ap, subst, sym, arith}
use Rattle.std.proofs.lemmas.{List.{length-map, Elements.{All-contains}}, Option.{slice_get_within}}
use Rattle.rm_base.specs.{Store.{Held}, declared.block.Change.{Change}}
use Rattle.rm_base.proofs.{Lists.{map_from, map_to}, Members.{none-in}, Numbered.{numbered-at}}
use Rattle.rm_blocks.specs.File.{File}
use Rattle.rm_catalog.specs.declared.record.{PieceEntry.{PieceEntry}, Record.{Record}}
use Rattle.rm_catalog_typed.{specs.{Facts.{IsTypedCatalog}, TypedCatalog.{TypedCatalog, records_of}}, proofs.Records.{world-told}}
use Rattle.rm_commit.specs.Carrying.{Carried}
use Rattle.rm_dup.specs.{Copies.{as_first, copies_of, copy_as, duplicated, made_of}, Entries.{HoldsCopies, catalog_of, entry_of, moment_in}, declared.database.Duplicate.{Duplicate}}
use Rattle.rm_dup.proofs.{Changes.{IsLived, lived}, Valid.{all-copies}, Whole.{catalog-is}}
use Rattle.rm_evidence.specs.{Database.{world_of}, Known.{known_of}}
use Rattle.rm_history.specs.{Agrees.{BaseAgrees}, Evidence.{Agrees}, History.{IsHistory}, declared.world.World.{World}}
use Rattle.rm_lang_words.specs.Duplicate.{DuplicateSaid}
use Rattle.rm_machine.specs.{Effect.{Made, a_piece}, Machine.{DigestsTell, HasPieceArtefact, IsTrueArtefact}, Recovery.{in_place}, Rest.{IsRestBorneOut, PartsTell, Rest}, State.{world}, declared.state.State.{State}}
use Rattle.rm_machine_laws.{specs.Holds.{HoldsRest}, proofs.Agreeing.{agreed}}
use Rattle.rm_piece.specs.{Artefacts.{base_of}, Valid.{IsPiece}, declared.piece.Piece.{Piece}}
use Rattle.rm_tool_opening.specs.Opening.{FromRest}
use Rattle.rm_tool_duplicate.specs.{Asked.{Sides, target_inc}, Duplicated.{IsMade, commit_of}, Ended.{IsCarriedOut}, Refused.{copy_name}, Resting.{IsTrueCopy}}
use Rattle.rm_tool_duplicate.proofs.Back.{catalog, database, inside, recorded-as, stands, there}

-- the object of a copy, as it was made
abbrev made_copy : Piece → Made
made_copy a = record { name = copy_name a.file; artefact = a_piece a }

module _ (w : World) (dbid moment s : ℕ) (files : List File) (typed : IsTypedCatalog (catalog_of w dbid moment s files)) (few : dbid < 2 ^ 32)
    (valid : All IsPiece (copies_of dbid s files)) (to : Held) (stand : HoldsCopies to (copies_of dbid s files)) (made : List File) (h : List Change)
    (lives : IsLived (duplicated w s files) s (copies_of dbid s files) made h) where
  abbrev copies : List Piece
  copies = copies_of dbid s files

  abbrev new : TypedCatalog
  new = catalog_of w dbid moment s files

  abbrev all_made : List Made
  all_made = map made_copy copies

  true-copy : (k : ℕ) (x : File) → slice_get files k ≡ Some x → IsTrueArtefact (duplicated w s files) h (a_piece (copy_as dbid s (1 + k, x)))
  true-copy k x is =
      let has : Contains copies (copy_as dbid s (1 + k, x)) = map_to (copy_as dbid s) (enumerate_from 1 files) (1 + k, x) (numbered-at 1 files k x is) in
      let within = slice_get_within files k x is in
      let long = length-map files (λ (y : File). as_first w y.file) in
      record {
        agrees = All-contains (λ a. BaseAgrees (duplicated w s files) h (base_of a)) copies (copy_as dbid s (1 + k, x)) lives.agrees has;
        valid = All-contains IsPiece copies (copy_as dbid s (1 + k, x)) valid has;
        within = ((omega arith, omega arith), omega arith, omega arith);
        of = omega (arith, within, long);
      }

  all-true : All (λ a. IsTrueArtefact (duplicated w s files) h (a_piece a)) copies
  all-true = all-copies (λ a. IsTrueArtefact (duplicated w s files) h (a_piece a)) dbid s files true-copy

  -- the record of a copy is of the copy, which stands under its name
  has-artefact : (a : Piece) → Contains copies a → HasPieceArtefact to all_made [] (entry_of moment a)
  has-artefact a has = record {
    artefact = a;
    is = map_to made_copy copies a has;
    fields = record { kind = refl; inc = refl; file = refl; from = refl; checkpoint = refl; high = refl; rows = refl };
    digest = record { size = refl; sha = refl };
    there = inr (stand a has);
  }

  pub borne-out : IsRestBorneOut new h to all_made []
  borne-out = record {
    catalog = typed;
    dbid = few;
    history = lives.history;
    below = lives.below;
    artefacts = λ y has.
        let of = map_from made_copy copies y has in
        subst (λ (z : Made). IsTrueArtefact (duplicated w s files) h z.artefact) of.is
        (All-contains (λ a. IsTrueArtefact (duplicated w s files) h (a_piece a)) copies of.item all-true of.held);
    records = record {
      logs = λ e has. absurd (none-in e has);
      pieces = λ e has.
          let of = map_from (entry_of moment) copies e has in
          subst (λ (p : PieceEntry). HasPieceArtefact to all_made [] p) of.is (has-artefact of.item of.held);
      sets = λ e has. absurd (none-in e has);
    };
    parts = tt;
  }

module _ (x : DuplicateSaid) (a b : Sides) (s : State) (d : Duplicate) (made : IsMade x a s d) (carried : Carried (commit_of d) a.to a.target b.to b.target)
    (to : Held) (is_to : b.to ≡ Some to) (rs : List Record) (is_target : b.target ≡ Some rs) (g : List Change) (history : IsHistory (world s) g)
    (agrees : Agrees (world s) g (known_of made.is.tells.evidence)) where
  abbrev source : List Record
  source = records_of s.catalog

  abbrev i : ℕ
  i = target_inc x s

  abbrev files : List File
  files = made.is.recovered.files

  abbrev made_catalog : TypedCatalog
  made_catalog = catalog_of (world_of source) x.dbid (moment_in source) x.until files

  life : (h : List Change) × IsLived (duplicated (world_of source) x.until files) x.until d.pieces (made_of (world_of source) g i x.until d.from) h
  life =
      let told = sym (world-told s.catalog) in
      lived source (catalog x a s d made) (database x a s d made) a.from (in_place s) i x.until x.dbid (there x a s d made) (inside x a s d made)
      made.dbid d made.is g
      (subst (λ (w : World). IsHistory w g) told history) (subst (λ (w : World). Agrees w g (known_of made.is.tells.evidence)) told agrees)

  abbrev rest : Rest
  rest = record { catalog = Some made_catalog; history = life.0; objects = to; made = map made_copy (copies_of x.dbid x.until files); touched = [] }

  rests : (r : Rest) × HoldsRest (Some to) (Some rs) r × PartsTell r × IsTrueCopy (world s) g i x.until d r
  rests =
      let typed = catalog-is source (catalog x a s d made) (database x a s d made) a.from (in_place s) i x.until x.dbid (there x a s d made)
      (inside x a s d made) made.dbid made.is.recovered made.is.tells in
      let valid = subst (All IsPiece) made.is.pieces made.pieces in
      let stand = subst (λ (ps : List Piece). HoldsCopies to ps) made.is.pieces (stands x a s d made b carried to is_to) in
      let back = made_of (world_of source) g i x.until d.from in
      let lives = subst (λ (ps : List Piece). IsLived (duplicated (world_of source) x.until files) x.until ps back life.0) made.is.pieces life.1 in (
        rest,
        record {
          store = refl;
          keeper = ap Some (recorded-as x a s d made b carried rs is_target ∙ made.is.records);
          sound = borne-out (world_of source) x.dbid (moment_in source) x.until files typed made.dbid.1 valid to stand back life.0 lives;
        },
        tt,
        record {
          catalog = made_catalog;
          is = refl;
          untouched = refl;
          many =
              length-map files (λ (y : File). as_first (world_of source) y.file)
              ∙ sym (ap (λ (ns : List ℕ). length ns) made.is.from ∙ length-map files (λ (y : File). y.file));
          blocks = life.1.is ∙ ap (λ (w : World). made_of w g i x.until d.from) (world-told s.catalog);
        },
      )

-- from whatever database at rest the source's store and records hold, where digests tell of it
pub carried-rests : (x : DuplicateSaid) (a b : Sides) (d : Duplicate) (to : Held) (rs : List Record) (is : IsCarriedOut x a b d) → b.to ≡ Some to → b.target ≡ Some rs
    → FromRest a.from a.source (λ m. DigestsTell m
    → (r : Rest) × HoldsRest (Some to) (Some rs) r × PartsTell r × IsTrueCopy (world is.makes.state) m.history (target_inc x is.makes.state) x.until d r)
carried-rests x a b d to rs is is_to is_target r holds tell =
    let s = is.makes.state in
    let made = is.makes.is in
    let o = is.makes.source.opens r holds tell in
    let m = o.0 in
    let state : m.state ≡ Some s = o.2 ∙ is.makes.shown in (
      m,
      o.1,
      λ digests.
          let both = agreed a.from s m made.is.tells.evidence o.3.store state o.3.sound made.is.tells.is.at_hand digests in
          rests x a b s d made is.carried to is_to rs is_target m.history both.0 both.1,
    )
