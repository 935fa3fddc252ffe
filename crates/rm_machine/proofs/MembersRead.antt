-- The member of a backup set that is made of what was read of a datafile: it is valid, its record fits, and it is true where the rows agree
-- with the history.
use Rattle.std.specs.Option.{option_map_or}
use Rattle.std.proofs.Common.{◌≡◌, ◌≢◌, ◌<◌, ◌≤◌, ◌+◌, ◌-◌, ◌∙◌, ◌==◌, ℕ, List, Option, Some, None, true, false, cond, refl, ap, sym, subst, arith, length, map, Contains, get_or, is_none, nat_le, nat_lt, slice_get, unwrap_or}
use Rattle.std.proofs.lemmas.{Bool.{and_parts, eqb-true, le-leb}, List.{get_or-map, length-map, Elements.{All-map, All-weaker}}}
use Rattle.rm_base.specs.{Created.{created_row}, declared.block.{Change.{Change}, Row.{Row}}}
use Rattle.rm_base.{specs.declared.kinds.Kind.TheVariants.{Full, Level0, Level1, Place}, proofs.Lists.{filter_all}}
use Rattle.rm_catalog.specs.{SetRules.{FitsPartKind}, declared.record.SetEntry.{SetEntry}}
use Rattle.rm_history.specs.{Agrees.{IsRow as IsState}, History.{IsHistory}, Tree.{owner}, World.{creation_of}}
use Rattle.rm_history.{specs.declared.world.Datafile.{Datafile}, proofs.Highs.{high-least}}
use Rattle.rm_catalog_typed.specs.LedgerFacts.{IsCreated, IsSetPart}
use Rattle.rm_piece.specs.{Filling.{risen}, Rows.{from_on}, Sets.{IsMember}, Valid.{IsPiece}, declared.set.{Set.{Set}, SetFile.{SetFile}}}
use Rattle.rm_piece.proofs.{Risen.{risen-member, states-same}, SetFitting.{few_spelled}}
use Rattle.rm_lang_statement.specs.declared.command.BackupForm.{BackupForm}
use Rattle.rm_machine.specs.{Backup.{kind_by, part_of, rows_from}, Effect.{a_piece}, Machine.{IsTrueArtefact}, MadePieces.{piece_by}}
use Rattle.rm_machine.specs.{MadeSets.{member_by}, Sound.{IsSound}, State.{ledger, tree, world, current_of, now_of}, declared.job.Job.{Job}}
use Rattle.rm_machine.{specs.declared.state.State.{State}, proofs.Numbers.{file-at}}
use Rattle.rm_machine.proofs.PiecesRead.{AreAll, AreRead, BeginsBelow, IsCheckpoint, IsFound, blocks-are, created, few-rows, high-most, piece-valid, whole-by}

-- the creation of a datafile
pub creation-by : (q : State) (f : ℕ) (d : Datafile) → 0 < f → slice_get (ledger q).files (f - 1) ≡ Some d → creation_of (world q) f ≡ d.creation
creation-by q f d some is =
    let number : 1 + (f - 1) ≡ f = omega (arith, some) in
    subst (λ n. creation_of (world q) n ≡ d.creation) number (ap (λ (o : Option Datafile). option_map_or (λ (x : Datafile). x.creation) o 0) (file-at (world q) (f - 1) d is))

-- a row counts as one of its block
risen-block : (creation : ℕ) (r : Row) → (risen creation r).block ≡ r.block
risen-block creation r = elim (nat_lt creation r.version) as (λ t. (cond t r (created_row creation r.block)).block ≡ r.block) [ true ↦ refl | false ↦ refl ]

not-place : (b : BackupForm) (from : Option ℕ) → kind_by b from ≢ Place
not-place b None = whole-by (λ k. k ≢ Place) (is_none b.level) (λ (e : Full ≡ Place). absurd (cc)) (λ (e : Level0 ≡ Place). absurd (cc))
not-place b (Some from) = λ (e : Level1 ≡ Place). absurd (cc)

-- a set with these members, by the records
abbrev pub set_with : State → ℕ → List SetFile → Set
set_with t checkpoint members = record { dbid = (ledger t).base.dbid; inc = current_of t; checkpoint = checkpoint; members = members }

-- a record of one
abbrev pub entry_with : State → ℕ → SetEntry → SetEntry
entry_with t checkpoint e = record e { inc = current_of t; checkpoint = checkpoint }

module _ (t : State) (b : BackupForm) (f checkpoint : ℕ) (rows : List Row) (sound : IsSound t) (are : AreRead t f rows) (at : IsCheckpoint t checkpoint) (above : are.datafile.creation < checkpoint) where
  abbrev job : Option ℕ → Job
  job from = record { file = f; from = from }

  abbrev creation : ℕ
  creation = creation_of (world t) f

  abbrev rising : Row → Row
  rising = risen creation

  abbrev pub member : Option ℕ → SetFile
  member from = member_by (ledger t) b checkpoint (job from) rows

  creation-is : creation ≡ are.datafile.creation
  creation-is = creation-by t f are.datafile are.some are.is

  made : IsCreated (tree t) are.datafile
  made = created t b f checkpoint rows sound are at

  some : 1 ≤ creation
  some = let range = sound.catalog.ledger.incarnations.ranges are.datafile.inc made.there in omega (arith, creation-is, range.0, made.creation.0)

  found-risen : (r : Row) → IsFound t r → IsFound t (rising r)
  found-risen r is = elim (nat_lt creation r.version) as (λ u. IsFound t (cond u r (created_row creation r.block))) [
    | true ↦ is
    | false ↦ record { row = record { version = some; content = refl }; below = omega (arith, creation-is, above, at.most) }
  ]

  block-at : (k : ℕ) (d : Row) → k < length rows → (get_or (map rising rows) k d).block ≡ (get_or rows k d).block
  block-at k d inside = ap (λ (r : Row). r.block) (get_or-map rising rows k d d inside) ∙ risen-block creation (get_or rows k d)

  -- what was read can also be read so
  abbrev risen-read : AreRead t f (map rising rows)
  risen-read = record {
    some = are.some;
    datafile = are.datafile;
    is = are.is;
    here = are.here;
    ascend = λ i k d less inside.
        let within : k < length rows = omega (arith, inside, length-map rows rising) in
        omega (arith, block-at i d (omega (arith, less, within)), block-at k d within, are.ascend i k d less within);
    inside = All-map (λ (r : Row). r.block < are.datafile.blocks) rising rows
        (All-weaker (λ (r : Row). r.block < are.datafile.blocks) (λ (r : Row). (rising r).block < are.datafile.blocks) (λ r is. omega (arith, is, risen-block creation r)) rows are.inside);
    each = All-map (IsFound t) rising rows (All-weaker (IsFound t) (λ (r : Row). IsFound t (rising r)) found-risen rows are.each);
  }

  all-risen : (from : Option ℕ) → AreAll are.datafile.creation from (length rows) are.datafile.blocks → AreAll are.datafile.creation from (length (map rising rows)) are.datafile.blocks
  all-risen from all low = length-map rows rising ∙ all low

  pub member-valid : (from : Option ℕ) → BeginsBelow checkpoint from → AreAll are.datafile.creation from (length rows) are.datafile.blocks → IsPiece (member from).piece
  member-valid from begins all = piece-valid t b f checkpoint (map rising rows) sound risen-read at from begins (all-risen from all)

  rows-are : (from : Option ℕ) → rows_from from (map rising rows) ≡ from_on (unwrap_or from 0) (map rising rows)
  rows-are None = sym (filter_all (λ (r : Row). nat_le 0 r.version) (map rising rows) (λ k d inside. le-leb 0 _ (omega arith)))
  rows-are (Some from) = refl

  pub member-is : (members : List SetFile) (from : Option ℕ) → BeginsBelow checkpoint from → AreAll are.datafile.creation from (length rows) are.datafile.blocks → IsMember (set_with t checkpoint members) (member from)
  member-is members from begins all =
      let blocks = blocks-are t b f checkpoint rows sound are at in
      risen-member (set_with t checkpoint members) (member from) rows (record { dbid = refl; inc = refl; checkpoint = refl }) (member-valid from begins all) (not-place b from) some (omega (arith, creation-is, above))
      (λ low. all (omega (arith, low, creation-is)) ∙ sym blocks) (rows-are from)

  kind-fits : (from : Option ℕ) → BeginsBelow checkpoint from → FitsPartKind (kind_by b from) checkpoint (part_of (member from))
  kind-fits None begins = whole-by (λ k. FitsPartKind k checkpoint (part_of (member None))) (is_none b.level) refl refl
  kind-fits (Some from) begins = begins

  pub part-is : (e : SetEntry) (from : Option ℕ) → BeginsBelow checkpoint from → IsSetPart (tree t) (ledger t).files (entry_with t checkpoint e) (part_of (member from))
  part-is e from begins =
      let parts = and_parts (nat_lt are.datafile.creation (now_of t)) (owner (tree t) (current_of t) are.datafile.creation == are.datafile.inc) are.here in
      let taken : List Row = rows_from from (map rising rows) in
      record {
        number = are.some;
        datafile = are.datafile;
        is = are.is;
        path = eqb-true (owner (tree t) (current_of t) are.datafile.creation) are.datafile.inc parts.1;
        creation = above;
        rows = omega (arith, few_spelled creation taken, few-rows t b f checkpoint (map rising rows) sound risen-read at from);
        kind = kind-fits from begins;
        high = (high-least checkpoint taken, high-most t b f checkpoint (map rising rows) sound risen-read at from);
      }

  -- where the rows are those of a history they count as they are, and what is true of the piece is so of the member
  pub member-true : (h : List Change) → IsHistory (world t) h → ((r : Row) → Contains rows r → IsState (world t) h (current_of t) f checkpoint r) → (from : Option ℕ)
      → IsTrueArtefact (world t) h (a_piece (piece_by (ledger t) b checkpoint (job from) rows)) → IsTrueArtefact (world t) h (a_piece (member from).piece)
  member-true h history states from is =
      subst (λ (rs : List Row). IsTrueArtefact (world t) h (a_piece (piece_by (ledger t) b checkpoint (job from) rs))) (sym (states-same (world t) h (current_of t) f checkpoint rows history states)) is
