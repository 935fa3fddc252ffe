-- RECOVER COPY OF DATABASE WITH TAG tag [UNTIL ..]
use Rattle.std.specs.Prelude.{ℕ, ◌≡◌, ◌&&◌, ◌||◌, ◌+◌, ◌*◌, if◌then◌else◌, is_some, Bool, true, false, Option, Some, None, List, [], ◌∷◌, ◌++◌, Contains, filter, length, map, sum_by}
use Rattle.std.specs.{List.{list_any}, Option.{option_map_or}, Str.{bytes_eq}}
use Rattle.rm_base.specs.{Store.{Held}, declared.kinds.{Bad.{Bad}, Kind.{Kind, TheVariants.{Level1}}}}
use Rattle.rm_base.specs.declared.refusal.{Limit.TheVariants.{Bytes, ObjectIds}, Refusal.{Refusal, TheVariants.{Rm11, Rm12}}}
use Rattle.rm_base.specs.declared.refusal.Unknown.TheVariants.{Tag}
use Rattle.rm_apply.specs.Files.{AreExactly}
use Rattle.rm_backup.specs.{Renewed.{IsRenewed}, Taken.{IsTaken}, declared.renewing.Renewed.{Renewed}}
use Rattle.rm_catalog.specs.declared.record.{PieceEntry.{PieceEntry}, Record.{Record}}
use Rattle.rm_catalog.specs.declared.record.Record.TheVariants as records
use Rattle.rm_commit.specs.declared.commit.Object.{Object}
use Rattle.rm_evidence.specs.{Available.{IsSkipped}, Gathered.{Lists}, Names.{piece_name}, Objects.{piece_entry}}
use Rattle.rm_evidence.specs.declared.evidence.Evidence.{Evidence}
use Rattle.rm_piece.specs.{Spelling.{spelling}, declared.piece.Piece.{Piece}}
use Rattle.rm_report.specs.declared.line.Line.{Line, TheVariants.{Merged, StartsAbove, Stays}}
use Rattle.rm_catalog_typed.specs.{Changes.{with_new_piece, without_piece}, TypedCatalog.{records_of}}
use Rattle.rm_lang_statement.specs.declared.command.Until.{Until}
use Rattle.rm_machine.specs.{Effect.{Effect, Made, Outcome, a_piece, done, no_effect, refused}, Marks.{ids_refusal, lacks_bytes, lacks_ids}}
use Rattle.rm_machine.specs.{Recover.{recover_target}, Recovery.{IsAtHand, range_refusal, skipped_lines}}
use Rattle.rm_machine.specs.{State.{current_of, ledger, on_path, tree}, Until.{or_else, until_refusal}, Upkeep.{piece_at}}
use Rattle.rm_machine.specs.{Validate.{is_available}, declared.state.State.{State}}

-- the record is one of an image copy with the tag that counts as available
abbrev pub is_copy_with : List ℕ → PieceEntry → Bool
is_copy_with tag p = p.copy && bytes_eq p.tag tag && is_available p.status

-- why a tag is refused that no such record has: too few ids are left, or since it has none
abbrev pub tag_refusal : State → List ℕ → Option Refusal
tag_refusal s tag = if list_any (is_copy_with tag) (ledger s).pieces then None else or_else (ids_refusal s) (Some (Rm12 (Tag tag)))

-- Why a target is refused: it is out of range, or by the tag. Where neither is so, the copies that change say what limit is passed.
abbrev pub copy_refusal_at : State → List ℕ → ℕ → Option Refusal
copy_refusal_at s tag at = or_else (range_refusal (tree s) (current_of s) at) (tag_refusal s tag)

-- why it is refused without a target, before that is told: too few ids are left, or by the tag
abbrev pub targetless_refusal : State → List ℕ → Option Refusal
targetless_refusal s tag = or_else (ids_refusal s) (tag_refusal s tag)

-- why the state refuses it
abbrev pub recover_copy_refusal : State → List ℕ → Option Until → Option Refusal
recover_copy_refusal s tag until = until_refusal s (current_of s) until (copy_refusal_at s tag) (targetless_refusal s tag)

-- the record is one of an image copy or a level 1 with the tag
abbrev pub is_level1 : Kind → Bool
is_level1 Level1 = true
is_level1 _ = false

abbrev pub is_for_copies : List ℕ → PieceEntry → Bool
is_for_copies tag p = (p.copy || is_level1 p.kind) && bytes_eq p.tag tag

-- these records
abbrev pub for_copies : State → List ℕ → List Record
for_copies s tag = map records.Piece (filter (is_for_copies tag) (ledger s).pieces)

-- the datafile is on the current path, and a copy of it is taken
pub record HasTaken (s : State) (tag : List ℕ) (f : ℕ) : Type 0 where
  pub on : is_some (on_path s f) ≡ true
  pub copy : PieceEntry
  pub taken : IsTaken (records_of s.catalog) f tag (Some copy)

-- What became of the copies that are taken, each with the number of its datafile, ascending: by what is at hand the level 1s up
-- to `at` are merged into it.
pub record AreRenewed (s : State) (e : Evidence) (tag : List ℕ) (at : ℕ) (xs : List (ℕ × Renewed)) : Type 0 where
  pub exact : AreExactly (HasTaken s tag) (map (λ x. x.0) xs)
  pub each : (x : ℕ × Renewed) → Contains xs x → IsRenewed (records_of s.catalog) e x.0 tag at x.1

-- the size of a copy: 82 bytes, and 76 for each row; nothing where it stays
abbrev pub copy_bytes : ℕ × Renewed → ℕ
copy_bytes x = option_map_or (λ last. 82 + 76 * length last.rows) x.1.merged 0

-- the copies that changed
abbrev pub changed : List (ℕ × Renewed) → List (ℕ × Renewed)
changed xs = filter (λ x. is_some x.1.merged) xs

-- why the changed copies can't be put: no bytes are left for them, or no ids (a save may draw 68); each takes the place of a record
abbrev pub renewed_refusal : State → List (ℕ × Renewed) → Option Refusal
renewed_refusal s xs =
    if lacks_bytes s (sum_by copy_bytes xs) then Some (Rm11 Bytes)
    else if lacks_ids s (length (changed xs)) then Some (Rm11 ObjectIds)
    else None

-- whether the record of this id is kept
abbrev pub is_kept : State → ℕ → Bool
is_kept s id = option_map_or (λ p. p.keep) (piece_at s.catalog id) false

-- the record of a changed copy, under the next id: it keeps what the record whose place it takes was to keep
abbrev pub renewed_entry : State → List ℕ → ℕ → Piece → PieceEntry
renewed_entry s tag id last = piece_entry true (is_kept s id) tag (ledger s).base.moment (ledger s).base.next_id last

-- the database after a copy: a changed one has a record of its own, and the old record goes
abbrev pub after_copy : State → List ℕ → ℕ × Renewed → State
after_copy s tag x = option_map_or (λ last. record s { catalog = with_new_piece (without_piece s.catalog x.1.id) (renewed_entry s tag x.1.id last) }) x.1.merged s

-- what is made of a copy, its object, and the name that goes
abbrev pub renewed_made : State → ℕ × Renewed → List Made
renewed_made s x = option_map_or (λ last. record { name = piece_name true (ledger s).base.next_id; artefact = a_piece last } ∷ []) x.1.merged []

abbrev pub renewed_object : State → ℕ × Renewed → List Object
renewed_object s x = option_map_or (λ last. record { name = piece_name true (ledger s).base.next_id; bytes = spelling last } ∷ []) x.1.merged []

abbrev pub renewed_name : ℕ × Renewed → List (List ℕ)
renewed_name x = option_map_or (λ last. piece_name true x.1.id ∷ []) x.1.merged []

-- its lines: what became of it, and the level 1s that start above its checkpoint
abbrev pub renewed_line : State → ℕ × Renewed → Line
renewed_line s x = option_map_or (λ last. Merged (ledger s).base.next_id x.0 x.1.checkpoint) x.1.merged (Stays x.1.id x.0 x.1.checkpoint)

abbrev pub renewed_lines : State → ℕ × Renewed → List Line
renewed_lines s x = renewed_line s x ∷ map (λ y. StartsAbove y.0 y.1 x.1.checkpoint) x.1.above

-- all of these, one copy after another
abbrev pub after_copies : State → List ℕ → List (ℕ × Renewed) → State
after_copies s tag [] = s
after_copies s tag (x ∷ xs) = after_copies (after_copy s tag x) tag xs

abbrev pub copies_made : State → List ℕ → List (ℕ × Renewed) → List Made
copies_made s tag [] = []
copies_made s tag (x ∷ xs) = renewed_made s x ++ copies_made (after_copy s tag x) tag xs

abbrev pub copies_put : State → List ℕ → List (ℕ × Renewed) → List Object
copies_put s tag [] = []
copies_put s tag (x ∷ xs) = renewed_object s x ++ copies_put (after_copy s tag x) tag xs

abbrev pub copies_gone : List (ℕ × Renewed) → List (List ℕ)
copies_gone [] = []
copies_gone (x ∷ xs) = renewed_name x ++ copies_gone xs

abbrev pub copies_lines : State → List ℕ → List (ℕ × Renewed) → List Line
copies_lines s tag [] = []
copies_lines s tag (x ∷ xs) = renewed_lines s x ++ copies_lines (after_copy s tag x) tag xs

abbrev pub renewing : State → List ℕ → List (ℕ × Renewed) → Effect
renewing s tag xs = record no_effect { made = copies_made s tag xs; puts = copies_put s tag xs; removes = copies_gone xs }

-- they are renewed, after it is told which objects are skipped
abbrev pub renews : State → List ℕ → List (ℕ × Bad) → List (ℕ × Renewed) → Outcome
renews s tag skipped xs = done (skipped_lines skipped ++ copies_lines s tag xs) (renewing s tag xs) (after_copies s tag xs)

-- By what is at hand the copies with the tag take over level 1s up to the target, if there is room for them.
pub record RenewsAt (s : State) (held : Held) (tag : List ℕ) (at : ℕ) (o : Outcome) : Type 0 where
  pub evidence : Evidence
  pub at_hand : IsAtHand s held evidence
  pub skipped : List (ℕ × Bad)
  pub misses : Lists Bad [] (IsSkipped held (for_copies s tag)) skipped
  pub copies : List (ℕ × Renewed)
  pub are : AreRenewed s evidence tag at copies
  pub is : o ≡ option_map_or refused (renewed_refusal s copies) (renews s tag skipped copies)

abbrev pub RenewsTo : State → Held → List ℕ → Option ℕ → Outcome → Type 0
RenewsTo s held tag None o = ⊥
RenewsTo s held tag (Some at) o = RenewsAt s held tag at o

-- what RECOVER COPY comes to
abbrev pub IsRecoverCopyOutcome : State → Held → List ℕ → Option Until → Outcome → Type 0
IsRecoverCopyOutcome s held tag until o = RenewsTo s held tag (recover_target s until) o
