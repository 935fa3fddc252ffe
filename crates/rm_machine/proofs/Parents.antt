-- Where a level 1 begins: at the checkpoint of a record that holds on the current path, and so up to now.
use Rattle.std.specs.List.{flat_map}
use Rattle.std.proofs.Common.{◌≡◌, ◌≤◌, ◌∙◌, inl, inr, ℕ, List, [], ◌∷◌, Option, Some, None, Bool, true, false, ap, sym, subst, arith, MatchBool, option_map, Contains}
use Rattle.std.proofs.lemmas.{Bool.{cases_lt}, List.Elements.{All-contains, Contains-append_cases}}
use Rattle.rm_base.proofs.{Lists.{map_from}, Members.{behind, first-or-rest, in-front, none-in}}
use Rattle.rm_backup.specs.{Parents.{HasCopy, IsLast, among}, Records.{IsOnPath}}
use Rattle.rm_catalog.specs.{Keys.{backups_in, part_piece, piece_in}, declared.record.{PieceEntry.{PieceEntry}, Record.{Record}}}
use Rattle.rm_catalog.{specs.declared.record.{SetEntry.{SetEntry}, SetPart.{SetPart}}, proofs.Incarnations.{is-tree}}
use Rattle.rm_catalog.specs.declared.record.Record.TheVariants as kind
use Rattle.rm_lang_statement.specs.declared.command.BackupForm.{BackupForm}
use Rattle.rm_history.{specs.{Tree.{IsTree, end_of, is_within}, declared.tree.Incarnation.{Incarnation}}, proofs.Segments.{within-end}}
use Rattle.rm_catalog_typed.specs.{LedgerFacts.{IsPieceEntry, IsSetEntry, IsSetPart}, TypedCatalog.{records_of}}
use Rattle.rm_catalog_typed.proofs.{ByKind.{is-piece, made}, Members.{piece-in, set-in}, Valid.{typed_catalog-valid}}
use Rattle.rm_catalog_typed.proofs.Records.{database-told, tree-told}
use Rattle.rm_machine.specs.{Backup.{BeginsAt, HasParent, is_level1}, Sound.{IsSound}, State.{ledger, tree, current_of, now_of}}
use Rattle.rm_machine.specs.declared.state.State.{State}

-- a level 1 begins at an SCN up to now
abbrev pub BeginsWithin : State → Option ℕ → Type 0
BeginsWithin s None = Unit {0}
BeginsWithin s (Some from) = (1 ≤ from) × (from ≤ now_of s)

decided : (a n : ℕ) → ¬ ¬ ((1 ≤ a) × (a ≤ n)) → (1 ≤ a) × (a ≤ n)
decided a n twice = elim (cases_lt 0 a) [
  | inl some ↦ elim (cases_lt n a) [
    | inl over ↦ absurd (twice (λ both. let most = both.1 in omega (arith, over, most)))
    | inr most ↦ (omega (arith, some), most)
  ]
  | inr zero ↦ absurd (twice (λ both. let least = both.0 in omega (arith, zero, least)))
]

-- what is in one of the lists is in the list of one of these
listed-by : {X Y : Type 0} (f : X → List Y) (xs : List X) (y : Y) → Contains (flat_map f xs) y → (x : X) × Contains xs x × Contains (f x) y
listed-by f [] y has = absurd (none-in y has)
listed-by f (x ∷ xs) y has = elim (Contains-append_cases (f x) (flat_map f xs) y has) [
  | inl here ↦ (x, in-front x xs, here)
  | inr rest ↦ let it = listed-by f xs y rest in (it.0, behind x xs it.0 it.1, it.2)
]

-- a backup of a datafile as it is recorded: from its checkpoint on, up to the end of its incarnation
record IsKnown (s : State) (p : PieceEntry) : Type 0 where
  some : 1 ≤ p.checkpoint
  high : p.checkpoint ≤ p.high
  end : p.high ≤ end_of (tree s) p.inc

module _ (s : State) (sound : IsSound s) where
  piece-known : (p : PieceEntry) → Contains (ledger s).pieces p → IsKnown s p
  piece-known p has =
      let fits = All-contains (IsPieceEntry (tree s) (ledger s).files) (ledger s).pieces p sound.catalog.ledger.pieces has in
      record { some = fits.checkpoint.0; high = fits.checkpoint.1; end = fits.high }

  part-known : (e : SetEntry) (q : SetPart) → Contains (ledger s).sets e → Contains e.parts q → IsKnown s (part_piece e q)
  part-known e q has in_set =
      let fits = All-contains (IsSetEntry (tree s) (ledger s).files) (ledger s).sets e sound.catalog.ledger.sets has in
      let part = All-contains (IsSetPart (tree s) (ledger s).files e) e.parts q fits.parts in_set in
      record { some = fits.checkpoint; high = part.high.0; end = part.high.1 }

  known-by : (r : Record) (p : PieceEntry) → Contains (records_of s.catalog) r → Contains (backups_in r) p → IsKnown s p
  known-by (kind.Piece e) p has is = elim (first-or-rest e [] p is) [
    | inl same ↦ subst (IsKnown s) same (piece-known e (piece-in s.catalog e sound.catalog has))
    | inr rest ↦ absurd (none-in p rest)
  ]
  known-by (kind.Set e) p has is =
      let q = map_from (part_piece e) e.parts p is in
      subst (IsKnown s) q.is (part-known e q.item (set-in s.catalog e sound.catalog has) q.held)
  known-by r p has is = absurd (none-in p is)

  known-among : (tag : Option (List ℕ)) (p : PieceEntry) → Contains (among tag (records_of s.catalog)) p → IsKnown s p
  known-among None p has = let from = listed-by backups_in (records_of s.catalog) p has in known-by from.0 p from.1 from.2
  known-among (Some tag) p has = piece-known p (piece-in s.catalog p sound.catalog (made kind.Piece piece_in 5 is-piece (records_of s.catalog) p has))

  -- a record that holds on the current path was made up to now
  pub up-to_now : (f : ℕ) (tag : Option (List ℕ)) (p : PieceEntry) → Contains (among tag (records_of s.catalog)) p → IsOnPath (records_of s.catalog) f p → (1 ≤ p.checkpoint) × (p.checkpoint ≤ now_of s)
  up-to_now f tag p has on =
      let rs = records_of s.catalog in
      let there = sound.catalog.ledger.current in
      let known = known-among tag p has in
      let is = subst IsTree (tree-told s.catalog) (is-tree rs (typed_catalog-valid s.catalog sound.catalog) (database-told s.catalog)) in
      let range = (sound.catalog.ledger.incarnations.ranges (current_of s) there).1 in
      let most = within-end (tree s) is (current_of s) p.inc p.high there range known.end (subst (λ (ns : List Incarnation). is_within ns p.inc (current_of s) p.high ≡ true) (tree-told s.catalog) on.within) in
      (known.some, omega (arith, known.high, most))

  -- a parent is one: whether a copy with the tag is there need not be decided
  parent-within : (f : ℕ) (cumulative : Bool) (tag : Option (List ℕ)) (o : Option PieceEntry) → (HasCopy (records_of s.catalog) f tag → IsLast (records_of s.catalog) f cumulative tag o) → (¬ HasCopy (records_of s.catalog) f tag → o ≡ None)
      → BeginsWithin s (option_map (λ (p : ℕ × ℕ). p.1) (option_map (λ (p : PieceEntry). (p.id, p.checkpoint)) o))
  parent-within f cumulative tag None last none = tt
  parent-within f cumulative tag (Some p) last none = decided p.checkpoint (now_of s) (λ not.
      let clash : Some p ≡ None = none (λ copy. let is = last copy in not (up-to_now f tag p is.held is.passes.on)) in
      cc)

  begins-by : (b : BackupForm) (f : ℕ) (from : Option ℕ) (t : Bool) → MatchBool t (HasParent s b f from) (from ≡ None) → BeginsWithin s from
  begins-by b f from true has = subst (λ (o : Option ℕ). BeginsWithin s o) (sym (has.begins ∙ ap (λ (o : Option (ℕ × ℕ)). option_map (λ (p : ℕ × ℕ). p.1) o) has.is.is)) (parent-within f b.cumulative b.merge_tag has.is.entry has.is.last has.is.none)
  begins-by b f from false none = subst (λ (o : Option ℕ). BeginsWithin s o) (sym none) tt

  -- the backup of a datafile begins up to now
  pub begins-within : (b : BackupForm) (f : ℕ) (from : Option ℕ) → BeginsAt s b f from → BeginsWithin s from
  begins-within b f from begins = begins-by b f from (is_level1 b) begins
