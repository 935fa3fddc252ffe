-- The records of a catalog tell its database.
use Rattle.std.specs.{List.{filter_map, cons_option}, Option.{option_map}}
use Rattle.std.proofs.{Common.{◌≡◌, ◌∙◌, ◌+◌, ◌++◌, ℕ, List, [], ◌∷◌, Option, Some, None, refl, ap, map}, lemmas.List.{append-nil}}
use Rattle.std.proofs.lemmas.List.Elements.{filter_map-append}
use Rattle.rm_catalog.specs.{Keys.{datafile_in, piece_in}, Rules.{HasDatabase}, Switches.{switches, told_by}, Trees.{node_in, nodes}}
use Rattle.rm_catalog.specs.declared.record.{HeadEntry.{HeadEntry}, PartEntry.{PartEntry}, Record.{Record}, SetEntry.{SetEntry}}
use Rattle.rm_catalog.specs.declared.record.Record.TheVariants as kind
use Rattle.rm_history.specs.declared.{tree.Incarnation.{Incarnation}, world.{Datafile.{Datafile}, Switch.{Switch}, World.{World}}}
use Rattle.rm_catalog_typed.specs.Ledger.{datafile_record, incarnation_record, mark_record, numbered, switch_record}
use Rattle.rm_catalog_typed.specs.{Switches.{switch_of, switches_of}, TypedCatalog.{TypedCatalog, Saved, records_of, saved_records}}
use Rattle.rm_catalog_typed.specs.{Worlds.{database_of, world_of}, declared.thread_switch.ThreadSwitch.{ThreadSwitch}}
use Rattle.rm_evidence.specs.Database.{created_by, database_in, datafiles, world_of as told_world}
use Rattle.rm_base.specs.declared.block.Mark.{Mark}

module _ {B : Type 0} (tell : Record → Option B) where
  -- each of these records tells its thing
  told-numbered : (make : ℕ → B → Record) → ((k : ℕ) (x : B) → tell (make k x) ≡ Some x) → (k : ℕ) (xs : List B) → filter_map tell (numbered make k xs) ≡ xs
  told-numbered make tells k [] = refl
  told-numbered make tells k (x ∷ xs) =
      ap (λ o. cons_option o (filter_map tell (numbered make (k + 1) xs))) (tells k x) ∙ ap (λ ys. x ∷ ys) (told-numbered make tells (k + 1) xs)

  -- none of these tells anything
  none-numbered : {A : Type 0} (make : ℕ → A → Record) → ((k : ℕ) (x : A) → tell (make k x) ≡ None) → (k : ℕ) (xs : List A) → filter_map tell (numbered make k xs) ≡ []
  none-numbered make none k [] = refl
  none-numbered make none k (x ∷ xs) =
      ap (λ o. cons_option o (filter_map tell (numbered make (k + 1) xs))) (none k x) ∙ none-numbered make none (k + 1) xs

  none-mapped : {A : Type 0} (make : A → Record) → ((x : A) → tell (make x) ≡ None) → (xs : List A) → filter_map tell (map make xs) ≡ []
  none-mapped make none [] = refl
  none-mapped make none (x ∷ xs) = ap (λ o. cons_option o (filter_map tell (map make xs))) (none x) ∙ none-mapped make none xs

  -- each of these tells its thing
  told-mapped : (make : B → Record) → ((x : B) → tell (make x) ≡ Some x) → (xs : List B) → filter_map tell (map make xs) ≡ xs
  told-mapped make tells [] = refl
  told-mapped make tells (x ∷ xs) = ap (λ o. cons_option o (filter_map tell (map make xs))) (tells x) ∙ ap (λ ys. x ∷ ys) (told-mapped make tells xs)

  -- a saved site tells none
  none-saved : ((p : PartEntry) → tell (kind.Part p) ≡ None) → ((h : HeadEntry) → tell (kind.Head h) ≡ None) → (saved : Option Saved) → filter_map tell (saved_records saved) ≡ []
  none-saved parts heads None = refl
  none-saved parts heads (Some s) =
      filter_map-append tell (map kind.Part s.parts) (kind.Head s.head ∷ [])
      ∙ ap (λ (xs : List B). xs ++ filter_map tell (kind.Head s.head ∷ [])) (none-mapped kind.Part parts s.parts)
      ∙ ap (λ (o : Option B). cons_option o []) (heads s.head)

  -- a list of eight parts
  of-parts : (a b c d e f g h : List Record)
      → filter_map tell (a ++ b ++ c ++ d ++ e ++ f ++ (g ++ h)) ≡ filter_map tell a ++ filter_map tell b ++ filter_map tell c ++ filter_map tell d ++ filter_map tell e ++ filter_map tell f ++ (filter_map tell g ++ filter_map tell h)
  of-parts a b c d e f g h = simp (filter_map-append {X = Record} {Y = B})

  -- what the records of a catalog tell, where marks, saved sites and sets tell nothing
  all-told : (r : TypedCatalog) (tree files logs pieces switches : List B) → filter_map tell (numbered incarnation_record 1 r.ledger.tree) ≡ tree → filter_map tell (numbered datafile_record 1 r.ledger.files) ≡ files
      → filter_map tell (map kind.Log r.ledger.logs) ≡ logs → filter_map tell (map kind.Piece r.ledger.pieces) ≡ pieces → filter_map tell (numbered switch_record 1 r.ledger.switches) ≡ switches → tell (kind.Base r.ledger.base) ≡ None
      → ((k : ℕ) (m : Mark) → tell (mark_record k m) ≡ None) → ((p : PartEntry) → tell (kind.Part p) ≡ None) → ((h : HeadEntry) → tell (kind.Head h) ≡ None) → ((e : SetEntry) → tell (kind.Set e) ≡ None)
      → filter_map tell (records_of r) ≡ tree ++ files ++ logs ++ pieces ++ switches
  all-told r tree files logs pieces switches is_tree is_files are_logs are_pieces are_switches base marks parts heads sets =
      let l = r.ledger in
      let first : filter_map tell (kind.Base l.base ∷ numbered incarnation_record 1 l.tree) ≡ tree = ap (λ o. cons_option o (filter_map tell (numbered incarnation_record 1 l.tree))) base ∙ is_tree in
      of-parts (kind.Base l.base ∷ numbered incarnation_record 1 l.tree) (numbered datafile_record 1 l.files) (map kind.Log l.logs) (map kind.Piece l.pieces) (numbered mark_record 1 l.marks) (saved_records r.saved) (map kind.Set l.sets) (numbered switch_record 1 l.switches)
      ∙ simp (first, is_files, are_logs, are_pieces, are_switches, none-numbered mark_record marks 1 l.marks, none-saved parts heads r.saved, none-mapped kind.Set sets l.sets, append-nil)

-- the incarnations
pub tree-told : (r : TypedCatalog) → nodes (records_of r) ≡ r.ledger.tree
tree-told r =
    all-told node_in r r.ledger.tree [] [] [] [] (told-numbered node_in incarnation_record (λ k n. refl) 1 r.ledger.tree) (none-numbered node_in datafile_record (λ k d. refl) 1 r.ledger.files)
    (none-mapped node_in kind.Log (λ e. refl) r.ledger.logs) (none-mapped node_in kind.Piece (λ p. refl) r.ledger.pieces) (none-numbered node_in switch_record (λ k x. refl) 1 r.ledger.switches) refl (λ k m. refl) (λ p. refl) (λ h. refl) (λ e. refl)
    ∙ simp append-nil

-- the datafiles
pub files-told : (r : TypedCatalog) → datafiles (records_of r) ≡ r.ledger.files
files-told r =
    let tell : Record → Option Datafile = λ r. option_map created_by (datafile_in r) in
    all-told tell r [] r.ledger.files [] [] [] (none-numbered tell incarnation_record (λ k n. refl) 1 r.ledger.tree) (told-numbered tell datafile_record (λ k d. refl) 1 r.ledger.files)
    (none-mapped tell kind.Log (λ e. refl) r.ledger.logs) (none-mapped tell kind.Piece (λ p. refl) r.ledger.pieces) (none-numbered tell switch_record (λ k x. refl) 1 r.ledger.switches) refl (λ k m. refl) (λ p. refl) (λ h. refl) (λ e. refl)
    ∙ simp append-nil

-- the pieces
pub pieces-told : (r : TypedCatalog) → filter_map piece_in (records_of r) ≡ r.ledger.pieces
pieces-told r =
    all-told piece_in r [] [] [] r.ledger.pieces [] (none-numbered piece_in incarnation_record (λ k n. refl) 1 r.ledger.tree) (none-numbered piece_in datafile_record (λ k d. refl) 1 r.ledger.files)
    (none-mapped piece_in kind.Log (λ e. refl) r.ledger.logs) (told-mapped piece_in kind.Piece (λ p. refl) r.ledger.pieces) (none-numbered piece_in switch_record (λ k x. refl) 1 r.ledger.switches) refl (λ k m. refl) (λ p. refl) (λ h. refl) (λ e. refl)
    ∙ append-nil r.ledger.pieces

-- the switches of threads
as-told : (k : ℕ) (xs : List ThreadSwitch) → filter_map told_by (numbered switch_record k xs) ≡ map switch_of xs
as-told k [] = refl
as-told k (x ∷ xs) = ap (λ ys. switch_of x ∷ ys) (as-told (k + 1) xs)

pub switches-told : (r : TypedCatalog) → switches (records_of r) ≡ switches_of r.ledger
switches-told r =
    all-told told_by r [] [] [] [] (switches_of r.ledger) (none-numbered told_by incarnation_record (λ k n. refl) 1 r.ledger.tree) (none-numbered told_by datafile_record (λ k d. refl) 1 r.ledger.files)
    (none-mapped told_by kind.Log (λ e. refl) r.ledger.logs) (none-mapped told_by kind.Piece (λ p. refl) r.ledger.pieces) (as-told 1 r.ledger.switches) refl (λ k m. refl) (λ p. refl) (λ h. refl) (λ e. refl)

-- and so the database; the number of threads that it began with stands in the base facts
pub world-told : (r : TypedCatalog) → told_world (records_of r) ≡ world_of r.ledger
world-told r =
    let make : List Incarnation → List Switch → List Datafile → World = λ ns xs ds. record { tree = ns; threads = r.ledger.base.threads; switches = xs; files = ds } in
    λ i. make (tree-told r i) (switches-told r i) (files-told r i)

-- what the objects of sets are compared with
pub base-told : (r : TypedCatalog) → database_in (records_of r) ≡ database_of r.ledger
base-told r = ap (λ (ds : List Datafile). record { dbid = r.ledger.base.dbid; files = ds }) (files-told r)

pub database-told : (r : TypedCatalog) → HasDatabase (records_of r)
database-told r = refl
