-- Records tell of one database: each kind's records tell what the database has of that kind.
use Rattle.std.{specs.List.{filter_map}, proofs.Common.{◌≡◌, ◌∙◌, ℕ, ◌+◌, List, [], ◌∷◌, ◌++◌, Option, Some, None, refl, ap, sym, map}}
use Rattle.std.proofs.lemmas.List.{append-nil, append_assoc}
use Rattle.rm_base.specs.declared.block.Mark.{Mark}
use Rattle.rm_catalog.specs.{Keys.{head_in, part_in}, declared.record.{BaseEntry.{BaseEntry}, HeadEntry.{HeadEntry}, LogEntry.{LogEntry}}}
use Rattle.rm_catalog.specs.declared.record.{PartEntry.{PartEntry}, PieceEntry.{PieceEntry}, Record.{Record}, SetEntry.{SetEntry}}
use Rattle.rm_catalog.specs.declared.record.Record.TheVariants as kind
use Rattle.rm_history.specs.declared.{tree.Incarnation.{Incarnation}, world.Datafile.{Datafile}}
use Rattle.rm_catalog_typed.specs.Kinds.{ledger_in, saved_in}
use Rattle.rm_catalog_typed.specs.Ledger.{Ledger, datafile_record, incarnation_record, mark_record, numbered, switch_record}
use Rattle.rm_catalog_typed.specs.TypedCatalog.{TypedCatalog, Saved, all_records, records_of, saved_records}
use Rattle.rm_catalog_typed.specs.declared.thread_switch.ThreadSwitch.{ThreadSwitch}

-- what records tell, beside the first of them
record Told : Type 0 where
  pub ledger : Ledger
  pub parts : List PartEntry
  pub heads : List HeadEntry

abbrev tell : BaseEntry → List Record → Told
tell b rs = record { ledger = ledger_in b rs; parts = filter_map part_in rs; heads = filter_map head_in rs }

-- and with those of a kind in front of them

abbrev with_tree : List Incarnation → Told → Told
with_tree xs t = record t { ledger = record t.ledger { tree = xs ++ t.ledger.tree } }

abbrev with_files : List Datafile → Told → Told
with_files xs t = record t { ledger = record t.ledger { files = xs ++ t.ledger.files } }

abbrev with_logs : List LogEntry → Told → Told
with_logs xs t = record t { ledger = record t.ledger { logs = xs ++ t.ledger.logs } }

abbrev with_pieces : List PieceEntry → Told → Told
with_pieces xs t = record t { ledger = record t.ledger { pieces = xs ++ t.ledger.pieces } }

abbrev with_marks : List Mark → Told → Told
with_marks xs t = record t { ledger = record t.ledger { marks = xs ++ t.ledger.marks } }

abbrev with_parts : List PartEntry → Told → Told
with_parts xs t = record t { parts = xs ++ t.parts }

abbrev with_sets : List SetEntry → Told → Told
with_sets xs t = record t { ledger = record t.ledger { sets = xs ++ t.ledger.sets } }

abbrev with_switches : List ThreadSwitch → Told → Told
with_switches xs t = record t { ledger = record t.ledger { switches = xs ++ t.ledger.switches } }

abbrev with_head : HeadEntry → Told → Told
with_head x t = record t { heads = x ∷ t.heads }

abbrev with_saved : Option Saved → Told → Told
with_saved None t = t
with_saved (Some s) t = with_parts s.parts (with_head s.head t)

-- in front of all others, these records tell what this function puts in front
record Tells (b : BaseEntry) (rs : List Record) (f : Told → Told) : Type 0 where
  told : (rest : List Record) → tell b (rs ++ rest) ≡ f (tell b rest)

module _ {b : BaseEntry} where
  then : {rs ss : List Record} {f g : Told → Told} → Tells b rs f → Tells b ss g → Tells b (rs ++ ss) (λ t. f (g t))
  then {rs = rs} {ss = ss} {f = f} one two = record { told = λ rest. ap (tell b) (append_assoc rs ss rest) ∙ one.told (ss ++ rest) ∙ ap f (two.told rest) }

  tree-told : (k : ℕ) (xs : List Incarnation) → Tells b (numbered incarnation_record k xs) (with_tree xs)
  tree-told k [] = record { told = λ rest. refl }
  tree-told k (x ∷ xs) = record { told = λ rest. ap (with_tree (x ∷ [])) ((tree-told (k + 1) xs).told rest) }

  files-told : (k : ℕ) (xs : List Datafile) → Tells b (numbered datafile_record k xs) (with_files xs)
  files-told k [] = record { told = λ rest. refl }
  files-told k (x ∷ xs) = record { told = λ rest. ap (with_files (x ∷ [])) ((files-told (k + 1) xs).told rest) }

  logs-told : (xs : List LogEntry) → Tells b (map kind.Log xs) (with_logs xs)
  logs-told [] = record { told = λ rest. refl }
  logs-told (x ∷ xs) = record { told = λ rest. ap (with_logs (x ∷ [])) ((logs-told xs).told rest) }

  pieces-told : (xs : List PieceEntry) → Tells b (map kind.Piece xs) (with_pieces xs)
  pieces-told [] = record { told = λ rest. refl }
  pieces-told (x ∷ xs) = record { told = λ rest. ap (with_pieces (x ∷ [])) ((pieces-told xs).told rest) }

  marks-told : (k : ℕ) (xs : List Mark) → Tells b (numbered mark_record k xs) (with_marks xs)
  marks-told k [] = record { told = λ rest. refl }
  marks-told k (x ∷ xs) = record { told = λ rest. ap (with_marks (x ∷ [])) ((marks-told (k + 1) xs).told rest) }

  parts-told : (xs : List PartEntry) → Tells b (map kind.Part xs) (with_parts xs)
  parts-told [] = record { told = λ rest. refl }
  parts-told (x ∷ xs) = record { told = λ rest. ap (with_parts (x ∷ [])) ((parts-told xs).told rest) }

  head-told : (x : HeadEntry) → Tells b (kind.Head x ∷ []) (with_head x)
  head-told x = record { told = λ rest. refl }

  saved-told : (o : Option Saved) → Tells b (saved_records o) (with_saved o)
  saved-told None = record { told = λ rest. refl }
  saved-told (Some s) = then (parts-told s.parts) (head-told s.head)

  sets-told : (xs : List SetEntry) → Tells b (map kind.Set xs) (with_sets xs)
  sets-told [] = record { told = λ rest. refl }
  sets-told (x ∷ xs) = record { told = λ rest. ap (with_sets (x ∷ [])) ((sets-told xs).told rest) }

  switches-told : (k : ℕ) (xs : List ThreadSwitch) → Tells b (numbered switch_record k xs) (with_switches xs)
  switches-told k [] = record { told = λ rest. refl }
  switches-told k (x ∷ xs) = record { told = λ rest. ap (with_switches (x ∷ [])) ((switches-told (k + 1) xs).told rest) }

-- all that follow the first
module _ (l : Ledger) (saved : Option Saved) where
  front-told : Tells l.base (numbered incarnation_record 1 l.tree ++ numbered datafile_record 1 l.files ++ map kind.Log l.logs ++ map kind.Piece l.pieces ++ numbered mark_record 1 l.marks)
      (λ t. with_tree l.tree (with_files l.files (with_logs l.logs (with_pieces l.pieces (with_marks l.marks t)))))
  front-told = then (then (then (then (tree-told 1 l.tree) (files-told 1 l.files)) (logs-told l.logs)) (pieces-told l.pieces)) (marks-told 1 l.marks)

  all-told : tell l.base (records_of (record { ledger = l; saved = saved }) ++ [])
      ≡ with_tree l.tree (with_files l.files (with_logs l.logs (with_pieces l.pieces (with_marks l.marks (with_saved saved (with_sets l.sets (with_switches l.switches (tell l.base []))))))))
  all-told = (then (then front-told (saved-told saved)) (then (sets-told l.sets) (switches-told 1 l.switches))).told []

abbrev catalog_of : Told → TypedCatalog
catalog_of t = record { ledger = t.ledger; saved = saved_in t.parts t.heads }

-- they tell the database
back : (l : Ledger) (saved : Option Saved) → catalog_of (tell l.base (records_of (record { ledger = l; saved = saved }))) ≡ record { ledger = l; saved = saved }
back l None = ap (λ rs. catalog_of (tell l.base rs)) (sym (append-nil (records_of (record { ledger = l; saved = None })))) ∙ ap catalog_of (all-told l None) ∙ simp append-nil
back l (Some s) = ap (λ rs. catalog_of (tell l.base rs)) (sym (append-nil (records_of (record { ledger = l; saved = Some s })))) ∙ ap catalog_of (all-told l (Some s)) ∙ simp append-nil

one-typed_catalog : (a b : TypedCatalog) → records_of a ≡ records_of b → a ≡ b
one-typed_catalog a b same =
    let base : a.ledger.base ≡ b.ledger.base = cc in
    sym (back a.ledger a.saved) ∙ (λ i. catalog_of (tell (base i) (same i))) ∙ back b.ledger b.saved

pub one-catalog : (a b : Option TypedCatalog) → all_records a ≡ all_records b → a ≡ b
one-catalog None None same = refl
one-catalog None (Some b) same = absurd cc
one-catalog (Some a) None same = absurd cc
one-catalog (Some a) (Some b) same = ap (λ r. Some r) (one-typed_catalog a b same)
