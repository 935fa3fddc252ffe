-- What a catalog tells of records that are not valid, and what a keeper answers.
use Rattle.std.specs.Prelude.{◌≡◌, List, Option, IfSome, Result, Ok, Err, IsPermutation}
use Rattle.rm_catalog.specs.{Rules.{IsOrderOf, IsFirstBad}, declared.catalog.CatalogFault.{CatalogFault, TheVariants.{BadRow, NoMemory}}}
use Rattle.rm_catalog.specs.declared.record.{Key.{Key}, Record.{Record}}

-- the records in order have a first one that breaks a rule, and it is told
abbrev pub IsBadRow : List Record → CatalogFault → Type 0
IsBadRow rs (BadRow kind id) = (s : List Record) × IsOrderOf s rs × IsFirstBad s (record { kind = kind; id = id })
IsBadRow rs NoMemory = Unit {0}

-- the catalog has these records, unless memory is wanting
abbrev pub IsTaken : Result (List Record) CatalogFault → List Record → Type 0
IsTaken (Ok c) s = c ≡ s
IsTaken (Err NoMemory) s = Unit {0}
IsTaken (Err (BadRow kind id)) s = ⊥

-- this key is told, unless memory is wanting
abbrev pub IsTold : Result (List Record) CatalogFault → Key → Type 0
IsTold (Ok c) key = ⊥
IsTold (Err NoMemory) key = Unit {0}
IsTold (Err (BadRow kind id)) key = record { kind = kind; id = id } ≡ key

-- each record that is kept, once, in any order
abbrev pub Answers : Option (List Record) → List Record → Type 0
Answers kept rs = IfSome kept (λ ks. IsPermutation ks rs)
