-- What records say, with one record more.
use Rattle.std.proofs.{Common.{◌≡◌, List, [], ◌∷◌, ◌++◌}, lemmas.List.{append-nil, map-append, Elements.{filter_map-append}}}
use Rattle.rm_catalog.specs.declared.record.Record.{Record}
use Rattle.rm_catalog.specs.declared.record.Record.TheVariants as records
use Rattle.rm_catalog_typed.specs.Kinds.{told_by, with_record}

pub told-more : (xs : List Record) (r : Record) → told_by (xs ++ r ∷ []) ≡ with_record r (told_by xs)
told-more xs (records.Base x) = simp (filter_map-append, append-nil)
told-more xs r = simp (filter_map-append, map-append, append-nil)
