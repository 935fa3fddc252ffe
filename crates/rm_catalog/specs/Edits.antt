-- The records after edits.
use Rattle.std.specs.{Prelude.{ℕ, Option, Some, None, List, [], ◌∷◌, ◌++◌, nat_lt}, List.{filter}}
use Rattle.rm_catalog.specs.{Keys.{place_of, place_of_key}, declared.record.{Record.{Record}, Edit.{Edit, TheVariants.{Put, Drop}}}}

-- the records below a place
abbrev pub below : ℕ → List Record → List Record
below p rs = filter (λ r. nat_lt (place_of r) p) rs

-- the records above a place
abbrev pub above : ℕ → List Record → List Record
above p rs = filter (λ r. nat_lt p (place_of r)) rs

-- the place of the key that an edit is of
abbrev pub place_of_edit : Edit → ℕ
place_of_edit (Put r) = place_of r
place_of_edit (Drop key) = place_of_key key

-- the record that an edit puts
abbrev pub put_by : Edit → Option Record
put_by (Put r) = Some r
put_by (Drop key) = None

-- A Put replaces the record of its key, or is added at its place. A Drop takes away the record of
-- its key, if one is there.
abbrev pub after_edit : Edit → List Record → List Record
after_edit (Put r) rs = below (place_of r) rs ++ r ∷ above (place_of r) rs
after_edit (Drop key) rs = below (place_of_key key) rs ++ above (place_of_key key) rs

-- one edit after the other
abbrev pub after_edits : List Edit → List Record → List Record
after_edits [] rs = rs
after_edits (e ∷ es) rs = after_edits es (after_edit e rs)
