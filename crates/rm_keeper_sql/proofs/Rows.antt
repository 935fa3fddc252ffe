-- The rows that were read so far.
use Rattle.std.proofs.{Common.{◌≡◌, ◌∙◌, ap₂, sym, List, [], ◌∷◌, ◌++◌}, lemmas.List.{map-append, Elements.{All-push}}}
use Rattle.sqlite_value.specs.Order.{Row}
use Rattle.rm_catalog.specs.declared.record.Record.{Record}
use Rattle.rm_catalog_bytes.specs.Fits.{Fits}
use Rattle.rm_keeper_sql.specs.{Loads.{columns, AreRows}, Table.{row_of}}

-- one row more, and its record
pub rows_more : (records : List Record) (r : Record) (rows : List Row) (row : Row) → AreRows records rows → columns row ≡ row_of r → Fits r
    → AreRows (records ++ r ∷ []) (rows ++ row ∷ [])
rows_more records r rows row so_far same fits = record {
  told = map-append columns rows (row ∷ []) ∙ ap₂ (λ (a : List Row) (b : Row). a ++ b ∷ []) so_far.told same ∙ sym (map-append row_of records (r ∷ []));
  fit = All-push Fits records r so_far.fit fits;
}
