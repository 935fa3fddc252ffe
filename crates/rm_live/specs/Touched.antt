-- Which blocks the events of a live database mend and write.
use Rattle.std.specs.{Prelude.{ℕ, ◌==◌, ◌&&◌, ◌||◌, Bool, false, List}, List.{list_any}}
use Rattle.rm_live.specs.declared.history.{Call.{Call, TheVariants.{Mend, Read, Write}}, Event.{Event}}

-- the call mends block b of datafile f
abbrev pub is_mend_of : ℕ → ℕ → Call → Bool
is_mend_of f b (Read g c) = false
is_mend_of f b (Write t g c content) = false
is_mend_of f b (Mend g row) = (g == f) && (row.block == b)

-- the call writes it
abbrev pub is_write_of : ℕ → ℕ → Call → Bool
is_write_of f b (Read g c) = false
is_write_of f b (Write t g c content) = (g == f) && (c == b)
is_write_of f b (Mend g row) = false

-- one of the events mends it
abbrev pub is_mended : List Event → ℕ → ℕ → Bool
is_mended es f b = list_any (λ e. is_mend_of f b e.call) es

-- one mends or writes it
abbrev pub is_touched : List Event → ℕ → ℕ → Bool
is_touched es f b = list_any (λ e. is_mend_of f b e.call || is_write_of f b e.call) es
