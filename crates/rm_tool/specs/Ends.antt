-- How many bytes were taken of a script.
use Rattle.std.specs.Prelude.{ℕ, ◌+◌, ◌<◌, ◌^◌}

-- The number of bytes that the source tells does not reach the end of its type in this call.
abbrev pub Counted : ℕ → Type 0
Counted before = before + 4194816 < 2 ^ 64

-- more bytes were taken than a script may have
abbrev pub TakesMany : ℕ → ℕ → Type 0
TakesMany before after = before + 4194304 < after
