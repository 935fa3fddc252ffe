-- Bytes with their digest.
use Rattle.std.specs.Prelude.{ℕ, List, ◌++◌}
use Rattle.sha2.specs.Sha256.{sha256}

-- these bytes, and then the SHA-256 of all of them
abbrev pub sealed : List ℕ → List ℕ
sealed bytes = bytes ++ sha256 bytes
