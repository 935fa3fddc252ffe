-- The greatest SCN, the last moment and the most bytes of an object.
use Rattle.std.specs.Prelude.{ℕ}

-- the most bytes of an object, 2^28
abbrev pub most_bytes : ℕ
most_bytes = 268435456

-- 2^48 - 1
abbrev pub last_scn : ℕ
last_scn = 281474976710655

-- 23:59:59 on the last day of 9999
abbrev pub last_moment : ℕ
last_moment = 253402300799
