-- A block's content as a text of at most 64 bytes.
use Rattle.std.specs.Prelude.{ℕ, ◌==◌, ◌-◌, ◌++◌, if◌then◌else◌, List, [], ◌∷◌, length, replicate}
use Rattle.rm_base.specs.declared.block.Block.{Block}

-- the text, and zero bytes up to 64
abbrev pub padded : List ℕ → Block
padded text = record { 0 = text ++ replicate (64 - length text) 0 }

-- this byte before the others; a zero byte before none is left out
abbrev pub onto : ℕ → List ℕ → List ℕ
onto x [] = if x == 0 then [] else x ∷ []
onto x (y ∷ ys) = x ∷ y ∷ ys

-- the bytes without the zero bytes at their end
abbrev pub trimmed : List ℕ → List ℕ
trimmed [] = []
trimmed (x ∷ xs) = onto x (trimmed xs)

-- 64 zero bytes
abbrev pub zero_block : Block
zero_block = padded []
