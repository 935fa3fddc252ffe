-- The one spelling of each set of pieces.
use Rattle.std.specs.{Prelude.{ℕ, List, [], ◌∷◌, ◌++◌, length, codes}, List.{flat_map}}
use Rattle.rm_base.specs.{Number.{four, eight}, Sealed.{sealed}, declared.block.Row.{Row}}
use Rattle.rm_piece.specs.{Sets.{written}, Spelling.{code_of, row_bytes}, declared.set.{Set.{Set}, SetFile.{SetFile}}}

-- "RMST" and the format's number
abbrev pub set_magic : List ℕ
set_magic = codes "RMST" ++ 2 ∷ []

-- what stands before n members: 25 bytes
unfoldable pub set_head : Set → ℕ → List ℕ
set_head s n = set_magic ++ four s.dbid ++ four s.inc ++ eight s.checkpoint ++ four n

-- what stands before n rows of a member: 37 bytes
unfoldable pub member_head : SetFile → ℕ → List ℕ
member_head m n = code_of m.piece.kind ∷ []
    ++ four m.piece.file ++ eight m.creation ++ four m.piece.blocks
    ++ eight m.piece.from ++ eight m.piece.high
    ++ four n

-- the rows of a member that stand in the bytes: those at the creation are left out
abbrev pub spelled : SetFile → List Row
spelled m = written m.creation m.piece.rows

-- a member: 37 bytes, and 76 for each row that is spelled
unfoldable pub member_bytes : SetFile → List ℕ
member_bytes m = member_head m (length (spelled m)) ++ flat_map row_bytes (spelled m)

-- what stands before the digest
abbrev pub set_body : Set → List ℕ
set_body s = set_head s (length s.members) ++ flat_map member_bytes s.members

-- it ends with the digest of all bytes before
abbrev pub set_spelling : Set → List ℕ
set_spelling s = sealed (set_body s)
