-- A source in memory.
use Rattle.std.specs.Prelude.{ℕ, List, drop, length, min}
use Rattle.rm_base.specs.declared.memory.{Failing.{Failing}, MemSource.{MemSource}}

-- what is left to be read
abbrev pub left_of : MemSource → List ℕ
left_of m = drop m.at m.bytes.items

-- the most bytes that one call takes
abbrev pub most_of : MemSource → ℕ
most_of m = m.most

-- its calls that are to fail
abbrev pub failing_of : MemSource → Failing
failing_of m = m.failing

-- how many bytes a read into this buffer takes
abbrev pub takes : MemSource → List ℕ → ℕ
takes m buf = min (min (length (left_of m)) (length buf)) (most_of m)
