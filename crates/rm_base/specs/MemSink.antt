-- A sink in memory.
use Rattle.std.specs.Prelude.{ℕ, ◌-◌, ◌<◌, ◌≡◌, ◌⊎◌, List, length, min}
use Rattle.rm_base.specs.{Failing.{FailsNext}, declared.memory.{Failing.{Failing}, MemSink.{MemSink}}}

-- what was written
abbrev pub written_to : MemSink → List ℕ
written_to m = m.bytes.items

-- how many bytes it has room for, those that were written included
abbrev pub room_of : MemSink → ℕ
room_of m = m.room

-- the most bytes that one call moves
abbrev pub most_of : MemSink → ℕ
most_of m = m.most

-- its calls that are to fail
abbrev pub failing_of : MemSink → Failing
failing_of m = m.failing

-- no byte more has room
abbrev pub IsFull : MemSink → Type 0
IsFull m = room_of m ≡ length (written_to m)

-- a write of these bytes fails
abbrev pub Fails : MemSink → List ℕ → Type 0
Fails m bytes = FailsNext (failing_of m) ⊎ ((0 < length bytes) × IsFull m)

-- how many bytes of these a write adds
abbrev pub adds : MemSink → List ℕ → ℕ
adds m bytes = min (min (length bytes) (most_of m)) (room_of m - length (written_to m))
