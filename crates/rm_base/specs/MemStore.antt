-- A store and a clock in memory.
use Rattle.std.specs.{Prelude.{◌≡◌, ◌↔◌, ◌+◌, ◌/◌, ℕ, zero, suc, Bool, IsTrue, List, [], ◌∷◌, drop, length, take}, BTreeMap.{get_by_text}}
use Rattle.rm_base.specs.{Failing.{faults_of, FailsNext, after_call}, Store.{Held, Answers}, declared.memory.Failing.{Failing}}
use Rattle.rm_base.specs.declared.mem_store.{StoreFailing.{StoreFailing}, MemStore.{MemStore}, MemClock.{MemClock}}

-- the bytes under each name
abbrev pub held_by : MemStore → Held
held_by m name = get_by_text m.objects name

-- its calls that are to fail
abbrev pub failing_of : MemStore → StoreFailing
failing_of m = m.failing

-- all faults of its calls
abbrev pub faults_of_all : StoreFailing → ℕ
faults_of_all f = faults_of f.gets + (faults_of f.puts + (faults_of f.removes + faults_of f.names))

-- the first half of the bytes, rounded down
abbrev pub half : List ℕ → List ℕ
half bytes = take (length bytes / 2) bytes

-- one call later: it was to fail or not, and is counted so
abbrev pub IsAfterCall : Failing → Failing → Type 0
IsAfterCall before after = (fails : Bool) × (IsTrue fails ↔ FailsNext before) × (after ≡ after_call before fails)

-- the answers of a list in turn; the last one is repeated, and an empty list answers 0
abbrev pub answer_at : List ℕ → Answers
answer_at [] i = 0
answer_at (x ∷ []) i = x
answer_at (x ∷ y ∷ ys) zero = x
answer_at (x ∷ y ∷ ys) (suc i) = answer_at (y ∷ ys) i

-- the answers of the clock to come
abbrev pub coming_of : MemClock → Answers
coming_of m = answer_at (drop m.at m.answers.items)
