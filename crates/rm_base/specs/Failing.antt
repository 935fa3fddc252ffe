-- Calls that are to fail, by their numbers.
use Rattle.std.specs.Prelude.{ℕ, ◌+◌, ◌-◌, ◌^◌, Bool, if◌then◌else◌, List, Contains, min}
use Rattle.rm_base.specs.declared.memory.Failing.{Failing}

-- the number of the next call, which stands still at the end of its type
abbrev pub next : ℕ → ℕ
next n = min (n + 1) (2 ^ 64 - 1)

-- the numbers of the calls that are to fail
abbrev pub numbers_of : Failing → List ℕ
numbers_of f = f.numbers.items

-- how many calls were made
abbrev pub calls_of : Failing → ℕ
calls_of f = f.calls

-- how many calls have failed
abbrev pub faults_of : Failing → ℕ
faults_of f = f.faults.times

-- the next call is one of those that are to fail
abbrev pub FailsNext : Failing → Type 0
FailsNext f = Contains (numbers_of f) (next (calls_of f))

-- one fault more
abbrev pub with_fault : Failing → Failing
with_fault f = record f { faults = record { times = faults_of f + 1 } }

-- one call more, which failed or not
abbrev pub after_call : Failing → Bool → Failing
after_call f fails =
    let called : Failing = record f { calls = next f.calls } in
    if fails then with_fault called else called
