-- What a log that agrees with a history has of it.
use Rattle.std.proofs.Common.{◌≡◌, ◌<◌, ◌≤◌, ◌==◌, ◌&&◌, nat_lt, nat_le, ℕ, List, true, sym, subst, arith, Contains}
use Rattle.std.proofs.lemmas.Bool.Decides.{nat_tests}
use Rattle.rm_base.{specs.declared.block.Change.{Change}, proofs.Lists.{filter_from, filter_to}}
use Rattle.rm_history.specs.{Artefacts.{Log}, Agrees.{LogAgrees, is_of}}

-- a change of the log's incarnation, thread and range, by its parts
pub record IsOf (a : Log) (c : Change) : Type 0 where
  pub inc : c.inc ≡ a.inc
  pub thread : c.thread ≡ a.thread
  pub first : a.first ≤ c.scn
  pub next : c.scn < a.next

of-parts : (m n t u first g next : ℕ) → ((m == n) && (t == u) && nat_le first g && nat_lt g next) ≡ true → (m ≡ n) × (t ≡ u) × (first ≤ g) × (g < next)
of-parts m n t u first g next is = grind (arith, nat_tests)

of-from : (m n t u first g next : ℕ) → m ≡ n → t ≡ u → first ≤ g → g < next → ((m == n) && (t == u) && nat_le first g && nat_lt g next) ≡ true
of-from m n t u first g next inc thread low high = grind (arith, nat_tests)

pub is_of-parts : (a : Log) (c : Change) → is_of a c ≡ true → IsOf a c
is_of-parts a c is =
    let parts = of-parts c.inc a.inc c.thread a.thread a.first c.scn a.next is in
    record { inc = parts.0; thread = parts.1; first = parts.2; next = parts.3 }

pub is_of-from : (a : Log) (c : Change) → IsOf a c → is_of a c ≡ true
is_of-from a c is = of-from c.inc a.inc c.thread a.thread a.first c.scn a.next is.inc is.thread is.first is.next

-- what the log lists happened, and is of it
pub listed-happened : (h : List Change) (a : Log) (c : Change) → LogAgrees h a → Contains a.changes c → Contains h c × (is_of a c ≡ true)
listed-happened h a c agrees held = filter_from (is_of a) h c (subst (λ cs. Contains cs c) agrees held)

-- what happened and is of the log it lists
pub happened-listed : (h : List Change) (a : Log) (c : Change) → LogAgrees h a → Contains h c → is_of a c ≡ true → Contains a.changes c
happened-listed h a c agrees held is = subst (λ cs. Contains cs c) (sym agrees) (filter_to (is_of a) h c held is)
