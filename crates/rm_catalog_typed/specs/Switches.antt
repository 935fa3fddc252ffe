-- The switches of redo threads, and which threads are enabled at each address.
use Rattle.std.specs.Prelude.{◌≡◌, ℕ, ◌<◌, ◌≤◌, ◌==◌, ◌&&◌, ◌||◌, not, Bool, true, List, [], ◌∷◌, Some, All, fold, if◌then◌else◌, map, slice_get, take}
use Rattle.rm_history.specs.{Threads.{is_enabled}, Tree.{IsThere, reset_of, end_of}, declared.tree.Incarnation.{Incarnation}}
use Rattle.rm_history.specs.declared.world.Switch.{Switch}
use Rattle.rm_catalog_typed.specs.{Ledger.{Ledger}, declared.thread_switch.ThreadSwitch.{ThreadSwitch}}

-- the switch as a history has it
abbrev pub switch_of : ThreadSwitch → Switch
switch_of x = record { thread = x.thread; inc = x.inc; scn = x.scn; on = x.on }

-- by these switches, thread t is enabled at (m, g)
abbrev pub enabled_by : List Incarnation → ℕ → List ThreadSwitch → ℕ → ℕ → ℕ → Bool
enabled_by tree threads xs m g t = is_enabled tree threads (map switch_of xs) m g t

-- the switches of a ledger as a history has them
abbrev pub switches_of : Ledger → List Switch
switches_of l = map switch_of l.switches

-- thread t is enabled at (m, g)
abbrev pub is_enabled_in : Ledger → ℕ → ℕ → ℕ → Bool
is_enabled_in l m g t = is_enabled l.tree l.base.threads (switches_of l) m g t

-- whether threads 1, 2, 3 and 4 are enabled at (m, g)
abbrev pub enabled_at : Ledger → ℕ → ℕ → List Bool
enabled_at l m g = is_enabled_in l m g 1 ∷ is_enabled_in l m g 2 ∷ is_enabled_in l m g 3 ∷ is_enabled_in l m g 4 ∷ []

-- after one switch more, the sequence number that the next log of thread t takes in incarnation i
abbrev pub after_sequence : ℕ → ℕ → ℕ → ThreadSwitch → ℕ
after_sequence i t n x = if (x.thread == t) && (x.inc == i) then x.sequence else n

-- The sequence number that the next log of thread t takes in the current incarnation: what the last switch of
-- the thread there says, else 1.
abbrev pub next_sequence : Ledger → ℕ → ℕ
next_sequence l t = fold (after_sequence l.base.current t) 1 l.switches

-- by the switches before it, another thread than that of the switch is enabled where it stands
abbrev pub stays : List Incarnation → ℕ → List ThreadSwitch → ThreadSwitch → ℕ → Bool
stays tree threads before x t = not (t == x.thread) && enabled_by tree threads before x.inc x.scn t

-- the switch leaves a thread enabled
abbrev pub leaves_one : List Incarnation → ℕ → List ThreadSwitch → ThreadSwitch → Bool
leaves_one tree threads before x = x.on || stays tree threads before x 1 || stays tree threads before x 2 || stays tree threads before x 3 || stays tree threads before x 4

-- it lies above another one of its incarnation
abbrev pub IsAbove : ThreadSwitch → ThreadSwitch → Type 0
IsAbove x y = y.inc ≡ x.inc → y.scn < x.scn

-- a switch may come next after those before it
pub record IsNextSwitch (tree : List Incarnation) (threads : ℕ) (before : List ThreadSwitch) (x : ThreadSwitch) : Type 0 where
  pub thread : (1 ≤ x.thread) × (x.thread ≤ 4)
  pub there : IsThere tree x.inc
  pub range : (reset_of tree x.inc ≤ x.scn) × (x.scn < end_of tree x.inc)
  pub above : All (IsAbove x) before
  -- the thread was not as the switch says
  pub changes : enabled_by tree threads before x.inc x.scn x.thread ≡ not x.on
  pub leaves : leaves_one tree threads before x ≡ true
  pub sequence : (1 ≤ x.sequence) × (x.sequence ≤ 4294967295)

-- each switch may come next after those before it
abbrev pub ComeInTurn : List Incarnation → ℕ → List ThreadSwitch → Type 0
ComeInTurn tree threads xs = (k : ℕ) (x : ThreadSwitch) → slice_get xs k ≡ Some x → IsNextSwitch tree threads (take k xs) x
