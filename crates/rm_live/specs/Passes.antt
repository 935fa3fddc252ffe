-- What a pass is seen as, and what a call makes of it.
use Rattle.std.specs.Prelude.{◌≡◌, ℕ, ◌<◌, true, false, List, [], ◌∷◌, ◌++◌, length}
use Rattle.atomic_table.specs.{Seated.{TableId}, declared.shared.Seat.{Seat}}
use Rattle.rm_live.specs.{Parts.{Parts, IsSound, parts_of}, History.{IsRight, after, fold_of, IsLegal, Past, Foreign, times}}
use Rattle.rm_live.specs.{Ruled.{Sat, Below, AreShares, once_below, start}, declared.database.Database.{Database}}
use Rattle.rm_live.specs.declared.{history.{Answer.{Answer}, Call.{Call}, Event.{Event}}, rule.View.{View}}

-- the lock of which it is a pass, the database at the opening, how many numbers there are, its own
-- numbers, and what it has seen
pub record Standing : Type 0 where
  pub home : TableId
  pub opening : Parts
  pub passes : ℕ
  pub numbers : List ℕ
  pub seen : List Event

abbrev pub standing : Seat Database View → Standing
standing s = record { home = s.table_id; opening = start s.me.0.opening; passes = s.me.0.passes; numbers = s.me.0.numbers; seen = s.me.0.seen }

-- the only pass: it has each number below `passes` once, and no other
abbrev pub IsOnly : Standing → Type 0
IsOnly p = (n : ℕ) → times n p.numbers ≡ once_below n p.passes

-- between two calls
pub record IsRest (m : Sat) : Type 0 where
  pub carries : m.1 ≡ []
  pub idle : m.0.waits ≡ false
  pub still : m.0.turn ≡ false
  pub some : 0 < length m.0.numbers

-- it has taken the slot, and seen all events
pub record HasTurn (m m' : Sat) : Type 0 where
  pub seen : List Event
  pub database : Database
  pub carries : m'.1 ≡ (0, database) ∷ []
  pub turn : m'.0.turn ≡ true
  pub opening : m'.0.opening ≡ m.0.opening
  pub passes : m'.0.passes ≡ m.0.passes
  pub numbers : m'.0.numbers ≡ m.0.numbers
  pub seen_is : m'.0.seen ≡ seen
  pub legal : IsLegal (start m.0.opening) seen
  pub fold : parts_of database ≡ fold_of (start m.0.opening) seen
  pub past : Past m.0.numbers m.0.seen seen
  pub below : Below m.0.passes seen
  pub shares : AreShares m.0.numbers m.0.passes
  pub sound : IsSound (parts_of database)

abbrev pub first_of : List ℕ → ℕ
first_of [] = 0
first_of (n ∷ ns) = n

-- an event bears the first number of its pass
abbrev pub made : List ℕ → Call → Answer → Event
made numbers call answer = record { by = first_of numbers; call = call; answer = answer }

abbrev pub event_of : Sat → Call → Answer → Event
event_of m call answer = made m.0.numbers call answer

-- the slot has what the call left, and the answer is right
pub record IsTurn (m : Sat) (call : Call) (answer : Answer) : Type 0 where
  pub turn : m.0.turn ≡ true
  pub some : 0 < length m.0.numbers
  pub database : Database
  pub carries : m.1 ≡ (0, database) ∷ []
  pub left : parts_of database ≡ after (fold_of (start m.0.opening) m.0.seen) call answer
  pub right : IsRight (fold_of (start m.0.opening) m.0.seen) call answer

-- the pass has seen more, and is else as it was
abbrev pub IsLater : Standing → Standing → Type 0
IsLater p q = q ≡ record p { seen = q.seen }

-- What is seen begins with all that was seen and ends with this call and its answer. The events
-- between bear none of the pass's numbers.
abbrev pub Adds : Standing → Call → Answer → List Event → Type 0
Adds p call answer seen =
    (between : List Event) × (seen ≡ (p.seen ++ between) ++ made p.numbers call answer ∷ []) × Foreign p.numbers between

-- the pass with the numbers of both, which has seen this
abbrev pub joined : Standing → Standing → List Event → Standing
joined p other seen = record p { numbers = p.numbers ++ other.numbers; seen = seen }
