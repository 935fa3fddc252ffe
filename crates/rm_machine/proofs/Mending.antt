-- Along the events of a BLOCKRECOVER, mends and writes, the database stays sound.
use Rattle.std.proofs.Common.{◌≡◌, ◌≢◌, ◌<◌, ℕ, List, [], ◌∷◌, Some, Ok, Err, true, false, arith, length, Contains}
use Rattle.std.proofs.lemmas.List.Elements.{All-weaker}
use Rattle.rm_base.specs.declared.block.{Change.{Change}, Row.{Row}}
use Rattle.rm_blocks.specs.File.{File}
use Rattle.rm_lang_statement.specs.declared.command.WriteForm.{WriteForm}
use Rattle.rm_live.specs.{History.{IsLegal, IsRight}, declared.history.{Answer.{Answer, TheVariants.{Found, Mended, Wrote}}, Call.{Call}}}
use Rattle.rm_live.specs.declared.history.{Call.TheVariants.{Mend, Read, Write}, Event.{Event}}
use Rattle.rm_machine.specs.{Events.{after_event, after_events, change_by, opening, with_placed_row, write_form}, Sound.{IsPlacedRow}}
use Rattle.rm_machine.specs.{Write.{change_of, with_write}, State.{now_of, placed}, declared.state.State.{State}}
use Rattle.rm_machine.proofs.{BackupAccepted.{CanBeWritten}, Damaged.{Stays, put-stays}, Putting.{sound-put}}
use Rattle.rm_machine.proofs.Walk.{CanGoOn, event-on, legal-on}

-- a row of a datafile
abbrev pub Patch : Type 0
Patch = ℕ × Row

-- an event is a mend by one of these rows, which was made, or one of these writes, which took an SCN
abbrev pub IsDue : List WriteForm → List Patch → Call → Answer → Type 0
IsDue ws ms (Read f b) answer = ⊥
IsDue ws ms (Write t f b content) (Found row) = ⊥
IsDue ws ms (Write t f b content) (Wrote (Ok scn)) = Contains ws (write_form t f b content)
IsDue ws ms (Write t f b content) (Wrote (Err fault)) = ⊥
IsDue ws ms (Write t f b content) (Mended made) = ⊥
IsDue ws ms (Mend f row) (Found found) = ⊥
IsDue ws ms (Mend f row) (Wrote w) = ⊥
IsDue ws ms (Mend f row) (Mended true) = Contains ms (f, row)
IsDue ws ms (Mend f row) (Mended false) = ⊥

abbrev pub AreDue : List WriteForm → List Patch → List Event → Type 0
AreDue ws ms [] = Unit {0}
AreDue ws ms (e ∷ es) = IsDue ws ms e.call e.answer × AreDue ws ms es

-- the block of the row stands in place, and the row could
pub record IsPatch (u : State) (m : Patch) : Type 0 where
  pub some : 0 < m.0
  pub file : File
  pub is : placed u m.0 ≡ Some file
  pub block : m.1.block < length file.rows
  pub row : IsPlacedRow m.1

-- the database may make these writes and mends, none of which names a block of another
pub record CanMend (u : State) (ws : List WriteForm) (ms : List Patch) : Type 0 where
  pub on : CanGoOn u ws
  pub apart : (w : WriteForm) (m : Patch) → Contains ws w → Contains ms m → m.0 ≡ w.file → m.1.block ≢ w.block
  pub patches : (m : Patch) → Contains ms m → IsPatch u m

-- what is so of the state after each write and after each mend that is due is so after an event
by-due : (P : State → List Change → Type 0) (u : State) (ws : List WriteForm) (ms : List Patch)
    → ((w : WriteForm) → Contains ws w → (scn : ℕ) → IsRight (opening u) (Write w.thread w.file w.block w.content) (Wrote (Ok scn)) → P (with_write u w) (change_of u w ∷ []))
    → ((m : Patch) → Contains ms m → IsRight (opening u) (Mend m.0 m.1) (Mended true) → P (with_placed_row u m.0 m.1) [])
    → (c : Call) (answer : Answer) → IsRight (opening u) c answer → IsDue ws ms c answer → P (after_event u c answer) (change_by u c answer)
by-due P u ws ms wrote mended (Read f b) answer right due = absurd due
by-due P u ws ms wrote mended (Write t f b content) (Found row) right due = absurd due
by-due P u ws ms wrote mended (Write t f b content) (Wrote (Ok scn)) right due = wrote (write_form t f b content) due scn right
by-due P u ws ms wrote mended (Write t f b content) (Wrote (Err fault)) right due = absurd due
by-due P u ws ms wrote mended (Write t f b content) (Mended made) right due = absurd due
by-due P u ws ms wrote mended (Mend f row) (Found found) right due = absurd due
by-due P u ws ms wrote mended (Mend f row) (Wrote w) right due = absurd due
by-due P u ws ms wrote mended (Mend f row) (Mended true) right due = mended (f, row) due right
by-due P u ws ms wrote mended (Mend f row) (Mended false) right due = absurd due

-- The state

-- where what stood in place stays there, so does the block of a row
patch-stays : (u q : State) → ((f : ℕ) (x : File) → placed u f ≡ Some x → Stays q f x) → (m : Patch) → IsPatch u m → IsPatch q m
patch-stays u q stays m is =
    let there = stays m.0 is.file is.is in
    record { some = is.some; file = there.0; is = there.1; block = (let least = there.2 in let inside = is.block in omega (arith, least, inside)); row = is.row }

-- the row of a write
abbrev pub row_of : State → WriteForm → Row
row_of u w = record { block = w.block; version = now_of u; content = w.content }

module _ (u : State) (ws : List WriteForm) (ms : List Patch) (can : CanMend u ws ms) where
  can-write : (w : WriteForm) → Contains ws w → (scn : ℕ) → IsRight (opening u) (Write w.thread w.file w.block w.content) (Wrote (Ok scn)) → CanMend (with_write u w) ws ms
  can-write w has scn right = record {
    on = event-on u ws can.on (Write w.thread w.file w.block w.content) (Wrote (Ok scn)) right has;
    apart = can.apart;
    patches = λ m is. patch-stays u (with_write u w) (put-stays u w.file (row_of u w)) m (can.patches m is);
  }

  can-mend : (m : Patch) → Contains ms m → IsRight (opening u) (Mend m.0 m.1) (Mended true) → CanMend (with_placed_row u m.0 m.1) ws ms
  can-mend m has right =
      let q : State = with_placed_row u m.0 m.1 in
      record {
        on = record {
          sound = sound-put u m.0 m.1 can.on.sound can.on.opened (can.patches m has).row right.1;
          opened = can.on.opened;
          unmarked = can.on.unmarked;
          writes = All-weaker (CanBeWritten u) (CanBeWritten q) (λ w it.
              let there = put-stays u m.0 m.1 w.file it.file it.stands in
              record { thread = it.thread; datafile = it.datafile; is = it.is; here = it.here; block = it.block; file = there.0; stands = there.1 }) ws can.on.writes;
          contents = can.on.contents;
        };
        apart = can.apart;
        patches = λ n is. patch-stays u q (put-stays u m.0 m.1) n (can.patches n is);
      }

  pub can-event : (c : Call) (answer : Answer) → IsRight (opening u) c answer → IsDue ws ms c answer → CanMend (after_event u c answer) ws ms
  can-event = by-due (λ q cs. CanMend q ws ms) u ws ms can-write can-mend

pub can-events : (ws : List WriteForm) (ms : List Patch) (es : List Event) (u : State) → CanMend u ws ms → IsLegal (opening u) es → AreDue ws ms es → CanMend (after_events u es) ws ms
can-events ws ms [] u can legal due = can
can-events ws ms (e ∷ es) u can legal due =
    can-events ws ms es (after_event u e.call e.answer) (can-event u ws ms can e.call e.answer legal.0 due.0) (legal-on u ws can.on e es legal) due.1
