-- Along the events of a BACKUP the database stays sound, and what was read stands in it.
use Rattle.std.specs.Option.{option_map}
use Rattle.std.proofs.Common.{◌≡◌, ◌≢◌, ◌≤◌, ◌+◌, ◌-◌, ◌∙◌, ◌++◌, ◌==◌, nat_lt, inl, inr, ℕ, zero, suc, List, [], ◌∷◌, Option, Some, None, Ok, Err, Bool, true, false, cond, refl, ap, sym, subst, arith, length, length-append, map, All, Contains, slice_index_or, slice_set}
use Rattle.std.proofs.lemmas.{Bool.{and_from, and_parts, eqb-false, lt-ltb, ltb-true}, List.{append-nil, length-set}}
use Rattle.std.proofs.lemmas.List.Elements.{All-contains, All-weaker}
use Rattle.rm_base.specs.{Numbers.{last_scn}, declared.block.{Change.{Change}, Mark.{Mark}, Row.{Row}}}
use Rattle.rm_base.proofs.{Members.{first-or-rest, none-in}, Conditions.{unless}}
use Rattle.rm_blocks.specs.File.{File, written}
use Rattle.rm_channel.specs.{Jobs.{Deed}, Made.{deed}}
use Rattle.rm_history.specs.{Tree.{owner, parent_of, reset_of, with_end}, World.{exists}, declared.world.Datafile.{Datafile}}
use Rattle.rm_history.proofs.Worlds.{exists-with_end}
use Rattle.rm_catalog_typed.{specs.Ledger.{ledger_records}, proofs.Fitted.{many}}
use Rattle.rm_live.specs.{History.{IsLegal, IsRight}, Parts.{refusal_by, row_at}, declared.history.Answer.{Answer}}
use Rattle.rm_live.specs.declared.history.{Answer.TheVariants.{Found, Mended, Wrote}, Call.{Call, TheVariants.{Mend, Read, Write}}}
use Rattle.rm_live.specs.declared.history.Event.{Event}
use Rattle.rm_redo.{specs.Online.{thread_records as log_records}, proofs.Logs.{IsThread-with_change}}
use Rattle.rm_lang_statement.specs.declared.command.WriteForm.{WriteForm}
use Rattle.rm_machine.specs.{Marks.{last_marked, mark_now, marks_before}, Sound.{IsSound}, Write.{change_of, with_write}}
use Rattle.rm_machine.specs.State.{current_of, ledger, now_of, placed, world}
use Rattle.rm_machine.specs.Events.{after_event, after_events, change_by, opening, standing_in, with_placed_row, write_form}
use Rattle.rm_machine.{specs.declared.state.State.{State}, proofs.{Further.{now-further}, Writes.{Accepted}, WritesSound.{sound-write}}}
use Rattle.rm_machine.proofs.{BackupAccepted.{CanBeWritten}, Following.{goes-along, opening-after}, Found.{read-found, read-of}}
use Rattle.rm_machine.proofs.PiecesRead.{IsFound}

-- an event is a read, or one of these writes, which took an SCN
abbrev pub IsAsked : List WriteForm → Call → Answer → Type 0
IsAsked ws (Read f b) answer = Unit {0}
IsAsked ws (Write t f b content) (Found row) = ⊥
IsAsked ws (Write t f b content) (Wrote (Ok scn)) = Contains ws (write_form t f b content)
IsAsked ws (Write t f b content) (Wrote (Err fault)) = ⊥
IsAsked ws (Write t f b content) (Mended made) = ⊥
IsAsked ws (Mend f row) answer = ⊥

abbrev pub AreAsked : List WriteForm → List Event → Type 0
AreAsked ws [] = Unit {0}
AreAsked ws (e ∷ es) = IsAsked ws e.call e.answer × AreAsked ws es

-- the database may make these writes, without a mark
pub record CanGoOn (u : State) (ws : List WriteForm) : Type 0 where
  pub sound : IsSound u
  pub opened : u.instance.is_open ≡ true
  pub unmarked : (w : WriteForm) → Contains ws w → marks_before u ≡ []
  pub writes : All (CanBeWritten u) ws
  pub contents : All (λ (w : WriteForm). length w.content.0 ≡ 64) ws

-- A write that is right is accepted

refused-not : (row : Option Row) (n now : ℕ) → refusal_by row n now ≡ None → (n ≢ 65536) × (now ≢ last_scn)
refused-not None n now is = absurd (cc)
refused-not (Some row) n now is =
    let full = unless (n == 65536) _ _ is in
    (eqb-false n 65536 full.0, eqb-false now last_scn (unless (now == last_scn) _ _ full.1).0)

module _ (u : State) (ws : List WriteForm) (can : CanGoOn u ws) (w : WriteForm) (has : Contains ws w) (scn : ℕ) (right : IsRight (opening u) (Write w.thread w.file w.block w.content) (Wrote (Ok scn))) where
  pub accepted : Accepted u w
  accepted =
      let it = All-contains (CanBeWritten u) ws w can.writes has in
      let sound = can.sound in
      let free = refused-not (row_at (opening u).files w.file w.block) (length (log_records u.instance.logs w.thread)) (now_of u) right.0 in
      let range = (sound.catalog.ledger.incarnations.ranges (current_of u) sound.catalog.ledger.current).2 in
      let few = (sound.logs.each w.thread it.thread ((sound.in_open can.opened).found w.thread it.thread)).valid.few in
      let none : length (marks_before u) ≡ 0 = ap (λ (ms : List Mark). length ms) (can.unmarked w has) in
      record {
        on = record { opened = can.opened; room = omega (arith, none, sound.catalog.ledger.few); below = omega (arith, range, free.1) };
        thread = it.thread;
        datafile = it.datafile;
        is = it.is;
        here = it.here;
        block = it.block;
        file = it.file;
        stands = it.stands;
        room = omega (arith, few, free.0);
      }

-- One event

-- the time goes on
now-write : (u : State) (w : WriteForm) → IsSound u → Accepted u w → now_of (with_write u w) ≡ now_of u + 1
now-write u w sound a = now-further u sound a.on

-- what a write finds it finds after another one
here-later : (u : State) (w : WriteForm) (d : Datafile) → IsSound u → Accepted u w → exists (world u) (current_of u) (now_of u) d ≡ true → exists (world (with_write u w)) (current_of u) (now_of (with_write u w)) d ≡ true
here-later u w d sound a here =
    let i = current_of u in
    let both = and_parts (nat_lt d.creation (now_of u)) (owner u.catalog.ledger.tree i d.creation == d.inc) here in
    let low = ltb-true d.creation (now_of u) both.0 in
    let later : exists (world u) i (now_of u + 1) d ≡ true = and_from (nat_lt d.creation (now_of u + 1)) (owner u.catalog.ledger.tree i d.creation == d.inc) (lt-ltb d.creation (now_of u + 1) (omega (arith, low))) both.1 in
    ap (λ n. exists (world (with_write u w)) i n d) (now-write u w sound a)
    ∙ exists-with_end (world u) i (now_of u + 1) i (now_of u + 1) d sound.catalog.ledger.current ∙ later

-- no record comes of a write without a mark
records-write : (u : State) (w : WriteForm) → marks_before u ≡ [] → length (ledger_records (ledger (with_write u w))) ≡ length (ledger_records (ledger u))
records-write u w none =
    let i = current_of u in
    let tree = (ledger u).tree in
    let trees : length (with_end tree i (now_of u + 1)) ≡ length tree = length-set tree (i - 1) (record { parent = parent_of tree i; reset = reset_of tree i; end = now_of u + 1 }) in
    let no_mark : length (marks_before u) ≡ 0 = ap (λ (ms : List Mark). length ms) none in
    omega (arith, many (ledger u), many (ledger (with_write u w)), trees, length-append (ledger u).marks (marks_before u), no_mark)

-- what stands in a place stands there after another place changed
stands-set : {X : Type 0} (place : List (Option X)) (m k : ℕ) (new : Option X) (x y : X) → slice_index_or place k None ≡ Some x → new ≡ Some y → (z : X) × (slice_index_or (slice_set place m new) k None ≡ Some z)
stands-set [] m k new x y is some = absurd (cc)
stands-set (o ∷ place) zero zero new x y is some = (y, some)
stands-set (o ∷ place) zero (suc k) new x y is some = (x, is)
stands-set (o ∷ place) (suc m) zero new x y is some = (x, is)
stands-set (o ∷ place) (suc m) (suc k) new x y is some = stands-set place m k new x y is some

-- without a mark to make there is none after a write either
no-mark : (s : State) → marks_before s ≡ [] → nat_lt (last_marked 0 (ledger s).marks) (ledger s).base.moment ≡ false
no-mark s none = by (nat_lt (last_marked 0 (ledger s).marks) (ledger s).base.moment) none
  where
    by : (t : Bool) → cond t (mark_now s ∷ []) [] ≡ [] → t ≡ false
    by true is = absurd (cc)
    by false is = refl

unmarked-write : (u : State) (w : WriteForm) → marks_before u ≡ [] → marks_before (with_write u w) ≡ []
unmarked-write u w none =
    let marks = (ledger u).marks in
    let same : marks ++ marks_before u ≡ marks = ap (λ (ms : List Mark). marks ++ ms) none ∙ append-nil marks in
    ap (λ t. cond t (mark_now (with_write u w) ∷ []) []) (ap (λ ms. nat_lt (last_marked 0 ms) (ledger u).base.moment) same ∙ no-mark u none)

module _ (u : State) (ws : List WriteForm) (can : CanGoOn u ws) (w : WriteForm) (has : Contains ws w) (scn : ℕ) (right : IsRight (opening u) (Write w.thread w.file w.block w.content) (Wrote (Ok scn))) where
  abbrev a : Accepted u w
  a = accepted u ws can w has scn right

  pub full : length w.content.0 ≡ 64
  full = All-contains (λ (v : WriteForm). length v.content.0 ≡ 64) ws w can.contents has

  write-on : CanGoOn (with_write u w) ws
  write-on = record {
    sound = sound-write u w can.sound a full;
    opened = can.opened;
    unmarked = λ v is. unmarked-write u w (can.unmarked v is);
    writes = All-weaker (CanBeWritten u) (CanBeWritten (with_write u w)) (λ v it.
        let stands = stands-set u.instance.place (w.file - 1) (v.file - 1) (option_map (λ (x : File). written x w.block (now_of u) w.content) (placed u w.file)) it.file (written a.file w.block (now_of u) w.content) it.stands (ap (option_map (λ (x : File). written x w.block (now_of u) w.content)) a.stands) in
        record {
          thread = IsThread-with_change u.instance.logs (change_of u w) v.thread it.thread;
          datafile = it.datafile;
          is = it.is;
          here = here-later u w it.datafile can.sound a it.here;
          block = it.block;
          file = stands.0;
          stands = stands.1;
        }) ws can.writes;
    contents = can.contents;
  }

-- what is so of the state as it is, and after each write that was asked for, is so after an event
pub by-event : (P : State → List Change → Type 0) (u : State) (ws : List WriteForm) → P u []
    → ((w : WriteForm) → Contains ws w → (scn : ℕ) → IsRight (opening u) (Write w.thread w.file w.block w.content) (Wrote (Ok scn)) → P (with_write u w) (change_of u w ∷ []))
    → (c : Call) (answer : Answer) → IsRight (opening u) c answer → IsAsked ws c answer → P (after_event u c answer) (change_by u c answer)
by-event P u ws same wrote (Read f b) answer right asked = same
by-event P u ws same wrote (Write t f b content) (Found row) right asked = absurd asked
by-event P u ws same wrote (Write t f b content) (Wrote (Ok scn)) right asked = wrote (write_form t f b content) asked scn right
by-event P u ws same wrote (Write t f b content) (Wrote (Err fault)) right asked = absurd asked
by-event P u ws same wrote (Write t f b content) (Mended made) right asked = absurd asked
by-event P u ws same wrote (Mend f row) answer right asked = absurd asked

module _ (u : State) (ws : List WriteForm) (can : CanGoOn u ws) where
  pub event-on : (c : Call) (answer : Answer) → IsRight (opening u) c answer → IsAsked ws c answer → CanGoOn (after_event u c answer) ws
  event-on = by-event (λ q cs. CanGoOn q ws) u ws can (write-on u ws can)

  pub now-event : (c : Call) (answer : Answer) → IsRight (opening u) c answer → IsAsked ws c answer → now_of u ≤ now_of (after_event u c answer)
  now-event = by-event (λ q cs. now_of u ≤ now_of q) u ws (omega arith) (λ w has scn right. omega (arith, now-write u w can.sound (accepted u ws can w has scn right)))

  -- the rest is legal from there
  pub legal-on : (e : Event) (es : List Event) → IsLegal (opening u) (e ∷ es) → IsLegal (opening (after_event u e.call e.answer)) es
  legal-on e es legal = subst (λ p. IsLegal p es) (sym (opening-after u e.call e.answer (goes-along u can.sound can.opened) legal.0)) legal.1

  here-event : (c : Call) (answer : Answer) → IsRight (opening u) c answer → IsAsked ws c answer → (d : Datafile) → exists (world u) (current_of u) (now_of u) d ≡ true
      → exists (world (after_event u c answer)) (current_of (after_event u c answer)) (now_of (after_event u c answer)) d ≡ true
  here-event c answer right asked d here = by-event (λ q cs. exists (world q) (current_of q) (now_of q) d ≡ true) u ws here (λ w has scn is. here-later u w d can.sound (accepted u ws can w has scn is) here) c answer right asked

  -- no record more
  records-event : (c : Call) (answer : Answer) → IsRight (opening u) c answer → IsAsked ws c answer → length (ledger_records (ledger (after_event u c answer))) ≡ length (ledger_records (ledger u))
  records-event = by-event (λ q cs. length (ledger_records (ledger q)) ≡ length (ledger_records (ledger u))) u ws refl (λ w has scn right. records-write u w (can.unmarked w has))

-- what no write and no mend changes no event changes
module _ {X : Type 0} (f : State → X) (written : (u : State) (w : WriteForm) → f (with_write u w) ≡ f u) (mended : (u : State) (g : ℕ) (row : Row) → f (with_placed_row u g row) ≡ f u) where
  event-same : (u : State) (c : Call) (answer : Answer) → f (after_event u c answer) ≡ f u
  event-same u (Read g b) answer = refl
  event-same u (Write t g b content) (Found row) = refl
  event-same u (Write t g b content) (Wrote (Ok scn)) = written u (write_form t g b content)
  event-same u (Write t g b content) (Wrote (Err fault)) = refl
  event-same u (Write t g b content) (Mended made) = refl
  event-same u (Mend g row) (Found found) = refl
  event-same u (Mend g row) (Wrote w) = refl
  event-same u (Mend g row) (Mended true) = mended u g row
  event-same u (Mend g row) (Mended false) = refl

  pub events-same : (es : List Event) (u : State) → f (after_events u es) ≡ f u
  events-same [] u = refl
  events-same (e ∷ es) u = events-same es (after_event u e.call e.answer) ∙ event-same u e.call e.answer

-- All events

-- a read that found this row
abbrev pub reading : ℕ → ℕ → Row → Deed
reading f b r = (Read f b, Found (Some r))

-- what is known where they led
pub record HasWalked (u : State) (ws : List WriteForm) (es : List Event) (t : State) : Type 0 where
  pub can : CanGoOn t ws
  pub now : now_of u ≤ now_of t
  pub records : length (ledger_records (ledger t)) ≡ length (ledger_records (ledger u))
  pub here : (d : Datafile) → exists (world u) (current_of u) (now_of u) d ≡ true → exists (world t) (current_of t) (now_of t) d ≡ true
  pub found : (f b : ℕ) (r : Row) → Contains (map deed es) (reading f b r) → (r.block ≡ b) × IsFound t r

-- the event was that read
pub found-here : (u : State) (e : Event) (f b : ℕ) (r : Row) → IsRight (opening u) e.call e.answer → deed e ≡ reading f b r → row_at (standing_in u) f b ≡ Some r
found-here u e f b r right same =
    let asked : IsRight (opening u) (Read f b) (Found (Some r)) = subst (λ (d : Deed). IsRight (opening u) d.0 d.1) same right in
    sym asked

pub walk : (ws : List WriteForm) (es : List Event) (u : State) → CanGoOn u ws → IsLegal (opening u) es → AreAsked ws es → HasWalked u ws es (after_events u es)
walk ws [] u can legal asked = record { can = can; now = omega arith; records = refl; here = λ d here. here; found = λ f b r has. absurd (none-in (reading f b r) has) }
walk ws (e ∷ es) u can legal asked =
    let on = event-on u ws can e.call e.answer legal.0 asked.0 in
    let rest = walk ws es (after_event u e.call e.answer) on (legal-on u ws can e es legal) asked.1 in
    let first = now-event u ws can e.call e.answer legal.0 asked.0 in
    record {
      can = rest.can;
      now = omega (arith, first, rest.now);
      records = rest.records ∙ records-event u ws can e.call e.answer legal.0 asked.0;
      here = λ d here. rest.here d (here-event u ws can e.call e.answer legal.0 asked.0 d here);
      found = λ f b r has. elim (first-or-rest (deed e) (map deed es) (reading f b r) has) [
        | inl same ↦
            let both = read-found u f b r can.sound can.opened (read-of u f b r can.sound (found-here u e f b r legal.0 same)) in
            (both.0, record { row = both.1.row; below = omega (arith, both.1.below, first, rest.now) })
        | inr later ↦ rest.found f b r later
      ];
    }
