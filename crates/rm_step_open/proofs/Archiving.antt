-- Archiving as code: one thread, several threads, and what a statement hands out.
use Rattle.std.proofs.Common.{◌≡◌, ◌∙◌, ◌++◌, ◌+◌, ◌-◌, ◌<◌, ◌≤◌, ℕ, suc, List, [], Option, None, Bool, true, false, cond, refl, ap, sym, subst, arith}
use Rattle.std.proofs.lemmas.List.{append-nil, append_assoc}
use Rattle.rm_base.specs.Store.{Held}
use Rattle.rm_catalog.specs.declared.record.Edit.{Edit}
use Rattle.rm_commit.specs.declared.commit.Object.{Object}
use Rattle.rm_lang_statement.specs.declared.command.Command.TheVariants.{ArchiveLogCurrent, SwitchLogfile}
use Rattle.rm_redo.specs.Online.{IsThread}
use Rattle.rm_report.specs.declared.line.Line.{Line}
use Rattle.rm_catalog_typed.{specs.Changes.{EditsFollow}, proofs.Changed.{follows-then}}
use Rattle.rm_machine.specs.Archive.{after_all, after_thread, after_threads, archiving, archiving_refusal, lines_from, puts_by, puts_from, thread_lines}
use Rattle.rm_machine.specs.{Effect.{done, no_effect}, Hands.{Hands}, State.{online}, Sound.{IsSound}}
use Rattle.rm_machine.specs.{SwitchLogfile.{archived, is_due, made_lines, none_lines, with_archived}, declared.handed.Handed.{Handed}}
use Rattle.rm_machine.{specs.declared.state.State.{State}, proofs.Archives.{HasRoom, next-room, room-accepted, sound-thread}}

-- what archiving has before it, or has reached
pub record Reached : Type 0 where
  pub state : State
  pub lines : List Line
  pub objects : List Object
  pub edits : List Edit

-- a thread was archived, where it had something to archive
pub record IsTurn (all : Bool) (old new : Reached) (t : ℕ) : Type 0 where
  pub after : new.state ≡ after_thread old.state t
  pub told : new.lines ≡ old.lines ++ thread_lines all old.state t
  pub put : new.objects ≡ old.objects ++ puts_by old.state t
  pub follow : EditsFollow old.edits new.edits old.state.catalog new.state.catalog

-- How far the archiving of all threads has come: n threads from t on are left.
pub record Goes (all : Bool) (first now : Reached) (t n : ℕ) : Type 0 where
  pub sound : IsSound now.state
  pub room : HasRoom now.state t n 0
  pub after : after_threads now.state t n ≡ after_all first.state
  pub told : now.lines ++ lines_from all now.state t n ≡ first.lines ++ lines_from all first.state 1 4
  pub put : now.objects ++ puts_from now.state t n ≡ first.objects ++ puts_from first.state 1 4
  pub follow : EditsFollow first.edits now.edits first.state.catalog now.state.catalog

-- all were archived
pub record Went (all : Bool) (first now : Reached) : Type 0 where
  pub sound : IsSound now.state
  pub after : now.state ≡ after_all first.state
  pub told : now.lines ≡ first.lines ++ lines_from all first.state 1 4
  pub put : now.objects ≡ first.objects ++ puts_from first.state 1 4
  pub follow : EditsFollow first.edits now.edits first.state.catalog now.state.catalog

goes-next : (all : Bool) (first now new : Reached) (t n : ℕ) → 0 < t → Goes all first now t (suc n) → IsTurn all now new t → Goes all first new (t + 1) n
goes-next all first now new t n low goes turn =
    let s : State = now.state in
    let at : State → Reached = λ q. record { state = q; lines = new.lines; objects = new.objects; edits = new.edits } in
    let to : Goes all first (at (after_thread s t)) (t + 1) n = record {
      sound = sound-thread s t n 0 goes.sound low goes.room;
      room = next-room s t n 0 goes.room;
      after = goes.after;
      told = ap (λ xs. xs ++ lines_from all (after_thread s t) (t + 1) n) turn.told ∙ append_assoc now.lines (thread_lines all s t) (lines_from all (after_thread s t) (t + 1) n) ∙ goes.told;
      put = ap (λ xs. xs ++ puts_from (after_thread s t) (t + 1) n) turn.put ∙ append_assoc now.objects (puts_by s t) (puts_from (after_thread s t) (t + 1) n) ∙ goes.put;
      follow = follows-then first.edits now.edits new.edits first.state.catalog s.catalog (after_thread s t).catalog goes.follow (coe 0 1 (i. EditsFollow now.edits new.edits s.catalog (turn.after i).catalog) turn.follow);
    } in
    subst (λ (q : State). Goes all first (at q) (t + 1) n) (sym turn.after) to

-- before the first of them
pub goes-first : (all : Bool) (first : Reached) → IsSound first.state → archiving_refusal first.state 0 ≡ None → Goes all first first 1 4
goes-first all first sound is = record { sound = sound; room = room-accepted first.state 0 sound.catalog.ledger.few is; after = refl; told = refl; put = refl; follow = record { lead = λ rs was. was } }

-- one turn of the loop
pub goes-turn : (all : Bool) (first now new : Reached) (t : ℕ) → 0 < t → t ≤ 4 → Goes all first now t (5 - t) → IsTurn all now new t → Goes all first new (t + 1) (5 - (t + 1))
goes-turn all first now new t low high goes turn =
    let e : 5 - t ≡ suc (5 - (t + 1)) = omega (arith, low, high) in
    goes-next all first now new t (5 - (t + 1)) low (subst (λ k. Goes all first now t k) e goes) turn

-- after the last of them
pub goes-last : (all : Bool) (first now : Reached) (t : ℕ) → 4 < t → Goes all first now t (5 - t) → Went all first now
goes-last all first now t past goes =
    let end : 5 - t ≡ 0 = omega (arith, past) in
    let done : Goes all first now t 0 = subst (λ k. Goes all first now t k) end goes in
    record { sound = done.sound; after = done.after; told = sym (append-nil now.lines) ∙ done.told; put = sym (append-nil now.objects) ∙ done.put; follow = done.follow }

-- What statements hand out

switch-by : (b : Bool) (s : State) (t : ℕ) (x : Handed) → x.lines ≡ cond b (made_lines s t) (none_lines t) → x.objects ≡ cond b (archived s.catalog.ledger.base.next_id (online s t)).puts [] → x.removes ≡ [] → is_due s t ≡ b
    → (held : Option Held) → Hands held s (SwitchLogfile t) x (cond b (with_archived s t) s)
switch-by true s t x lines objects removes due held = record {
  effect = archived s.catalog.ledger.base.next_id (online s t);
  comes = λ there is.
      ap (λ (ls : List Line). done ls (archived s.catalog.ledger.base.next_id (online s t)) (with_archived s t)) lines
      ∙ sym (ap (λ (b : Bool). cond b (done (made_lines s t) (archived s.catalog.ledger.base.next_id (online s t)) (with_archived s t)) (done (none_lines t) no_effect s)) due);
  puts = objects;
  removes = removes;
}
switch-by false s t x lines objects removes due held = record {
  effect = no_effect;
  comes = λ there is.
      ap (λ (ls : List Line). done ls no_effect s) lines
      ∙ sym (ap (λ (b : Bool). cond b (done (made_lines s t) (archived s.catalog.ledger.base.next_id (online s t)) (with_archived s t)) (done (none_lines t) no_effect s)) due);
  puts = objects;
  removes = removes;
}

pub hands_switch : (s q : State) (t : ℕ) (x : Handed) → IsThread s.instance.logs t → q ≡ after_thread s t → x.lines ≡ thread_lines true s t → x.objects ≡ puts_by s t → x.removes ≡ []
    → (held : Option Held) → Hands held s (SwitchLogfile t) x q
hands_switch s q t x there is lines objects removes held =
    let said = lines ∙ ap (λ b. cond (is_due s t) (made_lines s t) (cond b (none_lines t) [])) there.2 in
    subst (λ (y : State). Hands held s (SwitchLogfile t) x y) (sym is) (switch-by (is_due s t) s t x said objects removes refl held)

pub hands_all : (s q : State) (x : Handed) → q ≡ after_all s → x.lines ≡ lines_from true s 1 4 → x.objects ≡ puts_from s 1 4 → x.removes ≡ [] → (held : Option Held) → Hands held s ArchiveLogCurrent x q
hands_all s q x is lines objects removes held = record {
  effect = archiving s;
  comes = λ there same. (λ i. done (lines i) (archiving s) (is i));
  puts = objects;
  removes = removes;
}
