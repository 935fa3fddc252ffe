-- OPEN RESETLOGS leads on: logs are archived, and the tree gains an incarnation.
use Rattle.std.proofs.Common.{◌≡◌, ◌<◌, ◌∙◌, ◌++◌, ℕ, List, Option, Some, None, true, IsSomeAnd, All, refl, sym, subst, arith, get_or}
use Rattle.std.proofs.lemmas.List.Elements.{All-weaker, Contains-get_or}
use Rattle.rm_base.specs.{Store.{Held}, declared.block.{Change.{Change}, Row.{Row}}}
use Rattle.rm_blocks.specs.File.{File, base_of}
use Rattle.rm_lang_statement.specs.declared.command.Command.TheVariants.{OpenResetlogs}
use Rattle.rm_history.specs.{Agrees.{BaseAgrees, LogAgrees}, State.{state}, Tree.{HasParentsBelow, end_of}}
use Rattle.rm_history.proofs.Branches.{end_of-with_branch}
use Rattle.rm_history.proofs.Worlds.{BaseAgrees-with_branch, IsHistory-with_branch, Level1Agrees-with_branch, state-branched}
use Rattle.rm_catalog_typed.proofs.Trees.{keeps_branch, parents_below}
use Rattle.rm_redo.specs.{LogFile.{log_of}, Online.{IsThread}}
use Rattle.rm_report.specs.declared.line.Line.{Line}
use Rattle.rm_machine.specs.{Archive.{after_all, archiving}, Effect.{Effect, Made, done}, Machine.{HistoryFits, IsBorneOut, RowsAre}}
use Rattle.rm_machine.specs.{OpenResetlogs.{branched_off, resetlogs_lines}, Sound.{IsSound}}
use Rattle.rm_machine.specs.{State.{current_of, now_of, online, placed, world}, declared.state.State.{State}}
use Rattle.rm_machine.proofs.{BranchesSound.{CanBranchAt}, FirstTold.{tell-first}, Places.{counted-open}}
use Rattle.rm_machine.proofs.Branching.{after-archiving, can-after, can-reset}
use Rattle.rm_machine_laws.proofs.{Archives.{threads-stand}, BranchesSound.{enabled, end-branched, sound-branched}}
use Rattle.rm_machine_laws.proofs.{DamagedRows.{but-damaged}, FreshLogs.{fresh-empty, fresh-first}, Grown.{SameHistory, true-on}}
use Rattle.rm_machine_laws.proofs.{Leading.{LeadsOnBy, StaysBy}, Opened.{kept-rows, rows-agree}, Switching.{empty-agrees}}
use Rattle.rm_machine_laws.proofs.Quiet.{same-stays, unchanged}

module _ (s : State) (at : ℕ) (h : List Change) (sound : IsSound s) (keeps : HistoryFits s h) (can : CanBranchAt s at) where
  abbrev i : ℕ
  i = current_of s

  abbrev q : State
  q = branched_off s at

  parents : HasParentsBelow s.catalog.ledger.tree
  parents = parents_below s.catalog.ledger.tree sound.catalog.ledger.incarnations

  end : now_of q ≡ at
  end = end-branched s at sound can

  -- what is kept in place has the state at the beginning of the new incarnation
  rows : (f : ℕ) (x : File) → placed q f ≡ Some x → RowsAre (world q) h (current_of q) (now_of q) x
  rows f x is =
      subst (λ n. RowsAre (world q) h (current_of q) n x) (sym end)
      (All-weaker (λ (r : Row). r ≡ state (world s) h i at x.file r.block) (λ (r : Row). r ≡ state (world q) h (current_of q) at x.file r.block)
      (λ r same. same ∙ sym (state-branched (world s) i at parents sound.catalog.ledger.current h at x.file r.block (omega arith))) x.rows (kept-rows s at h sound keeps can.here f x is))

  online-branched : (t : ℕ) → IsThread q.instance.logs t → LogAgrees h (log_of (online q t))
  online-branched t there =
      let dbid = s.catalog.ledger.base.dbid in
      let first = fresh-first dbid (current_of q) (enabled s at) at t (now_of q) there in
      empty-agrees h (online q t) (fresh-empty dbid (current_of q) (enabled s at) at t (now_of q) there) (omega (arith, first, end))

  below-branched : All (λ c. c.scn < end_of q.catalog.ledger.tree c.inc) h
  below-branched k d inside =
      let low = keeps.below k d inside in
      let c : Change = get_or h k d in
      let there = (keeps.history.changes c (Contains-get_or h k d inside)).there in
      subst (λ n. c.scn < n) (sym (end_of-with_branch s.catalog.ledger.tree i at c.inc there)) low

  keeps-branched : HistoryFits q h
  keeps-branched = record {
    history = IsHistory-with_branch (world s) i at parents sound.catalog.ledger.current h keeps.history;
    below = below-branched;
    online = λ t there found. online-branched t there;
    place = λ f x is none. subst (λ y. BaseAgrees (world q) h (base_of y)) (sym (counted-open q x refl)) (rows-agree (world q) h (current_of q) (now_of q) x (rows f x is));
    tracker = tell-first q.catalog.ledger true h below-branched;
    in_open = λ opened f x is. but-damaged q.instance.damaged (world q) h (current_of q) (now_of q) x (rows f x is);
    point = λ n none. absurd (let e : None ≡ Some n = none in cc);
  }

  same : SameHistory (world s) (world q) h
  same = record {
    keeps = keeps_branch s.catalog.ledger.tree i at parents sound.catalog.ledger.current;
    files = omega arith;
    base = λ a there file agrees. BaseAgrees-with_branch (world s) i at parents sound.catalog.ledger.current h a there agrees;
    level1 = λ a there file agrees. Level1Agrees-with_branch (world s) i at parents sound.catalog.ledger.current h a there agrees;
  }

  pub borne-branched : (objects : Held) (made : List Made) (touched : List (List ℕ)) → IsBorneOut s h objects made touched → IsBorneOut q h objects made touched
  borne-branched objects made touched stands = record {
    state = sound-branched s at sound can;
    keeps = keeps-branched;
    artefacts = λ a has. true-on (world s) (world q) h same a.artefact (stands.artefacts a has);
    records = record { logs = stands.records.logs; pieces = stands.records.pieces; sets = stands.records.sets };
  }

-- Why it was not refused

-- the point at which it opens
came : (s : State) (at : ℕ) (said : List Line) (e : Effect) (t : State) → s.instance.point ≡ Some at → IsSomeAnd s.instance.point (λ n. done said e t ≡ done (resetlogs_lines s n) (archiving s) (branched_off (after_all s) n))
    → done said e t ≡ done (resetlogs_lines s at) (archiving s) (branched_off (after_all s) at)
came s at said e t here is = subst (λ (o : Option ℕ). IsSomeAnd o (λ n. done said e t ≡ done (resetlogs_lines s n) (archiving s) (branched_off (after_all s) n))) here is

pub resets-on : LeadsOnBy OpenResetlogs
resets-on s h objects made touched said e t after well stands tell none does effect =
    let can = can-reset s stands.state none in
    let q : State = after_all s in
    let is = after-archiving s stands.state can in
    let by = came s can.at said e t can.here does in
    unchanged (branched_off q can.at) (archiving s) h objects made touched e t after refl (cc) (cc) effect (λ left.
    let mid : IsBorneOut q h after (made ++ (archiving s).made) touched =
    threads-stand 4 1 s h objects made touched after 2 (omega arith) can.room stands (λ name. left.removes name ∙ left.puts name) in
    borne-branched q can.at h is.sound mid.keeps (can-after s can is) after (made ++ (archiving s).made) touched mid)

pub resets-stays : StaysBy OpenResetlogs
resets-stays s objects said e t well sound none accepted does =
    let can = can-reset s sound accepted in
    let is = after-archiving s sound can in
    let by = came s can.at said e t can.here does in
    same-stays (branched_off (after_all s) can.at) t (cc) (sound-branched (after_all s) can.at is.sound (can-after s can is)) (is.beside.saved ∙ none)
