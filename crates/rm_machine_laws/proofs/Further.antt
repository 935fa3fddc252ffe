-- One SCN further: the current incarnation of an open database ends one SCN later, behind the mark of `now`.
use Rattle.std.proofs.Common.{◌≡◌, ◌<◌, ◌≤◌, ◌+◌, ◌∙◌, ℕ, List, Some, false, refl, ap, sym, subst, arith, All}
use Rattle.std.proofs.lemmas.List.Elements.{All-weaker}
use Rattle.rm_base.specs.declared.block.Change.{Change}
use Rattle.rm_blocks.specs.File.{File}
use Rattle.rm_history.specs.{State.{state}, Threads.{IsEnabled}, Tree.{IsThere, end_of, owner, reset_of}}
use Rattle.rm_history.{specs.declared.tree.Incarnation.{Incarnation}, proofs.Below.{Further, agrees-further, below-risen, state-end}}
use Rattle.rm_history.proofs.{Histories.{IsHistory-with_end, state-with_end}, Owners.{owner-here}}
use Rattle.rm_history.proofs.Worlds.{BaseAgrees-with_end, Level1Agrees-with_end}
use Rattle.rm_catalog_typed.{specs.Switches.{is_enabled_in}, proofs.Trees.{Keeps, parents_below}}
use Rattle.rm_redo.specs.{LogFile.{log_of}, Online.{IsThread}}
use Rattle.rm_machine.specs.{Damage.{has_block}, Machine.{HistoryFits, SoundRowsAre}, Sound.{IsSound}}
use Rattle.rm_machine.specs.{State.{ledger, world, now_of, redo_end, placed, online}, declared.state.State.{State}}
use Rattle.rm_machine.proofs.Further.{GoesOn, inc-now}
use Rattle.rm_machine.proofs.Further as shared
use Rattle.rm_machine_laws.proofs.{Bitmaps.{tell-later}, Grown.{SameHistory}, DamagedRows.{sound-agrees}}

-- each change lies below the end up to which the logs of its incarnation tell
pub below-redo : (s : State) (h : List Change) → All (λ c. c.scn < end_of s.catalog.ledger.tree c.inc) h → All (λ c. c.inc ≡ s.instance.logs.inc → c.scn < redo_end s) h
below-redo s h below =
    All-weaker (λ c. c.scn < end_of s.catalog.ledger.tree c.inc) (λ c. c.inc ≡ s.instance.logs.inc → c.scn < redo_end s)
    (λ c low same. subst (λ j. c.scn < end_of s.catalog.ledger.tree j) same low) h below

module _ (s : State) (sound : IsSound s) (on : GoesOn s) where
  abbrev i : ℕ
  i = shared.i s sound on

  abbrev now : ℕ
  now = shared.now s sound on

  abbrev old : List Incarnation
  old = shared.old s sound on

  abbrev q : State
  q = shared.q s sound on

  abbrev tree : List Incarnation
  tree = shared.tree s sound on

  there : IsThere old i
  there = shared.there s sound on

  range : (1 ≤ reset_of old i) × (reset_of old i ≤ now)
  range = let is = sound.catalog.ledger.incarnations.ranges i there in (is.0, is.1)

  keeps-further : Keeps old tree
  keeps-further = shared.keeps-further s sound on

  now-further : now_of q ≡ now + 1
  now-further = shared.now-further s sound on

  -- `now` is owned by the current incarnation
  pub owns-now : owner old i now ≡ i
  owns-now = owner-here old (parents_below old sound.catalog.ledger.incarnations) i now there.0 range.1

  -- a thread that has a log is enabled there
  pub enabled-now : (t : ℕ) → IsThread s.instance.logs t → IsEnabled (world s) i now t
  enabled-now t is =
      let few : t ≤ 4 = omega (arith, is.1, sound.logs.four) in
      record {
        number = (is.0, few);
        on = sym (sound.logs.threads t is.0 few ∙ ap (λ j. is_enabled_in (ledger s) j (end_of old j) t) (inc-now s sound on)) ∙ is.2;
      }

  module _ (h : List Change) (keeps : HistoryFits s h) where
    pub state-further : (f b : ℕ) → state (world q) h i (now_of q) f b ≡ state (world s) h i now f b
    state-further f b =
        ap (λ n. state (world q) h i n f b) now-further
        ∙ state-with_end (world s) i (now + 1) h i (now + 1) f b there ∙ state-end (world s) h i f b owns-now keeps.below

    pub rows-further : (f : ℕ) (x : File) → placed s f ≡ Some x → SoundRowsAre s.instance.damaged (world q) h i (now_of q) x
    rows-further f x is =
        All-weaker (λ r. has_block s.instance.damaged x.file r.block ≡ false → r ≡ state (world s) h i now x.file r.block) (λ r. has_block s.instance.damaged x.file r.block ≡ false → r ≡ state (world q) h i (now_of q) x.file r.block)
        (λ r was clear. was clear ∙ sym (state-further x.file r.block)) x.rows (keeps.in_open on.opened f x is)

    logs-further : (t : ℕ) → Further (log_of (online s t)) (log_of (online q t))
    logs-further t = record { inc = refl; thread = refl; first = refl; next = keeps-further.end s.instance.logs.inc sound.logs.there }

    pub fits-further : HistoryFits q h
    fits-further = record {
      history = IsHistory-with_end (world s) i (now + 1) h there keeps.history;
      below = below-risen old i (now + 1) h there (omega arith) (λ c held. (keeps.history.changes c held).there) keeps.below;
      online = λ t is found. agrees-further h (log_of (online s t)) (log_of (online q t)) (logs-further t) refl (below-redo s h keeps.below) (keeps.online t is found);
      place = λ f x is none. sound-agrees q h x on.opened (rows-further f x is) none;
      tracker = tell-later i h now (now_of q) s.instance.tracker (omega (arith, now-further)) keeps.tracker;
      in_open = λ _ f x is. rows-further f x is;
      point = λ n is. let none = (sound.in_open on.opened).point in absurd (cc);
    }

  -- what was recorded stays true
  pub same-further : (h : List Change) → SameHistory (world s) (world q) h
  same-further h = record {
    keeps = keeps-further;
    files = omega arith;
    base = λ a known inside agrees. BaseAgrees-with_end (world s) i (now + 1) h a there agrees;
    level1 = λ a known inside agrees. Level1Agrees-with_end (world s) i (now + 1) h a there agrees;
  }
