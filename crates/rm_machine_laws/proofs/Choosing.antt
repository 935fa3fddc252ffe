-- RESET DATABASE leads on: another incarnation is chosen.
use Rattle.std.proofs.{Common.{◌≡◌, ◌∙◌, ◌&&◌, ℕ, List, [], Some, None, false, ap, sym, subst, length, rules}, lemmas.Bool.{false≢true}}
use Rattle.rm_base.specs.{Store.{Held}, declared.block.Change.{Change}}
use Rattle.rm_blocks.specs.File.{base_of}
use Rattle.rm_history.specs.{Agrees.{BaseAgrees}, Tree.{IsThere}}
use Rattle.rm_track.specs.Told.{Tell}
use Rattle.rm_catalog_typed.{specs.Facts.{IsTypedCatalog}, proofs.Current.{current-kept}}
use Rattle.rm_machine.specs.{Effect.{Made}, Machine.{HistoryFits, IsBorneOut}, ResetDatabase.{at_incarnation, reset_refusal}}
use Rattle.rm_machine.specs.{Sound.{IsPlaced, IsSound}, State.{current_of, now_of, world}, declared.state.State.{State}}
use Rattle.rm_machine.proofs.{Damaged.{damaged-none}, Tracked.{tracked-none}, FirstTold.{tell-none}, Places.{counted-closed}}
use Rattle.rm_machine.proofs.Threads.{number-within}
use Rattle.rm_lang_statement.specs.declared.command.Command.TheVariants.{ResetDatabase}
use Rattle.rm_machine_laws.proofs.{CountedLogs.{counted-agree, counted-online}, Leading.{LeadsOnBy, StaysBy}, Quiet.{quiet-on, quiet-stays}}

pub record CanChoose (s : State) (i : ℕ) : Type 0 where
  pub shut : s.instance.is_open ≡ false
  pub there : IsThere s.catalog.ledger.tree i

pub can-choose : (s : State) (i : ℕ) → reset_refusal s i ≡ None → CanChoose s i
can-choose s i is = record { shut = search rules; there = number-within (length s.catalog.ledger.tree) i (search rules) }

module _ (s : State) (i : ℕ) (sound : IsSound s) (can : CanChoose s i) where
  abbrev q : State
  q = at_incarnation s i

  catalog-after : IsTypedCatalog q.catalog
  catalog-after = current-kept s.catalog i sound.catalog can.there

  -- no change is tracked in a database that is not open
  untracked : s.instance.tracker ≡ []
  untracked = sound.tracker.idle (ap (λ b. b && s.catalog.ledger.base.tracking) can.shut)

  sound-chosen : IsSound q
  sound-chosen =
      let logs = counted-online s i can.there sound.logs in
      record {
        catalog = catalog-after;
        dbid = sound.dbid;
        place = record {
          many = sound.place.many;
          each = λ k d x file held. subst (IsPlaced s.catalog.ledger.tree k d) (counted-closed s x can.shut ∙ sym (counted-closed q x can.shut)) (sound.place.each k d x file held);
        };
        logs = record { dbid = logs.dbid; there = logs.there; four = logs.four; threads = logs.threads; gone = logs.gone; each = logs.each };
        damaged = damaged-none q (sound.damaged.idle can.shut);
        tracker = tracked-none q (ap (λ b. b && s.catalog.ledger.base.tracking) can.shut) untracked;
        in_open = λ mode. absurd (false≢true (sym can.shut ∙ mode));
        point = λ at is. absurd (let e : None ≡ Some at = is in cc);
      }

  keeps-chosen : (h : List Change) → HistoryFits s h → HistoryFits q h
  keeps-chosen h keeps = record {
    history = keeps.history;
    below = keeps.below;
    online = counted-agree s i can.there sound.logs h keeps.online;
    place = λ f x is none. subst (λ y. BaseAgrees (world s) h (base_of y)) (counted-closed s x can.shut ∙ sym (counted-closed q x can.shut)) (keeps.place f x is none);
    tracker = subst (Tell (current_of q) h (now_of q)) (sym untracked) (tell-none (current_of q) h (now_of q));
    in_open = λ mode. absurd (false≢true (sym can.shut ∙ mode));
    point = λ at is. absurd (let e : None ≡ Some at = is in cc);
  }

  stands-chosen : (h : List Change) (objects : Held) (made : List Made) (touched : List (List ℕ)) → IsBorneOut s h objects made touched → IsBorneOut q h objects made touched
  stands-chosen h objects made touched stands = record {
    state = sound-chosen;
    keeps = keeps-chosen h stands.keeps;
    artefacts = stands.artefacts;
    records = record { logs = stands.records.logs; pieces = stands.records.pieces; sets = stands.records.sets };
  }

pub choose-on : (i : ℕ) → LeadsOnBy (ResetDatabase i)
choose-on i s h objects made touched said e t after well stands tell none does effect =
    quiet-on (at_incarnation s i) h objects made touched _ said e t after does effect (stands-chosen s i stands.state (can-choose s i none) h objects made touched stands)

pub choose-stays : (i : ℕ) → StaysBy (ResetDatabase i)
choose-stays i s objects said e t well sound none accepted does = quiet-stays (at_incarnation s i) _ said e t does (sound-chosen s i sound (can-choose s i accepted)) none
