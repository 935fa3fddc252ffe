-- A new database is sound.
use Rattle.std.proofs.Common.{◌≡◌, ◌<◌, ◌≤◌, ◌^◌, ◌∙◌, nat_le, ℕ, [], Some, None, refl, ap, sym, arith}
use Rattle.rm_base.{specs.{Numbers.{last_scn, last_moment}, Store.{Held}}, proofs.Members.{none-in}}
use Rattle.rm_catalog_typed.proofs.Fresh.{fresh_is_ledger}
use Rattle.rm_history.proofs.Enabled.{unswitched}
use Rattle.rm_redo.specs.{LogFile.{changes_in}, Online.{fresh_log, up_to}}
use Rattle.rm_machine.specs.{CreateDatabase.{fresh_machine, fresh_state}, Machine.{HistoryFits, IsSoundMachine}, Sound.{IsSound}}
use Rattle.rm_machine.{specs.declared.state.State.{State}, proofs.{Damaged.{damaged-none}, Threads.{all-where_gone, where-there}}}
use Rattle.rm_machine.proofs.{Tracked.{tracked-none}, FirstTold.{tell-none}}
use Rattle.rm_machine_laws.proofs.FreshLogs.{fresh-empty, fresh-found, fresh-online}

module _ (dbid threads scn moment : ℕ) (some : 1 ≤ dbid) (small : dbid < 2 ^ 32) (least : 1 ≤ threads) (most : threads ≤ 4) (first : 1 ≤ scn) (last : scn ≤ last_scn) (kept : moment ≤ last_moment) where
  abbrev s : State
  s = fresh_state dbid threads scn moment

  sound-fresh : IsSound s
  sound-fresh = record {
    catalog = record { ledger = fresh_is_ledger dbid threads scn moment some least most first last kept; saved = tt };
    dbid = small;
    place = record { many = refl; each = λ k d x file held. absurd (cc) };
    logs = record {
      dbid = refl;
      there = (omega arith, omega arith);
      four = refl;
      threads = λ t low high. where-there dbid 1 (fresh_log scn) refl (λ u. nat_le u threads) t low high ∙ sym (unswitched s.catalog.ledger.tree threads 1 scn t);
      gone = all-where_gone dbid 1 (fresh_log scn) refl (λ u. nat_le u threads);
      each = λ t is found. fresh-online dbid 1 (up_to threads) scn s.catalog.ledger.tree t scn some small (omega arith) (omega arith) first last (omega arith) is.1 is refl;
    };
    damaged = damaged-none s refl;
    tracker = tracked-none s refl refl;
    in_open = λ opened. record { inc = refl; found = fresh-found dbid 1 (up_to threads) scn; point = refl };
    point = λ at here. absurd (let none : None ≡ Some at = here in cc);
  }

  keeps-fresh : HistoryFits s []
  keeps-fresh = record {
    history = record { changes = λ c held. absurd (none-in c held); apart = λ i j d less inside. absurd (omega (arith, inside)) };
    below = λ k d inside. absurd (omega (arith, inside));
    online = λ t is found. ap (changes_in 1 t) (fresh-empty dbid 1 (up_to threads) scn t scn is);
    place = λ f x held none. absurd (cc);
    tracker = tell-none 1 [] scn;
    in_open = λ opened f x held. absurd (cc);
    point = λ at here. absurd (let none : None ≡ Some at = here in cc);
  }

  pub fresh-sound : (objects : Held) → IsSoundMachine (fresh_machine objects dbid threads scn moment)
  fresh-sound objects = record {
    state = sound-fresh;
    keeps = keeps-fresh;
    artefacts = λ a has. absurd (none-in a has);
    records = record { logs = λ e has. absurd (none-in e has); pieces = λ e has. absurd (none-in e has); sets = λ e has. absurd (none-in e has) };
  }
