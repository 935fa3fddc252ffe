-- ENABLE and DISABLE BLOCK CHANGE TRACKING lead on: the setting changes, and changes are tracked anew or no longer.
use Rattle.std.proofs.Common.{ℕ, Bool, List, refl, arith}
use Rattle.rm_base.specs.{Store.{Held}, declared.block.Change.{Change}}
use Rattle.rm_catalog_typed.{specs.Facts.{IsTypedCatalog}, proofs.Fitted.{base_fits}}
use Rattle.rm_lang_statement.specs.declared.command.Command.TheVariants.{Tracking}
use Rattle.rm_machine.specs.{Effect.{Made}, Machine.{HistoryFits, IsBorneOut}, Sound.{IsSound}, Tracking.{with_tracking}, State.{ledger}}
use Rattle.rm_machine.{specs.declared.state.State.{State}, proofs.{Damaged.{damaged-same}, Tracked.{tracked-fresh}, FirstTold.{tell-first}}}
use Rattle.rm_machine_laws.proofs.{Leading.{LeadsOnBy, StaysBy}, Quiet.{quiet-on, quiet-stays}}

module _ (s : State) (on : Bool) (sound : IsSound s) where
  abbrev q : State
  q = with_tracking s on

  setting-fits : IsTypedCatalog q.catalog
  setting-fits =
      let is = sound.catalog.ledger in
      base_fits s.catalog (record (ledger s).base { tracking = on }) sound.catalog (record {
        facts = record { dbid = is.base.dbid; threads = is.base.threads; next_id = is.base.next_id; moment = is.base.moment; policy = is.base.policy; parallelism = is.base.parallelism };
        current = is.current;
        threads = refl;
        next_id = omega arith;
        moment = omega arith;
      })

  sound-set : IsSound q
  sound-set = record {
    catalog = setting-fits;
    dbid = sound.dbid;
    place = record { many = sound.place.many; each = sound.place.each };
    logs = record { dbid = sound.logs.dbid; there = sound.logs.there; four = sound.logs.four; threads = sound.logs.threads; gone = sound.logs.gone; each = sound.logs.each };
    damaged = damaged-same s q sound.damaged;
    tracker = tracked-fresh q setting-fits refl;
    in_open = λ opened. let was = sound.in_open opened in record { inc = was.inc; found = was.found; point = was.point };
    point = λ at here. let was = sound.point at here in record { low = was.low; high = was.high; stands = was.stands };
  }

  fits-set : (h : List Change) → HistoryFits s h → HistoryFits q h
  fits-set h is = record {
    history = is.history;
    below = is.below;
    online = is.online;
    place = is.place;
    tracker = tell-first (ledger q) s.instance.is_open h is.below;
    in_open = is.in_open;
    point = is.point;
  }

  borne-set : (h : List Change) (objects : Held) (made : List Made) (touched : List (List ℕ)) → IsBorneOut s h objects made touched → IsBorneOut q h objects made touched
  borne-set h objects made touched is = record {
    state = sound-set;
    keeps = fits-set h is.keeps;
    artefacts = is.artefacts;
    records = record { logs = is.records.logs; pieces = is.records.pieces; sets = is.records.sets };
  }

pub tracking-on : (on : Bool) → LeadsOnBy (Tracking on)
tracking-on on s h objects made touched said e t after well stands tell none does effect =
    quiet-on (with_tracking s on) h objects made touched _ said e t after does effect (borne-set s on stands.state h objects made touched stands)

pub tracking-stays : (on : Bool) → StaysBy (Tracking on)
tracking-stays on s objects said e t well sound none accepted does = quiet-stays (with_tracking s on) _ said e t does (sound-set s on sound) none
