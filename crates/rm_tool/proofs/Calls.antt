-- What serving left, of the script that was read and the site that was opened.
use Rattle.std.{specs.Prelude.{IsErrOf}, proofs.Common.{◌≡◌, ℕ, Bool, List, Option, Some, None, Result, Err, if◌then◌else◌, sym, subst}}
use Rattle.rm_base.specs.Store.{Held}
use Rattle.rm_catalog.specs.declared.record.Record.{Record}
use Rattle.rm_lang_token.specs.{Statements.{statements}, declared.token.Token.{Token}}
use Rattle.rm_machine.specs.Machine.{Machine}
use Rattle.rm_machine_laws.specs.Holds.{View}
use Rattle.rm_tool_opening.specs.{Opens.{Opens, Shows}, Opening.{FromRest, TellsValid}}
use Rattle.rm_tool.specs.{Run.{Watch}, Serving.{FromEach, Closes, EndsInOutput, EndsMidway, at_saving, at_statement}}
use Rattle.rm_tool.specs.Session.{EndsEarly, Finishes, HasScript, OfOpened, OfScript, ScriptOf, in_output, midway}
use Rattle.rm_tool.specs.{Early.{Leaves, of_halt}, Words.{drill_of}, declared.early.Halt.{Halt}}
use Rattle.rm_tool.specs.declared.early.Halt.TheVariants as halt

-- what is so of each machine that the opened site stands for is so of the one that wakes
from-opening : (held : Option Held) (kept : Option (List Record)) (v : View) (Is : Machine → Type 0) → Opens held kept v → FromEach held kept v Is → FromRest held kept Is
from-opening held kept v Is opens each r holds tell = let o = opens r holds tell in (o.0, o.1, each o.0 o.2 o.3)

-- The site was opened over what there was, without a word to the sink, and the script was cut into statements: P speaks of what the store
-- and the keeper held, of what the sink held, and of the statements.
of-script : (P : Option Held → Option (List Record) → Option (List ℕ) → List (ℕ × List Token) → Type 0) (Q : List (ℕ × List Token) → Type 0)
    → (drill : Option ℕ) (left rest before mid : Option (List ℕ)) (held held' : Option Held) (kept kept' : Option (List Record)) (ss : List (ℕ × List Token)) (script : List ℕ)
    → ScriptOf drill left rest script → ss ≡ statements script → mid ≡ before → held' ≡ held → kept' ≡ kept → ((ts : List (ℕ × List Token)) → P held kept before ts → Q ts) → P held' kept' mid ss → OfScript drill left rest Q
of-script P Q drill left rest before mid held held' kept kept' ss script read cut silent held_same kept_same wakes is = record {
  script = script;
  read = read;
  is = wakes (statements script) (coe 0 1 (i. P (held_same i) (kept_same i) (silent i) (cut i)) is);
}

-- What a session leaves, from the machine on that wakes.
module _ {clock later : Watch} {before now : Option (List ℕ)} {held last_held : Option Held} {kept last_kept : Option (List Record)} (v : View) (opens : Opens held kept v) (ss : List (ℕ × List Token)) where
  closes-from : (drill : Option ℕ) (refused : Bool) → Closes (FromEach held kept v) v.state drill clock later before now held kept last_held last_kept refused ss → Closes (FromRest held kept) v.state drill clock later before now held kept last_held last_kept refused ss
  closes-from drill refused s = record {
    answers = s.answers;
    told = s.told;
    asked = s.asked;
    replies = s.replies;
    many = s.many;
    shown = s.shown;
    written = s.written;
    some = s.some;
    flags = s.flags;
    quiet = s.quiet;
    comes = s.comes;
    run = from-opening held kept v _ opens s.run;
  }

  midway-from : (drill : Option ℕ) → EndsMidway (FromEach held kept v) v.state drill clock later before now held kept last_held last_kept ss → EndsMidway (FromRest held kept) v.state drill clock later before now held kept last_held last_kept ss
  midway-from drill (at_statement s) = at_statement (record {
    answers = s.answers;
    told = s.told;
    asked = s.asked;
    replies = s.replies;
    written = s.written;
    statement = s.statement;
    next = s.next;
    quiet = s.quiet;
    comes = s.comes;
    run = from-opening held kept v _ opens s.run;
  })
  midway-from drill (at_saving s) = at_saving (record {
    answers = s.answers;
    told = s.told;
    asked = s.asked;
    replies = s.replies;
    many = s.many;
    shown = s.shown;
    written = s.written;
    quiet = s.quiet;
    comes = s.comes;
    run = from-opening held kept v _ opens s.run;
  })

-- the same, where the sink failed
output-from : (v : View) (held last_held : Option Held) (kept last_kept : Option (List Record)) (clock later : Watch) (before now : Option (List ℕ)) (ss : List (ℕ × List Token)) (drill : Option ℕ) → Opens held kept v
    → EndsInOutput (FromEach held kept v) v.state drill clock later before now held kept last_held last_kept ss → EndsInOutput (FromRest held kept) v.state drill clock later before now held kept last_held last_kept ss
output-from v held last_held kept last_kept clock later before now ss None opens s = record {
  answers = s.answers;
  told = s.told;
  replies = s.replies;
  last = s.last;
  many = s.many;
  asked = s.asked;
  part = s.part;
  within = s.within;
  flags = s.flags;
  written = s.written;
  quiet = s.quiet;
  comes = s.comes;
  run = from-opening held kept v _ opens s.run;
}
output-from v held last_held kept last_kept clock later before now ss (Some n) opens s = record {
  answers = s.answers;
  told = s.told;
  asked = s.asked;
  replies = s.replies;
  many = s.many;
  shown = s.shown;
  part = s.part;
  within = s.within;
  flags = s.flags;
  written = s.written;
  quiet = s.quiet;
  comes = s.comes;
  run = from-opening held kept v _ opens s.run;
}

-- The same of the script of the session, where the words say this drill.
module _ {said : Option ℕ} {left rest : Option (List ℕ)} {clock later : Watch} {before mid now : Option (List ℕ)} {held held' last_held : Option Held} {kept kept' last_kept : Option (List Record)} {ss : List (ℕ × List Token)} (drill : Option ℕ) (says : said ≡ drill) (script : List ℕ) (v : View)
    (read : ScriptOf drill left rest script) (cut : ss ≡ statements script) (silent : mid ≡ before) (held_same : held' ≡ held) (kept_same : kept' ≡ kept) (opens : Opens held kept v) (shows : Shows held kept v) where
  -- the status tells whether a statement was refused
  pub finishes : (refused : Bool) (status : ℕ) → status ≡ (if refused then 1 else 0) → Closes (FromEach held' kept' v) v.state drill clock later mid now held' kept' last_held last_kept refused ss
      → Finishes said left rest clock later before now held kept last_held last_kept status
  finishes refused status tells s =
      subst (λ (d : Option ℕ). Finishes d left rest clock later before now held kept last_held last_kept status) (sym says)
      (record {
        refused = refused;
        serves =
            of-script (λ h k b ts. Closes (FromEach h k v) v.state drill clock later b now h k last_held last_kept refused ts) (λ ts. OfOpened held kept (λ o. Closes (FromRest held kept) o drill clock later before now held kept last_held last_kept refused ts))
            drill left rest before mid held held' kept kept' ss script read cut silent held_same kept_same (λ ts is. (v, shows, closes-from v opens ts drill refused is)) s;
        tells = tells;
      })

  ends-midway : EndsMidway (FromEach held' kept' v) v.state drill clock later mid now held' kept' last_held last_kept ss → OfScript said left rest (λ ts. OfOpened held kept (λ o. EndsMidway (FromRest held kept) o said clock later before now held kept last_held last_kept ts))
  ends-midway s =
      subst (λ (d : Option ℕ). OfScript d left rest (λ ts. OfOpened held kept (λ o. EndsMidway (FromRest held kept) o d clock later before now held kept last_held last_kept ts))) (sym says)
      (of-script (λ h k b ts. EndsMidway (FromEach h k v) v.state drill clock later b now h k last_held last_kept ts) (λ ts. OfOpened held kept (λ o. EndsMidway (FromRest held kept) o drill clock later before now held kept last_held last_kept ts))
      drill left rest before mid held held' kept kept' ss script read cut silent held_same kept_same (λ ts is. (v, shows, midway-from v opens ts drill is)) s)

-- The same, where the sink failed.
module _ {said : Option ℕ} {left rest : Option (List ℕ)} {before mid : Option (List ℕ)} {held held' : Option Held} {kept kept' : Option (List Record)} {ss : List (ℕ × List Token)} (drill : Option ℕ) (says : said ≡ drill) (script : List ℕ) (v : View)
    (read : ScriptOf drill left rest script) (cut : ss ≡ statements script) (silent : mid ≡ before) (held_same : held' ≡ held) (kept_same : kept' ≡ kept) (opens : Opens held kept v) (shows : Shows held kept v) where
  ends-in-output : (clock later : Watch) (now : Option (List ℕ)) (last_held : Option Held) (last_kept : Option (List Record)) → EndsInOutput (FromEach held' kept' v) v.state drill clock later mid now held' kept' last_held last_kept ss → OfScript said left rest (λ ts. OfOpened held kept (λ o. EndsInOutput (FromRest held kept) o said clock later before now held kept last_held last_kept ts))
  ends-in-output clock later now last_held last_kept s =
      subst (λ (d : Option ℕ). OfScript d left rest (λ ts. OfOpened held kept (λ o. EndsInOutput (FromRest held kept) o d clock later before now held kept last_held last_kept ts))) (sym says)
      (of-script (λ h k b ts. EndsInOutput (FromEach h k v) v.state drill clock later b now h k last_held last_kept ts) (λ ts. OfOpened held kept (λ o. EndsInOutput (FromRest held kept) o drill clock later before now held kept last_held last_kept ts))
      drill left rest before mid held held' kept kept' ss script read cut silent held_same kept_same (λ ts is. (v, shows, output-from v held last_held kept last_kept clock later before now ts drill opens is)) s)

-- What a run leaves whose session ended early.
module _ (words : List (List ℕ)) (left rest : Option (List ℕ)) {before mid : Option (List ℕ)} {held held' : Option Held} {kept kept' : Option (List Record)} {ss : List (ℕ × List Token)} (drill : Option ℕ) (says : drill_of words ≡ drill) (script : List ℕ) (v : View)
    (read : ScriptOf drill left rest script) (cut : ss ≡ statements script) (silent : mid ≡ before) (held_same : held' ≡ held) (kept_same : kept' ≡ kept) (opens : Opens held kept v) (shows : Shows held kept v) (valid : TellsValid kept)
    (clock later : Watch) (now : Option (List ℕ)) (last_held : Option Held) (last_kept : Option (List Record)) where
  abbrev Midway : Type 0
  Midway = EndsMidway (FromEach held' kept' v) v.state drill clock later mid now held' kept' last_held last_kept ss

  left-midway : Midway → EndsEarly (drill_of words) left rest clock later before now held kept last_held last_kept
  left-midway s = midway valid (ends-midway drill says script v read cut silent held_same kept_same opens shows s)

  pub in-session : (e : Halt) {A : Type 0} {served : Result A Halt} → served ≡ Err e
      → (IsErrOf served halt.Sink → EndsInOutput (FromEach held' kept' v) v.state drill clock later mid now held' kept' last_held last_kept ss)
      → (IsErrOf served halt.Store → Midway) → (IsErrOf served halt.Keeper → Midway) → (IsErrOf served halt.NoMemory → Midway)
      → Leaves words left rest clock later before now held kept last_held last_kept (of_halt e)
  in-session halt.Sink was sink store keeper memory =
      in_output valid (ends-in-output drill says script v read cut silent held_same kept_same opens shows clock later now last_held last_kept (sink was))
  in-session halt.Store was sink store keeper memory = (valid, left-midway (store was))
  in-session halt.Keeper was sink store keeper memory = left-midway (keeper was)
  in-session halt.NoMemory was sink store keeper memory = left-midway (memory was)

-- there is a script, where the words say this drill
pub has-script : {said : Option ℕ} (left rest : Option (List ℕ)) {drill : Option ℕ} → said ≡ drill → (script : List ℕ) → ScriptOf drill left rest script → HasScript said left rest
has-script left rest says script read = subst (λ (d : Option ℕ). HasScript d left rest) (sym says) (script, read)
