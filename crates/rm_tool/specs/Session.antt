-- What a whole call of `run` leaves.
use Rattle.std.specs.Prelude.{ℕ, ◌≡◌, ◌⊎◌, ◌<◌, Bool, false, Option, Some, None, List, [], ◌∷◌, ◌++◌, codes, if◌then◌else◌, IfSome, length}
use Rattle.rm_base.specs.{Outside.{HasTaken}, Store.{Held}}
use Rattle.rm_catalog.specs.declared.record.Record.{Record}
use Rattle.rm_drill.specs.Script.{script_text}
use Rattle.rm_lang_token.specs.{Statements.{statements}, declared.token.Token.{Token}}
use Rattle.rm_machine.specs.declared.state.State.{State}
use Rattle.rm_machine_laws.specs.Holds.{View}
use Rattle.rm_tool_opening.specs.{Opens.{Shows}, Untouched.{AreSame}, Opening.{BeginsBadRecord, FromRest, TellsValid}}
use Rattle.rm_tool.specs.{Run.{Watch}, Serving.{Closes, EndsInOutput, EndsMidway}, Words.{accepts, drill_of}}
use Rattle.rm_tool_ends.specs.Writing.{WritesFront, bad_words}

-- the line of status 8
abbrev pub over_long : List ℕ
over_long = codes "rman: script over 4194304 bytes" ++ 10 ∷ []

-- 0 or 1: the script was read to its end, and each statement was answered
abbrev pub IsDone : ℕ → Type 0
IsDone status = (status ≡ 0) ⊎ (status ≡ 1)

-- 2, 3, 8 or 9: no statement was reached
abbrev pub IsEarly : ℕ → Type 0
IsEarly status = (status ≡ 2) ⊎ (status ≡ 3) ⊎ (status ≡ 8) ⊎ (status ≡ 9)

-- no statement ran: the clock was not asked, and the store and the keeper hold what they held
abbrev pub NoneRan : Watch → Watch → Option Held → Option (List Record) → Option Held → Option (List Record) → Type 0
NoneRan clock later held kept held' kept' = (later ≡ clock) × AreSame held kept held' kept'

-- Whatever the store and the keeper hold: a site was opened that shows what they hold, and this is so of its database.
abbrev pub OfOpened : Option Held → Option (List Record) → (Option State → Type 0) → Type 0
OfOpened held kept Is = (site : View) × Shows held kept site × Is site.state

-- A script was taken from the source: all that was left, where the source tells it.
pub record Script (left rest : Option (List ℕ)) (script : List ℕ) : Type 0 where
  pub taken : HasTaken left rest script
  pub whole : IfSome left (λ bytes. bytes ≡ script)

-- the script of a session: what was taken from the source, or of a drill its own, and then the source has what it had
abbrev pub ScriptOf : Option ℕ → Option (List ℕ) → Option (List ℕ) → List ℕ → Type 0
ScriptOf None left rest script = Script left rest script
ScriptOf (Some n) left rest script = (script ≡ script_text n) × (rest ≡ left)

-- there is some script
abbrev pub HasScript : Option ℕ → Option (List ℕ) → Option (List ℕ) → Type 0
HasScript drill left rest = (script : List ℕ) × ScriptOf drill left rest script

-- there is a script, and this is so of its statements
pub record OfScript (drill : Option ℕ) (left rest : Option (List ℕ)) (Is : List (ℕ × List Token) → Type 0) : Type 0 where
  pub script : List ℕ
  pub read : ScriptOf drill left rest script
  pub is : Is (statements script)

-- Status 0 and 1: each statement of the script has its reply, and exactly these were written, or of a drill its line. The status tells whether one of them is a
-- refusal. From whatever database at rest the store and the keeper hold the machine ran over the statements with the clock's answers, and
-- these are its replies. Then the session ended, and the store and the keeper hold what is at rest. And whatever they hold the replies are
-- those of the statements, by what is at hand at each.
pub record Finishes (drill : Option ℕ) (left rest : Option (List ℕ)) (clock later : Watch) (before now : Option (List ℕ)) (held : Option Held) (kept : Option (List Record)) (held' : Option Held) (kept' : Option (List Record)) (status : ℕ) : Type 0 where
  pub refused : Bool
  pub serves : OfScript drill left rest (λ ss. OfOpened held kept (λ o. Closes (FromRest held kept) o drill clock later before now held kept held' kept' refused ss))
  pub tells : status ≡ (if refused then 1 else 0)

-- Status 5, 6 and 7: the call ended before the first statement, with nothing written and no statement run; or at a
-- statement, and what was written are exactly the replies to those before it, of a drill nothing; or at the save, after all that is written. The store and
-- the keeper hold what is left.
pub data EndsEarly (drill : Option ℕ) (left rest : Option (List ℕ)) (clock later : Watch) (before now : Option (List ℕ)) (held : Option Held) (kept : Option (List Record)) (held' : Option Held) (kept' : Option (List Record)) : Type 0 where
  before_statements : now ≡ before → NoneRan clock later held kept held' kept' → EndsEarly drill left rest clock later before now held kept held' kept'
  midway : TellsValid kept → OfScript drill left rest (λ ss. OfOpened held kept (λ o. EndsMidway (FromRest held kept) o drill clock later before now held kept held' kept' ss)) → EndsEarly drill left rest clock later before now held kept held' kept'

-- Status 4: what was written is a front of the line of status 2, 8 or 9, not all of it, and no statement ran; or the sink failed in what the
-- session writes.
pub data WritesPart (words : List (List ℕ)) (left rest : Option (List ℕ)) (clock later : Watch) (before now : Option (List ℕ)) (held : Option Held) (kept : Option (List Record)) (held' : Option Held) (kept' : Option (List Record)) : Type 0 where
  in_bad_words : accepts words ≡ false → NoneRan clock later held kept held' kept' → WritesFront before now bad_words → WritesPart words left rest clock later before now held kept held' kept'
  in_over_long : IfSome left (λ bytes. 4194304 < length bytes) → NoneRan clock later held kept held' kept' → WritesFront before now over_long → WritesPart words left rest clock later before now held kept held' kept'
  in_bad_record : NoneRan clock later held kept held' kept' → BeginsBadRecord kept before now → WritesPart words left rest clock later before now held kept held' kept'
  in_output : TellsValid kept → OfScript (drill_of words) left rest (λ ss. OfOpened held kept (λ o. EndsInOutput (FromRest held kept) o (drill_of words) clock later before now held kept held' kept' ss)) → WritesPart words left rest clock later before now held kept held' kept'
