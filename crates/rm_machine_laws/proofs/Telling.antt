-- A statement that only tells is never done: nothing is to be shown of what it leaves.
use Rattle.std.proofs.Common.{◌≡◌, ℕ, List, Option, Some, None, true, inl, inr}
use Rattle.rm_base.specs.Store.{Held}
use Rattle.rm_lang_statement.specs.declared.command.Command.{Command}
use Rattle.rm_lang_statement.specs.declared.command.Command.TheVariants.{Dump, ListArchived, ListBackup, ListCopy, ListCorruption, ListIncarnation, Preview, RecoverTest, ReportNeedBackup, ReportObsolete, ReportSchema, ShowAll, ValidateAll}
use Rattle.rm_report.specs.declared.line.Line.{Line}
use Rattle.rm_machine.specs.{Effect.{Effect, done}, Laws.{only_tells}, Recover.{recover_target}, RecoverTest.{TestsTo, test_target, tested}}
use Rattle.rm_machine.specs.{Restore.{PreviewsTo}, Step.{IsDone}, declared.state.State.{State}}
use Rattle.rm_machine_laws.proofs.{Leading.{LeadsOnBy, StaysBy, TellsOnBy}, Recovered.{test-tells}}

abbrev pub IsNeverDone : Command → Type 0
IsNeverDone c = (s : State) (held : Held) (said : List Line) (e : Effect) (t : State) → IsDone s held c (done said e t) → ⊥

test-never : (o : Option ℕ) (i : ℕ) (s : State) (held : Held) (said : List Line) (e : Effect) (t : State) → TestsTo s held i o (done said e t) → ⊥
test-never None i s held said e t does = does
test-never (Some at) i s held said e t (inl found) = absurd (let clash = found.is in cc)
test-never (Some at) i s held said e t (inr all) = absurd (let clash = all.is in cc)

preview-never : (o : Option ℕ) (s : State) (held : Held) (said : List Line) (e : Effect) (t : State) → PreviewsTo s held o (done said e t) → ⊥
preview-never None s held said e t does = does
preview-never (Some at) s held said e t does = absurd (let clash = does.is in cc)

pub never-done : (c : Command) → only_tells c ≡ true → IsNeverDone c
never-done (RecoverTest until inc) only s held said e t is = test-never (test_target s until inc) (tested s inc) s held said e t is
never-done (Preview until) only s held said e t is = preview-never (recover_target s until) s held said e t is
never-done (Dump file block) only s held said e t is = absurd (let told = is.2 in cc)
never-done ListIncarnation only s held said e t is = absurd (cc)
never-done ListBackup only s held said e t is = absurd (let told = is.is in cc)
never-done ListCopy only s held said e t is = absurd (let told = is.is in cc)
never-done ListArchived only s held said e t is = absurd (let told = is.is in cc)
never-done ReportObsolete only s held said e t is = absurd (let told = is.is in cc)
never-done ReportNeedBackup only s held said e t is = absurd (let told = is.is in cc)
never-done ReportSchema only s held said e t is = absurd (cc)
never-done ListCorruption only s held said e t is = absurd (cc)
never-done ShowAll only s held said e t is = absurd (cc)
never-done ValidateAll only s held said e t is = absurd (let told = is.is in cc)
never-done c only s held said e t is = absurd (let clash = only in cc)

pub tells-on : (c : Command) → only_tells c ≡ true → LeadsOnBy c
tells-on c only s h objects made touched said e t after well stands tell none does effect = absurd (never-done c only s objects said e t does)

pub tells-stays : (c : Command) → only_tells c ≡ true → StaysBy c
tells-stays c only s objects said e t well sound none accepted does = absurd (never-done c only s objects said e t does)

-- only of a test of a recovery the history says more
pub every-tells-by : (c : Command) → TellsOnBy c
every-tells-by (RecoverTest until inc) = test-tells until inc
every-tells-by c = λ s h objects made touched lines well borne tell none does. tt
