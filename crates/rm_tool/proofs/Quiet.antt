-- What leaves all as it was, one after another.
use Rattle.std.{specs.List.{list_all}, proofs.Common.{◌≡◌, ◌∙◌, ◌||◌, Bool, true, false, List, ◌∷◌, Option, Some, None, refl, ap, subst}}
use Rattle.std.proofs.lemmas.Bool.{and_parts}
use Rattle.rm_base.specs.Store.{Held}
use Rattle.rm_catalog.specs.declared.record.Record.{Record}
use Rattle.rm_lang_statement.specs.declared.command.Command.{Command, TheVariants.{Restore, Preview, Recover, RecoverTest, RecoverCopy}}
use Rattle.rm_lang_statement.specs.declared.command.{Inner.{Inner}, Until.{Until}, Statement.{Statement, TheVariants.{Plain, Run as Block}}}
use Rattle.rm_machine.specs.Laws.{only_tells}
use Rattle.rm_machine_laws.specs.Holds.{View}
use Rattle.rm_report.specs.declared.line.Reply.{Reply}
use Rattle.rm_tool_opening.specs.Untouched.{AreSame, IsUntouched, is_quiet}
use Rattle.rm_tool.specs.{Quiet.{is_quiet_statement, only_tells_statement}, Block.{with_until}}

-- nothing was touched, and then nothing again
pub untouched-then : {h i j : Option Held} {k l m : Option (List Record)} {u v w : View} → IsUntouched h k u i l v → IsUntouched i l v j m w → IsUntouched h k u j m w
untouched-then one two = ((two.0.0 ∙ one.0.0, two.0.1 ∙ one.0.1), two.1 ∙ one.1)

pub same-then : {h i j : Option Held} {k l m : Option (List Record)} → AreSame h k i l → AreSame i l j m → AreSame h k j m
same-then one two = (two.0 ∙ one.0, two.1 ∙ one.1)

-- a command with an until of its RUN tells as it did
tells-with : (set : Option Until) (c : Command) → only_tells (with_until set c) ≡ only_tells c
tells-with set (Restore file until) = refl
tells-with set (Preview until) = refl
tells-with set (Recover until) = refl
tells-with set (RecoverTest until inc) = refl
tells-with set (RecoverCopy tag until) = refl
tells-with set _ = refl

or-right : (a b : Bool) → b ≡ true → (a || b) ≡ true
or-right true b is = refl
or-right false b is = is

-- so it is quiet, whatever its reply
pub quiet-with : (set : Option Until) (c d : Command) (reply : Reply) → d ≡ with_until set c → only_tells c ≡ true → is_quiet d reply ≡ true
quiet-with set c d reply is tells = or-right reply.refused (only_tells d) (ap only_tells is ∙ tells-with set c ∙ tells)

-- what all pass, the first passes
pub first-passes : (p : Inner → Bool) {all : List Inner} (y : Inner) (ys : List Inner) → all ≡ y ∷ ys → list_all p all ≡ true → p y ≡ true
first-passes p y ys is pass = (and_parts (p y) (list_all p ys) (subst (λ (xs : List Inner). list_all p xs ≡ true) is pass)).0

pub tells-so : (set : Option Until) (c d : Command) → d ≡ with_until set c → only_tells c ≡ true → only_tells d ≡ true
tells-so set c d is tells = ap only_tells is ∙ tells-with set c ∙ tells

-- what only tells is quiet, whatever its reply
pub telling-quiet : (o : Option Statement) (reply : Reply) → only_tells_statement o ≡ true → is_quiet_statement o reply ≡ true
telling-quiet None reply tells = refl
telling-quiet (Some (Plain c)) reply tells = or-right reply.refused (only_tells c) tells
telling-quiet (Some (Block block)) reply tells = tells
