-- What a statement comes to, where there is a database.
use Rattle.std.specs.Prelude.{◌≡◌, Bool, true, false, Option, Some, None, All}
use Rattle.rm_base.specs.{Store.{Held}, declared.refusal.Refusal.{Refusal}}
use Rattle.rm_lang_statement.specs.declared.command.Command.{Command}
use Rattle.rm_report.specs.Reply.{IsPlain, HasDate}
use Rattle.rm_machine.specs.{Effect.{refused, told}, Hands.{Hands}, Laws.{only_tells}, Marks.{lacks_ids}, Nature.{nature_of, tries}}
use Rattle.rm_machine.specs.{Sound.{IsSound}, Step.{IsOutcome, refusal_of}}
use Rattle.rm_machine.specs.declared.{answer.Answer.{Answer, TheVariants.{Refused, Told, Done}}, state.State.{State}}

-- From the state s the statement is refused, or it only tells: then nothing changed. Or it is done, and leaves the
-- state t.
abbrev pub ComesTo : Option Held → State → Command → Answer → State → Type 0
ComesTo held s c (Refused r) t = (t ≡ s) × ((objects : Held) → held ≡ Some objects → IsOutcome s objects c (refused r))
ComesTo held s c (Told lines) t = (t ≡ s) × ((objects : Held) → held ≡ Some objects → IsOutcome s objects c (told lines))
ComesTo held s c (Done x) t = (refusal_of s c ≡ None) × Hands held s c x t

-- what the objects hold may refuse it too
abbrev pub looks_at_objects : Command → Bool
looks_at_objects c = tries (nature_of c)

-- it is refused exactly where the state refuses it, or by what the objects hold
abbrev pub IsRefusedBy : Option Refusal → Command → Answer → Type 0
IsRefusedBy (Some r) c a = a ≡ Refused r
IsRefusedBy None c (Refused r) = looks_at_objects c ≡ true
IsRefusedBy None c (Told lines) = Unit {0}
IsRefusedBy None c (Done x) = Unit {0}

-- what only tells is told, and what is done does more
abbrev pub DoesMore : Command → Answer → Type 0
DoesMore c (Refused r) = Unit {0}
DoesMore c (Told lines) = only_tells c ≡ true
DoesMore c (Done x) = only_tells c ≡ false

-- what is done had the ids of a save left, whatever the store tells
abbrev pub HadIds : State → Answer → Type 0
HadIds s (Refused r) = Unit {0}
HadIds s (Told lines) = Unit {0}
HadIds s (Done x) = lacks_ids s 0 ≡ false

-- the moment of an RM-14 is at most the last, and no line of what is told or done is a refusal
abbrev pub AnswersPlainly : Answer → Type 0
AnswersPlainly (Refused r) = HasDate r
AnswersPlainly (Told lines) = All IsPlain lines
AnswersPlainly (Done x) = All IsPlain x.lines

-- what is known of an answer
pub record IsAnswer (held : Option Held) (s : State) (c : Command) (a : Answer) (t : State) : Type 0 where
  pub comes : ComesTo held s c a t
  pub refused : IsRefusedBy (refusal_of s c) c a
  pub sound : IsSound t
  pub dates : AnswersPlainly a
  pub more : DoesMore c a
  pub ids : HadIds s a
