-- No line of what a statement tells, or says when it is done, is a refusal.
use Rattle.std.proofs.Common.{◌≡◌, List, All, subst}
use Rattle.rm_machine.specs.{Comes.{AnswersPlainly}, declared.{answer.Answer.{Answer, TheVariants.{Told, Done}}, handed.Handed.{Handed}}}
use Rattle.rm_report.specs.{Reply.{IsPlain}, declared.line.Line.{Line}}

pub told-plain : (a : Answer) (lines : List Line) → a ≡ Told lines → AnswersPlainly a → All IsPlain lines
told-plain a lines is plain = subst AnswersPlainly is plain

pub done-plain : (a : Answer) (x : Handed) → a ≡ Done x → AnswersPlainly a → All IsPlain x.lines
done-plain a x is plain = subst AnswersPlainly is plain
