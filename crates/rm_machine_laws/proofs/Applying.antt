-- What was applied had the ids of a save left.
use Rattle.std.proofs.Common.{◌≡◌, ◌∙◌, not, true, false, List, Option, ℕ, ap, sym, subst}
use Rattle.rm_base.specs.declared.refusal.Refusal.{Refusal}
use Rattle.rm_catalog_typed.specs.TypedCatalog.{Saved, TypedCatalog}
use Rattle.rm_lang_statement.specs.declared.command.Command.{Command}
use Rattle.rm_machine.specs.{Comes.{DoesMore, HadIds}, Laws.{only_tells}, Marks.{lacks_ids}, declared.answer.Answer.{Answer}}
use Rattle.rm_machine.specs.declared.{answer.Answer.TheVariants.{Done, Told}, handed.Handed.{Handed}, state.State.{State}}
use Rattle.rm_machine_laws.{specs.Saves.{applies}, proofs.Answering.{Begins}}
use Rattle.rm_report.specs.{Reply.{refused_by, said}, declared.line.{Line.{Line}, Reply.{Reply}}}

-- a refusal applies nothing, and neither does what only tells
pub refused-applies : (c : Command) (q : Refusal) (reply : Reply) → reply ≡ refused_by q → applies c reply ≡ true → ⊥
refused-applies c q reply is does_apply =
    let both : true ≡ false = sym does_apply ∙ ap (applies c) is in
    absurd (cc)

pub told-applies : (c : Command) (a : Answer) (lines : List Line) (reply : Reply) → a ≡ Told lines → DoesMore c a → reply ≡ said lines → applies c reply ≡ true → ⊥
told-applies c a lines reply is does said_is does_apply =
    let only : only_tells c ≡ true = subst (λ (y : Answer). DoesMore c y) is does in
    let both : true ≡ false = sym does_apply ∙ ap (applies c) said_is ∙ ap not only in
    absurd (cc)

-- the ids that were left at its moment were left before it
pub ids-before : {s : State} {moment : ℕ} {r : TypedCatalog} {earlier : ℕ} {saved : Option Saved} → Begins s moment r earlier saved → (a : Answer) (x : Handed) → a ≡ Done x → HadIds (record s { catalog = r }) a
    → lacks_ids s 0 ≡ false
ids-before {s = s} {r = r} begins a x is had =
    subst (λ (q : TypedCatalog). lacks_ids (record s { catalog = q }) 0 ≡ false) begins.after (subst (HadIds (record s { catalog = r })) is had)
