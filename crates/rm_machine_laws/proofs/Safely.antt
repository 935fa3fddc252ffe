-- A step of DELETE OBSOLETE keeps the targets of the window.
use Rattle.std.proofs.Common.{◌≡◌, ◌∙◌, ℕ, Option, Some, None, List, false, ap, sym, subst}
use Rattle.rm_base.specs.{Store.{Held}, declared.refusal.Refusal.{Refusal}}
use Rattle.rm_catalog.specs.declared.record.Record.{Record}
use Rattle.rm_report.specs.declared.line.{Line.{Line}, Reply.{Reply}}
use Rattle.rm_lang_statement.specs.declared.command.Command.{Command, TheVariants.{DeleteObsolete}}
use Rattle.rm_machine.specs.{Effect.{Outcome, done, refused, told}, Machine.{Machine}, Obsolete.{IsSafe}, State.{at_moment}}
use Rattle.rm_machine.specs.{Step.{IsOutcome, IsOutcomeBy, StepBy, StepIn, refusal_of}, declared.state.State.{State}}
use Rattle.rm_machine_laws.{specs.{Holds.{View}, Moments.{moment_of}, Steps.{DeletesSafely, Steps}}, proofs.Cataloguing.{asks-no-more}}

-- it never only tells
never-tells : (r : Option Refusal) (s : State) (held : Held) (lines : List Line) → IsOutcomeBy r s held DeleteObsolete (told lines) → ⊥
never-tells (Some r) s held lines is = absurd (cc)
never-tells None s held lines is = absurd (let clash = is.is in cc)

-- an outcome that is done, and no refusal
safe-by : (o : Outcome) (s t : State) (m n : Machine) (reply : Reply) → IsOutcome s m.objects DeleteObsolete o → StepBy (Some s) m DeleteObsolete o reply n → reply.refused ≡ false → n.state ≡ Some t
    → IsSafe s m.objects t n.objects
safe-by (refused why) s t m n reply is by kept there = absurd (let clash = sym (ap (λ (r : Reply). r.refused) by.0) ∙ kept in cc)
safe-by (told lines) s t m n reply is by kept there = absurd (never-tells (refusal_of s DeleteObsolete) s m.objects lines is)
safe-by (done lines effect q) s t m n reply is by kept there =
    let same : q ≡ t = (let one : Some q ≡ Some t = sym by.1.state ∙ there in cc) in
    subst (λ (x : State). IsSafe s m.objects x n.objects) same by.2

pub deletes-safely : (held held' : Option Held) (kept kept' : Option (List Record)) (v v' : View) (c : Command) (clock : ℕ) (reply : Reply) → Steps held kept v c clock reply held' kept' v' → DeletesSafely held kept v c clock reply held' v'
deletes-safely held held' kept kept' v v' DeleteObsolete clock reply steps = λ m stands holds tell kept s t objects objects' was now before after.
    let on = steps m stands holds (asks-no-more m DeleteObsolete (λ e. cc) tell) in
    let n = on.0 in
    let moment = moment_of m.state clock in
    let step : StepIn (Some s) m DeleteObsolete moment reply n = subst (λ o. StepIn o m DeleteObsolete moment reply n) (stands ∙ was) on.1 in
    let safe : IsSafe (at_moment s moment) m.objects t n.objects = safe-by step.0 (at_moment s moment) t m n reply step.1 step.2 kept (on.2 ∙ now) in
    let first : m.objects ≡ objects = (let one : Some m.objects ≡ Some objects = sym holds.store ∙ before in cc) in
    let last : n.objects ≡ objects' = (let one : Some n.objects ≡ Some objects' = sym on.3.store ∙ after in cc) in
    subst (λ (o : Option State). IsSafe (at_moment s (moment_of o clock)) objects t objects') stands
    (subst (λ (x : Held). IsSafe (at_moment s moment) x t objects') first (subst (λ (x : Held). IsSafe (at_moment s moment) m.objects t x) last safe))
deletes-safely held held' kept kept' v v' _ clock reply steps = tt
