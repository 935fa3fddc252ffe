-- What a statement with an UNTIL that is not refused leads to, and the date that a refusal of it tells.
use Rattle.std.{specs.{Option.{option_map_or}, Prelude.{IfSome}}, proofs.Common.{◌≡◌, ◌∙◌, ℕ, Option, Some, None, sym, ap}}
use Rattle.rm_base.specs.declared.refusal.Refusal.{Refusal}
use Rattle.rm_lang_statement.specs.declared.command.Until.{Until, TheVariants.{Scn, Sequence, Time}}
use Rattle.rm_moments.proofs.Meant.{meant-within}
use Rattle.rm_report.specs.Reply.{HasDate}
use Rattle.rm_machine.specs.{Sound.{IsSound}, State.{ledger}}
use Rattle.rm_machine.specs.Until.{nowhere_refusal, or_else, refusal_at, target_of, thread_refusal, until_refusal}
use Rattle.rm_machine.specs.declared.state.State.{State}

-- where the first that has a value has none, the second has none
pub second-none : {X : Type 0} (o p : Option X) → or_else o p ≡ None → p ≡ None
second-none None p none = none
second-none (Some x) p none = absurd (cc)

-- its target is not refused
pub target-none : (s : State) (i : ℕ) (until : Option Until) (by_target : ℕ → Option Refusal) (otherwise : Option Refusal) (at : ℕ)
    → refusal_at s i until by_target otherwise ≡ None → target_of s i until ≡ Some at → by_target at ≡ None
target-none s i until by_target otherwise at none is = sym (ap (λ o. option_map_or by_target o (or_else otherwise (nowhere_refusal s until))) is) ∙ none

pub until-none : (s : State) (i : ℕ) (until : Option Until) (by_target : ℕ → Option Refusal) (otherwise : Option Refusal) (at : ℕ)
    → until_refusal s i until by_target otherwise ≡ None → target_of s i until ≡ Some at → by_target at ≡ None
until-none s i until by_target otherwise at none is =
    target-none s i until by_target otherwise at (second-none (thread_refusal s until) (refusal_at s i until by_target otherwise) none) is

-- in a sound state the moment of an UNTIL is a date, and so is that of an RM-14
pub nowhere-dated : (s : State) (until : Option Until) → IsSound s → IfSome (nowhere_refusal s until) HasDate
nowhere-dated s None sound = tt
nowhere-dated s (Some (Scn at)) sound = tt
nowhere-dated s (Some (Sequence n t)) sound = tt
nowhere-dated s (Some (Time text)) sound = meant-within text (ledger s).base.moment sound.catalog.ledger.base.moment
