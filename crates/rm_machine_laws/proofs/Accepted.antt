-- What a statement comes to that the state does not refuse.
use Rattle.std.proofs.Common.{◌≡◌, ◌∙◌, Bool, true, false, Option, Some, None, Result, Ok, Err, IfOk, refl, ap, sym, subst}
use Rattle.rm_base.{specs.Store.{Held}, proofs.EveryStore.{nothing}}
use Rattle.rm_lang_statement.specs.declared.command.Command.{Command}
use Rattle.rm_machine.specs.{Comes.{IsAnswer, IsRefusedBy}, Hands.{Hands}, Laws.{only_tells}, Nature.{nature_of, tells}, Sound.{IsSound}}
use Rattle.rm_machine.specs.{Step.{IsStatement, refusal_of}, declared.{answer.Answer.TheVariants.{Done}, handed.Handed.{Handed}}}
use Rattle.rm_machine.specs.declared.{state.State.{State}, nature.Nature.TheVariants.{Changes}}
use Rattle.rm_machine_laws.proofs.{Asking.{change-asks}, Every.{every-stays}, DatedLines.{change-dated}}

-- what asks the store does not go by the state alone
pub asks_store : {T E : Type 0} (r : Result T E) (b : Bool) (P : T → Type 0) → b ≡ false → IfOk r (λ x. b ≡ true → P x)
asks_store (Ok x) b P asks = λ alone. absurd (let clash : true ≡ false = sym alone ∙ asks in cc)
asks_store (Err e) b P asks = tt

-- a change does more than tell
change-does : (c : Command) → nature_of c ≡ Changes → only_tells c ≡ false
change-does c change = ap tells change

module _ (held : Option Held) (s : State) (c : Command) (accepted : refusal_of s c ≡ None) (sound : IsSound s) where
  -- it is a change, and no store says anything of it
  pub it-changes : (x : Handed) (t : State) → IsStatement c → nature_of c ≡ Changes → s.catalog.saved ≡ None → ((h : Option Held) → Hands h s c x t) → IsAnswer held s c (Done x) t
  it-changes x t well change unsaved hands =
      let to = hands (Some nothing) in
      let does = to.comes nothing refl in
      record {
        comes = (accepted, hands held);
        refused = subst (λ o. IsRefusedBy o c (Done x)) (sym accepted) tt;
        sound = (every-stays c s nothing x.lines to.effect t well sound unsaved accepted does).0;
        dates = change-dated c s nothing x.lines to.effect t change does;
        more = change-does c change;
        ids = change-asks c s change sound accepted;
      }
