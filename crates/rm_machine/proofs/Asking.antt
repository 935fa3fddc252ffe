-- What the state does not refuse has the ids of a save left, where these are asked for: mishaps, RECOVER, RESTORE and BLOCKRECOVER.
use Rattle.std.specs.Option.{option_and_then, option_map_or}
use Rattle.std.proofs.Common.{◌≡◌, ℕ, Option, Some, None, false, refl, rules}
use Rattle.rm_base.{specs.declared.refusal.Refusal.{Refusal, TheVariants.{Rm05, Rm09}}, proofs.Conditions.{only-where, unless}}
use Rattle.rm_lang_statement.specs.declared.command.Command.{Command, TheVariants.{Cut, Damage, Remove, Rename}}
use Rattle.rm_lang_statement.specs.declared.command.{RepairForm.{RepairForm}, Until.{Until}}
use Rattle.rm_machine.specs.{Asked.{asked}, BackupRefusal.{absent_of, lost_of}}
use Rattle.rm_machine.specs.BlockRecoverRefusal.{absent_named, lost_named, repair_refusal, repair_room_refusal}
use Rattle.rm_machine.specs.{Marks.{ids_refusal, lacks_ids}, Nature.{nature_of}, Recover.{recover_refusal, target_refusal}}
use Rattle.rm_machine.specs.{Restore.{place_refusal, restore_refusal}, State.{current_of}, Step.{refusal_of}}
use Rattle.rm_machine.specs.Until.{nowhere_refusal, or_else, refusal_at, target_of, thread_refusal, until_refusal}
use Rattle.rm_machine.specs.declared.{nature.Nature.TheVariants.{Mishap}, state.State.{State}}
use Rattle.rm_machine.proofs.Untils.{second-none}

-- what is not refused so has them
abbrev pub Asks : State → Option Refusal → Type 0
Asks s o = o ≡ None → lacks_ids s 0 ≡ false

-- Conditions

pub asks-of : {X : Type 0} (s : State) (f : X → Option Refusal) (r : Refusal) (o : Option X) → ((x : X) → Asks s (f x)) → Asks s (option_map_or f o (Some r))
asks-of s f r None asks is = absurd (let clash : Some r ≡ None = is in cc)
asks-of s f r (Some x) asks is = asks x is

pub asks-else : (s : State) (o p : Option Refusal) → Asks s p → Asks s (or_else o p)
asks-else s None p asks is = asks is
asks-else s (Some r) p asks is = absurd (let clash : Some r ≡ None = is in cc)

-- the first that has a value has none
first-none : {X : Type 0} (o p : Option X) → or_else o p ≡ None → o ≡ None
first-none None p none = refl
first-none (Some x) p none = absurd (cc)

asks-more : {X : Type 0} (s : State) (r : X → Refusal) (o : Option X) (p : Option Refusal) → Asks s p → Asks s (option_map_or (λ x. Some (r x)) o p)
asks-more s r None p asks is = asks is
asks-more s r (Some x) p asks is = absurd (let clash : Some (r x) ≡ None = is in cc)

pub asks-ids : (s : State) → Asks s (ids_refusal s)
asks-ids s is = search rules

-- a statement with an UNTIL asks by its target, or without one
until-asks : (s : State) (i : ℕ) (until : Option Until) (by_target : ℕ → Option Refusal) (otherwise : Option Refusal) → ((at : ℕ) → Asks s (by_target at)) → Asks s otherwise → Asks s (until_refusal s i until by_target otherwise)
until-asks s i until by_target otherwise by other none =
    decide (target_of s i until) (second-none (thread_refusal s until) (refusal_at s i until by_target otherwise) none)
  where
    decide : (o : Option ℕ) → option_map_or by_target o (or_else otherwise (nowhere_refusal s until)) ≡ None → lacks_ids s 0 ≡ false
    decide None is = other (first-none otherwise (nowhere_refusal s until) is)
    decide (Some at) is = by at is

-- Statements

room-asks : (s : State) (form : RepairForm) → Asks s (repair_room_refusal s form)
room-asks s form is = search rules

pub repair-asks : (form : RepairForm) (s : State) → Asks s (repair_refusal s form)
repair-asks form s is =
    let mode = only-where s.instance.is_open _ _ is in
    asks-more s (λ a. Rm05 a) (option_and_then (absent_named s) form.blocks) _
    (asks-more s (λ a. Rm05 a) (absent_of s (asked form.during)) _
    (asks-more s (λ f. Rm09 f) (option_and_then (lost_named s) form.blocks) _
    (asks-more s (λ f. Rm09 f) (lost_of s (asked form.during)) _ (room-asks s form)))) mode.1

pub recover-asks : (until : Option Until) (s : State) → Asks s (recover_refusal s until)
recover-asks until s is =
    until-asks s (current_of s) until (target_refusal s) (ids_refusal s) (λ at. asks-else s _ _ (asks-else s _ _ (asks-ids s))) (asks-ids s) (unless s.instance.is_open _ _ is).1

pub restore-asks : (file : Option ℕ) (until : Option Until) (s : State) → Asks s (restore_refusal s file until)
restore-asks file until s is =
    until-asks s (current_of s) until (place_refusal s file) (ids_refusal s) (λ at. asks-else s _ _ (asks-else s _ _ (asks-ids s))) (asks-ids s) (unless s.instance.is_open _ _ is).1

pub mishap-asks : (c : Command) (s : State) → nature_of c ≡ Mishap → Asks s (refusal_of s c)
mishap-asks (Remove name) s nature is = asks-ids s is
mishap-asks (Damage name at) s nature is = asks-ids s is
mishap-asks (Cut name to) s nature is = asks-ids s is
mishap-asks (Rename old new) s nature is = asks-ids s is
mishap-asks c s nature is = absurd (cc)
