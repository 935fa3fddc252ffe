-- One statement is served.
use Rattle.std.specs.List.{list_all}
use Rattle.std.proofs.Common.{◌≡◌, ◌+◌, ◌∙◌, ◌||◌, inl, ℕ, suc, List, Option, Some, None, Result, Ok, Err, IfOk, OnErr, IfSome, Bool, true, false, inr, refl, ap, sym, subst, arith}
use Rattle.std.proofs.Math.Bool.{or-false}
use Rattle.rm_base.specs.{Store.{Held, Answers, Both, IsLater}, declared.refusal.Refusal.TheVariants.{Rm01}}
use Rattle.rm_catalog.specs.declared.record.Record.{Record}
use Rattle.rm_lang_statement.specs.declared.command.{Command.{Command}, Inner.{Inner}, Statement.{Statement}}
use Rattle.rm_lang_statement.specs.declared.command.Statement.TheVariants.{Plain, Run as Block}
use Rattle.rm_tool.specs.{Block.{unset}, Built.{statement_built_at}, Comes.{AtHand, CommandComes, StatementComes, at_hand}}
use Rattle.rm_tool.specs.{Quiet.{is_quiet_statement, only_tells_inner, only_tells_statement}, Run.{StepOf, IsHonestWithin, Watch}}
use Rattle.rm_tool.specs.Serving.{HasPassed, IsPast, IsServed, IsCut, untouched, stopped, inside, IsCutShort, RunComes, RunSteps, RunStops, StatementSteps}
use Rattle.rm_tool.proofs.{Quiet.{telling-quiet}, Blocks.{block-leaves}, Runs.{answers_from}}
use Rattle.rm_lang_token.specs.declared.token.Token.{Token}
use Rattle.rm_report.specs.{Reply.{refused_by}, declared.line.Reply.{Reply}}
use Rattle.rm_machine.specs.{Machine.{IsSoundMachine, Machine}, Rest.{at_rest}, Laws.{only_tells}}
use Rattle.rm_machine_laws.specs.{Holds.{Holds, HoldsRest, View}, Saves.{applies}, Steps.{Steps}, Stopped.{Stops}}
use Rattle.rm_machine_laws.proofs.{Every.{every-loose}, Halting.{rests, stopped-after}}
use Rattle.rm_tool_opening.specs.Untouched.{AreSame, IsUntouched, is_quiet}

pub ok-both : {A E : Type 0} (P Q R : A → Type 0) → ((a : A) → P a → Q a → R a) → (r : Result A E) → IfOk r P → IfOk r Q → IfOk r R
ok-both P Q R f (Ok a) h k = f a h k
ok-both P Q R f (Err e) h k = tt

pub ok-three : {A E : Type 0} (P Q S R : A → Type 0) → ((a : A) → P a → Q a → S a → R a) → (r : Result A E) → IfOk r P → IfOk r Q → IfOk r S → IfOk r R
ok-three P Q S R f (Ok a) h k l = f a h k l
ok-three P Q S R f (Err e) h k l = tt

pub on-err : {A E : Type 0} (P : Type 0) (r : Result A E) → P → OnErr r P
on-err P (Ok a) p = tt
on-err P (Err e) p = p

pub ok-four : {A E : Type 0} (P Q S T R : A → Type 0) → ((a : A) → P a → Q a → S a → T a → R a) → (r : Result A E) → IfOk r P → IfOk r Q → IfOk r S → IfOk r T → IfOk r R
ok-four P Q S T R f (Ok a) h k l m = f a h k l m
ok-four P Q S T R f (Err e) h k l m = tt

pub err-both : {A E : Type 0} (P Q R : Type 0) → (P → Q → R) → (r : Result A E) → OnErr r P → OnErr r Q → OnErr r R
err-both P Q R f (Ok a) h k = h
err-both P Q R f (Err e) h k = f h k

pub err-map : {A E : Type 0} (P Q : Type 0) → (P → Q) → (r : Result A E) → OnErr r P → OnErr r Q
err-map P Q f (Ok a) h = h
err-map P Q f (Err e) h = f h

next-from : (o : Option Answers) → IfSome o (λ coming. answers_from o 0 ≡ coming 0)
next-from None = tt
next-from (Some coming) = refl

stays : (o : Option Answers) → Both (IsPast None) o o
stays None = refl
stays (Some coming) = λ i. refl

passes : (s : Statement) (before after : Option Answers) → Both IsLater before after → Both (IsPast (Some s)) before after
passes s None after h = h
passes s (Some b) None h = absurd h
passes s (Some b) (Some a) h = λ i. h i ∙ ap b (next i)
  where
    next : (i : ℕ) → i + 1 ≡ suc i
    next i = omega arith

-- the clock was asked
pub record IsAsked (clock later : Watch) : Type 0 where
  pub coming : Both IsLater clock.coming later.coming
  pub often : later.asked ≡ clock.asked + 1

-- so it was asked once for a statement that is built
asked-once : (o : Option Statement) (x : Statement) (clock later : Watch) → o ≡ Some x → IsAsked clock later → HasPassed o clock later
asked-once o x clock later some asked =
    subst (λ (p : Option Statement). HasPassed p clock later) (sym some) (record { coming = passes x clock.coming later.coming asked.coming; often = asked.often })

-- and not for what is none
not-asked : (o : Option Statement) (clock : Watch) → o ≡ None → HasPassed o clock clock
not-asked o clock none = subst (λ (p : Option Statement). HasPassed p clock clock) (sym none) (record { coming = stays clock.coming; often = omega arith })

module _ {held : Option Held} {kept : Option (List Record)} {v : View} {clock : Watch} {s : ℕ × List Token} where
  -- a statement that is none is refused, and the clock is not asked
  pub served-refused : {reply : Reply} → statement_built_at s.1 ≡ None → reply ≡ refused_by (Rm01 s.0) → IsServed held kept v clock s reply held kept v clock
  served-refused {reply = reply} none is =
      record {
        answer = answers_from clock.coming 0;
        next = next-from clock.coming;
        past = not-asked (statement_built_at s.1) clock none;
        quiet = λ is. ((refl, refl), refl);
        steps = λ m stands holds tell.
            (m, false, subst (λ (o : Option Statement). StepOf o m s.0 (answers_from clock.coming 0) reply false m) (sym none) (is, refl, refl), stands, holds, sym (or-false v.applied));
        comes =
            let at : AtHand = at_hand held kept v in
            (false, subst (λ (o : Option Statement). StatementComes o at s.0 (answers_from clock.coming 0) reply false at) (sym none) (is, refl, refl), sym (or-false v.applied));
      }

  -- nothing was done
  pub cut-before : IsCutShort held kept v clock s held kept clock
  cut-before = record { answer = answers_from clock.coming 0; next = next-from clock.coming; asked = inl refl; quiet = λ tells. (refl, refl); cut = λ m stands holds tell. untouched (rests held kept m holds) }

  -- One that is asked of the clock is a step or more of the site, or the site stopped it.
  module _ {held' : Option Held} {kept' : Option (List Record)} (answer : ℕ) (next : IfSome clock.coming (λ coming. answer ≡ coming 0)) where
    served-so : {x : Statement} → statement_built_at s.1 ≡ Some x → {v' : View} {clock' : Watch} (reply : Reply) → IsAsked clock clock' → (is_quiet_statement (Some x) reply ≡ true → IsUntouched held kept v held' kept' v')
        → StatementSteps held kept v s answer reply held' kept' v'
        → (applied : Bool) → StatementComes (Some x) (at_hand held kept v) s.0 answer reply applied (at_hand held' kept' v') → v'.applied ≡ (v.applied || applied) → IsServed held kept v clock s reply held' kept' v' clock'
    served-so {x = x} some {v' = v'} {clock' = clock'} reply later quiet steps applied comes knows =
        record {
          answer = answer;
          next = next;
          past = asked-once (statement_built_at s.1) x clock clock' some later;
          quiet = λ is. quiet (subst (λ (o : Option Statement). is_quiet_statement o reply ≡ true) some is);
          steps = steps;
          comes = (applied, subst (λ (o : Option Statement). StatementComes o (at_hand held kept v) s.0 answer reply applied (at_hand held' kept' v')) (sym some) comes, knows);
        }

    -- a command
    module _ {c : Command} (some : statement_built_at s.1 ≡ Some (Plain c)) where
      pub served-step : {v' : View} {clock' : Watch} (reply : Reply) → IsAsked clock clock' → Steps held kept v c answer reply held' kept' v' → v'.applied ≡ (v.applied || applies c reply)
          → (is_quiet c reply ≡ true → IsUntouched held kept v held' kept' v') → CommandComes (at_hand held kept v) c answer reply (at_hand held' kept' v') → IsServed held kept v clock s reply held' kept' v' clock'
      served-step reply later steps applied quiet comes =
          served-so some reply later quiet
          (λ m stands holds tell.
          let n = steps m stands holds (subst (λ (o : Option Statement). IsHonestWithin o m answer) some tell) in
          (n.0, applies c reply, subst (λ (o : Option Statement). StepOf o m s.0 answer reply (applies c reply) n.0) (sym some) (n.1, refl), n.2, n.3, applied))
          (applies c reply) (comes, refl) applied

      pub cut-step : {clock' : Watch} → IsAsked clock clock' → Stops held kept v c answer held' kept' → (only_tells c ≡ true → AreSame held kept held' kept') → IsCutShort held kept v clock s held' kept' clock'
      cut-step {clock' = clock'} later stops same =
          record {
            answer = answer;
            next = next;
            asked = inr (asked-once (statement_built_at s.1) (Plain c) clock clock' some later);
            quiet = λ tells. same (subst (λ (o : Option Statement). only_tells_statement o ≡ true) some tells);
            cut = λ m stands holds tell. let left = stops m stands holds (subst (λ (o : Option Statement). IsHonestWithin o m answer) some tell) in stopped c left.0 some left.1 left.2;
          }

    -- a RUN
    module _ {block : List Inner} (some : statement_built_at s.1 ≡ Some (Block block)) where
      pub served-run : {v' : View} {clock' : Watch} (reply : Reply) → IsAsked clock clock' → RunSteps held kept v block answer reply held' kept' v'
          → (list_all only_tells_inner block ≡ true → IsUntouched held kept v held' kept' v') → RunComes held kept v block answer reply held' kept' v' → IsServed held kept v clock s reply held' kept' v' clock'
      served-run reply later steps quiet comes =
          served-so some reply later quiet
          (λ m stands holds tell.
          let n = steps m stands holds (subst (λ (o : Option Statement). IsHonestWithin o m answer) some tell) in
          (n.0, n.1, subst (λ (o : Option Statement). StepOf o m s.0 answer reply n.1 n.0) (sym some) n.2, n.3, n.4, n.5))
          comes.0 comes.1 comes.2

      pub cut-run : {clock' : Watch} → IsAsked clock clock' → RunStops held kept v block answer held' kept' → (list_all only_tells_inner block ≡ true → AreSame held kept held' kept') → IsCutShort held kept v clock s held' kept' clock'
      cut-run {clock' = clock'} later stops same =
          record {
            answer = answer;
            next = next;
            asked = inr (asked-once (statement_built_at s.1) (Block block) clock clock' some later);
            quiet = λ tells. same (subst (λ (o : Option Statement). only_tells_statement o ≡ true) some tells);
            cut = λ m stands holds tell. let left = stops m stands holds (subst (λ (o : Option Statement). IsHonestWithin o m answer) some tell) in inside block left.0 some left.1 left.2;
          }

cut-by : (o : Option Statement) (m n : Machine) (s : ℕ × List Token) (answer : ℕ) (reply : Reply) (applied : Bool) (held : Option Held) (kept : Option (List Record))
    → IsSoundMachine m → statement_built_at s.1 ≡ o → StepOf o m s.0 answer reply applied n → Holds held kept n → IsCut m s answer held kept
cut-by None m n s answer reply applied held kept sound none step holds = untouched (subst (λ (x : Machine). HoldsRest held kept (at_rest x)) step.2 (rests held kept n holds))
cut-by (Some (Plain c)) m n s answer reply applied held kept sound some step holds =
    let left = stopped-after c (every-loose c) m n answer reply held kept sound step.0 holds in
    stopped c left.0 some left.1 left.2
cut-by (Some (Block block)) m n s answer reply applied held kept sound some steps holds = inside block (at_rest n) some (block-leaves unset m block answer reply applied n steps) (rests held kept n holds)

-- the statement was served, and no word of its reply was written
pub cut-served : {held held' : Option Held} {kept kept' : Option (List Record)} {v v' : View} {clock clock' : Watch} {s : ℕ × List Token} {reply : Reply}
    → IsServed held kept v clock s reply held' kept' v' clock' → IsCutShort held kept v clock s held' kept' clock'
cut-served {held' = held'} {kept' = kept'} {s = s} {reply = reply} served =
    record {
      answer = served.answer;
      next = served.next;
      asked = inr served.past;
      quiet = λ tells. (served.quiet (telling-quiet (statement_built_at s.1) reply tells)).0;
      cut = λ m stands holds tell. let n = served.steps m stands holds tell in cut-by (statement_built_at s.1) m n.0 s served.answer reply n.1 held' kept' holds.sound refl n.2 n.4;
    }
