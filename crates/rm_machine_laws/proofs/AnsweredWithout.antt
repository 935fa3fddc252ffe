-- How a statement is answered where there is no database.
use Rattle.std.proofs.Common.{◌≡◌, ◌∙◌, ◌≤◌, ◌∷◌, ℕ, nat_lt, Bool, cond, List, [], Option, Some, None, true, false, refl, ap, sym, subst, arith}
use Rattle.std.proofs.lemmas.Bool.Decides.{nat_tests}
use Rattle.rm_base.specs.{Numbers.{last_moment}, Store.{Held}, declared.refusal.{Limit.TheVariants.{Threads}, Refusal.{Refusal}}}
use Rattle.rm_base.specs.declared.refusal.Refusal.TheVariants.{Rm02, Rm11}
use Rattle.rm_catalog.specs.{Edits.{after_edits}, declared.record.Edit.{Edit}}
use Rattle.rm_commit.specs.declared.commit.Commit.{Commit}
use Rattle.rm_lang_statement.specs.{IsCommand.{is_command}, declared.command.Command.{Command, TheVariants.{CreateDatabase}}}
use Rattle.rm_catalog_typed.specs.Fresh.{fresh, fresh_edits}
use Rattle.rm_report.specs.declared.line.Line.{Line, TheVariants.{DatabaseAt}}
use Rattle.rm_machine.specs.{CreateDatabase.{fresh_state}, Effect.{Outcome, done, no_effect, refused}, Sound.{IsSound}}
use Rattle.rm_machine.specs.{Step.{IsOutcomeWithout}, declared.state.State.{State}}
use Rattle.rm_machine_laws.specs.{Carries.{IsHanded}, Holds.{records_in}, Refused.{create_refusal, refusal_without}}
use Rattle.rm_machine_laws.proofs.{Creating.{fresh-sound}, Founding.{AreNumbers, numbers-of}}

-- the threads are few, or it is refused
few-by : (b : Bool) (threads : ℕ) → nat_lt 4 threads ≡ b → cond b (Some (Rm11 Threads)) None ≡ None → threads ≤ 4
few-by true threads many is = absurd (cc)
few-by false threads many is = grind (arith, nat_tests)

pub few-threads : (threads : ℕ) → create_refusal threads ≡ None → threads ≤ 4
few-threads threads none = few-by (nat_lt 4 threads) threads refl none

refused-by : (b : Bool) (o : Outcome) (r : Refusal) → cond b (Some (Rm11 Threads)) None ≡ Some r → refused r ≡ cond b (refused (Rm11 Threads)) o
refused-by true o r is = cc
refused-by false o r is = absurd (cc)

-- a refusal is what it comes to
pub comes-refused : (c : Command) (moment : ℕ) (r : Refusal) → refusal_without c ≡ Some r → IsOutcomeWithout c moment (refused r)
comes-refused (CreateDatabase dbid threads scn) moment r is = refused-by (nat_lt 4 threads) (done (DatabaseAt dbid scn ∷ []) no_effect (fresh_state dbid threads scn moment)) r is
comes-refused c moment r is = let some : Some Rm02 ≡ Some r = is in cc

module _ (c : Command) (dbid threads scn moment : ℕ) (is : c ≡ CreateDatabase dbid threads scn) (well : is_command c ≡ true) (accepted : refusal_without c ≡ None) (late : moment ≤ last_moment) where
  few : threads ≤ 4
  few = few-threads threads (subst (λ k. refusal_without k ≡ None) is accepted)

  numbers : AreNumbers dbid threads scn
  numbers = numbers-of dbid threads scn (subst (λ k. is_command k ≡ true) is well) few

  -- a new database is sound
  pub founded-sound : (t : State) → t ≡ fresh_state dbid threads scn moment → IsSound t
  founded-sound t same =
      let n = numbers in
      subst IsSound (sym same) ((fresh-sound dbid threads scn moment n.number.0 n.number.1 n.some.0 n.some.1 n.first.0 n.first.1 late (λ name. None)).state)

  -- and handed out with its first records
  pub founded : (held : Option Held) (x : Commit) (t : State) (lines : List Line) → x.objects ≡ [] → x.edits ≡ fresh_edits (fresh dbid threads scn moment) → x.removes ≡ []
      → t ≡ fresh_state dbid threads scn moment → lines ≡ DatabaseAt dbid scn ∷ [] → IsHanded held None c moment lines x t
  founded held x t lines none edits nothing same said_is =
      let least : nat_lt 4 threads ≡ false = (let most = few in grind (arith, nat_tests)) in
      subst (λ k. IsHanded held None k moment lines x t) (sym is)
      (record {
        effect = no_effect;
        comes = λ objects told.
            subst (λ b. done lines no_effect t ≡ cond b (refused (Rm11 Threads)) (done (DatabaseAt dbid scn ∷ []) no_effect (fresh_state dbid threads scn moment))) (sym least)
            (ap (λ (xs : List Line). done xs no_effect t) said_is ∙ ap (done (DatabaseAt dbid scn ∷ []) no_effect) same);
        puts = none;
        removes = nothing;
        edits = ap (λ (es : List Edit). after_edits es []) edits ∙ ap (λ (s : State). records_in (Some s)) (sym same);
      })
