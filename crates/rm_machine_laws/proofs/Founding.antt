-- CREATE DATABASE, and other statements where there is no database.
use Rattle.std.proofs.Common.{◌≡◌, ◌<◌, ◌≤◌, ◌^◌, ◌++◌, ◌∷◌, ◌&&◌, nat_lt, nat_le, ℕ, List, [], Some, None, Bool, true, false, cond, refl, ap, sym, subst, arith}
use Rattle.std.proofs.lemmas.Bool.Decides.{nat_tests}
use Rattle.rm_base.specs.{Numbers.{last_moment, last_scn}, Store.{Held}, declared.refusal.Refusal.TheVariants.{Rm03, Rm11}}
use Rattle.rm_base.{specs.declared.refusal.Limit.TheVariants.{Threads}, proofs.Members.{none-in}}
use Rattle.rm_lang_statement.specs.{IsCommand.{is_command}, declared.command.Command.{Command, TheVariants.{CreateDatabase}}}
use Rattle.rm_report.specs.declared.line.Line.{Line, TheVariants.{DatabaseAt}}
use Rattle.rm_machine.specs.CreateDatabase.{IsCreateOutcome, fresh_machine, fresh_state}
use Rattle.rm_machine.specs.{Effect.{Effect, LeavesObjects, done, no_effect, refused}, Laws.{LeadsOn}}
use Rattle.rm_machine.specs.{Machine.{IsBorneOut, IsSoundBy, IsSoundMachine, Machine}, Step.{and_drops}, declared.state.State.{State}}
use Rattle.rm_machine_laws.{specs.{Carries.{LeadsOnWithout}, Loose.{StaysLoose}}, proofs.Creating.{fresh-sound}}

-- the numbers of a new database, which the grammar and the refusal leave
pub record AreNumbers (dbid threads scn : ℕ) : Type 0 where
  pub number : (1 ≤ dbid) × (dbid < 2 ^ 32)
  pub some : (1 ≤ threads) × (threads ≤ 4)
  pub first : (1 ≤ scn) × (scn ≤ last_scn)

in-ranges : (d t s : ℕ) → (nat_le 1 d && nat_le d 4294967295 && (nat_le 1 t && nat_le t 18446744073709551615 && (nat_le 1 s && nat_le s 281474976710655))) ≡ true
    → (1 ≤ d) × (d ≤ 4294967295) × (1 ≤ t) × (1 ≤ s) × (s ≤ 281474976710655)
in-ranges d t s is = grind (arith, nat_tests)

pub numbers-of : (dbid threads scn : ℕ) → is_command (CreateDatabase dbid threads scn) ≡ true → threads ≤ 4 → AreNumbers dbid threads scn
numbers-of dbid threads scn command few =
    let ranges = in-ranges dbid threads scn command in
    record { number = (ranges.0, omega (arith, ranges.1)); some = (ranges.2, few); first = (ranges.3, ranges.4) }

-- what CREATE DATABASE came to, where it is done
record IsFounded (dbid threads scn moment : ℕ) (lines : List Line) (effect : Effect) (t : State) : Type 0 where
  few : threads ≤ 4
  effect_is : no_effect ≡ effect
  state_is : fresh_state dbid threads scn moment ≡ t

founded-by : (b : Bool) (dbid threads scn moment : ℕ) (lines : List Line) (effect : Effect) (t : State) → nat_lt 4 threads ≡ b
    → done lines effect t ≡ cond b (refused (Rm11 Threads)) (done (DatabaseAt dbid scn ∷ []) no_effect (fresh_state dbid threads scn moment))
    → IsFounded dbid threads scn moment lines effect t
founded-by true dbid threads scn moment lines effect t many is = absurd (cc)
founded-by false dbid threads scn moment lines effect t many is = record { few = grind (arith, nat_tests); effect_is = cc; state_is = cc }

-- it puts nothing and takes nothing away
pub founded-quiet : (dbid threads scn moment : ℕ) (lines : List Line) (effect : Effect) (t : State) → IsCreateOutcome dbid threads scn moment (done lines effect t) → (effect.puts ≡ []) × (effect.removes ≡ [])
founded-quiet dbid threads scn moment lines effect t comes =
    let is = founded-by (nat_lt 4 threads) dbid threads scn moment lines effect t refl comes in
    (sym (ap (λ (e : Effect). e.puts) is.effect_is), sym (ap (λ (e : Effect). e.removes) is.effect_is))

-- and saves no site
pub founded-unsaved : (dbid threads scn moment : ℕ) (lines : List Line) (effect : Effect) (t : State) → IsCreateOutcome dbid threads scn moment (done lines effect t) → t.catalog.saved ≡ None
founded-unsaved dbid threads scn moment lines effect t comes =
    sym (ap (λ (s : State). s.catalog.saved) (founded-by (nat_lt 4 threads) dbid threads scn moment lines effect t refl comes).state_is)

-- a new database is borne out, whatever names were touched
founded-sound : (dbid threads scn moment : ℕ) (objects : Held) (touched : List (List ℕ)) → AreNumbers dbid threads scn → moment ≤ last_moment
    → IsBorneOut (fresh_state dbid threads scn moment) [] objects [] touched
founded-sound dbid threads scn moment objects touched is late =
    let sound : IsSoundMachine (fresh_machine objects dbid threads scn moment) = fresh-sound dbid threads scn moment is.number.0 is.number.1 is.some.0 is.some.1 is.first.0 is.first.1 late objects in
    record {
      state = sound.state;
      keeps = sound.keeps;
      artefacts = sound.artefacts;
      records = record { logs = λ e has. absurd (none-in e has); pieces = λ e has. absurd (none-in e has); sets = λ e has. absurd (none-in e has) };
    }

pub creating-leads : (dbid threads scn : ℕ) → LeadsOnWithout (CreateDatabase dbid threads scn)
creating-leads dbid threads scn m moment lines effect t after well none sound late comes leaves =
    let is = founded-by (nat_lt 4 threads) dbid threads scn moment lines effect t refl comes in
    let was : IsSoundBy None m.history m.objects m.made m.touched = subst (λ o. IsSoundBy o m.history m.objects m.made m.touched) none sound in
    let founded = founded-sound dbid threads scn moment after m.touched (numbers-of dbid threads scn well.0 is.few) late in
    let n : Machine = record { state = Some t; history = m.history ++ effect.changes; objects = after; made = m.made ++ effect.made; touched = m.touched } in (
      n,
      (
        refl,
        record { state = refl; history = refl; objects = subst (λ o. LeavesObjects (and_drops o effect) m.objects after) (sym none) leaves; made = refl; touched = refl },
        tt,
      ),
      refl,
      subst (λ (e : Effect). IsBorneOut t (m.history ++ e.changes) after (m.made ++ e.made) m.touched) is.effect_is
          (subst (λ h. IsBorneOut t (h ++ []) after (m.made ++ []) m.touched) (sym was.0)
          (subst (λ made. IsBorneOut t ([] ++ []) after (made ++ []) m.touched) (sym was.1)
          (subst (λ s. IsBorneOut s [] after [] m.touched) is.state_is founded))),
    )

-- no other statement is done there
pub without-leads : (c : Command) → LeadsOnWithout c
without-leads (CreateDatabase dbid threads scn) = creating-leads dbid threads scn
without-leads c = λ m moment lines effect t after well none sound late comes leaves. absurd (let clash : done lines effect t ≡ refused _ = comes in cc)

-- where there is a database it is refused
pub never-again : (dbid threads scn : ℕ) → LeadsOn (CreateDatabase dbid threads scn)
never-again dbid threads scn m s moment lines effect t after well is sound tell at comes leaves = absurd (let clash : done lines effect t ≡ refused Rm03 = comes in cc)

pub never-loose : (dbid threads scn : ℕ) → StaysLoose (CreateDatabase dbid threads scn)
never-loose dbid threads scn s held lines e t sound comes = absurd (let clash : done lines e t ≡ refused Rm03 = comes in cc)
