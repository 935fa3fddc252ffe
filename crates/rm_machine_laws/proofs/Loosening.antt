-- What a statement touches, from a database at its moment or from none.
use Rattle.std.proofs.Common.{◌≡◌, ◌∙◌, ℕ, List, [], Option, Some, None, true, false, ap, sym, subst, Contains}
use Rattle.rm_commit.specs.Names.{is_named, itself, name_of}
use Rattle.rm_lang_statement.specs.declared.command.Command.{Command, TheVariants.{CreateDatabase}}
use Rattle.rm_report.specs.declared.line.Line.{Line}
use Rattle.rm_machine.specs.{Effect.{Effect, done, refused}, Laws.{IsMomentOf}, Machine.{IsBorneOut, IsSoundBy, IsSoundMachine, Machine}}
use Rattle.rm_machine.specs.{State.{at_moment, ledger}, Step.{IsOutcomeWithout, names_in}, declared.state.State.{State}}
use Rattle.rm_machine.proofs.{Kept.{names-of}, Later.{sound-later}}
use Rattle.rm_machine_laws.specs.{Carries.{IsOutcomeIn}, Loose.{IsLoose, IsNamedIn, StaysLoose, of_object, of_part}, Moments.{IsMomentIn}}
use Rattle.rm_machine_laws.proofs.Founding.{founded-quiet}

-- a statement that puts nothing and takes nothing away
pub nothing-named : (o : Option State) (c : Command) (e : Effect) (t : State) → e.puts ≡ [] → e.removes ≡ [] → IsLoose o c e t
nothing-named o c e t puts removes = record {
  puts = λ name names named. absurd (none-put name named);
  low = λ name low named. absurd (none-put name named);
  parts = λ id named. absurd (none-put _ named);
  removes = λ name names named. absurd (none-gone name named);
  rolls = λ id named. absurd (none-gone _ named);
}
  where
    none-gone : (name : List ℕ) → is_named itself e.removes name ≡ true → ⊥
    none-gone name named = let clash : false ≡ true = sym (ap (λ ys. is_named itself ys name) removes) ∙ named in cc

    none-put : (name : List ℕ) → is_named name_of e.puts name ≡ true → ⊥
    none-put name named = let clash : false ≡ true = sym (ap (λ ys. is_named name_of ys name) puts) ∙ named in cc

-- without a database nothing is touched
loose-without : (c : Command) (moment : ℕ) (lines : List Line) (e : Effect) (t : State) → IsOutcomeWithout c moment (done lines e t) → IsLoose None c e t
loose-without (CreateDatabase dbid threads scn) moment lines e t comes =
    let quiet = founded-quiet dbid threads scn moment lines e t comes in
    nothing-named None (CreateDatabase dbid threads scn) e t quiet.0 quiet.1
loose-without c moment lines e t comes = absurd (let clash : done lines e t ≡ refused _ = comes in cc)

-- a later moment names the same objects
loose-later : (s : State) (moment : ℕ) (c : Command) (e : Effect) (t : State) → IsLoose (Some (at_moment s moment)) c e t → IsLoose (Some s) c e t
loose-later s moment c e t is = record { puts = puts; low = is.low; parts = is.parts; removes = is.removes; rolls = is.rolls }
  where
    puts : (name : List ℕ) → IsNamedIn (Some s) name → is_named name_of e.puts name ≡ true → Contains (names_in c) name
    puts _ (of_object name names) named = is.puts name (of_object name (names-of (ledger (at_moment s moment)) (ledger s) (λ x has. has) (λ x has. has) (λ x has. has) name names)) named
    puts _ (of_part p has) named = is.parts p.id named

pub loose-from : (c : Command) → StaysLoose c → (o : Option State) (m : Machine) (moment : ℕ) (lines : List Line) (e : Effect) (t : State)
    → m.state ≡ o → IsSoundMachine m → IsMomentIn o moment → IsOutcomeIn o m.objects c moment (done lines e t) → IsLoose o c e t
loose-from c law None m moment lines e t is sound at comes = loose-without c moment lines e t comes
loose-from c law (Some s) m moment lines e t is sound at comes =
    let was : IsBorneOut s m.history m.objects m.made m.touched = subst (λ o. IsSoundBy o m.history m.objects m.made m.touched) is sound in
    let moment_is : IsMomentOf s moment = record { kept = at.kept; last = at.last } in
    loose-later s moment c e t (law (at_moment s moment) m.objects lines e t (sound-later s moment was.state moment_is) comes)
