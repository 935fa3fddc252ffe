-- What is handed out and carried out is a step.
use Rattle.std.{specs.Option.{option_map}, proofs.Common.{◌≡◌, ◌∙◌, ℕ, List, Option, Some, None, refl, ap, sym, subst}}
use Rattle.rm_base.{specs.{Store.{Held}, declared.refusal.Refusal.{Refusal}}, proofs.Both.{both-told}}
use Rattle.rm_catalog.specs.{Edits.{after_edits}, declared.record.Record.{Record}}
use Rattle.rm_commit.specs.{Carrying.{AreMoved, Carried}, Names.{HasPuts, HasRemoves}, declared.commit.Commit.{Commit}}
use Rattle.rm_lang_statement.specs.declared.command.Command.{Command, TheVariants.{CreateDatabase}}
use Rattle.rm_report.specs.{Reply.{refused_by, said}, declared.line.{Line.{Line}, Reply.{Reply}}}
use Rattle.rm_machine.specs.{Effect.{Effect, LeavesObjects, Outcome, done, refused, told}, Honest.{IsHonest}}
use Rattle.rm_machine.specs.{Laws.{LeadsOn, StaysSound, TellsOn}, Machine.{IsBorneOut, IsSoundBy, IsSoundMachine, Machine}}
use Rattle.rm_machine.specs.{Rest.{HaveParts}, State.{at_moment}, Step.{IsOutcomeWithout, IsStatement, Step, StepBy, StepIn, and_drops}}
use Rattle.rm_machine.specs.declared.state.State.{State}
use Rattle.rm_machine_laws.specs.{Carries.{IsHanded, IsOutcomeIn}, Holds.{Holds, records, records_in, saved_in}, Moments.{IsMomentIn}}
use Rattle.rm_machine_laws.{specs.Steps.{StepsAt}, proofs.Founding.{founded-unsaved, without-leads}}

-- the database on which a statement acts at this moment, if there is one
abbrev pub acts_on : Option State → ℕ → Option State
acts_on None moment = None
acts_on (Some s) moment = Some (at_moment s moment)

-- what is at hand leads a sound machine on to a sound one, from a database or none
abbrev pub LeadsFrom : Option State → Command → Type 0
LeadsFrom o c =
    (m : Machine) (moment : ℕ) (lines : List Line) (effect : Effect) (t : State) (after : Held)
    → IsStatement c → m.state ≡ o → IsSoundMachine m → IsHonest m c → IsMomentIn o moment
    → IsOutcomeIn o m.objects c moment (done lines effect t) → LeavesObjects (and_drops o effect) m.objects after
    → (n : Machine) × StepBy (acts_on o moment) m c (done lines effect t) (said lines) n × (n.objects ≡ after) × IsSoundMachine n

pub leads-from : (c : Command) → LeadsOn c → (o : Option State) → LeadsFrom o c
leads-from c law None = λ m moment lines effect t after well is sound tell at comes leaves. without-leads c m moment lines effect t after well is sound at.last comes leaves
leads-from c law (Some s) = λ m moment lines effect t after well is sound tell at comes leaves.
    law m s moment lines effect t after well is sound tell (record { kept = at.kept; last = at.last }) comes leaves

-- where there is no database, only a new one is done
unsaved-without : (c : Command) (moment : ℕ) (lines : List Line) (e : Effect) (t : State) → IsOutcomeWithout c moment (done lines e t) → t.catalog.saved ≡ None
unsaved-without (CreateDatabase dbid threads scn) moment lines e t comes = founded-unsaved dbid threads scn moment lines e t comes
unsaved-without c moment lines e t comes = absurd (let clash : done lines e t ≡ refused _ = comes in cc)

-- after what is done no site is saved
unsaved : (c : Command) → StaysSound c → (o : Option State) (m : Machine) (moment : ℕ) (lines : List Line) (e : Effect) (t : State)
    → IsStatement c → m.state ≡ o → IsSoundMachine m → IsMomentIn o moment → IsOutcomeIn o m.objects c moment (done lines e t) → t.catalog.saved ≡ None
unsaved c law None m moment lines e t well is sound at comes = unsaved-without c moment lines e t comes
unsaved c law (Some s) m moment lines e t well is sound at comes =
    let was : IsBorneOut s m.history m.objects m.made m.touched = subst (λ o. IsSoundBy o m.history m.objects m.made m.touched) is sound in
    (law s m.objects moment lines e t well was.state (record { kept = at.kept; last = at.last }) comes).1

-- so there are no parts of one
pub no-parts : (n : Machine) (t : State) → n.state ≡ Some t → t.catalog.saved ≡ None → HaveParts n.objects n.made n.touched (saved_in n.state)
no-parts n t is none =
    subst (λ o. HaveParts n.objects n.made n.touched (saved_in o)) (sym is) (subst (HaveParts n.objects n.made n.touched) (sym none) tt)

-- the objects of a saved site only go
pub same-puts : (o : Option State) (e : Effect) → (and_drops o e).puts ≡ e.puts
same-puts None e = refl
same-puts (Some s) e = refl

-- what a statement comes to is its step
pub step-in : (o : Option State) (m : Machine) (c : Command) (moment : ℕ) (r : Outcome) (reply : Reply) (n : Machine) → m.state ≡ o → IsOutcomeIn o m.objects c moment r → StepBy (acts_on o moment) m c r reply n → Step m c moment reply n
step-in None m c moment r reply n is comes by = subst (λ x. StepIn x m c moment reply n) (sym is) (r, comes, by)
step-in (Some s) m c moment r reply n is comes by = subst (λ x. StepIn x m c moment reply n) (sym is) (r, comes, by)

-- the machine after the whole of it
pub record IsFinished (m : Machine) (c : Command) (moment : ℕ) (lines : List Line) (t : State) (objects : Held) : Type 0 where
  pub machine : Machine
  pub step : Step m c moment (said lines) machine
  pub state : machine.state ≡ Some t
  pub objects_are : machine.objects ≡ objects
  pub sound : IsSoundMachine machine
  pub unsaved_is : t.catalog.saved ≡ None

module _ (c : Command) (law : LeadsOn c) (stays : StaysSound c) (held : Option Held) (kept : Option (List Record)) (o : Option State) (moment : ℕ) (lines : List Line) (x : Commit) (t : State)
    (well : IsStatement c) (at : IsMomentIn o moment) (handed : IsHanded held o c moment lines x t) where
  pub finished : (m : Machine) → m.state ≡ o → Holds held kept m → IsHonest m c → (put objects : Held) → HasPuts x.objects m.objects put → HasRemoves x.removes put objects
      → IsFinished m c moment lines t objects
  finished m is holds tell put objects puts removes =
      let comes = handed.comes m.objects holds.store in
      let leaves : LeavesObjects (and_drops o handed.effect) m.objects objects = record {
        put = put;
        puts = subst (λ y. HasPuts y m.objects put) (handed.puts ∙ sym (same-puts o handed.effect)) puts;
        removes = subst (λ y. HasRemoves y put objects) handed.removes removes;
      } in
      let on = leads-from c law o m moment lines handed.effect t objects well is holds.sound tell at comes leaves in
      record {
        machine = on.0;
        step = step-in o m c moment (done lines handed.effect t) (said lines) on.0 is comes on.1;
        state = on.1.1.state;
        objects_are = on.2;
        sound = on.3;
        unsaved_is = unsaved c stays o m moment lines handed.effect t well is holds.sound at comes;
      }

  -- the keeper has the records after it
  pub edited : (kept' : Option (List Record)) (m n : Machine) → m.state ≡ o → n.state ≡ Some t → kept ≡ Some (records m) → kept' ≡ option_map (after_edits x.edits) kept → kept' ≡ Some (records n)
  edited kept' m n is to keeper made =
      made ∙ ap (option_map (after_edits x.edits)) keeper ∙ ap Some (ap (λ (y : Option State). after_edits x.edits (records_in y)) is ∙ handed.edits ∙ sym (ap records_in to))

  pub carried-on : (held' : Option Held) (kept' : Option (List Record)) → Carried x held kept held' kept' → StepsAt held kept o c moment (said lines) held' kept' (Some t)
  carried-on held' kept' all m is holds tell =
      let now = both-told (AreMoved x) held held' m.objects holds.store all.objects in
      let last = finished m is holds tell now.1.put now.0 now.1.puts now.1.removes in (
        last.machine,
        last.step,
        last.state,
        record {
          store = now.2 ∙ ap Some (sym last.objects_are);
          keeper = edited kept' m last.machine is last.state holds.keeper all.records;
          sound = last.sound;
          parts = no-parts last.machine t last.state last.unsaved_is;
        },
      )

-- a refusal is a step to the same machine, and so is what only tells
pub refused-step : (held : Option Held) (kept : Option (List Record)) (o : Option State) (c : Command) (moment : ℕ) (r : Refusal)
    → ((objects : Held) → held ≡ Some objects → IsOutcomeIn o objects c moment (refused r)) → StepsAt held kept o c moment (refused_by r) held kept o
refused-step held kept o c moment r comes m is holds tell =
    (m, step-in o m c moment (refused r) (refused_by r) m is (comes m.objects holds.store) (refl, refl), is, holds)

pub told-step : (held : Option Held) (kept : Option (List Record)) (s : State) (c : Command) (moment : ℕ) (lines : List Line) → TellsOn c → IsStatement c → IsMomentIn (Some s) moment
    → ((objects : Held) → held ≡ Some objects → IsOutcomeIn (Some s) objects c moment (told lines)) → StepsAt held kept (Some s) c moment (said lines) held kept (Some s)
told-step held kept s c moment lines law well at comes m is holds tell =
    let come = comes m.objects holds.store in
    (m, step-in (Some s) m c moment (told lines) (said lines) m is come (law m s moment lines well is holds.sound tell (record { kept = at.kept; last = at.last }) come), is, holds)
