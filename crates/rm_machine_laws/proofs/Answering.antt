-- How a statement is answered where there is a database, and over the site.
use Rattle.std.specs.Prelude.{Result, Ok, Err, OnErr}
use Rattle.std.proofs.Common.{◌≡◌, ◌∙◌, ◌++◌, ◌&&◌, ◌||◌, not, ℕ, Bool, List, [], Option, Some, None, true, ap, sym, subst}
use Rattle.std.proofs.{Math.Bool.{or-false}, lemmas.List.{append-nil}}
use Rattle.rm_base.specs.{Store.{Held}, declared.refusal.Refusal.{Refusal}}
use Rattle.rm_catalog.specs.{Edits.{after_edits}, declared.record.{Edit.{Edit}, Record.{Record}}}
use Rattle.rm_commit.specs.{Carrying.{Carried, Halted}, declared.commit.Commit.{Commit}}
use Rattle.rm_lang_statement.specs.declared.command.Command.{Command}
use Rattle.rm_report.specs.{Reply.{refused_by, said}, declared.line.{Line.{Line}, Reply.{Reply}}}
use Rattle.rm_catalog_typed.specs.{Changes.{EditsFollow, with_moment, without_saved}, Facts.{IsTypedCatalog}}
use Rattle.rm_catalog_typed.specs.{TypedCatalog.{TypedCatalog, Saved, records_of}, Starting.{with_earlier}}
use Rattle.rm_machine.specs.{Comes.{ComesTo, IsRefusedBy}, Effect.{done, refused, told}, Laws.{only_tells}, Sound.{IsSound}}
use Rattle.rm_machine.specs.{State.{at_moment, ledger}, Step.{IsOutcome, IsOutcomeBy, IsStatement, Step, refusal_of}, Saved.{saved_names}}
use Rattle.rm_machine.specs.declared.{answer.Answer.{Answer, TheVariants.{Refused, Told, Done}}, handed.Handed.{Handed}}
use Rattle.rm_machine.{specs.declared.state.State.{State}, proofs.Later.{sound-later}}
use Rattle.rm_machine_laws.specs.{Carries.{IsHanded, IsOutcomeIn}, Holds.{View, records_in}, Moments.{IsMomentIn, moment_of}}
use Rattle.rm_machine_laws.specs.{Refused.{AnsweredBy, refusal_in}, Saves.{applies}, Steps.{IsStepAt, Steps, StepsAt}}
use Rattle.rm_machine_laws.{specs.Stopped.{IsStopAt, Stopped, Stops, StopsAt}, proofs.Leading.{stays as keeps-sound}}
use Rattle.rm_machine_laws.proofs.Carried.{carried-on, refused-step, told-step}
use Rattle.rm_machine_laws.proofs.{Every.{every-leads, every-loose, every-stays, every-tells}, Halting.{halts, nothing-done}}

pub no_more_names : (names : List (List ℕ)) → names ≡ names ++ []
no_more_names names = sym (append-nil names)

pub on-err : {T E : Type 0} (P : Type 0) (r : Result T E) → P → OnErr r P
on-err P (Ok x) p = tt
on-err P (Err e) p = p

-- a refusal is the one of the state, or one by what the objects hold
answered-by : (o : Option Refusal) (c : Command) (r : Refusal) (reply : Reply) (s t : Option State) → IsRefusedBy o c (Refused r) → reply ≡ refused_by r → t ≡ s → AnsweredBy o c reply s t
answered-by (Some q) c r reply s t is said_is same = (let one : r ≡ q = cc in said_is ∙ ap refused_by one, same)
answered-by None c r reply s t is said_is same = record { objects = λ _. is; same = λ _. same }

-- The steps and stops, as words of their own

module _ (held : Option Held) (kept : Option (List Record)) (c : Command) (moment : ℕ) where
  pub is-refused : (o p : Option State) (r : Refusal) (reply : Reply) (held' : Option Held) → p ≡ o → held' ≡ held → reply ≡ refused_by r
      → ((objects : Held) → held ≡ Some objects → IsOutcomeIn o objects c moment (refused r)) → IsStepAt held kept o c moment reply held' kept p
  unfolding IsStepAt
  is-refused o p r reply held' same stays said_is comes =
      subst (λ (x : Option State). StepsAt held kept o c moment reply held' kept x) (sym same)
      (subst (λ (x : Option Held). StepsAt held kept o c moment reply x kept o) (sym stays)
      (subst (λ (x : Reply). StepsAt held kept o c moment x held kept o) (sym said_is) (refused-step held kept o c moment r comes)))

  is-told : (s : State) (p : Option State) (lines : List Line) (reply : Reply) (held' : Option Held) → p ≡ Some s → held' ≡ held → reply ≡ said lines
      → IsStatement c → IsMomentIn (Some s) moment → ((objects : Held) → held ≡ Some objects → IsOutcomeIn (Some s) objects c moment (told lines)) → IsStepAt held kept (Some s) c moment reply held' kept p
  unfolding IsStepAt
  is-told s p lines reply held' same stays said_is well at comes =
      subst (λ (x : Option State). StepsAt held kept (Some s) c moment reply held' kept x) (sym same)
      (subst (λ (x : Option Held). StepsAt held kept (Some s) c moment reply x kept (Some s)) (sym stays)
      (subst (λ (x : Reply). StepsAt held kept (Some s) c moment x held kept (Some s)) (sym said_is) (told-step held kept s c moment lines (every-tells c) well at comes)))

  pub is-carried : (before : Option Held) (o : Option State) (lines : List Line) (x : Commit) (t : State) (reply : Reply) (held' : Option Held) (kept' : Option (List Record)) → before ≡ held → reply ≡ said lines
      → IsStatement c → IsMomentIn o moment → IsHanded held o c moment lines x t → Carried x before kept held' kept' → IsStepAt held kept o c moment reply held' kept' (Some t)
  unfolding IsStepAt
  is-carried before o lines x t reply held' kept' stays said_is well at handed all =
      let on = subst (λ (h : Option Held). Carried x h kept held' kept') stays all in
      subst (λ (r : Reply). StepsAt held kept o c moment r held' kept' (Some t)) (sym said_is) (carried-on c (every-leads c) (keeps-sound c (every-stays c)) held kept o moment lines x t well at handed held' kept' on)

  pub is-halted : {T E : Type 0} (r : Result T E) (before : Option Held) (o : Option State) (lines : List Line) (x : Commit) (t : State) (held' : Option Held) (kept' : Option (List Record)) → before ≡ held
      → IsStatement c → IsMomentIn o moment → IsHanded held o c moment lines x t → Halted x before kept held' kept' → OnErr r (IsStopAt held kept o c moment held' kept')
  unfolding IsStopAt
  is-halted r before o lines x t held' kept' stays well at handed all =
      let on = subst (λ (h : Option Held). Halted x h kept held' kept') stays all in
      on-err (StopsAt held kept o c moment held' kept') r (halts c (every-leads c) (keeps-sound c (every-stays c)) (every-loose c) held kept o moment lines x t well at handed held' kept' on)

  -- where nothing was done yet
  pub untouched : {T E : Type 0} (r : Result T E) (o : Option State) (held' : Option Held) → held' ≡ held → OnErr r (IsStopAt held kept o c moment held' kept)
  unfolding IsStopAt
  untouched r o held' stays = on-err (StopsAt held kept o c moment held' kept) r (subst (λ (h : Option Held). StopsAt held kept o c moment h kept) (sym stays) (nothing-done held kept o c moment))

-- A statement begins on the state s: its catalog is then r, and these stood there before.
pub record Begins (s : State) (moment : ℕ) (r : TypedCatalog) (earlier : ℕ) (saved : Option Saved) : Type 0 where
  pub after : r ≡ without_saved (with_moment s.catalog moment)
  pub moment_is : earlier ≡ (ledger s).base.moment
  pub saved_is : saved ≡ s.catalog.saved

pub begun : (s : State) (moment : ℕ) {r : TypedCatalog} {earlier : ℕ} {saved : Option Saved} → r ≡ without_saved (with_moment s.catalog moment) → earlier ≡ (ledger s).base.moment → saved ≡ s.catalog.saved
    → Begins s moment r earlier saved
begun s moment after moment_is saved_is = record { after = after; moment_is = moment_is; saved_is = saved_is }

module _ {s : State} {moment : ℕ} {r : TypedCatalog} {earlier : ℕ} {saved : Option Saved} (begins : Begins s moment r earlier saved) where
  -- the state on which it acts
  abbrev b : State
  b = record s { catalog = r }

  at-moment : b ≡ at_moment s moment
  at-moment = ap (λ (x : TypedCatalog). record s { catalog = x }) begins.after

  pub begins-sound : IsSound s → IsMomentIn (Some s) moment → IsSound b
  begins-sound is at = subst IsSound (sym at-moment) (sound-later s moment is (record { kept = at.kept; last = at.last }))

  -- what stood in the catalog before the statement stands there again
  again : (t : State) → t ≡ b → with_earlier t.catalog earlier saved ≡ s.catalog
  again t same =
      ap (λ (y : State). with_earlier y.catalog earlier saved) (same ∙ at-moment)
      ∙ ap (λ (n : ℕ). with_earlier (at_moment s moment).catalog n saved) begins.moment_is
      ∙ ap (λ (o : Option Saved). with_earlier (at_moment s moment).catalog (ledger s).base.moment o) begins.saved_is

  pub valid-again : (t : State) → t ≡ b → IsSound s → IsTypedCatalog (with_earlier t.catalog earlier saved)
  valid-again t same is = subst IsTypedCatalog (sym (again t same)) is.catalog

  pub back-again : (t : State) (u : TypedCatalog) → t ≡ b → u ≡ with_earlier t.catalog earlier saved → record t { catalog = u } ≡ s
  back-again t u same is = ap (λ (x : TypedCatalog). record t { catalog = x }) (is ∙ again t same) ∙ ap (λ (y : State). record y { catalog = s.catalog }) same

  pub sound-again : (t : State) (u : TypedCatalog) → t ≡ b → u ≡ with_earlier t.catalog earlier saved → IsSound s → IsSound (record t { catalog = u })
  sound-again t u same is sound = subst IsSound (sym (back-again t u same is)) sound

  module _ (held : Option Held) (c : Command) (a : Answer) (t : State) (comes : ComesTo held b c a t) where
    -- a refusal and what only tells change nothing
    pub quiet-refused : (q : Refusal) → a ≡ Refused q → t ≡ b
    quiet-refused q is = (subst (λ (x : Answer). ComesTo held b c x t) is comes).0

    pub quiet-told : (lines : List Line) → a ≡ Told lines → t ≡ b
    quiet-told lines is = (subst (λ (x : Answer). ComesTo held b c x t) is comes).0

    -- what it comes to then, on the state at its moment
    pub comes-refused : (q : Refusal) → a ≡ Refused q → (objects : Held) → held ≡ Some objects → IsOutcome (at_moment s moment) objects c (refused q)
    comes-refused q is objects tells = subst (λ (x : State). IsOutcome x objects c (refused q)) at-moment ((subst (λ (x : Answer). ComesTo held b c x t) is comes).1 objects tells)

    pub comes-told : (lines : List Line) → a ≡ Told lines → (objects : Held) → held ≡ Some objects → IsOutcome (at_moment s moment) objects c (told lines)
    comes-told lines is objects tells = subst (λ (x : State). IsOutcome x objects c (told lines)) at-moment ((subst (λ (x : Answer). ComesTo held b c x t) is comes).1 objects tells)

    pub refused-in : (kept : Option (List Record)) (q : Refusal) (u : TypedCatalog) (reply : Reply) (held' : Option Held) → a ≡ Refused q → u ≡ with_earlier t.catalog earlier saved → held' ≡ held → reply ≡ refused_by q
        → IsStepAt held kept (Some s) c moment reply held' kept (Some (record t { catalog = u }))
    refused-in kept q u reply held' is back stays said_is =
        is-refused held kept c moment (Some s) (Some (record t { catalog = u })) q reply held' (ap Some (back-again t u (quiet-refused q is) back)) stays said_is (comes-refused q is)

    pub told-in : (kept : Option (List Record)) (lines : List Line) (u : TypedCatalog) (reply : Reply) (held' : Option Held) → a ≡ Told lines → u ≡ with_earlier t.catalog earlier saved → held' ≡ held → reply ≡ said lines
        → IsStatement c → IsMomentIn (Some s) moment → IsStepAt held kept (Some s) c moment reply held' kept (Some (record t { catalog = u }))
    told-in kept lines u reply held' is back stays said_is well at =
        is-told held kept c moment s (Some (record t { catalog = u })) lines reply held' (ap Some (back-again t u (quiet-told lines is) back)) stays said_is well at (comes-told lines is)

    -- what is done is handed out, with the edits of the moment and then its own
    pub handed-in : (x : Handed) (none first all edits : List Edit) (names : List (List ℕ)) → a ≡ Done x → none ≡ [] → EditsFollow none first s.catalog r → EditsFollow first all r t.catalog → edits ≡ all
        → names ≡ x.removes ++ saved_names saved → IsHanded held (Some s) c moment x.lines (record { objects = x.objects; edits = edits; removes = names }) t
    handed-in x none first all edits names is empty one two same gone =
        let this = subst (λ (y : State). ComesTo held y c (Done x) t) at-moment (subst (λ (y : Answer). ComesTo held b c y t) is comes) in
        let lead = two.lead (records_of s.catalog) (one.lead (records_of s.catalog) (ap (λ (es : List Edit). after_edits es (records_of s.catalog)) empty)) in
        record {
          effect = this.1.effect;
          comes = λ objects tells. subst (λ o. IsOutcomeBy o (at_moment s moment) objects c (done x.lines this.1.effect t)) (sym this.0) (this.1.comes objects tells);
          puts = this.1.puts;
          removes = gone ∙ ap (λ xs. xs ++ saved_names saved) this.1.removes ∙ ap (λ (o : Option Saved). this.1.effect.removes ++ saved_names o) begins.saved_is;
          edits = ap (λ (es : List Edit). after_edits es (records_in (Some s))) same ∙ lead;
        }

    pub answered-in : (q : Refusal) (u : TypedCatalog) (reply : Reply) → a ≡ Refused q → u ≡ with_earlier t.catalog earlier saved → IsRefusedBy (refusal_of b c) c a → reply ≡ refused_by q
        → AnsweredBy (refusal_of (at_moment s moment) c) c reply (Some s) (Some (record t { catalog = u }))
    answered-in q u reply is back by said_is =
        answered-by (refusal_of (at_moment s moment) c) c q reply (Some s) (Some (record t { catalog = u }))
        (subst (λ (y : State). IsRefusedBy (refusal_of y c) c (Refused q)) at-moment (subst (λ (x : Answer). IsRefusedBy (refusal_of b c) c x) is by)) said_is
        (ap Some (back-again t u (quiet-refused q is) back))

-- what is refused applies nothing
unapplied : (a : Bool) (c : Command) (reply : Reply) → reply.refused ≡ true → (a || applies c reply) ≡ a
unapplied a c reply said_no = ap (λ (b : Bool). a || (not b && not (only_tells c))) said_no ∙ or-false a

-- and over the site, which shows v; its database is o

module _ (o : Option State) (v : View) (c : Command) (clock moment : ℕ) (from : o ≡ v.state) (is : moment ≡ moment_of o clock) where
  -- what it shows afterwards
  abbrev pub after : Option State → Reply → View
  after p reply = record { state = p; live = true; applied = v.applied || applies c reply }

  same-moment : (p : Option State) → p ≡ v.state → moment ≡ moment_of p clock
  same-moment p stands = is ∙ ap (λ (x : Option State). moment_of x clock) (from ∙ sym stands)

  pub steps-of : (held held' : Option Held) (kept kept' : Option (List Record)) (reply : Reply) (p : Option State) → IsStepAt held kept o c moment reply held' kept' p
      → (applied : Bool) → Steps held kept v c clock reply held' kept' (record { state = p; live = true; applied = applied })
  unfolding IsStepAt
  steps-of held held' kept kept' reply p step applied m stands holds tell =
      let on = step m (stands ∙ sym from) holds tell in
      (on.0, subst (λ n. Step m c n reply on.0) (same-moment m.state stands) on.1, on.2, on.3)

  pub stops-of : {T E : Type 0} (r : Result T E) (held held' : Option Held) (kept kept' : Option (List Record)) → IsStopAt held kept o c moment held' kept' → OnErr r (Stops held kept v c clock held' kept')
  unfolding IsStopAt
  stops-of (Ok x) held held' kept kept' stop = tt
  stops-of (Err e) held held' kept kept' stop = λ m stands holds tell.
      let on = stop m (stands ∙ sym from) holds tell in
      (on.0, subst (λ n. Stopped m c n on.0) (same-moment m.state stands) on.1, on.2)

  shown : (reply : Reply) (p : Option State) → v.live ≡ true → reply.refused ≡ true → p ≡ o → after p reply ≡ v
  shown reply p live said_no same =
      ap (λ (x : Option State). after x reply) (same ∙ from)
      ∙ ap (λ (b : Bool). record { state = v.state; live = b; applied = v.applied || applies c reply }) (sym live)
      ∙ ap (λ (b : Bool). record { state = v.state; live = v.live; applied = b }) (unapplied v.applied c reply said_no)

  answered-by-view : (r : Option Refusal) (reply : Reply) (p : Option State) → v.live ≡ true → AnsweredBy r c reply o p → AnsweredBy r c reply v (after p reply)
  answered-by-view (Some q) reply p live by = (by.0, shown reply p live (ap (λ (x : Reply). x.refused) by.0) by.1)
  answered-by-view None reply p live by = record { objects = by.objects; same = λ said_no. shown reply p live said_no (by.same said_no) }

  answered-as : (reply : Reply) (p : Option State) → v.live ≡ true → AnsweredBy (refusal_in o c moment) c reply o p
      → AnsweredBy (refusal_in v.state c (moment_of v.state clock)) c reply v (after p reply)
  answered-as reply p live by =
      subst (λ (r : Option Refusal). AnsweredBy r c reply v (after p reply)) (ap (refusal_in o c) is ∙ ap (λ (x : Option State). refusal_in x c (moment_of x clock)) from)
      (answered-by-view (refusal_in o c moment) reply p live by)

  pub answered-of : (reply : Reply) (p : Option State) (applied : Bool) → applied ≡ (v.applied || applies c reply) → v.live ≡ true → AnsweredBy (refusal_in o c moment) c reply o p
      → AnsweredBy (refusal_in v.state c (moment_of v.state clock)) c reply v (record { state = p; live = true; applied = applied })
  answered-of reply p applied has live by =
      subst (λ (b : Bool). AnsweredBy (refusal_in v.state c (moment_of v.state clock)) c reply v (record { state = p; live = true; applied = b })) (sym has)
      (answered-as reply p live by)
