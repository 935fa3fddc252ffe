-- One step of a machine: the database grows, and what is true of an artefact stays true, also of one that no statement made.
use Rattle.std.proofs.Common.{◌≡◌, ◌∙◌, ◌++◌, ◌⊎◌, inl, inr, ℕ, List, [], ◌∷◌, Some, refl, ap, sym, subst, Contains}
use Rattle.std.proofs.lemmas.List.Elements.{Contains-append_left, Contains-push, Contains-push_cases}
use Rattle.rm_base.specs.declared.block.Change.{Change}
use Rattle.rm_evidence.{specs.Names.{roll_name}, proofs.Names.{log-no-roll, piece-no-roll, set-no-roll}}
use Rattle.rm_history.specs.History.{IsHistory}
use Rattle.rm_catalog_typed.specs.Worlds.{database_of}
use Rattle.rm_lang_statement.specs.declared.command.Command.{Command}
use Rattle.rm_report.specs.declared.line.{Line.{Line}, Reply.{Reply}}
use Rattle.rm_machine.specs.{Effect.{Artefact, Effect, LeavesObjects, Made, Outcome, done, refused, told}, Honest.{IsHonest}}
use Rattle.rm_machine.specs.Laws.{IsMomentOf}
use Rattle.rm_machine.specs.Machine.{DigestsTellFor, IsBorneOut, IsSoundBy, IsSoundMachine, IsTrueArtefact, Machine, TellBy}
use Rattle.rm_machine.specs.State.{at_moment, ledger, world}
use Rattle.rm_machine.specs.Step.{IsOutcome, IsStatement, MachineFollows, Step, StepBy, StepIn, and_drops, refusal_of}
use Rattle.rm_machine.{specs.declared.state.State.{State}, proofs.{Kept.{kept-on, stand-same, stays-so}, Later.{sound-later}}}
use Rattle.rm_machine_laws.proofs.{Every.{every-leads}, Leading.{done-by}}
use Rattle.rm_standby_laws.proofs.{EachStatement.{each-grows}, Growing.{Grows, goes-same, grows-on}}

-- What was done

pub record WasDone (m n : Machine) (s : State) (c : Command) (moment : ℕ) : Type 0 where
  pub lines : List Line
  pub effect : Effect
  pub state : State
  pub comes : IsOutcome (at_moment s moment) m.objects c (done lines effect state)
  pub follows : MachineFollows m c effect state n

-- a step leaves the machine as it is, or something was done
step-cases : (m n : Machine) (s : State) (c : Command) (moment : ℕ) (reply : Reply) (o : Outcome) → IsOutcome (at_moment s moment) m.objects c o
    → StepBy (Some (at_moment s moment)) m c o reply n → (n ≡ m) ⊎ WasDone m n s c moment
step-cases m n s c moment reply (refused r) comes by = inl by.1
step-cases m n s c moment reply (told lines) comes by = inl by.1
step-cases m n s c moment reply (done lines e t) comes by = inr (record { lines = lines; effect = e; state = t; comes = comes; follows = by.1 })

pub stepped : (m n : Machine) (s : State) (c : Command) (moment : ℕ) (reply : Reply) → m.state ≡ Some s → Step m c moment reply n → (n ≡ m) ⊎ WasDone m n s c moment
stepped m n s c moment reply is step =
    let by : StepIn (Some s) m c moment reply n = subst (λ o. StepIn o m c moment reply n) is step in
    step-cases m n s c moment reply by.0 by.1 by.2

-- so there is a database after it
pub state-after : (m n : Machine) (s : State) (c : Command) (moment : ℕ) (reply : Reply) → m.state ≡ Some s → Step m c moment reply n
    → (t : State) × (n.state ≡ Some t)
state-after m n s c moment reply is step = elim (stepped m n s c moment reply is step) [
  | inl same ↦ (s, ap (λ (x : Machine). x.state) same ∙ is)
  | inr d ↦ (d.state, d.follows.state)
]

-- A machine with an artefact more, under a name that no record has

abbrev besides : Artefact → Made
besides a = record { name = roll_name 0; artefact = a }

abbrev with_artefact : Machine → Artefact → Machine
with_artefact m a = record m { made = m.made ++ besides a ∷ [] }

module _ (m : Machine) (s : State) (a : Artefact) (is : m.state ≡ Some s) where
  borne-with : IsTrueArtefact (world s) m.history a → IsBorneOut s m.history m.objects m.made m.touched
      → IsBorneOut s m.history m.objects (m.made ++ besides a ∷ []) m.touched
  borne-with true_of borne = record {
    state = borne.state;
    keeps = borne.keeps;
    artefacts = λ y has. elim (Contains-push_cases m.made (besides a) y has) [
      | inl old ↦ borne.artefacts y old
      | inr one ↦ subst (λ (z : Made). IsTrueArtefact (world s) m.history z.artefact) one true_of
    ];
    records = kept-on m.objects m.objects m.made (m.made ++ besides a ∷ []) m.touched m.touched (ledger s) (ledger s)
        (stays-so (database_of (ledger s))) (stand-same m.objects m.objects m.touched (ledger s) (ledger s) (λ n. refl))
        (λ y has. Contains-append_left m.made (besides a ∷ []) y has) (λ e has. inl has) (λ e has. inl has) (λ e has. inl has) borne.records;
  }

  sound-with : IsTrueArtefact (world s) m.history a → IsSoundMachine m → IsSoundMachine (with_artefact m a)
  sound-with true_of sound =
      subst (λ o. IsSoundBy o m.history m.objects (m.made ++ besides a ∷ []) m.touched) (sym is)
      (borne-with true_of (subst (λ o. IsSoundBy o m.history m.objects m.made m.touched) is sound))

  -- another name's artefact was made before
  made-before : (x : Made) → Contains (m.made ++ besides a ∷ []) x → ¬ (x.name ≡ roll_name 0) → Contains m.made x
  made-before x has other = elim (Contains-push_cases m.made (besides a) x has) [
    | inl old ↦ old
    | inr one ↦ absurd (other (sym (ap (λ (y : Made). y.name) one)))
  ]

  tell-with : DigestsTellFor m.objects m.made m.touched (ledger s) → DigestsTellFor m.objects (m.made ++ besides a ∷ []) m.touched (ledger s)
  tell-with tells = record {
    logs = λ e x bytes given has made. tells.logs e x bytes given has (made-before _ made (log-no-roll e.id 0));
    pieces = λ e x bytes given has made. tells.pieces e x bytes given has (made-before _ made (piece-no-roll e.copy e.id 0));
    sets = λ e x bytes given has made. tells.sets e x bytes given has (made-before _ made (set-no-roll e.id 0));
  }

  honest-with : (c : Command) → IsHonest m c → IsHonest (with_artefact m a) c
  honest-with c honest = record {
    digests =
        let tells = subst (λ o. TellBy o m.objects m.made m.touched) is honest.digests in
        subst (λ o. TellBy o m.objects (m.made ++ besides a ∷ []) m.touched) (sym is) (tell-with tells);
    catalogues = λ name bytes q t moment lines e named stands comes held.
        let was = honest.catalogues name bytes q t moment lines e named stands comes held in
        record { one = was.one; is = Contains-append_left m.made (besides a ∷ []) was.one was.is; spelled = was.spelled };
  }

-- The step

-- what is so of a database and its history after it: that is one of the database, and the artefact is true
pub record IsAfter (q : State) (h : List Change) (a : Artefact) : Type 0 where
  pub history : IsHistory (world q) h
  pub stays : IsTrueArtefact (world q) h a

module _ (m n : Machine) (s t : State) (c : Command) (moment : ℕ) (reply : Reply) (well : IsStatement c) (sound : IsSoundMachine m)
    (honest : IsHonest m c) (is : m.state ≡ Some s) (at : IsMomentOf s moment) (step : Step m c moment reply n) (to : n.state ≡ Some t) where
  pub borne : IsBorneOut s m.history m.objects m.made m.touched
  borne = subst (λ o. IsSoundBy o m.history m.objects m.made m.touched) is sound

  same-state : n ≡ m → s ≡ t
  same-state same = let one : Some s ≡ Some t = sym is ∙ sym (ap (λ (x : Machine). x.state) same) ∙ to in cc

  done-state : (d : WasDone m n s c moment) → d.state ≡ t
  done-state d = let one : Some d.state ≡ Some t = sym d.follows.state ∙ to in cc

  pub grown : Grows s t
  grown = elim (stepped m n s c moment reply is step) [
    | inl same ↦ subst (Grows s) (same-state same) (grows-on s s (goes-same s s refl))
    | inr d ↦
        let begun : State = at_moment s moment in
        let both = done-by (refusal_of begun c) begun m.objects c d.lines d.effect d.state d.comes in
        let grows = each-grows c begun m.objects d.lines d.effect d.state (sound-later s moment borne.state at) both.1 in
        subst (Grows s) (done-state d) (record { keeps = grows.keeps; stays = grows.stays; comes = grows.comes })
  ]

  pub still-true : (a : Artefact) → IsTrueArtefact (world s) m.history a → IsAfter t n.history a
  still-true a true_of = elim (stepped m n s c moment reply is step) [
    | inl same ↦
        let past : m.history ≡ n.history = sym (ap (λ (x : Machine). x.history) same) in
        let here : IsAfter s m.history a = record { history = borne.keeps.history; stays = true_of } in
        subst (λ q. IsAfter q n.history a) (same-state same) (subst (λ (h : List Change). IsAfter s h a) past here)
    | inr d ↦
        let leaves = subst (λ o. LeavesObjects (and_drops o d.effect) m.objects n.objects) is d.follows.objects in
        let sound_too = sound-with m s a is true_of sound in
        let honest_too = honest-with m s a is c honest in
        let on = every-leads c (with_artefact m a) s moment d.lines d.effect d.state n.objects well is sound_too honest_too at d.comes leaves in
        let k : Machine = on.0 in
        let follows : MachineFollows (with_artefact m a) c d.effect d.state k = on.1.1 in
        let after : IsBorneOut d.state k.history k.objects k.made k.touched =
        subst (λ o. IsSoundBy o k.history k.objects k.made k.touched) follows.state on.3 in
        let first = Contains-append_left (m.made ++ besides a ∷ []) d.effect.made (besides a) (Contains-push m.made (besides a)) in
        let has = subst (λ (xs : List Made). Contains xs (besides a)) (sym follows.made) first in
        let past : k.history ≡ n.history = follows.history ∙ sym d.follows.history in
        subst (λ q. IsAfter q n.history a) (done-state d)
        (subst (λ (h : List Change). IsAfter d.state h a) past (record { history = after.keeps.history; stays = after.artefacts (besides a) has }))
  ]
