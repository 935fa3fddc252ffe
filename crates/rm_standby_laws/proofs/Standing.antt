-- An increment stands under its name from its BACKUP on, unless HOST gives that.
use Rattle.std.specs.Str.{bytes_eq}
use Rattle.std.proofs.Common.{◌≡◌, ◌<◌, ◌∙◌, inl, inr, ℕ, List, Option, Some, None, Bool, true, false, cond, refl, ap, sym, subst, arith, Contains}
use Rattle.std.proofs.lemmas.{Bool.{cases_Bool, false≢true}, Slice.Eq.{bytes_eq-Decides}}
use Rattle.rm_base.specs.Store.{Held}
use Rattle.rm_commit.{specs.Names.{is_named, itself, name_of, bytes_of, nothing}, proofs.Named.{unnamed-stays}}
use Rattle.rm_catalog_typed.specs.TypedCatalog.{TypedCatalog}
use Rattle.rm_evidence.{specs.Names.{roll_name}, proofs.Names.{roll-no-site}}
use Rattle.rm_piece.specs.{SetSpelling.{set_spelling}, declared.set.Set.{Set}}
use Rattle.rm_lang_statement.specs.declared.command.Command.{Command, TheVariants.{BackupFrom}}
use Rattle.rm_report.specs.declared.line.Reply.{Reply}
use Rattle.rm_machine.specs.{Damage.{without_damaged}, Effect.{Effect, LeavesObjects, Outcome, done, refused, told}, Laws.{IsMomentOf}}
use Rattle.rm_machine.specs.{Machine.{IsBorneOut, IsSoundBy, IsSoundMachine, Machine}, Rest.{Rest, Wakes, at_rest, catalog_in}}
use Rattle.rm_machine.specs.{Roll.{after_roll, increment, roll_effect, roll_refusal}, Saving.{IsSavedAs, object_of, parts_of, with_ids}}
use Rattle.rm_machine.specs.{State.{at_moment, ledger}, Step.{IsOutcome, Step, StepBy, StepIn, and_drops, names_in}}
use Rattle.rm_machine.{specs.declared.state.State.{State}, proofs.Later.{sound-later}}
use Rattle.rm_machine_laws.specs.{Loose.{IsGivenIn}, Moments.{IsMomentIn}, Saves.{IsEnded}, Stopped.{IsLeft, Stopped}}
use Rattle.rm_machine_laws.proofs.{Dropping.{named-first, unnamed-site}, Every.{every-loose, every-roomy}, Leading.{done-by}}
use Rattle.rm_machine_laws.proofs.LowNames.{step-rolls}
use Rattle.rm_standby_laws.{specs.Standing.{IsUnder, RestsIn, StandsIn}, proofs.{Beginning.{told-not}, Ended.{ended-either}}}
use Rattle.rm_standby_laws.proofs.{Lasting.{moment-of}, Steps.{stepped}}

module _ (id : ℕ) (a : Set) where
  -- where its object stands as it did, and its id is still given
  under : (o p : Option TypedCatalog) (before after : Held) → (IsGivenIn o id → IsGivenIn p id) → after (roll_name id) ≡ before (roll_name id)
      → IsUnder o before id a → IsUnder p after id a
  under o p before after given same is = record { given = given is.given; spelled = same ∙ is.spelled }

  -- A statement, and a stop

  module _ (m : Machine) (c : Command) (moment : ℕ) (sound : IsSoundMachine m) (at : IsMomentIn m.state moment) (other : ¬ Contains (names_in c) (roll_name id)) where
    given-later : (n : Machine) (reply : Reply) → Step m c moment reply n → IsGivenIn (catalog_in m.state) id → IsGivenIn (catalog_in n.state) id
    given-later n reply step = by m.state refl
      where
        by : (o : Option State) → m.state ≡ o → IsGivenIn (catalog_in o) id → IsGivenIn (catalog_in n.state) id
        by None is given = absurd given
        by (Some s) is given = elim (stepped m n s c moment reply is step) [
          | inl same ↦ subst (λ o. IsGivenIn (catalog_in o) id) (sym is ∙ sym (ap (λ (x : Machine). x.state) same)) given
          | inr d ↦
              let was : IsBorneOut s m.history m.objects m.made m.touched = subst (λ o. IsSoundBy o m.history m.objects m.made m.touched) is sound in
              let here : IsMomentOf s moment = moment-of s moment (subst (λ o. IsMomentIn o moment) is at) in
              let begun : State = at_moment s moment in
              let up = (every-roomy c begun m.objects d.lines d.effect d.state (sound-later s moment was.state here) d.comes).given in
              let low : id < (ledger d.state).base.next_id = omega (arith, given, up) in
              subst (λ o. IsGivenIn (catalog_in o) id) (sym d.follows.state) low
        ]

    pub stays : (n : Machine) (reply : Reply) → Step m c moment reply n → StandsIn m id a → StandsIn n id a
    stays n reply step is = elim (step-rolls c (every-loose c) m n moment reply sound at step id is.given) [
      | inl named ↦ absurd (other named)
      | inr same ↦ under (catalog_in m.state) (catalog_in n.state) m.objects n.objects (given-later n reply step) same is
    ]

  pub left-stands : (given : List (List ℕ)) (m : Machine) (r : Rest) → ¬ Contains given (roll_name id) → IsLeft given m r → StandsIn m id a → RestsIn r id a
  left-stands given m r other left is = elim (left.rolls id is.given) [
    | inl named ↦ absurd (other named)
    | inr same ↦ under (catalog_in m.state) r.catalog m.objects r.objects (λ low. subst (λ o. IsGivenIn o id) (sym left.catalog) low) same is
  ]

  pub stops-stands : (m : Machine) (c : Command) (moment : ℕ) (r : Rest) → IsSoundMachine m → IsMomentIn m.state moment
      → ¬ Contains (names_in c) (roll_name id) → Stopped m c moment r → StandsIn m id a → RestsIn r id a
  stops-stands m c moment r sound at other stopped is = left-stands (names_in c) stopped.machine r other stopped.left (elim stopped.one [
    | inl same ↦ subst (λ (x : Machine). StandsIn x id a) (sym same) is
    | inr went ↦ stays m c moment sound at other stopped.machine went.0 went.1 is
  ])

  -- The end of a session, and the beginning of the next

  rested : (m : Machine) (r : Rest) → r ≡ at_rest m → StandsIn m id a → RestsIn r id a
  rested m r same is = subst (λ (x : Rest). RestsIn x id a) (sym same) is

  saved : (m : Machine) (s : State) (r : Rest) → m.state ≡ Some s → IsSavedAs m (without_damaged s) r → StandsIn m id a → RestsIn r id a
  saved m s r to site is =
      let t : State = without_damaged s in
      let first : ℕ = (ledger t).base.next_id in
      let puts = with_ids object_of first (parts_of t) in
      let same = site.objects (roll_name id) ∙ unnamed-stays name_of bytes_of puts (roll_name id) (m.objects (roll_name id)) (unnamed-site first (parts_of t) (roll_name id) (roll-no-site id)) in
      under (catalog_in m.state) r.catalog m.objects r.objects (λ given.
      let low : id < first = subst (λ o. IsGivenIn (catalog_in o) id) to given in
      subst (λ o. IsGivenIn o id) (sym site.catalog) (omega (arith, low))) same is

  pub ended-stands : (m : Machine) (r : Rest) (applied : Bool) → IsEnded applied m r → StandsIn m id a → RestsIn r id a
  ended-stands m r applied ended is = elim (ended-either m r applied ended) [
    | inl rest ↦ rested m r rest is
    | inr site ↦ saved m site.state r site.is site.saved is
  ]

  pub wakes-stands : (m : Machine) (r : Rest) → Wakes r m → RestsIn r id a → StandsIn m id a
  wakes-stands m r wakes is = subst (λ (x : Rest). RestsIn x id a) (sym wakes.rest) is

-- Its BACKUP

same-name : (n : List ℕ) (x y : Option (List ℕ)) → cond (bytes_eq n n) x y ≡ x
same-name n x y = ap (λ (b : Bool). cond b x y) ((bytes_eq-Decides n n).1 refl)

put-there : (s q : State) (scn : ℕ) (before after : Held) → LeavesObjects (and_drops (Some s) (roll_effect q scn)) before after
    → after (roll_name (ledger q).base.next_id) ≡ Some (set_spelling (increment q scn))
put-there s q scn before after leaves =
    let e : Effect = roll_effect q scn in
    let name = roll_name (ledger q).base.next_id in
    let removes = (and_drops (Some s) e).removes in
    let stays : is_named itself removes name ≡ false = elim (cases_Bool (is_named itself removes name)) [
      | inl named ↦ absurd (false≢true (named-first (Some s) e name (roll-no-site (ledger q).base.next_id) named))
      | inr left ↦ left
    ] in
    leaves.removes name ∙ unnamed-stays itself nothing removes name (leaves.put name) stays ∙ leaves.puts name ∙ same-name name (Some (set_spelling (increment q scn))) (before name)

roll-put : (m n : Machine) (s q : State) (scn : ℕ) (reply : Reply) (o : Outcome) → m.state ≡ Some s → IsOutcome q m.objects (BackupFrom scn) o
    → StepBy (Some q) m (BackupFrom scn) o reply n → reply.refused ≡ false → StandsIn n (ledger q).base.next_id (increment q scn)
roll-put m n s q scn reply (refused r) to comes by accepted =
    absurd (let clash : true ≡ false = sym (ap (λ (x : Reply). x.refused) by.0) ∙ accepted in cc)
roll-put m n s q scn reply (told lines) to comes by accepted = absurd (told-not (roll_refusal q scn) q m.objects scn lines comes)
roll-put m n s q scn reply (done lines e t) to comes by accepted =
    let is = (done-by (roll_refusal q scn) q m.objects (BackupFrom scn) lines e t comes).1 in
    let effect : e ≡ roll_effect q scn = cc in
    let state : after_roll q ≡ t = cc in
    let low : (ledger q).base.next_id < (ledger (after_roll q)).base.next_id = omega arith in
    let leaves = subst (λ (o : Option State). LeavesObjects (and_drops o e) m.objects n.objects) to by.1.objects in
    record {
      given = subst (λ o. IsGivenIn (catalog_in o) (ledger q).base.next_id) (ap Some state ∙ sym by.1.state) low;
      spelled = put-there s q scn m.objects n.objects (subst (λ (x : Effect). LeavesObjects (and_drops (Some s) x) m.objects n.objects) effect leaves);
    }

pub increment-put : (m n : Machine) (s : State) (scn moment : ℕ) (reply : Reply) → m.state ≡ Some s → Step m (BackupFrom scn) moment reply n
    → reply.refused ≡ false → StandsIn n (ledger s).base.next_id (increment (at_moment s moment) scn)
increment-put m n s scn moment reply is step accepted =
    let q : State = at_moment s moment in
    let by : StepIn (Some s) m (BackupFrom scn) moment reply n = subst (λ o. StepIn o m (BackupFrom scn) moment reply n) is step in
    roll-put m n s q scn reply by.0 is by.1 by.2 accepted
