-- Under an id that was given stands what stood there, but where HOST gave the name, or where the statement takes the object away. No statement
-- takes an increment away.
use Rattle.std.specs.Str.{bytes_eq}
use Rattle.std.proofs.Common.{◌≡◌, ◌∙◌, ◌||◌, ◌⊎◌, inl, inr, ℕ, List, [], ◌∷◌, Option, Some, None, Bool, true, false, cond, refl, ap, sym, subst, Contains}
use Rattle.std.proofs.lemmas.Bool.{cases_Bool}
use Rattle.rm_base.specs.Store.{Held}
use Rattle.rm_commit.specs.Names.{HasPuts, HasRemoves, SameBeyondPuts, SameBeyondRemoves, after_all, bytes_of, is_named, itself, name_of, nothing}
use Rattle.rm_commit.{specs.declared.commit.Object.{Object}, proofs.Named.{unnamed-stays}}
use Rattle.rm_evidence.{specs.Names.{roll_name}, proofs.Names.{roll-no-site}}
use Rattle.rm_lang_statement.specs.declared.command.Command.{Command}
use Rattle.rm_report.specs.declared.line.Reply.{Reply}
use Rattle.rm_machine.specs.{Effect.{Outcome, done, refused, told}, Machine.{IsSoundMachine, Machine}}
use Rattle.rm_machine.specs.{Step.{Step, StepBy, StepIn, and_drops, names_in}, Rest.{catalog_in}, declared.state.State.{State}}
use Rattle.rm_machine_laws.specs.{Carries.{IsOutcomeIn}, Loose.{IsGivenIn, IsLowIn, StaysLoose, is_roll}, Moments.{IsMomentIn}}
use Rattle.rm_machine_laws.proofs.{Carried.{acts_on, same-puts}, Dropping.{named-first}, Loosening.{loose-from}}

either : (b : Bool) (o : Option (List ℕ)) → cond b o o ≡ o
either true o = refl
either false o = refl

-- under each name that is taken away stands nothing
none-stays : (xs : List (List ℕ)) (name : List ℕ) → after_all itself nothing xs name None ≡ None
none-stays [] name = refl
none-stays (x ∷ xs) name = ap (after_all itself nothing xs name) (either (bytes_eq name x) None) ∙ none-stays xs name

named-gone : (xs : List (List ℕ)) (name : List ℕ) (old : Option (List ℕ)) → is_named itself xs name ≡ true → after_all itself nothing xs name old ≡ None
named-gone [] name old named = absurd (cc)
named-gone (x ∷ xs) name old named = elim (cases_Bool (bytes_eq name x)) [
  | inl same ↦ ap (λ b. after_all itself nothing xs name (cond b None old)) same ∙ none-stays xs name
  | inr other ↦ named-gone xs name (cond (bytes_eq name x) None old) (sym (ap (λ b. b || is_named itself xs name) other) ∙ named)
]

-- the last objects are those after the whole statement
abbrev pub StaysLow : List (List ℕ) → Option State → Held → Held → Held → Type 0
StaysLow given o before after last = (name : List ℕ) → IsLowIn o name → Contains given name ⊎ (after name ≡ before name) ⊎ (last name ≡ None)

module _ (given : List (List ℕ)) (o : Option State) (puts : List Object)
    (loose : (name : List ℕ) → IsLowIn o name → is_named name_of puts name ≡ true → Contains given name) (before : Held) where
  -- where objects were put, or some of them
  pub low-put : (after last : Held) → SameBeyondPuts puts before after → StaysLow given o before after last
  low-put after last same name low = elim (cases_Bool (is_named name_of puts name)) [
    | inl put ↦ inl (loose name low put)
    | inr other ↦ inr (inl (same name other))
  ]

  -- and others taken away, or some of them
  pub low-removed : (removes : List (List ℕ)) (put after last : Held) → HasPuts puts before put → SameBeyondRemoves removes put after
      → HasRemoves removes put last → StaysLow given o before after last
  low-removed removes put after last puts_are same gone name low = elim (cases_Bool (is_named itself removes name)) [
    | inl named ↦ inr (inr (gone name ∙ named-gone removes name (put name) named))
    | inr other ↦ elim (low-put put last (λ n free. puts_are n ∙ unnamed-stays name_of bytes_of puts n (before n) free) name low) [
      | inl is ↦ inl is
      | inr (inl stays) ↦ inr (inl (same name other ∙ stays))
      | inr (inr none) ↦ inr (inr none)
    ]
  ]

-- each increment under an id that was given stands as it did, but where its name is one of these
abbrev pub StayRolls : List (List ℕ) → Option State → Held → Held → Type 0
StayRolls given o before after = (id : ℕ) → IsGivenIn (catalog_in o) id → Contains given (roll_name id) ⊎ (after (roll_name id) ≡ before (roll_name id))

-- A whole step

module _ (c : Command) (loose : StaysLoose c) (m n : Machine) (moment : ℕ) (reply : Reply) (sound : IsSoundMachine m) where
  by-outcome : (o : Option State) (r : Outcome) → m.state ≡ o → IsMomentIn o moment → IsOutcomeIn o m.objects c moment r
      → StepBy (acts_on o moment) m c r reply n → StaysLow (names_in c) o m.objects n.objects n.objects
  by-outcome o (refused r) is at comes by name low = inr (inl (ap (λ (x : Machine). x.objects name) by.1))
  by-outcome o (told lines) is at comes by name low = inr (inl (ap (λ (x : Machine). x.objects name) by.1))
  by-outcome o (done lines e t) is at comes by name low =
      let goes = by.1.objects in
      let removes = (and_drops m.state e).removes in
      low-removed (names_in c) o e.puts (loose-from c loose o m moment lines e t is sound at comes).low m.objects removes goes.put n.objects n.objects
      (subst (λ ys. HasPuts ys m.objects goes.put) (same-puts m.state e) goes.puts)
      (λ name other. goes.removes name ∙ unnamed-stays itself nothing removes name (goes.put name) other) goes.removes name low

  rolls-by : (o : Option State) (r : Outcome) → m.state ≡ o → IsMomentIn o moment → IsOutcomeIn o m.objects c moment r
      → StepBy (acts_on o moment) m c r reply n → StayRolls (names_in c) o m.objects n.objects
  rolls-by o (refused r) is at comes by id given = inr (ap (λ (x : Machine). x.objects (roll_name id)) by.1)
  rolls-by o (told lines) is at comes by id given = inr (ap (λ (x : Machine). x.objects (roll_name id)) by.1)
  rolls-by o (done lines e t) is at comes by id given =
      let goes = by.1.objects in
      let name = roll_name id in
      let removes = (and_drops m.state e).removes in
      let loose = loose-from c loose o m moment lines e t is sound at comes in
      let puts = subst (λ ys. HasPuts ys m.objects goes.put) (same-puts m.state e) goes.puts in
      elim (cases_Bool (is_named itself removes name)) [
        | inl named ↦ inl (loose.rolls id (named-first m.state e name (roll-no-site id) named))
        | inr left ↦ elim (cases_Bool (is_named name_of e.puts name)) [
          | inl put ↦ inl (loose.low name (id, is_roll, given) put)
          | inr other ↦ inr (goes.removes name ∙ unnamed-stays itself nothing removes name (goes.put name) left
              ∙ puts name ∙ unnamed-stays name_of bytes_of e.puts name (m.objects name) other)
        ]
      ]

  by-state : (o : Option State) → m.state ≡ o → IsMomentIn o moment → StepIn o m c moment reply n → StaysLow (names_in c) o m.objects n.objects n.objects
  by-state None is at step name low = absurd low.2
  by-state (Some s) is at step name low = by-outcome (Some s) step.0 is at step.1 step.2 name low

  rolls-in : (o : Option State) → m.state ≡ o → IsMomentIn o moment → StepIn o m c moment reply n → StayRolls (names_in c) o m.objects n.objects
  rolls-in None is at step id given = absurd given
  rolls-in (Some s) is at step id given = rolls-by (Some s) step.0 is at step.1 step.2 id given

  pub step-low : IsMomentIn m.state moment → Step m c moment reply n → StaysLow (names_in c) m.state m.objects n.objects n.objects
  step-low at step = by-state m.state refl at step

  pub step-rolls : IsMomentIn m.state moment → Step m c moment reply n → StayRolls (names_in c) m.state m.objects n.objects
  step-rolls at step = rolls-in m.state refl at step
