-- HOST REMOVE, DAMAGE, CUT and RENAME lead on: the names count as touched, and each other name holds what it held.
use Rattle.std.specs.Str.{bytes_eq}
use Rattle.std.proofs.Common.{◌≡◌, ◌∙◌, ◌++◌, ◌⊎◌, nat_le, inl, inr, ℕ, List, [], ◌∷◌, Option, Some, None, Bool, true, false, cond, refl, ap, sym, subst, Contains, length, take}
use Rattle.std.proofs.lemmas.{Bool.{cases_Bool}, List.{append-nil, Elements.{Contains-append_left, Contains-append_right}}}
use Rattle.rm_base.specs.{Store.{Held}, declared.{block.Change.{Change}, refusal.Refusal.{Refusal, TheVariants.{Rm12}}}}
use Rattle.rm_base.{specs.declared.refusal.Unknown.TheVariants.{Byte}, proofs.{Members.{behind, in-front}, Both.{same-name}}}
use Rattle.rm_lang_statement.specs.declared.command.Command.TheVariants.{Cut, Damage, Remove, Rename}
use Rattle.rm_catalog_typed.specs.Ledger.{Ledger}
use Rattle.rm_report.specs.declared.line.Line.{Line}
use Rattle.rm_report.specs.declared.line.Line.TheVariants as line
use Rattle.rm_machine.specs.Mishaps.{cut_by, damage_by, damaged, removal, remove_by, rename_by, renaming, replacement}
use Rattle.rm_machine.specs.{Effect.{Effect, LeavesObjects, Made, done, refused}, Machine.{IsBorneOut}, State.{ledger}}
use Rattle.rm_machine.{specs.declared.state.State.{State}, proofs.{Kept.{StandOn}, Later.{borne-beside}}}
use Rattle.rm_machine_laws.proofs.{Leading.{LeadsOnBy, StaysBy}, Quiet.{same-stays, unchanged}}

-- each name is one of these, or holds what it held
abbrev EachElse : List (List ℕ) → Held → Held → Type 0
EachElse names before after = (n : List ℕ) → Contains names n ⊎ (after n ≡ before n)

-- Which names an effect leaves

remove-each : (before after : Held) (name : List ℕ) → LeavesObjects (removal name) before after → EachElse (name ∷ []) before after
remove-each before after name effect n = elim (cases_Bool (bytes_eq n name)) [
  | inl same ↦ inl (subst (λ m. Contains (m ∷ []) n) (same-name n name same) (in-front n []))
  | inr other ↦ inr (effect.removes n ∙ ap (λ b. cond b None (effect.put n)) other ∙ effect.puts n)
]

put-each : (before after : Held) (name bytes : List ℕ) → LeavesObjects (replacement name bytes) before after → EachElse (name ∷ []) before after
put-each before after name bytes effect n = elim (cases_Bool (bytes_eq n name)) [
  | inl same ↦ inl (subst (λ m. Contains (m ∷ []) n) (same-name n name same) (in-front n []))
  | inr other ↦ inr (effect.removes n ∙ effect.puts n ∙ ap (λ b. cond b (Some bytes) (before n)) other)
]

rename-each : (before after : Held) (old new bytes : List ℕ) → LeavesObjects (renaming old new bytes) before after → EachElse (old ∷ new ∷ []) before after
rename-each before after old new bytes effect n = elim (cases_Bool (bytes_eq n old)) [
  | inl same ↦ inl (subst (λ m. Contains (m ∷ new ∷ []) n) (same-name n old same) (in-front n (new ∷ [])))
  | inr other ↦ elim (cases_Bool (bytes_eq n new)) [
    | inl same ↦ inl (behind old (new ∷ []) n (subst (λ m. Contains (m ∷ []) n) (same-name n new same) (in-front n [])))
    | inr apart ↦ inr (effect.removes n ∙ ap (λ b. cond b None (effect.put n)) other ∙ effect.puts n ∙ ap (λ b. cond b (Some bytes) (before n)) apart)
  ]
]

-- What was done

-- the state stays as it is, nothing is made, and the effect is this one
pub record IsMishap (s : State) (by e : Effect) (t : State) : Type 0 where
  pub effect : by ≡ e
  pub state : s ≡ t

unless-refused : (b : Bool) (r : Refusal) (said lines : List Line) (e x : Effect) (t q : State) → done said e t ≡ cond b (refused r) (done lines x q) → IsMishap q x e t
unless-refused true r said lines e x t q is = absurd (cc)
unless-refused false r said lines e x t q is = record { effect = cc; state = cc }

pub removed-by : (s : State) (name : List ℕ) (o : Option (List ℕ)) (said : List Line) (e : Effect) (t : State) → done said e t ≡ remove_by s name o → IsMishap s (removal name) e t
removed-by s name None said e t is = absurd (cc)
removed-by s name (Some bytes) said e t is = record { effect = cc; state = cc }

pub damaged-by : (s : State) (name : List ℕ) (at : ℕ) (o : Option (List ℕ)) (said : List Line) (e : Effect) (t : State) → done said e t ≡ damage_by s name at o → (bytes : List ℕ) × IsMishap s (replacement name bytes) e t
damaged-by s name at None said e t is = absurd (cc)
damaged-by s name at (Some bytes) said e t is =
    (damaged bytes at, unless-refused (nat_le (length bytes) at) (Rm12 (Byte at name)) said (line.Damaged ∷ []) e (replacement name (damaged bytes at)) t s is)

pub cut-by : (s : State) (name : List ℕ) (to : ℕ) (o : Option (List ℕ)) (said : List Line) (e : Effect) (t : State) → done said e t ≡ cut_by s name to o → (bytes : List ℕ) × IsMishap s (replacement name bytes) e t
cut-by s name to None said e t is = absurd (cc)
cut-by s name to (Some bytes) said e t is =
    (take to bytes, unless-refused (nat_le (length bytes) to) (Rm12 (Byte to name)) said (line.Cut ∷ []) e (replacement name (take to bytes)) t s is)

pub renamed-by : (s : State) (old new : List ℕ) (o there : Option (List ℕ)) (said : List Line) (e : Effect) (t : State) → done said e t ≡ rename_by s old new o there → (bytes : List ℕ) × IsMishap s (renaming old new bytes) e t
renamed-by s old new None there said e t is = absurd (cc)
renamed-by s old new (Some bytes) (Some other) said e t is = absurd (cc)
renamed-by s old new (Some bytes) None said e t is = (bytes, record { effect = cc; state = cc })

-- Leading on

or-touched : (names touched : List (List ℕ)) (before after : Held) (l : Ledger) → EachElse names before after → StandOn before after touched (names ++ touched) l l
or-touched names touched before after l each n bytes was is (inl had) = inl (Contains-append_right names touched n had)
or-touched names touched before after l each n bytes was is (inr held) = elim (each n) [
  | inl named ↦ inl (Contains-append_left names touched n named)
  | inr same ↦ inr (same ∙ held)
]

-- what stands after a mishap of these names
struck-on : (s : State) (h : List Change) (objects : Held) (made : List Made) (names touched : List (List ℕ)) (by e : Effect) (t : State) (after : Held) → by.changes ≡ [] → by.made ≡ [] → IsMishap s by e t → LeavesObjects e objects after
    → (LeavesObjects by objects after → EachElse names objects after) → IsBorneOut s h objects made touched → IsBorneOut t (h ++ e.changes) after (made ++ e.made) (names ++ touched)
struck-on s h objects made names touched by e t after none unmade mishap effect each stands =
    unchanged s by h objects made (names ++ touched) e t after none mishap.effect mishap.state effect (λ left.
    subst (λ k. IsBorneOut s h after k (names ++ touched)) (sym (ap (λ (ms : List Made). made ++ ms) unmade ∙ append-nil made))
    (borne-beside s h objects after made touched (names ++ touched) stands (or-touched names touched objects after (ledger s) (each left))))

pub remove-on : (name : List ℕ) → LeadsOnBy (Remove name)
remove-on name s h objects made touched said e t after well stands tell none does effect =
    let mishap = removed-by s name (objects name) said e t does in
    struck-on s h objects made (name ∷ []) touched (removal name) e t after refl refl mishap effect (remove-each objects after name) stands

pub damage-on : (name : List ℕ) (at : ℕ) → LeadsOnBy (Damage name at)
damage-on name at s h objects made touched said e t after well stands tell none does effect =
    let by = damaged-by s name at (objects name) said e t does in
    struck-on s h objects made (name ∷ []) touched (replacement name by.0) e t after refl refl by.1 effect (put-each objects after name by.0) stands

pub cut-on : (name : List ℕ) (to : ℕ) → LeadsOnBy (Cut name to)
cut-on name to s h objects made touched said e t after well stands tell none does effect =
    let by = cut-by s name to (objects name) said e t does in
    struck-on s h objects made (name ∷ []) touched (replacement name by.0) e t after refl refl by.1 effect (put-each objects after name by.0) stands

pub rename-on : (old new : List ℕ) → LeadsOnBy (Rename old new)
rename-on old new s h objects made touched said e t after well stands tell none does effect =
    let by = renamed-by s old new (objects old) (objects new) said e t does in
    struck-on s h objects made (old ∷ new ∷ []) touched (renaming old new by.0) e t after refl refl by.1 effect (rename-each objects after old new by.0) stands

-- Staying sound: the state is the same

pub remove-stays : (name : List ℕ) → StaysBy (Remove name)
remove-stays name s objects said e t well sound none accepted does = same-stays s t (removed-by s name (objects name) said e t does).state sound none

pub damage-stays : (name : List ℕ) (at : ℕ) → StaysBy (Damage name at)
damage-stays name at s objects said e t well sound none accepted does = same-stays s t (damaged-by s name at (objects name) said e t does).1.state sound none

pub cut-stays : (name : List ℕ) (to : ℕ) → StaysBy (Cut name to)
cut-stays name to s objects said e t well sound none accepted does = same-stays s t (cut-by s name to (objects name) said e t does).1.state sound none

pub rename-stays : (old new : List ℕ) → StaysBy (Rename old new)
rename-stays old new s objects said e t well sound none accepted does = same-stays s t (renamed-by s old new (objects old) (objects new) said e t does).1.state sound none
