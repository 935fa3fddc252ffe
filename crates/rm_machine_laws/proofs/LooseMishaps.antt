-- HOST REMOVE, DAMAGE, CUT and RENAME touch no name but those that they give.
use Rattle.std.specs.Str.{bytes_eq}
use Rattle.std.proofs.Common.{◌≡◌, ◌∙◌, ◌||◌, inl, inr, ℕ, List, [], ◌∷◌, Some, true, false, ap, sym, subst, Contains}
use Rattle.std.proofs.lemmas.{Bool.{cases_Bool, false≢true}, List.Elements.{Contains-append_left}}
use Rattle.rm_base.proofs.{Members.{behind, in-front}, Both.{same-name}}
use Rattle.rm_lang_statement.specs.declared.command.Command.TheVariants.{Cut, Damage, Remove, Rename}
use Rattle.rm_evidence.specs.Names.{roll_name, site_name}
use Rattle.rm_machine.specs.{Mishaps.{removal, renaming, replacement}, Step.{refusal_of}, declared.state.State.{State}}
use Rattle.rm_machine_laws.{specs.Loose.{IsLoose, StaysLoose}, proofs.Mishaps.{cut-by, damaged-by, removed-by, renamed-by}}
use Rattle.rm_machine_laws.proofs.Leading.{done-by}

-- a name that is this one
one-named : (n name : List ℕ) → (bytes_eq n name || false) ≡ true → Contains (name ∷ []) n
one-named n name is = elim (cases_Bool (bytes_eq n name)) [
  | inl same ↦ subst (λ m. Contains (m ∷ []) n) (same-name n name same) (in-front n [])
  | inr other ↦ absurd (false≢true (sym (ap (λ b. b || false) other) ∙ is))
]

removal-loose : (s t : State) (name : List ℕ) → IsLoose (Some s) (Remove name) (removal name) t
removal-loose s t name = record {
  puts = λ n names named. absurd (false≢true named);
  low = λ n low named. absurd (false≢true named);
  parts = λ id named. absurd (false≢true named);
  removes = λ n names named. one-named n name named;
  rolls = λ id named. one-named (roll_name id) name named;
}

pub remove-loose : (name : List ℕ) → StaysLoose (Remove name)
remove-loose name s held lines e t sound comes =
    let mishap = removed-by s name (held name) lines e t (done-by (refusal_of s (Remove name)) s held (Remove name) lines e t comes).1 in
    subst (λ x. IsLoose (Some s) (Remove name) x t) mishap.effect (removal-loose s t name)

pub damage-loose : (name : List ℕ) (at : ℕ) → StaysLoose (Damage name at)
damage-loose name at s held lines e t sound comes =
    let by = damaged-by s name at (held name) lines e t (done-by (refusal_of s (Damage name at)) s held (Damage name at) lines e t comes).1 in
    subst (λ x. IsLoose (Some s) (Damage name at) x t) by.1.effect (loose by.0)
  where
    loose : (bytes : List ℕ) → IsLoose (Some s) (Damage name at) (replacement name bytes) t
    loose bytes = record {
      puts = λ n names named. one-named n name named;
      low = λ n low named. one-named n name named;
      parts = λ id named. one-named (site_name id) name named;
      removes = λ n names named. absurd (false≢true named);
      rolls = λ id named. absurd (false≢true named);
    }

pub cut-loose : (name : List ℕ) (to : ℕ) → StaysLoose (Cut name to)
cut-loose name to s held lines e t sound comes =
    let by = cut-by s name to (held name) lines e t (done-by (refusal_of s (Cut name to)) s held (Cut name to) lines e t comes).1 in
    subst (λ x. IsLoose (Some s) (Cut name to) x t) by.1.effect (loose by.0)
  where
    loose : (bytes : List ℕ) → IsLoose (Some s) (Cut name to) (replacement name bytes) t
    loose bytes = record {
      puts = λ n names named. one-named n name named;
      low = λ n low named. one-named n name named;
      parts = λ id named. one-named (site_name id) name named;
      removes = λ n names named. absurd (false≢true named);
      rolls = λ id named. absurd (false≢true named);
    }

pub rename-loose : (old new : List ℕ) → StaysLoose (Rename old new)
rename-loose old new s held lines e t sound comes =
    let by = renamed-by s old new (held old) (held new) lines e t (done-by (refusal_of s (Rename old new)) s held (Rename old new) lines e t comes).1 in
    subst (λ x. IsLoose (Some s) (Rename old new) x t) by.1.effect (loose by.0)
  where
    loose : (bytes : List ℕ) → IsLoose (Some s) (Rename old new) (renaming old new bytes) t
    loose bytes = record {
      puts = λ n names named. behind old (new ∷ []) n (one-named n new named);
      low = λ n low named. behind old (new ∷ []) n (one-named n new named);
      parts = λ id named. behind old (new ∷ []) (site_name id) (one-named (site_name id) new named);
      removes = λ n names named. Contains-append_left (old ∷ []) (new ∷ []) n (one-named n old named);
      rolls = λ id named. Contains-append_left (old ∷ []) (new ∷ []) (roll_name id) (one-named (roll_name id) old named);
    }
