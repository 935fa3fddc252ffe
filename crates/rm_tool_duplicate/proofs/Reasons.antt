-- Why a duplicate is refused, of what was looked at.
use Rattle.std.specs.{Prelude.{IsSome, IsTrue, is_some, nat_lt, not}, List.{list_any}, Option.{option_map}, Str.{bytes_eq}}
use Rattle.std.proofs.Common.{◌≡◌, ◌↔◌, ◌||◌, inl, inr, ℕ, Bool, true, false, List, [], ◌∷◌, Option, Some, None, IfSome, Contains, if◌then◌else◌, length, refl, rules, ap, sym, subst, ◌∙◌}
use Rattle.std.proofs.lemmas.{List.Sorted.{length_permutation}, Slice.Eq.{bytes_eq-Decides}}
use Rattle.rm_apply.specs.Recover.{outside}
use Rattle.rm_base.specs.{Store.{AreTheNames, Held}, declared.refusal.Refusal.{Refusal, TheVariants.{Rm02, Rm03, Rm06, Rm07}}}
use Rattle.rm_base.proofs.Members.{behind, first-or-rest, in-front, none-in}
use Rattle.rm_catalog.specs.{Faults.{Answers}, declared.record.Record.{Record}}
use Rattle.rm_lang_statement.specs.declared.command.Until.TheVariants.{Scn}
use Rattle.rm_lang_words.specs.Duplicate.{DuplicateSaid}
use Rattle.rm_machine.specs.{RecoverTest.{is_no_incarnation, test_refusal, tested}, State.{tree, world}, Until.{or_else}}
use Rattle.rm_machine.specs.declared.state.State.{State}
use Rattle.rm_report.specs.Reply.{HasDate}
use Rattle.rm_tool_duplicate.specs.Asked.{Sides, target_inc}
use Rattle.rm_tool_duplicate.specs.Refused.{AreTaken, HasRecords, IsNameReason, IsNumberReason, IsReason, files_at, is_among, name_refusal, number_refusal}

-- Whether a number has records

by-length : (b : Bool) (rs : List Record) → IsTrue b ↔ (rs ≡ []) → not b ≡ nat_lt 0 (length rs)
by-length true [] is = refl
by-length true (r ∷ rs) is = let clash : r ∷ rs ≡ [] = is.0 refl in absurd (cc)
by-length false [] is = let clash : false ≡ true = is.1 refl in absurd (cc)
by-length false (r ∷ rs) is = search rules

pub has-records : (target : Option (List Record)) (rs : List Record) (b : Bool) → Answers target rs → IsTrue b ↔ (rs ≡ []) → HasRecords target (not b)
has-records None rs b asked is = tt
has-records (Some ks) rs b asked is = by-length b rs is ∙ ap (λ n. nat_lt 0 n) (length_permutation ks rs asked)

-- whether it has, where that was not looked at
abbrev told-records : Option (List Record) → Bool
told-records None = false
told-records (Some rs) = nat_lt 0 (length rs)

are-told : (target : Option (List Record)) → HasRecords target (told-records target)
are-told None = tt
are-told (Some rs) = refl

-- Which names are taken

or-right : (a b : Bool) → b ≡ true → (a || b) ≡ true
or-right true b is = refl
or-right false b is = is

found : (n : List ℕ) (names : List (List ℕ)) → Contains names n → list_any (bytes_eq n) names ≡ true
found n [] has = absurd (none-in n has)
found n (m ∷ ms) has = elim (first-or-rest m ms n has) [
  | inl is ↦ ap (λ b. b || list_any (bytes_eq n) ms) ((bytes_eq-Decides n m).1 (sym is))
  | inr rest ↦ or-right (bytes_eq n m) (list_any (bytes_eq n) ms) (found n ms rest)
]

within : (n : List ℕ) (names : List (List ℕ)) → list_any (bytes_eq n) names ≡ true → Contains names n
within n [] is = absurd (cc)
within n (m ∷ ms) is = by-first (bytes_eq n m) refl (within n ms)
  where
    by-first : (b : Bool) → bytes_eq n m ≡ b → (list_any (bytes_eq n) ms ≡ true → Contains ms n) → Contains (m ∷ ms) n
    by-first true same rest = let one : n ≡ m = (bytes_eq-Decides n m).0 same in subst (Contains (m ∷ ms)) (sym one) (in-front m ms)
    by-first false other rest = behind m ms n (rest (ap (λ b. b || list_any (bytes_eq n) ms) (sym other) ∙ is))

by-both : (b : Bool) (o : Option (List ℕ)) → (b ≡ true → IsSome o) → (IsSome o → b ≡ true) → b ≡ is_some o
by-both true (Some x) to from = refl
by-both true None to from = absurd (let clash = to refl in cc)
by-both false (Some x) to from = absurd (let clash = from refl in cc)
by-both false None to from = refl

pub names-taken : (to : Option Held) (names : List (List ℕ)) → IfSome to (AreTheNames names) → AreTaken to (is_among names)
names-taken None names are = tt
names-taken (Some held) names are = λ n.
    by-both (list_any (bytes_eq n) names) (held n) (λ is. (are n).0 (within n names is)) (λ is. found n names ((are n).1 is))

-- which are, where that was not looked at
abbrev told-names : Option Held → List ℕ → Bool
told-names None n = false
told-names (Some held) n = is_some (held n)

names-told : (to : Option Held) → AreTaken to (told-names to)
names-told None = tt
names-told (Some held) = λ n. refl

-- The reason, of what was looked at

module _ (x : DuplicateSaid) (a : Sides) where
  -- there is no source
  pub no-source : IsReason x a None (Some Rm02)
  no-source = record { has_records = told-records a.target; records = are-told a.target; is_taken = told-names a.to; names = names-told a.to; is = refl }

  -- it is refused by its numbers, and its names were not looked at
  pub by-numbers : (s : State) (r : Refusal) (o : Option Refusal) → o ≡ Some r → IsNumberReason x a.target s o → IsReason x a (Some s) (Some r)
  by-numbers s r o some why = record {
    has_records = why.has_records;
    records = why.records;
    is_taken = told-names a.to;
    names = names-told a.to;
    is = ap (λ p. or_else p (name_refusal (told-names a.to) (files_at (world s) (target_inc x s) x.until))) (sym some ∙ why.is);
  }

  -- not by its numbers: the reason is that of its names, or none
  pub by-names : (s : State) (o p : Option Refusal) → o ≡ None → IsNumberReason x a.target s o → IsNameReason (world s) (target_inc x s) x.until a.to p → IsReason x a (Some s) p
  by-names s o p none why names = record {
    has_records = why.has_records;
    records = why.records;
    is_taken = names.is_taken;
    names = names.names;
    is = names.is ∙ ap (λ q. or_else q (name_refusal names.is_taken (files_at (world s) (target_inc x s) x.until))) (sym none ∙ why.is);
  }

not-records : (b : Bool) (o : Option Refusal) → (if b then Some Rm03 else o) ≡ None → (b ≡ false) × (o ≡ None)
not-records true o is = absurd (cc)
not-records false o is = (refl, is)

-- where it is not refused by its numbers it has no records, and its target is not refused
pub number-none : (x : DuplicateSaid) (s : State) (b : Bool) → number_refusal x s b ≡ None → (b ≡ false) × (test_refusal s (Some (Scn x.until)) x.incarnation ≡ None)
number-none x s b none = not-records b (test_refusal s (Some (Scn x.until)) x.incarnation) none

-- No refusal is dated

in-range : (i at : ℕ) (b : Bool) (o : Option (ℕ × ℕ)) → IfSome (if b then Some (Rm07 i) else option_map (λ (y : ℕ × ℕ). Rm06 at y.0 y.1) o) HasDate
in-range i at true o = tt
in-range i at false None = tt
in-range i at false (Some y) = tt

by-records : (x : DuplicateSaid) (s : State) (b : Bool) → IfSome (number_refusal x s b) HasDate
by-records x s true = tt
by-records x s false = in-range (tested s x.incarnation) x.until (is_no_incarnation s (tested s x.incarnation)) (outside (tree s) (tested s x.incarnation) x.until)

pub number-dated : (x : DuplicateSaid) (target : Option (List Record)) (s : State) (o : Option Refusal) → IsNumberReason x target s o → IfSome o HasDate
number-dated x target s o why = subst (λ p. IfSome p HasDate) (sym why.is) (by-records x s why.has_records)
