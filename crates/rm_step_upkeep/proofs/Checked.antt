-- What a crosscheck hands out.
use Rattle.std.specs.Prelude.{IfSome}
use Rattle.std.proofs.Common.{◌≡◌, ◌∙◌, ◌<◌, ◌+◌, ◌++◌, ℕ, List, [], ◌∷◌, Option, Some, None, refl, ap, sym, subst, drop, get_or, length, map, take, All}
use Rattle.std.proofs.lemmas.{List.{at_drop_more, map_more, Elements.{All-cons, All-nil}}, Option.{same_Some}}
use Rattle.rm_base.specs.{Store.{Held}, declared.kinds.{Class.{Class}, Status.{Status}}}
use Rattle.rm_catalog.specs.declared.record.Record.{Record}
use Rattle.rm_evidence.specs.Gathered.{Lists}
use Rattle.rm_report.specs.{Reply.{IsPlain}, declared.line.Line.{Line}}
use Rattle.rm_catalog_typed.specs.TypedCatalog.{records_of}
use Rattle.rm_lang_statement.specs.declared.command.Command.TheVariants.{Crosscheck}
use Rattle.rm_verify.specs.Crosscheck.{IsChecked, stands_in}
use Rattle.rm_machine.specs.{Effect.{no_effect}, Hands.{Hands}, Upkeep.{with_catalog, with_statuses}, declared.handed.Handed.{Handed}}
use Rattle.rm_machine.{specs.declared.state.State.{State}, proofs.Handing.{hands-by}}
use Rattle.rm_step_upkeep.specs.{Amended.{amended}, Lines.{status_line}}
use Rattle.rm_step_upkeep.specs.declared.amending.Amendment.TheVariants as by

-- none of its lines is a refusal
dated : (xs : List (ℕ × Status)) → All IsPlain (map status_line xs)
dated [] = All-nil IsPlain
dated (x ∷ xs) = All-cons IsPlain (status_line x) (map status_line xs) tt (dated xs)

pub checked-dated : (xs : List (ℕ × Status)) (lines : List Line) → lines ≡ map status_line xs → All IsPlain lines
checked-dated xs lines is = subst (All IsPlain) (sym is) (dated xs)

-- one status more is told, and given
module _ (xs : List (ℕ × Status)) (k : ℕ) (d : ℕ × Status) (inside : k < length xs) where
  pub next-line : (before after : List Line) → after ≡ before ++ status_line (get_or xs k d) ∷ [] → before ≡ map status_line (take k xs) → after ≡ map status_line (take (k + 1) xs)
  next-line before after is told = is ∙ ap (λ (ls : List Line). ls ++ status_line (get_or xs k d) ∷ []) told ∙ sym (map_more status_line xs k d inside)

  pub next-status : (s t u : State) → t ≡ with_catalog s (amended (by.Status (get_or xs k d).1) (get_or xs k d).0 s.catalog) → with_catalog s (with_statuses (drop k xs) s.catalog) ≡ u
      → with_catalog t (with_statuses (drop (k + 1) xs) t.catalog) ≡ u
  next-status s t u is before =
      ap (λ (v : State). with_catalog v (with_statuses (drop (k + 1) xs) v.catalog)) is ∙ sym (at_drop_more (λ (ys : List (ℕ × Status)). with_catalog s (with_statuses ys s.catalog)) xs k d inside) ∙ before

-- the statuses that a store that tells gives
abbrev pub AreChecked : State → Class → List (ℕ × Status) → Held → Type 0
AreChecked s class list h = Lists Status [] (IsChecked (stands_in h) (records_of s.catalog) class) list

told : (held : Option Held) (s : State) (class : Class) (list : List (ℕ × Status)) → IfSome held (AreChecked s class list) → (objects : Held) → held ≡ Some objects → AreChecked s class list objects
told None s class list are objects tells = absurd cc
told (Some h) s class list are objects tells = subst (AreChecked s class list) (same_Some h objects tells) are

pub checked-hands : (held : Option Held) (s : State) (class : Class) (x : Handed) (t : State) (list : List (ℕ × Status)) (rs : List Record)
    → rs ≡ records_of s.catalog → IfSome held (λ h. Lists Status [] (IsChecked (stands_in h) rs class) list) → x.lines ≡ map status_line list → x.objects ≡ [] → x.removes ≡ []
    → t ≡ with_catalog s (with_statuses list s.catalog) → Hands held s (Crosscheck class) x t
checked-hands held s class x t list rs all are lines objects removes is =
    let there = subst (λ (k : List Record). IfSome held (λ h. Lists Status [] (IsChecked (stands_in h) k class) list)) all are in
    hands-by held s (Crosscheck class) x t (map status_line list) no_effect (with_catalog s (with_statuses list s.catalog))
    (λ objects tells. record { checked = list; lists = told held s class list there objects tells; is = refl }) lines objects removes is
