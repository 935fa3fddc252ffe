-- The switches of a catalog.
use Rattle.std.{specs.List.{list_any}, proofs.Common.{◌≡◌, ◌<◌, ◌&&◌, ◌||◌, ℕ, suc, List, refl, sym, subst, get_or, All, Contains}}
use Rattle.std.proofs.lemmas.List.Elements.{Contains-get_or}
use Rattle.rm_catalog.{specs.{Rules.{IsCatalog}, Switches.{switches}, declared.record.Record.{Record}}, proofs.Switching.{switch-late}}
use Rattle.rm_catalog.proofs.SwitchRules.{one-switch}
use Rattle.rm_history.specs.declared.world.{Switch.{Switch}, World.{World}}
use Rattle.rm_plan.specs.{Covers.{log_covers, threads_cover}, Idle.{AreApart, is_idle}, declared.span.Span.{Span}}
use Rattle.rm_redo.specs.declared.log_file.LogFile.{LogFile}

-- each has an SCN above 0
pub all-late : (rs : List Record) (xs : List Switch) → IsCatalog rs → xs ≡ switches rs → All (λ x. 0 < x.scn) xs
all-late rs xs c is k d inside = switch-late rs c (get_or xs k d) (subst (λ (ys : List Switch). Contains ys (get_or xs k d)) is (Contains-get_or xs k d inside))

-- and no two have one address
pub all-apart : (rs : List Record) (xs : List Switch) → IsCatalog rs → xs ≡ switches rs → AreApart xs
all-apart rs xs c is x y one two inc scn =
    one-switch rs x y c (subst (λ (ys : List Switch). Contains ys x) is one) (subst (λ (ys : List Switch). Contains ys y) is two) inc scn

-- one thread more
pub cover-more : (w : World) (i : ℕ) (ways : List Span) (logs : List (ℕ × LogFile)) (s g n m : ℕ) → m ≡ suc n → threads_cover w i ways logs s g m ≡ (threads_cover w i ways logs s g n && (is_idle w i s m g || list_any (log_covers ways m g) logs))
cover-more w i ways logs s g n m is = subst (λ k. threads_cover w i ways logs s g k ≡ (threads_cover w i ways logs s g n && (is_idle w i s k g || list_any (log_covers ways k g) logs))) (sym is) refl
