-- Whether a log is lost.
use Rattle.std.specs.Option.{option_map_or}
use Rattle.std.proofs.Common.{◌≡◌, ◌+◌, ◌-◌, ◌∙◌, ◌&&◌, inl, inr, ℕ, Some, true, false, ap, sym, arith, slice_get}
use Rattle.std.proofs.lemmas.{Bool.{and_from, and_parts, cases_Bool}, List.Folds.{list_any_at, list_any_none}, Option.{slice_get_cases}}
use Rattle.rm_redo.specs.{Logs.{Logs}, Online.{IsThread, IsLost, has_log}, declared.online.ThreadLog.{ThreadLog}}
use Rattle.rm_machine.{specs.State.{has_lost, is_lost}, proofs.Threads.{thread-in}}
use Rattle.rm_base.proofs.Standing.{each-get}

-- one that is lost is found
pub lost-found : (logs : Logs) (t : ℕ) → IsThread logs t → IsLost logs t → has_lost logs ≡ true
lost-found logs t there lost = elim (slice_get_cases logs.threads (t - 1)).1 [
  | inr past ↦ absurd (let none : is_lost logs t ≡ false = ap (λ o. option_map_or (λ (l : ThreadLog). l.is_lost) o false) past.1 in let clash : true ≡ false = sym lost ∙ none in cc)
  | inl read ↦
      let l : ThreadLog = read.0 in
      let is : l.is_there ≡ true = sym (ap (λ o. option_map_or (λ (m : ThreadLog). m.is_there) o false) read.2) ∙ there.2 in
      let gone : l.is_lost ≡ true = sym (ap (λ o. option_map_or (λ (m : ThreadLog). m.is_lost) o false) read.2) ∙ lost in
      list_any_at (λ (m : ThreadLog). m.is_there && m.is_lost) logs.threads (t - 1) l read.1 (ap (λ (m : ThreadLog). m.is_there && m.is_lost) read.3 ∙ and_from l.is_there l.is_lost is gone)
]

-- or none is lost
pub lost-none : (logs : Logs) → ((t : ℕ) → IsThread logs t → ¬ IsLost logs t) → has_lost logs ≡ false
lost-none logs none =
    list_any_none (λ (l : ThreadLog). l.is_there && l.is_lost) logs.threads (each-get (λ (l : ThreadLog). (l.is_there && l.is_lost) ≡ false) logs.threads (λ k l is. elim (cases_Bool (l.is_there && l.is_lost)) [
      | inr other ↦ other
      | inl both ↦
          let parts = and_parts l.is_there l.is_lost both in
          let place : k + 1 - 1 ≡ k = omega arith in
          let at : slice_get logs.threads (k + 1 - 1) ≡ Some l = ap (slice_get logs.threads) place ∙ is in
          let has : has_log logs (k + 1) ≡ true = ap (λ o. option_map_or (λ (m : ThreadLog). m.is_there) o false) at ∙ parts.0 in
          absurd (none (k + 1) (thread-in logs (k + 1) (omega arith) has) (ap (λ o. option_map_or (λ (m : ThreadLog). m.is_lost) o false) at ∙ parts.1))
    ]))
