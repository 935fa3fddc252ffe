-- The online logs that parts tell.
use Rattle.std.specs.{List.{zip}, Option.{option_map, option_map_or}}
use Rattle.std.proofs.Common.{◌≡◌, ◌<◌, ◌≤◌, ◌+◌, ◌-◌, ◌∙◌, ◌==◌, inl, inr, ℕ, zero, suc, List, [], ◌∷◌, Option, Some, None, Bool, true, false, cond, refl, ap, sym, subst, arith, length, map, All, slice_get}
use Rattle.std.proofs.lemmas.{Bool.{cases_Bool, eqb-true}, List.{length-map, Elements.{All-map}}, Option.{same_Some, slice_get-map}}
use Rattle.std.proofs.lemmas.Slice.Zip.{length-zip}
use Rattle.rm_history.specs.Tree.{end_of}
use Rattle.rm_catalog_typed.{specs.{Ledger.{Ledger}, Switches.{enabled_at, is_enabled_in}}, proofs.Lookups.{item-at}}
use Rattle.rm_redo.specs.{LogFile.{log_file_of}, Logs.{Logs}, Online.{IsThread, has_log, thread_log, thread_logs, told_log}}
use Rattle.rm_redo.specs.declared.{log_file.LogFile.{LogFile}, online.ThreadLog.{ThreadLog}}
use Rattle.rm_machine.specs.{Loading.{inc_of_first, online_of, where_of}, Saved.{FitsOnline}, Sound.{IsGone}, State.{is_lost}}
use Rattle.rm_machine.proofs.Threads.{where-gone, where-is_there}

-- the flag of a thread, of four
enabled-at : (on : ℕ → Bool) (t : ℕ) → 0 < t → t ≤ 4 → slice_get (on 1 ∷ on 2 ∷ on 3 ∷ on 4 ∷ []) (t - 1) ≡ Some (on t)
enabled-at on zero some most = absurd (omega (arith, some))
enabled-at on (suc zero) some most = refl
enabled-at on (suc (suc zero)) some most = refl
enabled-at on (suc (suc (suc zero))) some most = refl
enabled-at on (suc (suc (suc (suc zero)))) some most = refl
enabled-at on (suc (suc (suc (suc (suc t))))) some most = absurd (omega (arith, most))

-- the log of a place, by its flag and its part
told-at : (enabled : List Bool) (logs : List (Option LogFile)) (k : ℕ) (on : Bool) (o : Option LogFile) → slice_get enabled k ≡ Some on → slice_get logs k ≡ Some o → slice_get (thread_logs enabled logs) k ≡ Some (thread_log on o)
told-at [] logs k on o flag is = absurd cc
told-at (b ∷ bs) [] k on o flag is = absurd cc
told-at (b ∷ bs) (x ∷ xs) zero on o flag is = λ i. Some (thread_log (same_Some b on flag i) (same_Some x o is i))
told-at (b ∷ bs) (x ∷ xs) (suc k) on o flag is = told-at bs xs k on o flag is

-- it is there
told-there : (o : Option LogFile) → (told_log o).is_there ≡ true
told-there None = refl
told-there (Some a) = refl

module _ (l : Ledger) (parts : List (Option LogFile)) (many : length parts ≡ 4) where
  abbrev inc : ℕ
  inc = inc_of_first l.base.current parts

  -- the thread is enabled at the end of the incarnation
  abbrev on : ℕ → Bool
  on t = is_enabled_in l inc (end_of l.tree inc) t

  told : (t : ℕ) (o : Option LogFile) → 0 < t → t ≤ 4 → slice_get parts (t - 1) ≡ Some o → slice_get (online_of l parts).threads (t - 1) ≡ Some (thread_log (on t) (where_of inc o))
  told t o some most is =
      told-at (enabled_at l inc (end_of l.tree inc)) (map (where_of inc) parts) (t - 1) (on t) (where_of inc o) (enabled-at on t some most)
      (slice_get-map (where_of inc) parts (t - 1) ∙ ap (option_map (where_of inc)) is)

  -- there are four logs, those that are there are of the threads that are enabled, and nothing stands at the place of the others
  pub told-four : length (online_of l parts).threads ≡ 4
  told-four =
      let enabled = enabled_at l inc (end_of l.tree inc) in
      let kept = map (where_of inc) parts in
      omega (arith, length-map (zip enabled kept) (λ x. thread_log x.0 x.1), length-zip enabled kept, length-map parts (where_of inc), many)

  pub told-has : (t : ℕ) → 0 < t → t ≤ 4 → has_log (online_of l parts) t ≡ on t
  told-has t some most =
      let o = item-at parts (t - 1) (omega (arith, some, most, many)) in
      ap (λ x. option_map_or (λ (y : ThreadLog). y.is_there) x false) (told t o.0 some most o.1) ∙ where-is_there (told_log (where_of inc o.0)) (told-there (where_of inc o.0)) (on t)

  pub told-gone : All IsGone (online_of l parts).threads
  told-gone =
      All-map IsGone (λ x. thread_log x.0 x.1) (zip (enabled_at l inc (end_of l.tree inc)) (map (where_of inc) parts))
      (λ k d inside. where-gone _ (told-there _) _)

-- a log of this incarnation
record IsOf (i : ℕ) (o : Option LogFile) : Type 0 where
  pub log : LogFile
  pub is : o ≡ Some log
  pub inc : log.inc ≡ i
  pub stays : where_of i o ≡ Some log

-- one that is not lost is of the incarnation
of-by : (i : ℕ) (o : Option LogFile) → (told_log (where_of i o)).is_lost ≡ false → IsOf i o
of-by i None found = absurd (let clash : true ≡ false = found in cc)
of-by i (Some a) found = elim (cases_Bool (a.inc == i)) [
  | inl same ↦ record { log = a; is = refl; inc = eqb-true a.inc i same; stays = ap (λ b. cond b (Some a) None) same }
  | inr other ↦ absurd (let clash : true ≡ false = sym (ap (λ b. (told_log (cond b (Some a) None)).is_lost) other) ∙ found in cc)
]

-- the online log of a thread that is not lost is its part, of which this is so
pub record IsOnlinePart (l : Ledger) (logs : Logs) (P : ℕ → LogFile → Type 0) (t : ℕ) : Type 0 where
  pub log : LogFile
  pub holds : P t log
  pub is : log_file_of logs t (end_of l.tree logs.inc) ≡ log

part-of : (l : Ledger) (opened : Bool) (parts : List (Option LogFile)) (P : ℕ → LogFile → Type 0) → length parts ≡ 4 → ((t : ℕ) (a : LogFile) → P t a → FitsOnline l opened t a) → ((k : ℕ) (a : LogFile) → slice_get parts k ≡ Some (Some a) → P (k + 1) a)
    → (t : ℕ) → IsThread (online_of l parts) t → is_lost (online_of l parts) t ≡ false → IsOnlinePart l (online_of l parts) P t
part-of l opened parts P many fits each t there found =
    let i = inc_of_first l.base.current parts in
    let low = there.0 in
    let high : t ≤ 4 = omega (arith, there.1, told-four l parts many) in
    let o = item-at parts (t - 1) (omega (arith, low, high, many)) in
    let enabled : is_enabled_in l i (end_of l.tree i) t ≡ true = sym (told-has l parts many t low high) ∙ there.2 in
    let here : slice_get (online_of l parts).threads (t - 1) ≡ Some (told_log (where_of i o.0)) = told l parts many t o.0 low high o.1 ∙ ap (λ b. Some (thread_log b (where_of i o.0))) enabled in
    let one = of-by i o.0 (sym (ap (λ x. option_map_or (λ (y : ThreadLog). y.is_lost) x false) here) ∙ found) in
    let stands : slice_get (online_of l parts).threads (t - 1) ≡ Some (told_log (Some one.log)) = here ∙ ap (λ x. Some (told_log x)) one.stays in
    let number : t - 1 + 1 ≡ t = omega (arith, low) in
    let holds : P t one.log = subst (λ n. P n one.log) number (each (t - 1) one.log (o.1 ∙ ap Some one.is)) in
    let fit = fits t one.log holds in
    record {
      log = one.log;
      holds = holds;
      is = λ k. record {
        dbid = sym fit.dbid k;
        inc = sym one.inc k;
        thread = sym fit.thread k;
        sequence = option_map_or (λ (y : ThreadLog). y.sequence) (stands k) 0;
        first = option_map_or (λ (y : ThreadLog). y.first) (stands k) 0;
        next = (ap (end_of l.tree) (sym one.inc) ∙ sym fit.next) k;
        records = option_map_or (λ (y : ThreadLog). y.records) (stands k) [];
      };
    }

pub online-part : (l : Ledger) (opened : Bool) (logs : Logs) (parts : List (Option LogFile)) (P : ℕ → LogFile → Type 0) → length parts ≡ 4 → logs ≡ online_of l parts → ((t : ℕ) (a : LogFile) → P t a → FitsOnline l opened t a)
    → ((k : ℕ) (a : LogFile) → slice_get parts k ≡ Some (Some a) → P (k + 1) a) → (t : ℕ) → IsThread logs t → is_lost logs t ≡ false → IsOnlinePart l logs P t
online-part l opened logs parts P many are fits each =
    subst (λ x. (t : ℕ) → IsThread x t → is_lost x t ≡ false → IsOnlinePart l x P t) (sym are) (part-of l opened parts P many fits each)
