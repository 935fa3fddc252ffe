-- Logs that begin anew, of the threads that are enabled.
use Rattle.std.specs.Option.{option_map_or}
use Rattle.std.proofs.Common.{◌≡◌, ◌<◌, ◌≤◌, ◌-◌, ◌^◌, ℕ, zero, suc, List, [], ◌∷◌, Some, Bool, true, false, ap, sym, subst, refl, arith, length, map, slice_get, All, AllPairs}
use Rattle.std.proofs.lemmas.List.Elements.{All-nil}
use Rattle.rm_base.specs.Numbers.{last_scn}
use Rattle.rm_history.specs.{Tree.{reset_of}, declared.tree.Incarnation.{Incarnation}}
use Rattle.rm_redo.specs.{LogFile.{log_file_of}, LogFormat.{IsLogRecord}, Logs.{IsBefore, Logs}}
use Rattle.rm_redo.specs.{Online.{IsThread, begun_logs, fresh_log, log_where}, declared.log_file.LogFile.{LogFile}}
use Rattle.rm_redo.specs.declared.online.ThreadLog.{ThreadLog}
use Rattle.rm_machine.specs.{Sound.{IsOnline}, State.{is_lost}}

-- what stands at the place of a thread that is there, of logs of the threads that are enabled
pub where-get : (l : ThreadLog) (enabled : List Bool) (k : ℕ)
    → option_map_or (λ (m : ThreadLog). m.is_there) (slice_get (map (log_where l) enabled) k) false ≡ true → slice_get (map (log_where l) enabled) k ≡ Some l
where-get l [] k there = absurd (cc)
where-get l (true ∷ rest) zero there = refl
where-get l (false ∷ rest) zero there = absurd (cc)
where-get l (on ∷ rest) (suc k) there = where-get l rest k there

module _ (dbid inc : ℕ) (enabled : List Bool) (scn : ℕ) where
  abbrev logs : Logs
  logs = begun_logs dbid inc enabled scn

  -- each thread that is there has a fresh log
  pub fresh-field : {X : Type 0} (f : ThreadLog → X) (none : X) (t : ℕ) → IsThread logs t
      → option_map_or f (slice_get logs.threads (t - 1)) none ≡ f (fresh_log scn)
  fresh-field f none t there = ap (λ o. option_map_or f o none) (where-get (fresh_log scn) enabled (t - 1) there.2)

  pub fresh-found : (t : ℕ) → IsThread logs t → is_lost logs t ≡ false
  fresh-found t there = fresh-field (λ l. l.is_lost) false t there

  pub fresh-empty : (t end : ℕ) → IsThread logs t → (log_file_of logs t end).records ≡ []
  fresh-empty t end there = fresh-field (λ l. l.records) [] t there

  pub fresh-first : (t end : ℕ) → IsThread logs t → (log_file_of logs t end).first ≡ scn
  fresh-first t end there = fresh-field (λ l. l.first) 0 t there

  -- it could be archived, were it not empty
  pub fresh-online : (tree : List Incarnation) (t end : ℕ) → 1 ≤ dbid → dbid < 2 ^ 32 → 1 ≤ inc → inc < 2 ^ 32 → 1 ≤ scn → scn ≤ last_scn
      → reset_of tree inc ≤ scn → t ≤ 4 → IsThread logs t → end ≡ scn → IsOnline tree (log_file_of logs t end)
  fresh-online tree t end some small named few first last reset most there is =
      let log : LogFile = log_file_of logs t end in
      let from = fresh-first t end there in
      let number = fresh-field (λ l. l.sequence) 0 t there in
      let none = fresh-empty t end there in
      record {
        valid = record {
          dbid = (some, small);
          inc = (named, few);
          thread = (omega (arith, there.0), most);
          sequence = (omega (arith, number), omega (arith, number));
          range = (omega (arith, from, first), omega (arith, from, is), omega (arith, last, is));
          few = subst (λ xs. length xs ≤ 65536) (sym none) (omega arith);
          ascend = subst (λ xs. AllPairs IsBefore xs) (sym none) (λ i j d less inside. absurd (omega (arith, inside)));
          records = subst (All (IsLogRecord log.first end)) (sym none) (All-nil (IsLogRecord log.first end));
        };
        begun = omega (arith, from, reset);
      }
