-- A live database of one datafile, as it was created, is sound.
use Rattle.std.proofs.Common.{◌≡◌, ℕ, ◌<◌, ◌≤◌, Bool, true, false, map, List, [], ◌∷◌, All, refl, sym, subst, arith}
use Rattle.std.proofs.lemmas.List.Elements.{All-cons, All-nil}
use Rattle.rm_base.specs.{Numbers.{last_scn}, declared.block.Row.{Row}}
use Rattle.rm_blocks.{specs.File.{File, created}, proofs.Created.{created-all}}
use Rattle.rm_redo.specs.{Online.{fresh_log, fresh_logs, log_where, no_log, up_to}, declared.online.ThreadLog.{ThreadLog}}
use Rattle.rm_live.specs.Parts.{IsSound, Parts}

-- what is true of a fresh log, and of none, is true of each log
each-log : (P : ThreadLog → Type 0) → P (fresh_log 1) → P no_log → (enabled : List Bool) → All P (map (log_where (fresh_log 1)) enabled)
each-log P fresh none [] = All-nil P
each-log P fresh none (true ∷ bs) = All-cons P (fresh_log 1) _ fresh (each-log P fresh none bs)
each-log P fresh none (false ∷ bs) = All-cons P no_log _ none (each-log P fresh none bs)

pub created-sound : (p : Parts) (blocks threads now : ℕ) → 2 ≤ now → now ≤ last_scn → p ≡ record { inc = 1; now = now; files = created 1 1 1 blocks ∷ []; logs = fresh_logs 7 1 threads 1; tracker = [] } → IsSound p
created-sound p blocks threads now some low is = subst IsSound (sym is) (record {
  inc = refl;
  begun = omega arith;
  last = low;
  first = each-log (λ l. l.first ≤ now) (omega arith) (omega arith) (up_to threads);
  rows = All-cons (λ (x : File). All (λ (r : Row). r.version < now) x.rows) (created 1 1 1 blocks) [] (created-all (λ r. r.version < now) 1 blocks (λ b. omega (arith, some))) (All-nil (λ (x : File). All (λ (r : Row). r.version < now) x.rows));
  records = each-log (λ l. All (λ r. r.scn < now) l.records) (All-nil (λ r. r.scn < now)) (All-nil (λ r. r.scn < now)) (up_to threads);
})
