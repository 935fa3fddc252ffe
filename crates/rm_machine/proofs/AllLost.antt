-- Where all is lost, nothing is told.
use Rattle.std.specs.Option.{option_map_or}
use Rattle.std.proofs.Common.{◌≡◌, ◌<◌, ◌-◌, ◌∙◌, ℕ, zero, suc, List, [], ◌∷◌, Bool, Option, Some, None, true, false, refl, ap, sym, subst, All, map, replicate, slice_get, slice_index_or}
use Rattle.std.proofs.lemmas.{Bool.{false≢true}, Option.{none-some}}
use Rattle.rm_base.specs.declared.block.Change.{Change}
use Rattle.rm_blocks.specs.File.{File}
use Rattle.rm_history.specs.{History.{IsHistory}, Tree.{end_of}}
use Rattle.rm_catalog_typed.specs.Switches.{enabled_at}
use Rattle.rm_track.specs.Told.{Tell}
use Rattle.rm_redo.specs.{Logs.{Logs}, Online.{IsThread, has_log, log_where, lost_log, lost_logs}, declared.online.ThreadLog.{ThreadLog}}
use Rattle.rm_machine.specs.{Loading.{lost_instance}, Machine.{HistoryFits}}
use Rattle.rm_machine.specs.{State.{current_of, ledger, now_of, tree, world, is_lost, placed}, declared.state.Instance.{Instance}}
use Rattle.rm_machine.{specs.declared.state.State.{State}, proofs.FirstTold.{tell-none}}

-- n places with nothing there
abbrev empty : ℕ → List (Option File)
empty n = replicate n None

-- nothing stands in place
none-placed : (n k : ℕ) → slice_index_or (empty n) k None ≡ None
none-placed zero k = refl
none-placed (suc n) zero = refl
none-placed (suc n) (suc k) = none-placed n k

-- each log is lost
lost-where : (enabled : List Bool) (k : ℕ) → option_map_or (λ (l : ThreadLog). l.is_lost) (slice_get (map (log_where lost_log) enabled) k) false ≡ option_map_or (λ (l : ThreadLog). l.is_there) (slice_get (map (log_where lost_log) enabled) k) false
lost-where [] k = refl
lost-where (true ∷ rest) zero = refl
lost-where (false ∷ rest) zero = refl
lost-where (on ∷ rest) (suc k) = lost-where rest k

pub all-lost : (dbid inc : ℕ) (enabled : List Bool) (t : ℕ) → is_lost (lost_logs dbid inc enabled) t ≡ has_log (lost_logs dbid inc enabled) t
all-lost dbid inc enabled t = lost-where enabled (t - 1)

module _ (s : State) (h : List Change) (history : IsHistory (world s) h) (below : All (λ c. c.scn < end_of (tree s) c.inc) h) (lost : s.instance ≡ lost_instance (ledger s)) where
  no-log : (t : ℕ) → IsThread s.instance.logs t → is_lost s.instance.logs t ≡ false → ⊥
  no-log t there found =
      let logs : s.instance.logs ≡ (lost_instance (ledger s)).logs = ap (λ (x : Instance). x.logs) lost in
      let same : is_lost s.instance.logs t ≡ has_log s.instance.logs t = subst (λ (x : Logs). is_lost x t ≡ has_log x t) (sym logs) (all-lost (ledger s).base.dbid (current_of s) (enabled_at (ledger s) (current_of s) (now_of s)) t) in
      false≢true (sym found ∙ same ∙ there.2)

  no-file : (f : ℕ) (x : File) → placed s f ≡ Some x → ⊥
  no-file f x is =
      none-some x (sym (ap (λ (y : Instance). slice_index_or y.place (f - 1) None) lost ∙ none-placed _ (f - 1)) ∙ is)

  no-point : (at : ℕ) → s.instance.point ≡ Some at → ⊥
  no-point at is = none-some at (sym (ap (λ (y : Instance). y.point) lost) ∙ is)

  -- so each history fits
  pub lost-fits : HistoryFits s h
  lost-fits = record {
    history = history;
    below = below;
    online = λ t there found. absurd (no-log t there found);
    place = λ f x held _. absurd (no-file f x held);
    tracker = subst (Tell (current_of s) h (now_of s)) (ap (λ (y : Instance). y.tracker) (sym lost)) (tell-none (current_of s) h (now_of s));
    in_open = λ opened f x held. absurd (no-file f x held);
    point = λ at here. absurd (no-point at here);
  }
