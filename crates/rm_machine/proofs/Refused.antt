-- Why a BACKUP is refused, write by write and thread by thread.
use Rattle.std.specs.Option.{is_some, option_copied, option_map_or}
use Rattle.std.proofs.Common.{◌≡◌, ◌<◌, ◌≤◌, ◌+◌, ◌-◌, ◌∙◌, ◌||◌, ℕ, suc, List, [], ◌∷◌, Option, Some, None, Bool, true, false, cond, is_none, Bor, ap, sym, arith, drop, drop-cons, get_or, length, All}
use Rattle.std.proofs.lemmas.List.Elements.{All-get_or, All-head, All-tail}
use Rattle.rm_base.specs.declared.refusal.Absent.{Absent}
use Rattle.rm_blocks.specs.File.{File}
use Rattle.rm_lang_statement.specs.declared.command.WriteForm.{WriteForm}
use Rattle.rm_machine.specs.{Asked.{FitsNumbers}, Damage.{has_block}, Sound.{IsSound}, State.{placed}}
use Rattle.rm_machine.specs.BackupRefusal.{absent_in, absent_of, damaged_write, lacks_log, lacks_logs, lost_of}
use Rattle.rm_machine.{specs.declared.state.State.{State}, proofs.{BackupAccepted.{IsNamed, named-all}, Numbers.{numbered}}}

-- the writes from place k on
writes-at : (ws : List WriteForm) (k : ℕ) (d : WriteForm) → k < length ws → drop k ws ≡ get_or ws k d ∷ drop (k + 1) ws
writes-at ws k d inside =
    let e : suc k ≡ k + 1 = omega arith in
    drop-cons ws k d inside ∙ ap (λ n. get_or ws k d ∷ drop n ws) e

module _ (s : State) (ws : List WriteForm) (k : ℕ) (d : WriteForm) (inside : k < length ws) where
  -- what the write at place k names is there, or it is not
  pub absent-more : absent_in s (get_or ws k d) ≡ None → absent_of s (drop k ws) ≡ absent_of s (drop (k + 1) ws)
  absent-more none = ap (absent_of s) (writes-at ws k d inside) ∙ ap (λ o. option_map_or Some o (absent_of s (drop (k + 1) ws))) none

  pub absent-found : (a : Absent) → absent_in s (get_or ws k d) ≡ Some a → absent_of s (drop k ws) ≡ Some a
  absent-found a is = ap (absent_of s) (writes-at ws k d inside) ∙ ap (λ o. option_map_or Some o (absent_of s (drop (k + 1) ws))) is

  -- its datafile is in place
  pub lost-more : is_none (placed s (get_or ws k d).file) ≡ false → lost_of s (drop k ws) ≡ lost_of s (drop (k + 1) ws)
  lost-more found = ap (lost_of s) (writes-at ws k d inside) ∙ ap (λ t. cond t (Some (get_or ws k d).file) (lost_of s (drop (k + 1) ws))) found

  -- its block is damaged, or it is not
  pub damage-more : has_block s.instance.damaged (get_or ws k d).file (get_or ws k d).block ≡ false → damaged_write s (drop k ws) ≡ damaged_write s (drop (k + 1) ws)
  damage-more sound = ap (damaged_write s) (writes-at ws k d inside) ∙ ap (λ t. cond t (Some (get_or ws k d)) (damaged_write s (drop (k + 1) ws))) sound

  pub damage-found : has_block s.instance.damaged (get_or ws k d).file (get_or ws k d).block ≡ true → damaged_write s (drop k ws) ≡ Some (get_or ws k d)
  damage-found damaged = ap (damaged_write s) (writes-at ws k d inside) ∙ ap (λ t. cond t (Some (get_or ws k d)) (damaged_write s (drop (k + 1) ws))) damaged

  -- its numbers are small
  pub write-fits : IsSound s → absent_of s ws ≡ None → FitsNumbers (get_or ws k d)
  write-fits sound there =
      let named = All-get_or (IsNamed s) ws k d inside (named-all s ws there) in
      let file = numbered s (get_or ws k d).file named.datafile sound named.is in
      (omega (arith, file.most), omega (arith, named.block, file.blocks))

  -- its datafile has a number
  pub file-some : IsSound s → absent_of s ws ≡ None → 0 < (get_or ws k d).file
  file-some sound there =
      let named = All-get_or (IsNamed s) ws k d inside (named-all s ws there) in
      (numbered s (get_or ws k d).file named.datafile sound named.is).some

-- a datafile that is lost has a small number
small-by : (t : Bool) (g f : ℕ) (rest : Option ℕ) → g ≤ 64 → (rest ≡ Some f → f ≤ 64) → cond t (Some g) rest ≡ Some f → f ≤ 64
small-by true g f rest most later is = let same : g ≡ f = (let e : Some g ≡ Some f = is in cc) in omega (arith, most, same)
small-by false g f rest most later is = later is

lost-small : (s : State) (ws : List WriteForm) (f : ℕ) → IsSound s → All (IsNamed s) ws → lost_of s ws ≡ Some f → f ≤ 64
lost-small s [] f sound all is = absurd (let e : None ≡ Some f = is in cc)
lost-small s (w ∷ ws) f sound all is =
    let first = All-head (IsNamed s) w ws all in
    small-by (is_none (placed s w.file)) w.file f (lost_of s ws) (numbered s w.file first.datafile sound first.is).most (λ e. lost-small s ws f sound (All-tail (IsNamed s) w ws all) e) is

pub lost-number : (s : State) (ws : List WriteForm) (f : ℕ) → IsSound s → absent_of s ws ≡ None → lost_of s ws ≡ Some f → f ≤ 64
lost-number s ws f sound there is = lost-small s ws f sound (named-all s ws there) is

-- what is in place is read
pub read-there : (o : Option (Bor File)) (p : Option File) → option_copied o ≡ p → is_some o ≡ true → is_none p ≡ false
read-there None p is some = absurd (let e : false ≡ true = some in cc)
read-there (Some x) p is some = ap (λ (q : Option File). is_none q) (sym is)

module _ (s : State) (ws : List WriteForm) (k n : ℕ) (below : k < n) where
  logs-next : lacks_logs s ws (k + 1) (n - k) ≡ (lacks_log s ws (k + 1) || lacks_logs s ws (k + 1 + 1) (n - (k + 1)))
  logs-next =
      let many : n - k ≡ suc (n - (k + 1)) = omega (arith, below) in
      let next : suc (k + 1) ≡ k + 1 + 1 = omega arith in
      ap (lacks_logs s ws (k + 1)) many ∙ ap (λ t. lacks_log s ws (k + 1) || lacks_logs s ws t (n - (k + 1))) next

  -- the log of thread k + 1 has room, or it has not
  pub logs-more : lacks_log s ws (k + 1) ≡ false → lacks_logs s ws (k + 1) (n - k) ≡ lacks_logs s ws (k + 1 + 1) (n - (k + 1))
  logs-more room = logs-next ∙ ap (λ t. t || lacks_logs s ws (k + 1 + 1) (n - (k + 1))) room

  pub logs-lack : lacks_log s ws (k + 1) ≡ true → lacks_logs s ws (k + 1) (n - k) ≡ true
  logs-lack full = logs-next ∙ ap (λ t. t || lacks_logs s ws (k + 1 + 1) (n - (k + 1))) full
