-- What a read finds in an open database, and that it stays true.
use Rattle.std.proofs.Common.{◌≡◌, ◌≤◌, ◌+◌, ◌++◌, ◌∙◌, inl, inr, ℕ, List, [], ◌∷◌, true, false, ap, sym, subst}
use Rattle.rm_base.{specs.declared.block.{Change.{Change}, Row.{Row}}, proofs.{Members.{first-or-rest, in-front, none-in}, Slots.{all-get}}}
use Rattle.rm_history.{specs.{Agrees.{BaseAgrees, IsRow}, Artefacts.{Base}, State.{state}}, proofs.Growth.{BaseAgrees-grown}}
use Rattle.rm_history.proofs.Worlds.{BaseAgrees-with_end}
use Rattle.rm_lang_statement.specs.declared.command.WriteForm.{WriteForm}
use Rattle.rm_machine.specs.{Damage.{has_block}, Machine.{HistoryFits}, Sound.{IsSound}, Write.{change_of, with_write}}
use Rattle.rm_machine.{specs.{State.{current_of, now_of, world}, declared.state.State.{State}}, proofs.Writes.{Accepted}}
use Rattle.rm_machine.proofs.Found.{IsReadOf, read-found}
use Rattle.rm_machine_laws.proofs.WritesKeep.{keeps-write}

module _ (u : State) (f b : ℕ) (r : Row) (sound : IsSound u) (opened : u.instance.is_open ≡ true) (is : IsReadOf u f b r) where
  -- and the state of its block now, where that is not damaged
  pub read-true : (h : List Change) (checkpoint : ℕ) → HistoryFits u h → has_block u.instance.damaged f b ≡ false → checkpoint ≤ now_of u → IsRow (world u) h (current_of u) f checkpoint r
  read-true h checkpoint keeps clear most =
      let states = keeps.in_open opened f is.file is.stands in
      let block = (read-found u f b r sound opened is).0 in
      let of : has_block u.instance.damaged is.file.file r.block ≡ false = ap (λ g. has_block u.instance.damaged g r.block) is.number ∙ ap (has_block u.instance.damaged f) block ∙ clear in
      let one = all-get (λ (y : Row). has_block u.instance.damaged is.file.file y.block ≡ false → y ≡ state (world u) h (current_of u) (now_of u) is.file.file y.block) is.file.rows b r is.row states of in
      record { position = now_of u; after = most; is = sym (subst (λ n. r ≡ state (world u) h (current_of u) (now_of u) n r.block) is.number one) }

-- a row that was true at or after a checkpoint is so after one WRITE more
pub row-write : (u : State) (w : WriteForm) (h : List Change) → IsSound u → HistoryFits u h → Accepted u w → (f checkpoint : ℕ) (r : Row) → checkpoint ≤ now_of u
    → IsRow (world u) h (current_of u) f checkpoint r → IsRow (world (with_write u w)) (h ++ change_of u w ∷ []) (current_of u) f checkpoint r
row-write u w h sound keeps a f checkpoint r most is =
    let i = current_of u in
    let base : Base = record { inc = i; file = f; checkpoint = checkpoint; rows = r ∷ [] } in
    let one : BaseAgrees (world u) h base = λ y has. elim (first-or-rest r [] y has) [
      | inl same ↦ subst (IsRow (world u) h i f checkpoint) same is
      | inr none ↦ absurd (none-in y none)
    ] in
    let wide : BaseAgrees (world (with_write u w)) h base = BaseAgrees-with_end (world u) i (now_of u + 1) h base sound.catalog.ledger.current one in
    BaseAgrees-grown (world (with_write u w)) h (change_of u w) (keeps-write u w h sound keeps a).history base wide (λ own. most) r (in-front r [])
